use Rattle.std.proofs.Common.{◌≡◌, true, subst}
use Rattle.std.specs.FinMap.{is_sorted}
use Rattle.jr_path.specs.Names.{path_cmp}
use Rattle.jr_part.specs.Parts.{HaveRisingNames, Knowledge}
use Rattle.jr_part.proofs.part.Part.in_order.Goals as goal

pub returns-clause-nodes : goal.returns-clause-nodes
returns-clause-nodes c = subst (λ (k : Knowledge). is_sorted path_cmp k.nodes ≡ true) c.self.view_is c.len.ensures.sorted

pub returns-clause-lists : goal.returns-clause-lists
returns-clause-lists c = subst (λ (k : Knowledge). HaveRisingNames k.lists) c.self.view_is c.self.invariant
