use Rattle.std.proofs.Common.{◌≡◌, Option, true, subst}
use Rattle.std.specs.FinMap.{is_sorted}
use Rattle.std.specs.Option.{option_map_or}
use Rattle.jr_path.specs.Names.{name_cmp}
use Rattle.jr_tree.specs.declared.tree.Node.{Node}
use Rattle.jr_tree.proofs.Entries.{tested}
use Rattle.jcr_lock.proofs.edits.know_order.Goals as goal

pub returns-in-Some-clause-names : goal.returns-in-Some-clause-names
returns-in-Some-clause-names c = subst (λ (o : Option Node). option_map_or (λ node. is_sorted name_cmp node.props) o true ≡ true) c.in-Some.ensures (tested name_cmp _ c.len-in-Some.ensures.ordered)
