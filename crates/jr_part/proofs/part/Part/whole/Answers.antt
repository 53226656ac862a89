use Rattle.std.proofs.Common.{ap, ◌∙◌}
use Rattle.jr_part.specs.Parts.{Knowledge}
use Rattle.jr_part.proofs.Whole.{tree_whole}
use Rattle.jr_part.proofs.part.Part.whole.Goals as goal

pub returns-clause-whole : goal.returns-clause-whole
returns-clause-whole c = λ t tree agrees. ap (λ (k : Knowledge). k.nodes) c.self.view_is ∙ tree_whole c.args.self.now c.in_order.ensures.nodes c.requires t tree agrees
