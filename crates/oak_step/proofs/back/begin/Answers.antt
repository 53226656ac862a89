use Rattle.std.proofs.Common.{inr}
use Rattle.oak_step.proofs.Backs.{publishing_first}
use Rattle.oak_step.proofs.back.begin.Goals as goal

pub publish-requires-clause-due : goal.publish-requires-clause-due
publish-requires-clause-due c = publishing_first c.args.alloc c.args.pending c.in-Ok.write c.in-Ok.ensures

pub returns-in-Ok-clause-made : goal.returns-in-Ok-clause-made
returns-in-Ok-clause-made c = λ m. inr (c.args.alloc, c.in-Ok.write, c.in-Ok.ensures, c.publish.ensures.made m)
