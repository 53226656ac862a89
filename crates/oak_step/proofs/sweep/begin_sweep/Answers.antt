use Rattle.oak_sweep.specs.declared.sweeper.Sweeper.{Sweeper}
use Rattle.std.proofs.Common.{subst}
use Rattle.oak_step.specs.Parts.{PassesOn, stepping}
use Rattle.oak_saves.specs.Saves.{parts}
use Rattle.oak_step.proofs.sweep.begin_sweep.Goals as goal

pub returns-in-Ok-clause-made : goal.returns-in-Ok-clause-made
returns-in-Ok-clause-made c = λ m. (
  c.args.alloc,
  subst (λ (x : Sweeper). PassesOn (stepping c.args.s c.args.node (parts c.args.table.now m c.args.events.now.list)) x (parts c.pass.new.table m c.pass.new.events.list) c.pass.result.0 c.pass.result.1) c.in-Ok.ensures (c.pass.ensures.made m),
)
