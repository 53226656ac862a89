use Rattle.std.proofs.Common.{map}
use Rattle.std.specs.String.{string_bytes}
use Rattle.jcr_plan.proofs.Touching.{planned_as_assured}
use Rattle.jcr_plan.proofs.plans.plan_of_change.Goals as goal

pub returns-in-Ok-clause-plan : goal.returns-in-Ok-clause-plan
returns-in-Ok-clause-plan c =
    planned_as_assured c.args.assured c.args.types.now c.args.tree.now (map string_bytes c.args.tokens.now) c.args.edit.writes c.in-Ok.marks c.in-Ok.ensures.marks c.in-Ok.ensures.ok
