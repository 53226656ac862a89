use Rattle.std.proofs.Common.{subst}
use Rattle.oak_port.specs.Ports.{Steps}
use Rattle.jr_work.proofs.Gated.{lowers_behind, steps_behind}
use Rattle.jr_work.proofs.gate.gated_step.Goals as goal

pub returns-clause-steps : goal.returns-clause-steps
returns-clause-steps g c =
    steps_behind (g.P.L.Law.may_start (g.P.Port.law c.args.port.now)) (g.P.L.Law.may_say (g.P.Port.law c.args.port.now)) (g.P.Port.shown c.args.port.now) (g.P.Port.shown c.due.new.self) c.due.ensures.same (g.P.Port.shown c.step.new.self) c.step.result
    (subst (λ l. Steps (g.P.L.Law.may_start l) (g.P.L.Law.may_say l) (g.P.Port.shown c.due.new.self) (g.P.Port.shown c.step.new.self) c.step.result) c.due.ensures.law c.step.ensures.steps)

pub returns-clause-lowers : goal.returns-clause-lowers
returns-clause-lowers g c =
    lowers_behind (g.P.L.Law.may_start (g.P.Port.law c.args.port.now)) (g.P.L.Law.may_say (g.P.Port.law c.args.port.now)) (g.P.Port.shown c.args.port.now) (g.P.Port.shown c.due.new.self) c.due.ensures.same (g.P.Port.shown c.step.new.self) c.step.result
    (subst (λ l. Steps (g.P.L.Law.may_start l) (g.P.L.Law.may_say l) (g.P.Port.shown c.due.new.self) (g.P.Port.shown c.step.new.self) c.step.result) c.due.ensures.law c.step.ensures.steps)
    (g.P.Port.left c.args.port.now) (g.P.Port.left c.due.new.self) (g.P.Port.left c.step.new.self) c.due.ensures.left c.step.ensures.lowers
