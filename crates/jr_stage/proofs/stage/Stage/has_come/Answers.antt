use Rattle.std.proofs.Common.{ℕ, ◌<◌, Option, is_some, ap, sym, subst, ◌∙◌}
use Rattle.oak_machine.specs.declared.event.StepKind.{StepKind}
use Rattle.jr_stage.specs.Stages.{has_come_by}
use Rattle.jr_stage.proofs.Reaching.{come_flying, come_idle, seat_at}
use Rattle.jr_stage.proofs.stage.Stage.has_come.Goals as goal

pub due-due-requires : goal.due-due-requires
due-due-requires c = ap is_some (seat_at c.args.self.now.world.history.sessions c.args.s (subst (λ (n : ℕ). c.args.s < n) c.requires.seats c.requires.there)).1

pub returns-in-Some : goal.returns-in-Some
returns-in-Some c =
    c.has_come.ensures
    ∙ (ap (λ (d : Option StepKind). has_come_by c.in-Some.flight d c.args.entry) c.due-due.ensures.due
    ∙ sym (come_flying c.args.self.now c.args.s c.args.entry c.index.result.now c.requires.there c.index.ensures c.in-Some.flight c.in-Some.is))

pub returns-in-None : goal.returns-in-None
returns-in-None c = sym (come_idle c.args.self.now c.args.s c.args.entry c.index.result.now c.requires.there c.index.ensures c.in-None.is)
