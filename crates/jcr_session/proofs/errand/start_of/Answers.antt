use Rattle.std.proofs.Common.{IfOk, ap, subst, sym, ◌∙◌}
use Rattle.jcr_trans.specs.declared.command.Command.{Command}
use Rattle.jcr_session.specs.Begins.{StartsWith}
use Rattle.jcr_run.specs.Standing.{due_by, lacks_for}
use Rattle.jcr_session.proofs.errand.start_of.Goals as goal

pub returns-in-Checkpoint : goal.returns-in-Checkpoint
returns-in-Checkpoint c = λ h x holds since. subst (λ (m : Command). IfOk c.checkpoint.result (StartsWith h x m)) (sym c.in-Checkpoint.is)
    (c.checkpoint.ensures h x holds)

pub returns-in-Release : goal.returns-in-Release
returns-in-Release c = λ h x holds since. subst (λ (m : Command). IfOk c.release.result (StartsWith h x m)) (sym c.in-Release.is)
    (c.release.ensures h x)

pub returns-in-Observe : goal.returns-in-Observe
returns-in-Observe c = λ h x holds since. subst (λ (m : Command). IfOk c.observe.result (StartsWith h x m)) (sym c.in-Observe.is)
    (c.observe.ensures h x)

pub events-requires : goal.events-requires
events-requires c = sym (ap (λ (m : Command). lacks_for c.args.run.now (due_by m)) c.in-Events.is) ∙ c.requires.read

pub returns-in-Events : goal.returns-in-Events
returns-in-Events c = λ h x holds since. subst (λ (m : Command). IfOk c.events.result (StartsWith h x m)) (sym c.in-Events.is)
    (c.events.ensures h x holds since)
