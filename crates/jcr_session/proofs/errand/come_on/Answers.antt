use Rattle.std.proofs.Common.{ap, sym, ◌∙◌}
use Rattle.oak_machine.specs.declared.event.StepKind.{StepKind}
use Rattle.jcr_steps.specs.declared.errand.Told.{Told}
use Rattle.jcr_run.specs.declared.run.Phase.{Phase}
use Rattle.jcr_run.specs.declared.run.Phase.TheVariants as phase
use Rattle.jcr_run.specs.declared.turn.Turn.TheVariants as turn
use Rattle.jcr_session.proofs.Errands.{ends_so}
use Rattle.jcr_session.proofs.errand.come_on.Goals as goal

pub returns-in_default : goal.returns-in_default
returns-in_default c =
    let so = ends_so c.args.came c.args.errand c.in_default.not-Going in record {
      turn = ap (λ (k : StepKind). turn.Stepped k) c.kind_told-kind.ensures ∙ sym so.1;
      run = ap (λ (f : Phase). record c.args.run.now { phase = f }) (ap (λ (t : Told). phase.Told t) c.told_of.ensures ∙ sym so.0);
      granted = tt;
    }
