use Rattle.std.proofs.Common.{◌≡◌, ◌∙◌, false, ap, refl, sym}
use Rattle.oak_machine.specs.declared.event.StepKind.{StepKind}
use Rattle.oak_machine.specs.declared.event.StepKind.TheVariants as kind
use Rattle.oak_machine.specs.Steps.{is_kind}
use Rattle.jr_stage.specs.SoFar.{is_last_due}
use Rattle.jr_stage.proofs.flight.is_last.Goals as goal

other : (k : StepKind) → (k ≡ kind.Last → ⊥) → false ≡ is_kind kind.Last k
other kind.Login apart = refl
other kind.Pin apart = refl
other kind.Read apart = refl
other kind.Draw apart = refl
other kind.Write apart = refl
other kind.Mark apart = refl
other kind.Last apart = absurd (apart refl)
other kind.Undo apart = refl
other kind.Finish apart = refl
other kind.Back apart = refl
other kind.Learn apart = refl
other kind.Split apart = refl
other kind.Sweep apart = refl
other kind.Bound apart = refl
other kind.Collect apart = refl
other kind.Settings apart = refl
other kind.Say apart = refl
other kind.End apart = refl
other kind.Stop apart = refl
other kind.Recover apart = refl

pub returns-in_default : goal.returns-in_default
returns-in_default c = other c.in-Some.kind c.in_default.not-Last ∙ sym (ap is_last_due c.in-Some.is)
