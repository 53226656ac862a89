use Rattle.std.proofs.Common.{◌≡◌, ◌++◌}
use Rattle.std.specs.String.{string_bytes}
use Rattle.jr_args.specs.Pointers.{pointer_text}
use Rattle.jr_args.proofs.fault.pointer.Given as goal

abbrev pub invariant-loop-step : goal.invariant-loop-step
invariant-loop-step l =
    (goal.iterator-loop-step).can_next l.step-iterator ×
    (goal.iterator-loop-step).is_finite l.step-iterator ×
    (string_bytes l.text ++ pointer_text l.step-iterator ≡ pointer_text l.steps)
