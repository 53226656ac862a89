use Rattle.std.proofs.Common.{◌≡◌}
use Rattle.std.specs.Prelude.{not}
use Rattle.std.specs.List.{list_all}
use Rattle.oak_sound.specs.Sound.{has_no_values, is_value, latest_committed}
use Rattle.oak_sound.proofs.shown.has_no_values.Given as goal

-- what is left decides
abbrev pub invariant-loop-values : goal.invariant-loop-values
invariant-loop-values l =
    list_all (λ p. not (is_value (latest_committed l.documents l.sweep l.document p.1))) l.values-iterator
    ≡ has_no_values l.documents l.sweep l.document
