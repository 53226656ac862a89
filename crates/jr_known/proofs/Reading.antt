-- Of all told paths it is known what is there where no next one is told.
use Rattle.std.proofs.Common.{◌≡◌, ℕ, None, Option, List, sym, ◌∙◌, subst}
use Rattle.std.specs.Prelude.{Result, Ok, Err, IfOk, slice_get}
use Rattle.jr_path.specs.declared.path.Path.{Path}
use Rattle.jr_part.specs.Parts.{Knowledge}
use Rattle.jr_known.specs.Earlier.{AreKnown}

pub read_all : {E : Type 0} (k : Knowledge) (now told : List Path) (at : ℕ) (r : Result (Option Path) E) → now ≡ told → IfOk r (λ next. next ≡ slice_get told at)
    → (slice_get told at ≡ None → AreKnown k told) → IfOk r (λ next. next ≡ None → AreKnown k now)
read_all k now told at (Err e) same found read = tt
read_all k now told at (Ok next) same found read = λ none. subst (λ (ps : List Path). AreKnown k ps) (sym same) (read (sym found ∙ none))
