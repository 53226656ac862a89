-- Steps for which no identifier is drawn.
use Rattle.std.proofs.Common.{◌≡◌, ℕ, ap}
use Rattle.std.specs.Prelude.{Result, Ok, Err, OnOk, IfErr}
use Rattle.jr_tree.specs.declared.shared.Refusal.{Refusal}
use Rattle.jr_overlay.specs.Drafts.{Steps}
use Rattle.jcr_write.specs.Places.{IsDueRefusal}
use Rattle.jcr_fill.specs.Makings.{making}
use Rattle.jcr_view.specs.Outcomes.{drawing_none}

pub none_drawn : {A : Type 0} (result : Result A Refusal) (due : Result Steps Refusal) (steps : Steps) (ids : ℕ)
    → OnOk result (due ≡ Ok steps) → OnOk result (drawing_none ids due ≡ Ok (making steps ids))
none_drawn (Ok a) due steps ids is = ap (drawing_none ids) is
none_drawn (Err r) due steps ids is = is

pub none_drawn_refused : {A : Type 0} (result : Result A Refusal) (due : Result Steps Refusal) (ids : ℕ)
    → IfErr result (IsDueRefusal due) → IfErr result (IsDueRefusal (drawing_none ids due))
none_drawn_refused (Ok a) due ids is = is
none_drawn_refused (Err r) due ids is = λ m. ap (drawing_none ids) (is m)
