-- What a refusal that was made tells of a text.
use Rattle.std.proofs.Common.{◌≡◌, Bool, List, ℕ, Option, sym, ap, ◌∙◌}
use Rattle.std.specs.Prelude.{IfOk, Result}
use Rattle.std.specs.Option.{option_map_or}
use Rattle.std.proofs.lemmas.Result.{IfOk-weaker}
use Rattle.jr_tree.specs.declared.shared.Refusal.{Refusal}
use Rattle.jr_items.specs.Refusals.{IsOrMemory, IsTheRefusal, out_of_memory}
use Rattle.jcr_past.specs.Shown.{is_refusal}

-- the refusal is no want of memory, and whether the text is its reply
abbrev Told : List ℕ → Refusal → Bool → Type 0
Told text r is = ¬ (r ≡ out_of_memory) × (is ≡ is_refusal text r)

-- the refusal stands for a cause
pub refused : {E : Type 0} (text : List ℕ) (cause r : Refusal) (result : Result Bool E)
    → IsOrMemory cause r → IfOk result (Told text r) → IfOk result (λ b. b ≡ is_refusal text cause)
refused text cause r result made told =
    IfOk-weaker result _ _ (λ b h. h.1 ∙ ap (is_refusal text) (made h.0)) told

-- it is one that is due, whatever is told where none is
pub refused_due : {E : Type 0} (text : List ℕ) (due : Option Refusal) (other : Bool) (r : Refusal)
    (result : Result Bool E) → IsTheRefusal due r → IfOk result (Told text r)
    → IfOk result (λ b. b ≡ option_map_or (is_refusal text) due other)
refused_due text due other r result made told =
    IfOk-weaker result _ _
    (λ b h. h.1 ∙ sym
    (ap (λ (o : Option Refusal). option_map_or (is_refusal text) o other) (made h.0))) told
