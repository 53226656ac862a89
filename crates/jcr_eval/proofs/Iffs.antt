-- What a test says of two causes, where one stands behind the other.
use Rattle.std.proofs.Common.{◌≡◌, ◌⊎◌, ◌↔◌, inl, inr, Bool, true, false, refl, sym, ◌∙◌}
use Rattle.std.specs.Prelude.{IfOk, IsTrue, Result}
use Rattle.std.proofs.lemmas.Bool.{false≢true}
use Rattle.std.proofs.lemmas.Result.{IfOk-weaker}

-- the first cause is there
pub first_holds : {A B : Type 0} (a : Bool) → (IsTrue a ↔ A) → a ≡ true → IsTrue true ↔ (A ⊎ B)
first_holds a i h = (λ t. inl (i.0 h), λ c. refl)

-- the first cause isn't there, and the second decides
pub second_decides : {A B : Type 0} (a b : Bool) → (IsTrue a ↔ A) → a ≡ false → (IsTrue b ↔ B)
    → IsTrue b ↔ (A ⊎ B)
second_decides a b i h j = (
  λ t. inr (j.0 t),
  λ c. elim c [ inl x ↦ absurd (false≢true (sym h ∙ i.1 x)) | inr y ↦ j.1 y ],
)

-- the first of two facts is there, and the second decides of both
pub both_decided : {A E : Type 0} (B : Type 0) (result : Result Bool E) → A
    → IfOk result (λ b. IsTrue b ↔ B) → IfOk result (λ b. IsTrue b ↔ (A × B))
both_decided B result a decides =
    IfOk-weaker result _ _ (λ b i. (λ t. (a, i.0 t), λ c. i.1 c.1)) decides
