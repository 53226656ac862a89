-- Edits that are apart.
use Rattle.std.proofs.Common.{◌≡◌, true, Some, None, Option, List, refl, sym, ap, ◌∙◌, is_some}
use mathlib.Core.Bool.{false≢true}
use Rattle.jr_tree.specs.declared.edit.Write.{Write}
use Rattle.core_read.specs.Commits.{Apart}

unwritten : {X : Type 0} (o : Option X) → (is_some o ≡ true → ⊥) → o ≡ None
unwritten None h = refl
unwritten (Some x) h = absurd (h refl)

pub Apart-flip : (ws us : List Write) → Apart ws us → Apart us ws
Apart-flip ws us a = record {
  below = λ p n h. unwritten _ (λ k. false≢true (ap is_some (sym (a.prop p n k)) ∙ h));
  prop = λ p n h. unwritten _ (λ k. false≢true (ap is_some (sym (a.below p n k)) ∙ h));
}
