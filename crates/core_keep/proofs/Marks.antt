-- Edits whose marks don't clash write no item both.
use Rattle.std.proofs.Common.{◌≡◌, true, false, Some, None, Option, List, refl, sym, ap, ◌∙◌, is_some}
use Rattle.std.specs.Ordering.{is_eq}
use Rattle.std.specs.Cmp.{tied_itself}
use Rattle.std.proofs.lemmas.Cmp.{nat_list_cmp_total}
use mathlib.Core.Bool.{false≢true}
use Rattle.jr_tree.specs.declared.edit.Write.{Write}
use Rattle.oak_clash.specs.declared.mark.Mark.TheVariants.{Exists, Prop}
use Rattle.oak_clash.specs.declared.mark.MarkAt.{MarkAt}
use Rattle.oak_clash.specs.Clashes.{clashing}
use Rattle.core_read.specs.Told.{Covers}
use Rattle.core_read.proofs.Marks.{meet}
use Rattle.core_keep.specs.Journal.{Separate}

unwritten : {X : Type 0} (o : Option X) → (is_some o ≡ true → ⊥) → o ≡ None
unwritten None h = refl
unwritten (Some x) h = absurd (h refl)

pub separate_marks : (ms os : List MarkAt) (ws us : List Write) → Covers ms ws → Covers os us → clashing ms os ≡ false → Separate ws us
separate_marks ms os ws us c d none = record {
  node = λ p h. unwritten _ (λ k. false≢true (sym none ∙ meet ms os p Exists Exists (c.node p h) (d.node p k) refl));
  prop = λ p n h. unwritten _ (λ k. false≢true (sym none ∙ meet ms os p (Prop n) (Prop n) (c.prop p n h) (d.prop p n k) (ap is_eq (tied_itself nat_list_cmp_total n))));
}

pub Separate-flip : (ws us : List Write) → Separate ws us → Separate us ws
Separate-flip ws us a = record {
  node = λ p h. unwritten _ (λ k. false≢true (ap is_some (sym (a.node p k)) ∙ h));
  prop = λ p n h. unwritten _ (λ k. false≢true (ap is_some (sym (a.prop p n k)) ∙ h));
}
