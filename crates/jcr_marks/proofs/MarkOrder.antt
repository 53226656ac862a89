-- The order of marks.
use Rattle.std.proofs.Common.{◌≡◌, true, [], ◌∷◌, refl, ap, ◌∙◌}
use Rattle.std.specs.declared.cmp.Ordering.{Ordering}
use Rattle.std.specs.BTreeMap.{insert_entry}
use Rattle.jr_path.specs.declared.path.Path.{Path}
use Rattle.oak_clash.specs.declared.mark.Mark.{Mark}
use Rattle.oak_clash.specs.declared.mark.MarkAt.{MarkAt}
use Rattle.oak_clash.specs.declared.mark.Mark.TheVariants.{Exists, Guard, Touch, Prop}
use Rattle.oak_clash.specs.contracts.mark.MarkAtOrd.TheImpl.{cmp-value}
use Rattle.oak_machine.specs.Marks.{Marked, mark_at_cmp, with_marks}

abbrev at : Path → Mark → MarkAt
at p m = record { path = p; mark = m }

by_marks : (p q : Path) (m n : Mark) → cmp-value.it (at p m) (at q n) ≡ mark_at_cmp (at p m) (at q n)
by_marks p q Exists Exists = refl
by_marks p q Exists Guard = refl
by_marks p q Exists Touch = refl
by_marks p q Exists (Prop n) = refl
by_marks p q Guard Exists = refl
by_marks p q Guard Guard = refl
by_marks p q Guard Touch = refl
by_marks p q Guard (Prop n) = refl
by_marks p q Touch Exists = refl
by_marks p q Touch Guard = refl
by_marks p q Touch Touch = refl
by_marks p q Touch (Prop n) = refl
by_marks p q (Prop m) Exists = refl
by_marks p q (Prop m) Guard = refl
by_marks p q (Prop m) Touch = refl
by_marks p q (Prop m) (Prop n) = refl

-- the order in which marks stand in a map
same_order : cmp-value.it ≡ mark_at_cmp
same_order = λ i a b. by_marks a.path b.path a.mark b.mark i

-- a mark that is put in the order of the map
pub one_mark : (old new : Marked) (m : MarkAt) → new ≡ insert_entry cmp-value.it old m true → new ≡ with_marks old (m ∷ [])
one_mark old new m put = put ∙ ap (λ (order : MarkAt → MarkAt → Ordering). insert_entry order old m true) same_order
