-- Marks that clash.
use Rattle.std.proofs.Common.{◌≡◌, ◌⊎◌, inl, inr, Bool, true, false, ◌&&◌, ◌||◌, List, [], ◌∷◌, refl, ap, ◌∙◌}
use Rattle.std.specs.Cmp.{tied_itself}
use Rattle.std.specs.Ordering.{is_eq, eq_by_cmp}
use Rattle.std.specs.List.{list_any}
use Rattle.std.proofs.lemmas.Cmp.{nat_list_cmp_total}
use mathlib.Core.Bool.{false≢true}
use Rattle.jr_path.specs.Names.{path_cmp}
use Rattle.jr_path.specs.declared.name.Name.{Name}
use Rattle.jr_path.specs.declared.path.Path.{Path}
use Rattle.jr_path.proofs.Maps.{path_total}
use Rattle.oak_clash.specs.declared.mark.Mark.{Mark}
use Rattle.oak_clash.specs.declared.mark.Mark.TheVariants.{Exists, Guard, Touch, Prop}
use Rattle.oak_clash.specs.declared.mark.MarkAt.{MarkAt}
use Rattle.oak_clash.specs.Clashes.{clash, clashing}
use Rattle.jcr_marks.proofs.Membership.{Has, IsIn}

-- Exists or Guard of the node at p
abbrev pub IsStrong : Path → List MarkAt → Type 0
IsStrong p ms = Has p Exists ms ⊎ Has p Guard ms

-- some mark of the node at p
abbrev pub IsMarked : Path → List MarkAt → Type 0
IsMarked p ms = (m : Mark) × Has p m ms

or_left : (a b : Bool) → a ≡ true → (a || b) ≡ true
or_left true b h = refl
or_left false b h = absurd (false≢true h)

or_right : (a b : Bool) → b ≡ true → (a || b) ≡ true
or_right true b h = refl
or_right false b h = h

and_both : (a b : Bool) → a ≡ true → b ≡ true → (a && b) ≡ true
and_both true b h k = k
and_both false b h k = absurd (false≢true h)

pub any_in : {X : Type 0} (test : X → Bool) (k : X) (xs : List X) → IsIn k xs → test k ≡ true → list_any test xs ≡ true
any_in test k [] h t = absurd h
any_in test k (x ∷ xs) h t = elim h [ inl e ↦ or_left (test x) _ (ap test e ∙ t) | inr i ↦ or_right (test x) _ (any_in test k xs i t) ]

pub meet : (ms os : List MarkAt) (p : Path) (a b : Mark) → Has p a ms → Has p b os → clash a b ≡ true → clashing ms os ≡ true
meet ms os p a b h k c = any_in (λ (m : MarkAt). list_any (λ (o : MarkAt). eq_by_cmp path_cmp m.path o.path && clash m.mark o.mark) os) (record { path = p; mark = a }) ms h
    (any_in (λ (o : MarkAt). eq_by_cmp path_cmp p o.path && clash a o.mark) (record { path = p; mark = b }) os k (and_both _ _ (ap is_eq (tied_itself path_total p)) c))

clash_exists : (a : Mark) → clash a Exists ≡ true
clash_exists Exists = refl
clash_exists Guard = refl
clash_exists Touch = refl
clash_exists (Prop n) = refl

clash_guard : (a : Mark) → clash a Guard ≡ true
clash_guard Exists = refl
clash_guard Guard = refl
clash_guard Touch = refl
clash_guard (Prop n) = refl

pub strong_marked : (ms os : List MarkAt) (p : Path) → IsStrong p ms → IsMarked p os → clashing ms os ≡ true
strong_marked ms os p h k = elim h [ inl i ↦ meet ms os p Exists k.0 i k.1 refl | inr i ↦ meet ms os p Guard k.0 i k.1 refl ]

pub marked_strong : (ms os : List MarkAt) (p : Path) → IsMarked p ms → IsStrong p os → clashing ms os ≡ true
marked_strong ms os p h k = elim k [ inl i ↦ meet ms os p h.0 Exists h.1 i (clash_exists h.0) | inr i ↦ meet ms os p h.0 Guard h.1 i (clash_guard h.0) ]

pub same_prop_marks : (ms os : List MarkAt) (p : Path) (n : Name) → Has p (Prop n) ms → Has p (Prop n) os → clashing ms os ≡ true
same_prop_marks ms os p n h k = meet ms os p (Prop n) (Prop n) h k (ap is_eq (tied_itself nat_list_cmp_total n))

pub strong_is_marked : (ms : List MarkAt) (p : Path) → IsStrong p ms → IsMarked p ms
strong_is_marked ms p h = elim h [ inl i ↦ (Exists, i) | inr i ↦ (Guard, i) ]
