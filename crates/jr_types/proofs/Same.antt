-- Names that are the same, and lists that are empty.
use Rattle.std.proofs.Common.{◌≡◌, Bool, true, false, List, [], ◌∷◌, ◌++◌, refl, sym, ap}
use Rattle.std.specs.declared.cmp.Ordering.{Ordering}
use Rattle.std.specs.declared.cmp.Ordering.TheVariants.{Less, Equal, Greater}
use Rattle.std.specs.Cmp.{tied_itself}
use Rattle.std.specs.Ordering.{is_eq}
use Rattle.std.proofs.lemmas.Cmp.{nat_list_cmp_total}
use mathlib.Core.Bool.{false≢true}
use Rattle.jr_path.specs.Names.{name_cmp}
use Rattle.jr_path.specs.declared.name.Name.{Name}
use Rattle.jr_path.proofs.Maps.{name_exact}
use Rattle.jr_items.specs.Items.{same_name}

exactly : (o : Ordering) → is_eq o ≡ true → o ≡ Equal
exactly Less h = absurd (false≢true h)
exactly Equal h = refl
exactly Greater h = absurd (false≢true h)

pub same : (n m : Name) → same_name n m ≡ true → n ≡ m
same n m h = name_exact n m (exactly (name_cmp n m) h)

pub itself : (n : Name) → same_name n n ≡ true
itself n = ap is_eq (tied_itself nat_list_cmp_total n)

pub left_nil : {X : Type 0} (xs ys : List X) → xs ++ ys ≡ [] → xs ≡ []
left_nil [] ys h = refl
left_nil (x ∷ xs) ys h = absurd (false≢true (ap is_cons (sym h)))
  where
    is_cons : {X : Type 0} → List X → Bool
    is_cons [] = false
    is_cons (x ∷ xs) = true

pub right_nil : {X : Type 0} (xs ys : List X) → xs ++ ys ≡ [] → ys ≡ []
right_nil [] ys h = h
right_nil (x ∷ xs) ys h = absurd (false≢true (ap is_cons (sym h)))
  where
    is_cons : {X : Type 0} → List X → Bool
    is_cons [] = false
    is_cons (x ∷ xs) = true
