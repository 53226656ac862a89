-- Tests, members, and what a function has after a change at one place.
use Rattle.std.proofs.Common.{◌≡◌, Bool, true, false, cond, ◌||◌, ◌&&◌, ◌⊎◌, inl, inr, Some, None, Option, List, [], ◌∷◌, ◌++◌, refl, sym, ap, subst, ◌∙◌, is_some}
use Rattle.std.specs.List.{list_any}
use Rattle.std.specs.Ordering.{is_eq, eq_by_cmp}
use Rattle.std.specs.declared.cmp.Ordering.{Ordering}
use Rattle.std.specs.declared.cmp.Ordering.TheVariants.{Less, Equal, Greater}
use mathlib.Core.Bool.{false≢true}
use Rattle.jr_path.specs.Names.{path_cmp, name_cmp}
use Rattle.jr_path.specs.declared.path.Path.{Path}
use Rattle.jr_path.proofs.Maps.{path_exact, path_total, name_exact}
use Rattle.jr_rev.specs.declared.revision.Revision.{Revision}
use Rattle.jr_rev.specs.Revisions.{revision_cmp, is_same}
use Rattle.jr_rev.proofs.Order.{revision_exact, revision_total}
use Rattle.std.proofs.lemmas.Cmp.{eq_by_cmp_equiv, nat_list_cmp_total}
use Rattle.oak_doc.specs.declared.document.Document.{Document}
use Rattle.oak_commit.specs.Clashing.{Writer}
use Rattle.core_read.specs.Told.{IsIn}
use Rattle.core_clash.specs.Views.{In, Once}
use Rattle.core_clash.specs.Core.{Docs, is_path, with_document, with_writer}

-- what a test says
pub test : (b : Bool) → (b ≡ true) ⊎ (b ≡ false)
test true = inl refl
test false = inr refl

pub not_both : {A : Type 0} (b : Bool) → b ≡ true → b ≡ false → A
not_both b t f = absurd (false≢true (sym f ∙ t))

pub or_left : (a b : Bool) → a ≡ true → (a || b) ≡ true
or_left true b h = refl
or_left false b h = absurd (false≢true h)

pub or_right : (a b : Bool) → b ≡ true → (a || b) ≡ true
or_right true b h = refl
or_right false b h = h

pub or_cases : (a b : Bool) → (a || b) ≡ true → (a ≡ true) ⊎ (b ≡ true)
or_cases true b h = inl refl
or_cases false b h = inr h

pub and_true : (a b : Bool) → a ≡ true → b ≡ true → (a && b) ≡ true
and_true true b h k = k
and_true false b h k = absurd (false≢true h)

pub and_both : (a b : Bool) → (a && b) ≡ true → (a ≡ true) × (b ≡ true)
and_both true b h = (refl, h)
and_both false b h = absurd (false≢true h)

is_equal : (o : Ordering) → is_eq o ≡ true → o ≡ Equal
is_equal Less h = absurd (false≢true h)
is_equal Equal h = refl
is_equal Greater h = absurd (false≢true h)

pub same_revision : (q r : Revision) → is_same q r ≡ true → q ≡ r
same_revision q r h = revision_exact q r (is_equal (revision_cmp q r) h)

pub same_path : (p q : Path) → is_path p q ≡ true → p ≡ q
same_path p q h = path_exact p q (is_equal (path_cmp p q) h)

pub same_name : (m n : List _) → eq_by_cmp name_cmp m n ≡ true → m ≡ n
same_name m n h = name_exact m n (is_equal (name_cmp m n) h)

pub is_same_self : (r : Revision) → is_same r r ≡ true
is_same_self r = (eq_by_cmp_equiv revision_total).refl r

pub is_path_self : (p : Path) → is_path p p ≡ true
is_path_self p = (eq_by_cmp_equiv path_total).refl p

pub is_name_self : (n : List _) → eq_by_cmp name_cmp n n ≡ true
is_name_self n = (eq_by_cmp_equiv nat_list_cmp_total).refl n

pub other_revision : {A : Type 0} (q r : Revision) → is_same q r ≡ false → q ≡ r → A
other_revision q r f e = not_both (is_same q r) (subst (λ (x : Revision). is_same q x ≡ true) e (is_same_self q)) f

pub decide : (q r : Revision) → (q ≡ r) ⊎ (is_same q r ≡ false)
decide q r = by (test (is_same q r))
  where
    by : (is_same q r ≡ true) ⊎ (is_same q r ≡ false) → (q ≡ r) ⊎ (is_same q r ≡ false)
    by (inl t) = inl (same_revision q r t)
    by (inr f) = inr f

-- what holds of the new writer and of the others holds of each
pub at_writer : (P : Revision → Writer → Type 0) (ws : Revision → Writer) (r : Revision) (w : Writer) (q : Revision) → P r w → (is_same q r ≡ false → P q (ws q)) → P q (with_writer ws r w q)
at_writer P ws r w q here there = by (is_same q r) refl
  where
    by : (b : Bool) → is_same q r ≡ b → P q (cond b w (ws q))
    by true t = subst (λ (x : Revision). P x w) (sym (same_revision q r t)) here
    by false f = there f

pub writer_mine : (ws : Revision → Writer) (r : Revision) (w : Writer) → with_writer ws r w r ≡ w
writer_mine ws r w = ap (λ b. cond b w (ws r)) (is_same_self r)

pub writer_other : (ws : Revision → Writer) (r : Revision) (w : Writer) (q : Revision) → is_same q r ≡ false → with_writer ws r w q ≡ ws q
writer_other ws r w q f = ap (λ b. cond b w (ws q)) f

-- what holds of the new document and of the others holds of each
pub at_document : (P : Path → Option Document → Type 0) (docs : Docs) (p : Path) (d : Document) (q : Path) → P p (Some d) → P q (docs q) → P q (with_document docs p d q)
at_document P docs p d q here there = by (is_path q p) refl
  where
    by : (b : Bool) → is_path q p ≡ b → P q (cond b (Some d) (docs q))
    by true t = subst (λ (x : Path). P x (Some d)) (sym (same_path q p t)) here
    by false f = there

pub document_there : (docs : Docs) (p : Path) (d : Document) → with_document docs p d p ≡ Some d
document_there docs p d = ap (λ b. cond b (Some d) (docs p)) (is_path_self p)

-- members
pub In-left : {X : Type 0} (x : X) (xs ys : List X) → In x xs → In x (xs ++ ys)
In-left x [] ys h = absurd h
In-left x (y ∷ xs) ys (inl e) = inl e
In-left x (y ∷ xs) ys (inr h) = inr (In-left x xs ys h)

pub In-right : {X : Type 0} (x : X) (xs ys : List X) → In x ys → In x (xs ++ ys)
In-right x [] ys h = h
In-right x (y ∷ xs) ys h = inr (In-right x xs ys h)

pub In-append : {X : Type 0} (x : X) (xs ys : List X) → In x (xs ++ ys) → In x xs ⊎ In x ys
In-append x [] ys h = inr h
In-append x (y ∷ xs) ys (inl e) = inl (inl e)
In-append x (y ∷ xs) ys (inr h) = by (In-append x xs ys h)
  where
    by : In x xs ⊎ In x ys → In x (y ∷ xs) ⊎ In x ys
    by (inl h) = inl (inr h)
    by (inr h) = inr h

pub any_from : {X : Type 0} (f : X → Bool) (xs : List X) → list_any f xs ≡ true → (x : X) × In x xs × (f x ≡ true)
any_from f [] h = absurd (false≢true h)
any_from f (x ∷ xs) h = by (λ t. any_from f xs t) (or_cases (f x) (list_any f xs) h)
  where
    by : (list_any f xs ≡ true → (y : _) × In y xs × (f y ≡ true)) → (f x ≡ true) ⊎ (list_any f xs ≡ true) → (y : _) × In y (x ∷ xs) × (f y ≡ true)
    by rest (inl t) = (x, inl refl, t)
    by rest (inr t) = let r = rest t in (r.0, inr r.1, r.2)

pub any_of : {X : Type 0} (f : X → Bool) (x : X) (xs : List X) → In x xs → f x ≡ true → list_any f xs ≡ true
any_of f x [] h t = absurd h
any_of f x (y ∷ xs) (inl e) t = or_left (f y) _ (subst (λ z. f z ≡ true) e t)
any_of f x (y ∷ xs) (inr h) t = or_right (f y) _ (any_of f x xs h t)

-- none in the empty list
pub none_in : {X : Type 0} (x : X) (xs : List X) → xs ≡ [] → In x xs → ⊥
none_in x xs e h = subst (λ (ys : List _). In x ys) e h

pub some_of : {X : Type 0} (o : Option X) → is_some o ≡ true → (x : X) × (o ≡ Some x)
some_of None h = absurd (false≢true h)
some_of (Some x) h = (x, refl)

pub some_is : {X : Type 0} {x y : X} → Some x ≡ Some y → y ≡ x
some_is h = cc

-- what stands once stands not before itself
pub once_apart : {X : Type 0} (y : X) (xs ys : List X) → Once (xs ++ y ∷ ys) → In y xs → ⊥
once_apart y [] ys once h = h
once_apart y (x ∷ xs) ys once (inl e) = once.0 (In-right x xs (y ∷ ys) (inl (sym e)))
once_apart y (x ∷ xs) ys once (inr h) = once_apart y xs ys once.1 h

pub is_in : {X : Type 0} (x : X) (xs : List X) → In x xs → IsIn x xs
is_in x [] h = h
is_in x (y ∷ ys) (inl e) = inl (sym e)
is_in x (y ∷ ys) (inr h) = inr (is_in x ys h)
