-- The latest of entries, taken one after another.
use Rattle.std.proofs.Common.{◌≡◌, ℕ, ◌+◌, ◌<◌, Bool, true, false, cond, List, [], ◌∷◌, ◌++◌, Option, None, Some, length, take, get_or, map, fold, refl, sym, ap, ◌∙◌, append-nil, append_assoc}
use Rattle.std.specs.Prelude.{option_to_list}
use Rattle.std.specs.declared.cmp.Ordering.{Ordering}
use Rattle.std.specs.declared.cmp.Ordering.TheVariants.{Less, Equal, Greater}
use Rattle.std.specs.Ordering.{is_lt, is_gt, ordering_reverse}
use Rattle.std.specs.List.{filter, filter_map, flat_map, cons_option}
use Rattle.std.proofs.lemmas.Cmp.{upto}
use Rattle.std.proofs.lemmas.List.{take_more, map-append}
use Rattle.std.proofs.lemmas.List.Concat.{flat_map-append}
use Rattle.std.proofs.lemmas.List.Elements.{filter-append, filter_map-append}
use Rattle.jr_rev.specs.declared.revision.Revision.{Revision}
use Rattle.jr_rev.specs.Revisions.{revision_cmp, is_before}
use Rattle.jr_rev.proofs.Order.{revision_total}
use Rattle.oak_doc.specs.declared.document.Document.{Document}
use Rattle.oak_read.specs.Meaning.{later_of, latest}
use Rattle.basics.proofs.Orders.{less_of}

above : (o : Ordering) → is_gt (ordering_reverse o) ≡ is_lt o
above Less = refl
above Equal = refl
above Greater = refl

-- b is not after a exactly where a is not before b
before_is : (a b : Revision) → is_gt (revision_cmp b a) ≡ is_before a b
before_is a b = ap is_gt (revision_total.antisymm b a) ∙ above (revision_cmp a b)

not_before : (a b c : Revision) → is_before a b ≡ false → is_before b c ≡ false → is_before a c ≡ false
not_before a b c h k = sym (before_is a c) ∙ upto revision_total c b a (before_is b c ∙ k) (before_is a b ∙ h)

before_trans : (a b c : Revision) → is_before a b ≡ true → is_before b c ≡ true → is_before a c ≡ true
before_trans a b c h k = ap is_lt (revision_total.trans a b c (less_of (revision_cmp a b) h) (less_of (revision_cmp b c) k))

module _ {X : Type 0} where
  two_by : (b e f : Revision × X) (s t : Bool) → is_before b.0 e.0 ≡ s → is_before e.0 f.0 ≡ t → later_of b (Some (later_of e (Some f))) ≡ later_of (cond s e b) (Some f)
  two_by b e f true true be ef = rw (ef, before_trans b.0 e.0 f.0 be ef) refl
  two_by b e f true false be ef = rw (ef, be) refl
  two_by b e f false true be ef = rw ef refl
  two_by b e f false false be ef = rw (ef, be, not_before b.0 e.0 f.0 be ef) refl

  -- an entry in front of another: the later of the two in front
  latest_two : (b e : Revision × X) (l : Option (Revision × X)) → later_of b (Some (later_of e l)) ≡ later_of (cond (is_before b.0 e.0) e b) l
  latest_two b e None = refl
  latest_two b e (Some f) = two_by b e f (is_before b.0 e.0) (is_before e.0 f.0) refl refl

  -- the latest of some entries in front of others
  pub latest-append : (xs ys : List (Revision × X)) → latest (option_to_list (latest xs) ++ ys) ≡ latest (xs ++ ys)
  latest-append [] ys = refl
  latest-append (e ∷ xs) ys = by (latest xs) refl ∙ ap (λ l. Some (later_of e l)) (latest-append xs ys)
    where
      by : (l : Option (Revision × X)) → latest xs ≡ l → Some (later_of (later_of e l) (latest ys)) ≡ Some (later_of e (latest (option_to_list l ++ ys)))
      by None is = refl
      by (Some b) is = ap Some (sym (latest_two e b (latest ys)))

  -- with no further entries the latest stays
  pub latest_alone : (o : Option (Revision × X)) → latest (option_to_list o ++ []) ≡ o
  latest_alone None = refl
  latest_alone (Some b) = refl

  -- the first of the entries that are left is taken into account
  pub latest_step : (p : Revision × X → Bool) (best next : Option (Revision × X)) (e : Revision × X) (before rest : List (Revision × X)) (all : Option (Revision × X)) → before ≡ e ∷ rest → next ≡ latest (option_to_list best ++ filter p (e ∷ [])) → latest (option_to_list best ++ filter p before) ≡ all → latest (option_to_list next ++ filter p rest) ≡ all
  latest_step p best next e before rest all first later all_is =
      ap (λ o. latest (option_to_list o ++ filter p rest)) later
      ∙ latest-append (option_to_list best ++ filter p (e ∷ [])) (filter p rest)
      ∙ ap latest (append_assoc (option_to_list best) (filter p (e ∷ [])) (filter p rest))
      ∙ ap (λ ys. latest (option_to_list best ++ ys)) (sym (filter-append p (e ∷ []) rest))
      ∙ (rw first at all_is)

  -- the entries of one more document
  pub latest_more : {A : Type 0} (c : Document → List (Revision × X)) (f : A → Document) (xs : List A) (i : ℕ) (x : A) (best next : Option (Revision × X)) → i < length xs → x ≡ get_or xs i x → best ≡ latest (flat_map c (map f (take i xs))) → next ≡ latest (option_to_list best ++ c (f x)) → next ≡ latest (flat_map c (map f (take (i + 1) xs)))
  latest_more {A} c f xs i x best next within is so_far more =
      let taken : take (i + 1) xs ≡ take i xs ++ x ∷ [] = take_more xs i x within ∙ ap (λ y. take i xs ++ y ∷ []) (sym is) in
      let mapped : map f (take (i + 1) xs) ≡ map f (take i xs) ++ f x ∷ [] = ap (map f) taken ∙ map-append f (take i xs) (x ∷ []) in
      more
      ∙ ap (λ o. latest (option_to_list o ++ c (f x))) so_far
      ∙ latest-append (flat_map c (map f (take i xs))) (c (f x))
      ∙ ap (λ ys. latest (flat_map c (map f (take i xs)) ++ ys)) (sym (append-nil (c (f x))))
      ∙ ap latest (sym (flat_map-append c (map f (take i xs)) (f x ∷ [])))
      ∙ ap (λ ds. latest (flat_map c ds)) (sym mapped)

listed_alone : {C : Type 0} (o : Option C) → option_to_list o ≡ cons_option o []
listed_alone None = refl
listed_alone (Some y) = refl

-- what is found for one more item is added
pub found_more : {A B C : Type 0} (h : A → Option C) (f : B → C) (start : List C) (xs : List A) (i : ℕ) (d : A) (found : Option C) (old new : List B) → i < length xs → map f old ≡ start ++ filter_map h (take i xs) → found ≡ h (get_or xs i d) → map f new ≡ map f old ++ option_to_list found → map f new ≡ start ++ filter_map h (take (i + 1) xs)
found_more h f start xs i d found old new within so_far is added =
    added
    ∙ ap (λ ys. ys ++ option_to_list found) so_far
    ∙ append_assoc start (filter_map h (take i xs)) (option_to_list found)
    ∙ ap (λ ys. start ++ ys) (ap (λ o. filter_map h (take i xs) ++ option_to_list o) is ∙ ap (λ ys. filter_map h (take i xs) ++ ys) (listed_alone (h (get_or xs i d))) ∙ sym (filter_map-append h (take i xs) (get_or xs i d ∷ [])) ∙ ap (filter_map h) (sym (take_more xs i d within)))

fold-last : {B S : Type 0} (w : S → B → S) (xs : List B) (x : B) (s : S) → fold w s (xs ++ x ∷ []) ≡ w (fold w s xs) x
fold-last w [] x s = refl
fold-last w (y ∷ xs) x s = fold-last w xs x (w s y)

-- one more item is taken into account
pub fold_more : {A B S : Type 0} (w : S → B → S) (f : A → B) (xs : List A) (i : ℕ) (d : A) (start now next : S) → i < length xs → now ≡ fold w start (map f (take i xs)) → next ≡ w now (f (get_or xs i d)) → next ≡ fold w start (map f (take (i + 1) xs))
fold_more {A} w f xs i d start now next within so_far more =
    more
    ∙ ap (λ s. w s (f (get_or xs i d))) so_far
    ∙ sym (fold-last w (map f (take i xs)) (f (get_or xs i d)) start)
    ∙ ap (fold w start) (sym (map-append f (take i xs) (get_or xs i d ∷ [])))
    ∙ ap (λ (ys : List A). fold w start (map f ys)) (sym (take_more xs i d within))
