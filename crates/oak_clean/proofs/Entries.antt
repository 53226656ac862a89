-- Entries by revision of which some are dropped: what passes a test, and the latest one.
use Rattle.std.proofs.Common.{◌≡◌, Bool, true, false, cond, ◌&&◌, ◌||◌, List, [], ◌∷◌, ◌++◌, Option, None, Some, refl, sym, ap, ◌∙◌, subst}
use Rattle.std.specs.Prelude.{not}
use Rattle.std.specs.List.{AllByRecursion, filter, list_all, list_any}
use Rattle.std.specs.Map.{keys_of}
use Rattle.std.specs.Ordering.{is_le, is_lt, ordering_reverse}
use Rattle.std.specs.declared.cmp.Ordering.{Ordering}
use Rattle.std.specs.declared.cmp.Ordering.TheVariants.{Less, Equal, Greater}
use Rattle.std.proofs.lemmas.Bool.{and_from, and_parts, false≢true}
use Rattle.std.proofs.lemmas.List.Folds.{list_all-append}
use Rattle.jr_rev.proofs.Order.{at_most_itself, at_most_trans, revision_total, same_revision}
use Rattle.jr_rev.specs.declared.revision.Revision.{Revision}
use Rattle.jr_rev.specs.Revisions.{is_at_most, is_before, is_same}
use Rattle.oak_doc.specs.Updates.{without_revision}
use Rattle.oak_read.specs.Meaning.{later_of, latest}

-- ---- tests

pub all_filter : {X : Type 0} (P : X → Type 0) (test : X → Bool) (xs : List X) → AllByRecursion P xs → AllByRecursion P (filter test xs)
all_filter P test [] h = tt
all_filter P test (x ∷ xs) h = by (test x) (all_filter P test xs h.1)
  where
    by : (b : Bool) → AllByRecursion P (filter test xs) → AllByRecursion P (cond b (x ∷ filter test xs) (filter test xs))
    by true rest = (h.0, rest)
    by false rest = rest

pub all_two : {X : Type 0} (P Q R : X → Type 0) → ((x : X) → P x → Q x → R x) → (xs : List X) → AllByRecursion P xs → AllByRecursion Q xs → AllByRecursion R xs
all_two P Q R f [] h k = tt
all_two P Q R f (x ∷ xs) h k = (f x h.0 k.0, all_two P Q R f xs h.1 k.1)

pub list_all_more : {X : Type 0} (f g : X → Bool) → ((x : X) → f x ≡ true → g x ≡ true) → (xs : List X) → list_all f xs ≡ true → list_all g xs ≡ true
list_all_more f g more [] h = refl
list_all_more f g more (x ∷ xs) h = let p = and_parts (f x) (list_all f xs) h in and_from _ _ (more x p.0) (list_all_more f g more xs p.1)

-- what all of two lists pass is so of two others, where it is so of each
pub joined : {X : Type 0} (test : X → Bool) (xs xs' ys ys' : List X) → (list_all test xs' ≡ true → list_all test xs ≡ true) → (list_all test ys' ≡ true → list_all test ys ≡ true) → list_all test (xs' ++ ys') ≡ true → list_all test (xs ++ ys) ≡ true
joined test xs xs' ys ys' f g h =
    let p = and_parts (list_all test xs') (list_all test ys') (sym (list_all-append test xs' ys') ∙ h) in
    list_all-append test xs ys ∙ and_from _ _ (f p.0) (g p.1)

module _ {X : Type 0} where
  -- where one that passes is dropped, all passed before
  pub all_before : (test : Revision → Bool) (r : Revision) → test r ≡ true → (es : List (Revision × X)) → list_all test (keys_of (without_revision r es)) ≡ true → list_all test (keys_of es) ≡ true
  all_before test r pass [] h = refl
  all_before test r pass (e ∷ es) h = by (is_same r e.0) refl h (all_before test r pass es)
    where
      by : (b : Bool) → is_same r e.0 ≡ b → list_all test (keys_of (cond (not b) (e ∷ without_revision r es) (without_revision r es))) ≡ true → (list_all test (keys_of (without_revision r es)) ≡ true → list_all test (keys_of es) ≡ true) → (test e.0 && list_all test (keys_of es)) ≡ true
      by true same h' rest = and_from _ _ (sym (ap test (same_revision r e.0 same)) ∙ pass) (rest h')
      by false same h' rest = let p = and_parts (test e.0) (list_all test (keys_of (without_revision r es))) h' in and_from _ _ p.0 (rest p.1)

  -- and one that passes still passed before
  pub any_before : (test : Revision → Bool) (r : Revision) (es : List (Revision × X)) → list_any test (keys_of (without_revision r es)) ≡ true → list_any test (keys_of es) ≡ true
  any_before test r [] h = h
  any_before test r (e ∷ es) h = by (is_same r e.0) h (any_before test r es)
    where
      later : (a b : Bool) → b ≡ true → (a || b) ≡ true
      later true b g = refl
      later false b g = g

      either : (a b c : Bool) → (b ≡ true → c ≡ true) → (a || b) ≡ true → (a || c) ≡ true
      either true b c f g = refl
      either false b c f g = f g

      by : (b : Bool) → list_any test (keys_of (cond (not b) (e ∷ without_revision r es) (without_revision r es))) ≡ true → (list_any test (keys_of (without_revision r es)) ≡ true → list_any test (keys_of es) ≡ true) → (test e.0 || list_any test (keys_of es)) ≡ true
      by true h' rest = later (test e.0) (list_any test (keys_of es)) (rest h')
      by false h' rest = either (test e.0) (list_any test (keys_of (without_revision r es))) (list_any test (keys_of es)) rest h'

-- ---- the order of revisions

turned : (o : Ordering) → is_lt o ≡ false → is_le (ordering_reverse o) ≡ true
turned Less h = absurd (false≢true (sym h))
turned Equal h = refl
turned Greater h = refl

not_before : (a b : Revision) → is_before a b ≡ false → is_at_most b a ≡ true
not_before a b h = ap is_le (revision_total.antisymm b a) ∙ turned (Rattle.jr_rev.specs.Revisions.revision_cmp a b) h

above : (o : Ordering) → is_le o ≡ true → is_lt (ordering_reverse o) ≡ false
above Less h = refl
above Equal h = refl
above Greater h = absurd (false≢true h)

not_after : (a b : Revision) → is_at_most b a ≡ true → is_before a b ≡ false
not_after a b h = ap is_lt (revision_total.antisymm a b) ∙ above (Rattle.jr_rev.specs.Revisions.revision_cmp b a) h

below : (o : Ordering) → is_lt o ≡ true → is_le o ≡ true
below Less h = refl
below Equal h = absurd (false≢true h)
below Greater h = absurd (false≢true h)

before_at_most : (a b : Revision) → is_before a b ≡ true → is_at_most a b ≡ true
before_at_most a b h = below (Rattle.jr_rev.specs.Revisions.revision_cmp a b) h

-- ---- the latest entry

module _ {X : Type 0} where
  none_there : (es : List (Revision × X)) → latest es ≡ None → (P : Revision × X → Type 0) → AllByRecursion P es
  none_there [] h P = tt
  none_there (e ∷ es) h P = cc

  -- what is so of each is so of the latest
  of_latest : (P : Revision × X → Type 0) (es : List (Revision × X)) (k : Revision × X) → latest es ≡ Some k → AllByRecursion P es → P k
  of_latest P [] k is h = cc
  of_latest P (e ∷ es) k is h = by (latest es) refl (λ g at. of_latest P es g at h.1) is
    where
      chosen : (g : Revision × X) (b : Bool) → P g → ◌≡◌ {A = Option (Revision × X)} (Some (cond b g e)) (Some k) → P k
      chosen g true here same = let one : g ≡ k = cc in subst P one here
      chosen g false here same = let one : e ≡ k = cc in subst P one h.0

      by : (o : Option (Revision × X)) → latest es ≡ o → ((g : Revision × X) → latest es ≡ Some g → P g) → ◌≡◌ {A = Option (Revision × X)} (Some (later_of e o)) (Some k) → P k
      by None at rest same = let one : e ≡ k = cc in subst P one h.0
      by (Some g) at rest same = chosen g (is_before e.0 g.0) (rest g at) same

  -- none has a greater revision
  pub at_most_latest : (es : List (Revision × X)) (k : Revision × X) → latest es ≡ Some k → AllByRecursion (λ e. is_at_most e.0 k.0 ≡ true) es
  at_most_latest [] k is = tt
  at_most_latest (e ∷ es) k is = by (latest es) refl (at_most_latest es) is
    where
      All : Revision × X → Type 0
      All k = AllByRecursion (λ e. is_at_most e.0 k.0 ≡ true) (e ∷ es)

      chosen : (g : Revision × X) (b : Bool) → is_before e.0 g.0 ≡ b → AllByRecursion (λ e. is_at_most e.0 g.0 ≡ true) es → ◌≡◌ {A = Option (Revision × X)} (Some (cond b g e)) (Some k) → All k
      chosen g true before rest same = let one : g ≡ k = cc in subst All one (before_at_most e.0 g.0 before, rest)
      chosen g false before rest same =
          let one : e ≡ k = cc in
          subst All one (at_most_itself e.0, Rattle.oak_read.proofs.Walking.all_of (λ f. is_at_most f.0 g.0 ≡ true) (λ f. is_at_most f.0 e.0 ≡ true) (λ f h. at_most_trans f.0 g.0 e.0 h (not_before e.0 g.0 before)) es rest)

      by : (o : Option (Revision × X)) → latest es ≡ o → ((g : Revision × X) → latest es ≡ Some g → AllByRecursion (λ e. is_at_most e.0 g.0 ≡ true) es) → ◌≡◌ {A = Option (Revision × X)} (Some (later_of e o)) (Some k) → All k
      by None at rest same = let one : e ≡ k = cc in subst All one (at_most_itself e.0, none_there es at (λ f. is_at_most f.0 e.0 ≡ true))
      by (Some g) at rest same = chosen g (is_before e.0 g.0) refl (rest g at) same

  -- it stays where those of another revision are dropped
  latest_stays : (r : Revision) (es : List (Revision × X)) (k : Revision × X) → latest es ≡ Some k → is_same r k.0 ≡ false → latest (without_revision r es) ≡ Some k
  latest_stays r [] k is other = cc
  latest_stays r (e ∷ []) k is other =
      let one : e ≡ k = cc in
      ap (λ b. latest (cond (not b) (e ∷ []) [])) (subst (λ (f : Revision × X). is_same r f.0 ≡ false) (sym one) other) ∙ is
  latest_stays r (e ∷ f ∷ fs) k is other = by (later_of f (latest fs)) refl (latest_stays r (f ∷ fs) k) is
    where
      rest : List (Revision × X)
      rest = without_revision r (f ∷ fs)

      put_on : latest rest ≡ Some k → is_before e.0 k.0 ≡ true → (b : Bool) → latest (cond (not b) (e ∷ rest) rest) ≡ Some k
      put_on at before true = at
      put_on at before false = ap (λ o. Some (later_of e o)) at ∙ ap (λ b. Some (cond b k e)) before

      alone : (g : Revision × X) → latest (f ∷ fs) ≡ Some g → is_before e.0 g.0 ≡ false → (o : Option (Revision × X)) → latest rest ≡ o → later_of e o ≡ e
      alone g at before None gone = refl
      alone g at before (Some l) gone =
          let low : is_at_most l.0 g.0 ≡ true = of_latest (λ e. is_at_most e.0 g.0 ≡ true) rest l gone (all_filter (λ e. is_at_most e.0 g.0 ≡ true) (λ e. not (is_same r e.0)) (f ∷ fs) (at_most_latest (f ∷ fs) g at)) in
          ap (λ b. cond b l e) (not_after e.0 l.0 (at_most_trans l.0 g.0 e.0 low (not_before e.0 g.0 before)))

      chosen : (g : Revision × X) → latest (f ∷ fs) ≡ Some g → (latest (f ∷ fs) ≡ Some k → is_same r k.0 ≡ false → latest rest ≡ Some k) → (b : Bool) → is_before e.0 g.0 ≡ b → ◌≡◌ {A = Option (Revision × X)} (Some (cond b g e)) (Some k) → latest (cond (not (is_same r e.0)) (e ∷ rest) rest) ≡ Some k
      chosen g at again true before same =
          let one : g ≡ k = cc in
          put_on (again (at ∙ ap (λ (l : Revision × X). Some l) one) other) (subst (λ (l : Revision × X). is_before e.0 l.0 ≡ true) one before) (is_same r e.0)
      chosen g at again false before same =
          let one : e ≡ k = cc in
          ap (λ b. latest (cond (not b) (e ∷ rest) rest)) (subst (λ (l : Revision × X). is_same r l.0 ≡ false) (sym one) other)
          ∙ ap (λ (l : Revision × X). Some l) (alone g at before (latest rest) refl ∙ one)

      by : (g : Revision × X) → later_of f (latest fs) ≡ g → (latest (f ∷ fs) ≡ Some k → is_same r k.0 ≡ false → latest rest ≡ Some k) → ◌≡◌ {A = Option (Revision × X)} (Some (later_of e (Some g))) (Some k) → latest (cond (not (is_same r e.0)) (e ∷ rest) rest) ≡ Some k
      by g at again same = chosen g (ap (λ (l : Revision × X). Some l) at) again (is_before e.0 g.0) refl same

  filters : (f g : Revision × X → Bool) (es : List (Revision × X)) → filter f (filter g es) ≡ filter g (filter f es)
  filters f g [] = refl
  filters f g (e ∷ es) = by (f e) (g e) refl refl (filters f g es)
    where
      by : (a b : Bool) → f e ≡ a → g e ≡ b → filter f (filter g es) ≡ filter g (filter f es) → filter f (cond b (e ∷ filter g es) (filter g es)) ≡ filter g (cond a (e ∷ filter f es) (filter f es))
      by true true is at rest = ap (λ c. cond c (e ∷ filter f (filter g es)) (filter f (filter g es))) is ∙ ap (λ (es : List (Revision × X)). e ∷ es) rest ∙ sym (ap (λ c. cond c (e ∷ filter g (filter f es)) (filter g (filter f es))) at)
      by true false is at rest = rest ∙ sym (ap (λ c. cond c (e ∷ filter g (filter f es)) (filter g (filter f es))) at)
      by false true is at rest = ap (λ c. cond c (e ∷ filter f (filter g es)) (filter f (filter g es))) is ∙ rest
      by false false is at rest = rest

  -- so does the latest that passes a test
  pub latest_kept : (test : Revision → Bool) (r : Revision) (es : List (Revision × X)) (k : Revision × X) → latest (filter (λ e. test e.0) es) ≡ Some k → is_same r k.0 ≡ false → latest (filter (λ e. test e.0) (without_revision r es)) ≡ Some k
  latest_kept test r es k is other = ap latest (filters (λ e. test e.0) (λ e. not (is_same r e.0)) es) ∙ latest_stays r (filter (λ e. test e.0) es) k is other

  -- no entry that passes is later than the latest of those that pass
  pub none_later : (test more : Revision → Bool) (top : Revision) (es : List (Revision × X)) → AllByRecursion (λ e. is_at_most e.0 top ≡ true) (filter (λ e. test e.0) es) → list_any (λ q. is_before top q && test q && more q) (keys_of es) ≡ false
  none_later test more top [] h = refl
  none_later test more top (e ∷ es) h = by (is_before top e.0) (test e.0) refl h (none_later test more top es)
    where
      by : (a b : Bool) → is_before top e.0 ≡ a → AllByRecursion (λ e. is_at_most e.0 top ≡ true) (cond b (e ∷ filter (λ e. test e.0) es) (filter (λ e. test e.0) es))
          → (AllByRecursion (λ e. is_at_most e.0 top ≡ true) (filter (λ e. test e.0) es) → list_any (λ q. is_before top q && test q && more q) (keys_of es) ≡ false)
          → ((a && b && more e.0) || list_any (λ q. is_before top q && test q && more q) (keys_of es)) ≡ false
      by true true before h' rest = absurd (false≢true (sym (not_after top e.0 h'.0) ∙ before))
      by true false before h' rest = rest h'
      by false true before h' rest = rest h'.1
      by false false before h' rest = rest h'
