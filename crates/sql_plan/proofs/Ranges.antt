-- Nodes in path order by ranges.
use Rattle.std.proofs.Common.{◌≡◌, ℕ, suc, zero, ◌<◌, ◌≤◌, Bool, true, false, ◌||◌, List, [], ◌∷◌, ◌++◌, map, length, get_or, take, drop, refl, sym, ap, ◌∙◌, nat_eq, nat_lt, Bor, append-nil, arith}
use Rattle.std.specs.FinMap.{is_sorted}
use Rattle.std.specs.Prelude.{Option, Some}
use Rattle.std.specs.Option.{option_map_or}
use Rattle.std.specs.List.{filter, list_all, slice_range}
use Rattle.std.specs.List.Sorted.{IsPartitionPoint, IsPartitionedBy}
use Rattle.std.specs.Map.{keys_of}
use Rattle.std.specs.Map.Iter.{deref_pair}
use Rattle.std.specs.Ordering.{is_le, is_lt, ordering_reverse}
use Rattle.std.specs.declared.cmp.Ordering.{Ordering}
use Rattle.std.specs.declared.cmp.Ordering.TheVariants.{Less, Equal, Greater}
use Rattle.std.proofs.lemmas.Bool.{eqb-true, eqb-false, ltb-true, ltb-false, false≢true, false_from_ne_true, and_parts}
use Rattle.std.proofs.lemmas.List.{get_or-map, length-map, take-append-drop}
use Rattle.std.proofs.lemmas.List.Elements.{filter-append}
use Rattle.std.proofs.lemmas.List.Folds.{drop_split}
use Rattle.std.proofs.lemmas.Map.Keys.{Less-from_sorted}
use Rattle.jr_path.specs.Names.{is_under, path_cmp}
use Rattle.jr_path.specs.declared.path.Path.{Path}
use Rattle.jr_path.proofs.Maps.{path_total}
use Rattle.jr_tree.specs.declared.tree.Node.{Node}
use Rattle.jr_tree.proofs.Entries.{rising}
use Rattle.jr_tree.proofs.Under.{under_between, under_from}
use Rattle.std.proofs.lemmas.List.{map-append}
use Rattle.sql_eval.specs.Conditions.{Spot}
use Rattle.sql_plan.proofs.Seen.{skip}

-- a place is before the first point, or not before the second that isn't behind it
pub either : (P : Type 0) (k a b : ℕ) → b < a → (k < a → P) → (b ≤ k → P) → P
either P k a b h front back = by (nat_lt k a) refl
  where
    by : (c : Bool) → nat_lt k a ≡ c → P
    by true e = front (ltb-true k a e)
    by false e = back (omega (arith, ltb-false k a e, h))

module _ {A X : Type 0} (g : A → X) (f : X → Bool) where
  none_front : (xs : List A) (a : ℕ) → ((k : ℕ) (d : A) → k < a → k < length xs → f (g (get_or xs k d)) ≡ false) → filter f (map g (take a xs)) ≡ []
  none_front xs zero h = refl
  none_front [] (suc a) h = refl
  none_front (x ∷ xs) (suc a) h = skip f (g x) (map g (take a xs)) (h 0 x (omega arith) (omega arith)) ∙ none_front xs a (λ k d low high. h (suc k) d (omega (arith, low)) (omega (arith, high)))

  pub none_all : (xs : List A) → ((k : ℕ) (d : A) → k < length xs → f (g (get_or xs k d)) ≡ false) → filter f (map g xs) ≡ []
  none_all [] h = refl
  none_all (x ∷ xs) h = skip f (g x) (map g xs) (h 0 x (omega arith)) ∙ none_all xs (λ k d high. h (suc k) d (omega (arith, high)))

  none_back : (xs : List A) (b : ℕ) → ((k : ℕ) (d : A) → b ≤ k → k < length xs → f (g (get_or xs k d)) ≡ false) → filter f (map g (drop b xs)) ≡ []
  none_back xs zero h = none_all xs (λ k d high. h k d (omega arith) high)
  none_back [] (suc b) h = refl
  none_back (x ∷ xs) (suc b) h = none_back xs b (λ k d low high. h (suc k) d (omega (arith, low)) (omega (arith, high)))

  -- what passes stands between two places
  pub ranged : (xs : List A) (a b : ℕ) → a ≤ b → ((k : ℕ) (d : A) → k < a → k < length xs → f (g (get_or xs k d)) ≡ false) → ((k : ℕ) (d : A) → b ≤ k → k < length xs → f (g (get_or xs k d)) ≡ false) → filter f (map g (slice_range xs a b)) ≡ filter f (map g xs)
  ranged xs a b order front back =
      let parts : (us vs : List A) → filter f (map g (us ++ vs)) ≡ filter f (map g us) ++ filter f (map g vs) = λ us vs. ap (filter f) (map-append g us vs) ∙ filter-append f (map g us) (map g vs) in
      sym (
      ap (λ zs. filter f (map g zs)) (sym (take-append-drop a xs))
      ∙ parts (take a xs) (drop a xs)
      ∙ ap (λ zs. zs ++ filter f (map g (drop a xs))) (none_front xs a front)
      ∙ ap (λ zs. filter f (map g zs)) (drop_split xs a b order)
      ∙ parts (slice_range xs a b) (drop b xs)
      ∙ ap (λ zs. filter f (map g (slice_range xs a b)) ++ zs) (none_back xs b back)
      ∙ append-nil _)

-- ---- paths

abbrev Lent : Type 0
Lent = Bor Path × Bor Node

module _ (nodes : List Lent) (up : is_sorted path_cmp (map deref_pair nodes) ≡ true) (p : Path) where
  abbrev path_at : ℕ → Lent → Path
  path_at k d = (deref_pair (get_or nodes k d)).0

  keys_are : (xs : List Lent) → keys_of (map deref_pair xs) ≡ map (λ (e : Lent). (deref_pair e).0) xs
  keys_are [] = refl
  keys_are (e ∷ xs) = ap (λ ks. (deref_pair e).0 ∷ ks) (keys_are xs)

  rise : (i j : ℕ) (d : Lent) → i < j → j < length nodes → path_cmp (path_at i d) (path_at j d) ≡ Less
  rise i j d below within =
      let at : (k : ℕ) → k < length nodes → get_or (keys_of (map deref_pair nodes)) k (deref_pair d).0 ≡ path_at k d = λ k h. ap (λ ks. get_or ks k (deref_pair d).0) (keys_are nodes) ∙ get_or-map (λ (e : Lent). (deref_pair e).0) nodes k d (deref_pair d).0 h in
      let long : length (keys_of (map deref_pair nodes)) ≡ length nodes = ap length (keys_are nodes) ∙ length-map nodes (λ (e : Lent). (deref_pair e).0) in
      (λ t. path_cmp (sym (at i (omega (arith, below, within))) t) (sym (at j within) t)) ∙ Less-from_sorted path_cmp (keys_of (map deref_pair nodes)) i j (deref_pair d).0 (rising path_cmp _ up) below (omega (arith, long, within))

  less : (o : Ordering) → is_lt o ≡ true → o ≡ Less
  less Less h = refl
  less Equal h = absurd (false≢true h)
  less Greater h = absurd (false≢true h)

  pub before_parted : IsPartitionedBy (λ (e : Lent). is_lt (path_cmp (deref_pair e).0 p)) nodes
  before_parted i j d le within h = by (nat_eq i j) refl
    where
      by : (b : Bool) → nat_eq i j ≡ b → is_lt (path_cmp (path_at i d) p) ≡ true
      by true e = ap (λ k. is_lt (path_cmp (path_at k d) p)) (eqb-true i j e) ∙ h
      by false e =
          let apart : i ≡ j → ⊥ = eqb-false i j e in
          ap is_lt (path_total.trans (path_at i d) (path_at j d) p (rise i j d (omega (arith, le, apart)) within) (less _ h))

  -- before a path, or at or below it
  abbrev pub is_upto : Lent → Bool
  is_upto e = is_lt (path_cmp (deref_pair e).0 p) || is_under (deref_pair e).0 p

  from_not_less : (o : Ordering) → is_lt o ≡ false → is_le (ordering_reverse o) ≡ true
  from_not_less Less h = absurd (false≢true (sym h))
  from_not_less Equal h = refl
  from_not_less Greater h = refl

  pub upto_parted : IsPartitionedBy is_upto nodes
  upto_parted i j d le within h = by (nat_eq i j) refl (is_lt (path_cmp (path_at i d) p)) refl (is_lt (path_cmp (path_at j d) p)) refl h
    where
      by : (b : Bool) → nat_eq i j ≡ b → (a : Bool) → is_lt (path_cmp (path_at i d) p) ≡ a → (c : Bool) → is_lt (path_cmp (path_at j d) p) ≡ c → (c || is_under (path_at j d) p) ≡ true → (a || is_under (path_at i d) p) ≡ true
      by b e true ea c ec up' = refl
      by true e false ea c ec up' =
          let same : i ≡ j = eqb-true i j e in
          let none : c ≡ false = sym ec ∙ ap (λ k. is_lt (path_cmp (path_at k d) p)) (sym same) ∙ ea in
          ap (λ k. is_under (path_at k d) p) same ∙ sym (ap (λ (x : Bool). x || is_under (path_at j d) p) none) ∙ up'
      by false e false ea true ec up' =
          let apart : i ≡ j → ⊥ = eqb-false i j e in
          absurd (false≢true (sym ea ∙ ap is_lt (path_total.trans (path_at i d) (path_at j d) p (rise i j d (omega (arith, le, apart)) within) (less _ ec))))
      by false e false ea false ec up' =
          let apart : i ≡ j → ⊥ = eqb-false i j e in
          under_between p (path_at i d) (path_at j d) (ap is_le (path_total.antisymm p (path_at i d)) ∙ from_not_less _ ea) (ap is_le (rise i j d (omega (arith, le, apart)) within)) up'

  not_under_before : (q : Path) → is_lt (path_cmp q p) ≡ true → is_under q p ≡ false
  not_under_before q h = false_from_ne_true _ (λ u. false≢true (sym (ap is_le (path_total.antisymm p q ∙ ap ordering_reverse (less _ h))) ∙ under_from p q u))

  or_right : (a b : Bool) → (a || b) ≡ false → b ≡ false
  or_right true b h = absurd (false≢true (sym h))
  or_right false b h = h

  -- what is at or below the path stands between the two places
  pub between_paths : (a b : ℕ) → IsPartitionPoint (λ (e : Lent). is_lt (path_cmp (deref_pair e).0 p) ≡ true) (λ (e : Lent). is_lt (path_cmp (deref_pair e).0 p) ≡ false) nodes a
      → IsPartitionPoint (λ e. is_upto e ≡ true) (λ e. is_upto e ≡ false) nodes b
      → (f : Spot → Bool) → ((e : Spot) → f e ≡ true → is_under e.0 p ≡ true)
      → ((k : ℕ) (d : Lent) → k < a → k < length nodes → f (deref_pair (get_or nodes k d)) ≡ false) × ((k : ℕ) (d : Lent) → b ≤ k → k < length nodes → f (deref_pair (get_or nodes k d)) ≡ false)
  between_paths a b start end f under = (
    λ k d low high. false_from_ne_true _ (λ t. false≢true (sym (not_under_before _ (start.0 k d (omega arith) low)) ∙ under _ t)),
    λ k d low high. false_from_ne_true _ (λ t. false≢true (sym (or_right _ _ (end.1 k d low high)) ∙ under _ t)),
  )

-- ---- parts

pub all_at : {A X : Type 0} (f : A → X) (p : X → Bool) (xs : List A) (k : ℕ) (x : A) → list_all p (map f xs) ≡ true → k < length xs → x ≡ get_or xs k x → p (f x) ≡ true
all_at f p [] k x all h at = absurd (omega (arith, h))
all_at f p (y ∷ ys) zero x all h at = ap (λ z. p (f z)) at ∙ (and_parts _ _ all).0
all_at f p (y ∷ ys) (suc k) x all h at = all_at f p ys k x (and_parts _ _ all).1 (omega (arith, h)) at

pub is_path : (o : Option Path) (q p : Path) → Some q ≡ o → option_map_or (is_under p) o true ≡ true → is_under p q ≡ true
is_path o q p is h = ap (λ r. option_map_or (is_under p) r true) is ∙ h
