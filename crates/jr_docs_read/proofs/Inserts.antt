-- Entries that are put one after the other into the place of their keys.
use Rattle.std.proofs.Common.{◌≡◌, List, [], ◌∷◌, refl, ap, ◌∙◌}
use Rattle.std.specs.Prelude.{fold}
use Rattle.std.specs.declared.cmp.Ordering.{Ordering}
use Rattle.std.specs.declared.cmp.Ordering.TheVariants.{Less, Equal, Greater}
use Rattle.std.specs.Ordering.{ordering_reverse}
use Rattle.std.specs.Cmp.{IsTotalOrder}
use Rattle.std.specs.List.{AllByRecursion}
use Rattle.std.specs.List.Sorted.{IsStrictlySortedBy}
use Rattle.std.proofs.lemmas.Map.Keys.{sorted_head, sorted_tail}
use Rattle.std.specs.Map.{keys_of}
use Rattle.std.specs.BTreeMap.{insert_entry}

apart_from_less : (r : Ordering) → r ≡ Equal → r ≡ Less → ⊥
apart_from_less r tied below = cc

module _ {K : Type 0} (cmp : K → K → Ordering) (o : IsTotalOrder cmp) where
  -- the other way round
  turned : (a b : K) (r : Ordering) → cmp a b ≡ r → cmp b a ≡ ordering_reverse r
  turned a b r is = o.antisymm b a ∙ ap ordering_reverse is

  -- two keys on one side of a third
  below_tied : (a b c : K) → cmp a c ≡ Less → cmp b c ≡ Equal → cmp a b ≡ Less
  below_tied a b c below tied = turned b a Greater (o.congr b c a tied ∙ turned a c Less below)

  tied_tied : (a b c : K) → cmp a c ≡ Equal → cmp b c ≡ Equal → cmp a b ≡ Equal
  tied_tied a b c first second = o.congr a c b first ∙ turned b c Equal second

  between : (a b c : K) → cmp a c ≡ Less → cmp b c ≡ Greater → cmp a b ≡ Less
  between a b c below above = o.trans a c b below (turned b c Greater above)

-- the entries, with one more at its place
abbrev pub into : {K X : Type 0} → (K → K → Ordering) → List (K × X) → K × X → List (K × X)
into cmp es e = insert_entry cmp es e.0 e.1

module _ {K X : Type 0} (cmp : K → K → Ordering) (o : IsTotalOrder cmp) where
  -- two entries of other keys may be put in either order
  pub either_first : (es : List (K × X)) (a b : K × X) → (cmp a.0 b.0 ≡ Equal → ⊥) → into cmp (into cmp es a) b ≡ into cmp (into cmp es b) a
  either_first [] a b apart = by (cmp a.0 b.0) refl
    where
      by : (r : Ordering) → cmp a.0 b.0 ≡ r → into cmp (into cmp [] a) b ≡ into cmp (into cmp [] b) a
      by Less is = let back = turned cmp o a.0 b.0 Less is in rw (is, back) refl
      by Equal is = absurd (apart is)
      by Greater is = let back = turned cmp o a.0 b.0 Greater is in rw (is, back) refl
  either_first (e ∷ es) a b apart = by (cmp a.0 e.0) (cmp b.0 e.0) (cmp a.0 b.0) refl refl refl (either_first es a b apart)
    where
      by : (p q r : Ordering) → cmp a.0 e.0 ≡ p → cmp b.0 e.0 ≡ q → cmp a.0 b.0 ≡ r → into cmp (into cmp es a) b ≡ into cmp (into cmp es b) a → into cmp (into cmp (e ∷ es) a) b ≡ into cmp (into cmp (e ∷ es) b) a
      by Less Less Less p q r rest = let back = turned cmp o a.0 b.0 Less r in simp (p, q, r, back) refl
      by Less Less Equal p q r rest = absurd (apart r)
      by Less Less Greater p q r rest = let back = turned cmp o a.0 b.0 Greater r in simp (p, q, r, back) refl
      by Less Equal _ p q r rest = let is = below_tied cmp o a.0 b.0 e.0 p q in let back = turned cmp o a.0 b.0 Less is in simp (p, q, is, back) refl
      by Less Greater _ p q r rest = let is = between cmp o a.0 b.0 e.0 p q in let back = turned cmp o a.0 b.0 Less is in simp (p, q, is, back) refl
      by Equal Less _ p q r rest = let back = below_tied cmp o b.0 a.0 e.0 q p in let is = turned cmp o b.0 a.0 Less back in simp (p, q, is, back) refl
      by Equal Equal _ p q r rest = absurd (apart (tied_tied cmp o a.0 b.0 e.0 p q))
      by Equal Greater _ p q r rest = simp (p, q) refl
      by Greater Less _ p q r rest = let back = between cmp o b.0 a.0 e.0 q p in let is = turned cmp o b.0 a.0 Less back in simp (p, q, is, back) refl
      by Greater Equal _ p q r rest = simp (p, q) refl
      by Greater Greater _ p q r rest = simp (p, q) (ap (λ (xs : List (K × X)). e ∷ xs) rest)

  -- an entry whose key no other has may be put first or last
  pub first_or_last : (es : List (K × X)) (acc : List (K × X)) (a : K × X) → AllByRecursion (λ k. cmp a.0 k ≡ Less) (keys_of es) → fold (into cmp) (into cmp acc a) es ≡ into cmp (fold (into cmp) acc es) a
  first_or_last [] acc a below = refl
  first_or_last (e ∷ es) acc a below =
      ap (λ (xs : List (K × X)). fold (into cmp) xs es) (either_first acc a e (λ tied. apart_from_less _ tied below.0)) ∙ first_or_last es (into cmp acc e) a below.1

  -- an entry of a lesser key goes to the front
  to_front : (es : List (K × X)) (a : K × X) → AllByRecursion (λ k. cmp a.0 k ≡ Less) (keys_of es) → into cmp es a ≡ a ∷ es
  to_front [] a below = refl
  to_front (e ∷ es) a below = rw below.0 refl

  -- entries in the order of their keys, put one after the other, are the map
  pub put_in_order : (es : List (K × X)) → IsStrictlySortedBy cmp (keys_of es) → fold (into cmp) [] es ≡ es
  put_in_order [] rise = refl
  put_in_order (e ∷ es) rise =
      let below = sorted_head cmp e.0 (keys_of es) rise in
      first_or_last es [] e below ∙ (ap (λ (xs : List (K × X)). into cmp xs e) (put_in_order es (sorted_tail cmp e.0 (keys_of es) rise)) ∙ to_front es e below)
