-- What a node breaks first, as its violations are listed.
use Rattle.std.proofs.Common.{◌≡◌, ◌⊎◌, inl, inr, ◌<◌, ◌≤◌, ℕ, suc, Bool, true, false, cond, not, ◌&&◌, ◌||◌, Option, None, Some, List, [], ◌∷◌, ◌++◌, map, fold, refl, sym, ap, ◌∙◌, subst, arith}
use Rattle.std.specs.Prelude.{◌==◌, nat_le, nat_lt}
use Rattle.std.specs.Option.{option_map}
use Rattle.std.specs.Ordering.{is_lt, ordering_then}
use Rattle.std.specs.Cmp.{IsTotalOrder, tied_itself, nat_cmp_is}
use Rattle.std.specs.List.Sorted.{IsStrictlySortedBy}
use Rattle.std.specs.List.{filter, flat_map, list_any, list_all}
use Rattle.std.specs.FinMap.{is_sorted}
use Rattle.std.specs.FinMap.Entries.{below_all}
use Rattle.std.specs.declared.cmp.Ordering.TheVariants.{Less}
use Rattle.std.proofs.lemmas.Bool.{cases_lt, eqb-true, false≢true, ltb-true, leb-true}
use Rattle.std.proofs.lemmas.Cmp.{nat_cmp_total, nat_list_cmp_total, on_total, then_total}
use Rattle.std.proofs.lemmas.List.{append-nil, append_assoc}
use Rattle.std.proofs.lemmas.List.Folds.{list_any-append}
use Rattle.std.proofs.lemmas.Option.{none-some}
use Rattle.basics.proofs.Bools.{first_of_both, number_itself, second_of_both}
use Rattle.basics.proofs.Orders.{less_of}
use Rattle.jr_path.specs.Names.{name_cmp}
use Rattle.jr_path.specs.declared.name.Name.{Name}
use Rattle.jr_path.specs.declared.path.Path.{Path}
use Rattle.jr_tree.proofs.Entries.{sorted_insert, rising, tested}
use Rattle.jr_tree.specs.Trees.{Nodes, children_of, property_at}
use Rattle.jr_tree.specs.Edits.{properties_at}
use Rattle.jr_items.specs.Names.{mixin_types, primary_type}
use Rattle.jr_items.specs.Items.{first_of, in_name_order, same_name}
use Rattle.jr_types.specs.declared.TypeDef.{TypeDef}
use Rattle.jr_rules.specs.declared.broken.Break.{Break}
use Rattle.jr_rules.specs.Checking.{IsFirstBreak, break_cmp, earlier, first_break}
use Rattle.jr_types.specs.Rules.{child_at, child_faults, failing, is_misfit, is_missing, is_of_no_type, is_outside, is_primary_type, is_stray, is_undefined, are_mixins, mandatory_children, mandatory_props, node_types, property_faults}
use Rattle.jr_types.specs.Types.{types_of}
use Rattle.jr_rules.specs.Violations.{Violation, child_names, faults_among, property_names, violations_among}
use Rattle.jr_rules.proofs.Meeting.{child_apart, keys-of-pairs, property_apart}
use Rattle.jr_types.proofs.Same.{same}

-- ---- numbers in a list

-- the numbers rise from one on, and each is among others
abbrev are_within : ℕ → List ℕ → List ℕ → Bool
are_within low others [] = true
are_within low others (x ∷ xs) = nat_le low x && (list_any (λ k. k == x) others && are_within (suc x) others xs)

abbrev of_properties : List ℕ
of_properties = 1 ∷ 2 ∷ 3 ∷ 4 ∷ 5 ∷ 6 ∷ []

abbrev of_children : List ℕ
of_children = 7 ∷ 8 ∷ 9 ∷ []

six_within : (a b c d e f : Bool) → are_within 1 of_properties (failing 1 a ++ failing 2 b ++ failing 3 c ++ failing 4 d ++ failing 5 e ++ failing 6 f) ≡ true
six_within true true true true true true = refl
six_within true true true true true false = refl
six_within true true true true false true = refl
six_within true true true true false false = refl
six_within true true true false true true = refl
six_within true true true false true false = refl
six_within true true true false false true = refl
six_within true true true false false false = refl
six_within true true false true true true = refl
six_within true true false true true false = refl
six_within true true false true false true = refl
six_within true true false true false false = refl
six_within true true false false true true = refl
six_within true true false false true false = refl
six_within true true false false false true = refl
six_within true true false false false false = refl
six_within true false true true true true = refl
six_within true false true true true false = refl
six_within true false true true false true = refl
six_within true false true true false false = refl
six_within true false true false true true = refl
six_within true false true false true false = refl
six_within true false true false false true = refl
six_within true false true false false false = refl
six_within true false false true true true = refl
six_within true false false true true false = refl
six_within true false false true false true = refl
six_within true false false true false false = refl
six_within true false false false true true = refl
six_within true false false false true false = refl
six_within true false false false false true = refl
six_within true false false false false false = refl
six_within false true true true true true = refl
six_within false true true true true false = refl
six_within false true true true false true = refl
six_within false true true true false false = refl
six_within false true true false true true = refl
six_within false true true false true false = refl
six_within false true true false false true = refl
six_within false true true false false false = refl
six_within false true false true true true = refl
six_within false true false true true false = refl
six_within false true false true false true = refl
six_within false true false true false false = refl
six_within false true false false true true = refl
six_within false true false false true false = refl
six_within false true false false false true = refl
six_within false true false false false false = refl
six_within false false true true true true = refl
six_within false false true true true false = refl
six_within false false true true false true = refl
six_within false false true true false false = refl
six_within false false true false true true = refl
six_within false false true false true false = refl
six_within false false true false false true = refl
six_within false false true false false false = refl
six_within false false false true true true = refl
six_within false false false true true false = refl
six_within false false false true false true = refl
six_within false false false true false false = refl
six_within false false false false true true = refl
six_within false false false false true false = refl
six_within false false false false false true = refl
six_within false false false false false false = refl

three_within : (a b c : Bool) → are_within 7 of_children (failing 7 a ++ failing 8 b ++ failing 9 c) ≡ true
three_within true true true = refl
three_within true true false = refl
three_within true false true = refl
three_within true false false = refl
three_within false true true = refl
three_within false true false = refl
three_within false false true = refl
three_within false false false = refl

at_least : (a b : ℕ) → nat_le a b ≡ true → a ≤ b
at_least a b h = leb-true a b h

same_number : (a b : ℕ) → (a == b) ≡ true → a ≡ b
same_number a b h = eqb-true a b h

-- a number of a rising list is no less than the first, and among the others
record IsPlaced (low : ℕ) (others xs : List ℕ) (k : ℕ) : Type 0 where
  pub first : ℕ
  pub is_first : first_of xs ≡ Some first
  pub up : first ≤ k
  pub low_up : low ≤ k
  pub known : list_any (λ j. j == k) others ≡ true

placed : (low : ℕ) (others xs : List ℕ) (k : ℕ) → are_within low others xs ≡ true → list_any (λ r. r == k) xs ≡ true → IsPlaced low others xs k
placed low others [] k w h = absurd (false≢true h)
placed low others (x ∷ xs) k w h = by (x == k) refl h (λ a. placed (suc x) others xs k (second_of_both _ _ (second_of_both (nat_le low x) _ w)) a)
  where
    least : low ≤ x
    least = at_least low x (first_of_both _ _ w)

    among : list_any (λ j. j == x) others ≡ true
    among = first_of_both _ _ (second_of_both (nat_le low x) _ w)

    by : (b : Bool) → (x == k) ≡ b → (b || list_any (λ r. r == k) xs) ≡ true → (list_any (λ r. r == k) xs ≡ true → IsPlaced (suc x) others xs k) → IsPlaced low others (x ∷ xs) k
    by true e h rest =
        let same : x ≡ k = same_number x k e in
        let up : x ≤ x = omega arith in
        record { first = x; is_first = refl; up = subst (λ y. x ≤ y) same up; low_up = subst (λ y. low ≤ y) same least; known = subst (λ y. list_any (λ j. j == y) others ≡ true) same among }
    by false e h rest =
        let r = rest h in
        let up : suc x ≤ k = r.low_up in
        let low_x : low ≤ x = least in
        record { first = x; is_first = refl; up = omega (arith, up); low_up = omega (arith, up, low_x); known = r.known }

-- what all of a list have, each of them has
of_all : (p : ℕ → Bool) (xs : List ℕ) (k : ℕ) → list_all p xs ≡ true → list_any (λ j. j == k) xs ≡ true → p k ≡ true
of_all p [] k h a = absurd (false≢true a)
of_all p (x ∷ xs) k h a = by (x == k) refl a (λ c. of_all p xs k (second_of_both (p x) _ h) c)
  where
    by : (b : Bool) → (x == k) ≡ b → (b || list_any (λ j. j == k) xs) ≡ true → (list_any (λ j. j == k) xs ≡ true → p k ≡ true) → p k ≡ true
    by true e a rest = subst (λ y. p y ≡ true) (same_number x k e) (first_of_both (p x) _ h)
    by false e a rest = rest a

first_there : (xs : List ℕ) (k : ℕ) → first_of xs ≡ Some k → list_any (λ r. r == k) xs ≡ true
first_there [] k h = absurd (none-some k h)
first_there (x ∷ xs) k h = by (some_is x k h)
  where
    some_is : (a b : ℕ) → Some a ≡ Some b → a ≡ b
    some_is a b e = ap (λ o. value o) e
      where
        value : Option ℕ → ℕ
        value None = 0
        value (Some y) = y

    by : x ≡ k → ((x == k) || list_any (λ r. r == k) xs) ≡ true
    by e = subst (λ y. ((x == y) || list_any (λ r. r == y) xs) ≡ true) e (ap (λ b. b || list_any (λ r. r == x) xs) (number_itself x))

none_there : (xs : List ℕ) (k : ℕ) → first_of xs ≡ None → list_any (λ r. r == k) xs ≡ false
none_there [] k h = refl
none_there (x ∷ xs) k h = absurd (none-some x (sym h))

-- ---- names in their order

abbrev IsRising : List Name → Type 0
IsRising = IsStrictlySortedBy name_cmp

order_is : (ns : List Name) → is_sorted name_cmp (map (λ m. (m, true)) (in_name_order ns)) ≡ true
order_is [] = refl
order_is (n ∷ ns) = tested name_cmp (map (λ m. (m, true)) (in_name_order (n ∷ ns)))
    (subst IsRising (sym (keys-of-pairs (in_name_order (n ∷ ns)))) (rising name_cmp _ (sorted_insert name_cmp nat_list_cmp_total n true (map (λ m. (m, true)) (in_name_order ns)) (order_is ns))))

below_any : (x n : Name) (ns : List Name) → below_all name_cmp x (map (λ m. (m, true)) ns) ≡ true → list_any (same_name n) ns ≡ true → is_lt (name_cmp x n) ≡ true
below_any x n [] h a = absurd (false≢true a)
below_any x n (m ∷ ns) h a = by (same_name n m) refl a (λ c. below_any x n ns (second_of_both (is_lt (name_cmp x m)) _ h) c)
  where
    by : (b : Bool) → same_name n m ≡ b → (b || list_any (same_name n) ns) ≡ true → (list_any (same_name n) ns ≡ true → is_lt (name_cmp x n) ≡ true) → is_lt (name_cmp x n) ≡ true
    by true e a rest = subst (λ y. is_lt (name_cmp x y) ≡ true) (sym (same n m e)) (first_of_both _ _ h)
    by false e a rest = rest a

-- the least that passes a test is the first of those in order that do
least_first : (test : Name → Bool) (n : Name) (ns : List Name) → is_sorted name_cmp (map (λ m. (m, true)) ns) ≡ true → test n ≡ true → list_any (same_name n) ns ≡ true
    → ((m : Name) → test m ≡ true → is_lt (name_cmp m n) ≡ false) → first_of (filter test ns) ≡ Some n
least_first test n [] s t a least = absurd (false≢true a)
least_first test n (x ∷ ns) s t a least = by (test x) refl (same_name n x) refl a (λ c. least_first test n ns (second_of_both (below_all name_cmp x (map (λ m. (m, true)) ns)) _ s) t c least)
  where
    by : (b : Bool) → test x ≡ b → (c : Bool) → same_name n x ≡ c → (c || list_any (same_name n) ns) ≡ true → (list_any (same_name n) ns ≡ true → first_of (filter test ns) ≡ Some n)
        → first_of (cond b (x ∷ filter test ns) (filter test ns)) ≡ Some n
    by true e true k a rest = ap Some (sym (same n x k))
    by true e false k a rest = absurd (false≢true (sym (least x e) ∙ below_any x n ns (first_of_both _ _ s) a))
    by false e true k a rest = absurd (false≢true (sym e ∙ (ap test (sym (same n x k)) ∙ t)))
    by false e false k a rest = rest a

none_left : (test : Name → Bool) (ns : List Name) → ((m : Name) → test m ≡ false) → filter test ns ≡ []
none_left test [] h = refl
none_left test (x ∷ ns) h = ap (λ b. cond b (x ∷ filter test ns) (filter test ns)) (h x) ∙ none_left test ns h

-- ---- breaks in their order

break_total : IsTotalOrder break_cmp
break_total = then_total (on_total (λ (b : Break). b.rule) nat_cmp_total) (on_total (λ (b : Break). b.item) nat_list_cmp_total)

not_before_itself : (b : Break) → is_lt (break_cmp b b) ≡ false
not_before_itself b = ap is_lt (tied_itself break_total b)

before_both : (a b c : Break) → is_lt (break_cmp a b) ≡ true → is_lt (break_cmp b c) ≡ true → is_lt (break_cmp a c) ≡ true
before_both a b c h k = ap is_lt (break_total.trans a b c (less_of _ h) (less_of _ k))

before_by_rule : (a b : Break) → a.rule < b.rule → is_lt (break_cmp a b) ≡ true
before_by_rule a b h = ap (λ o. is_lt (ordering_then o (name_cmp a.item b.item))) (sym (nat_cmp_is a.rule b.rule Less h))

by_item : (b : Break) (n : Name) → is_lt (break_cmp (record { rule = b.rule; item = n }) b) ≡ is_lt (name_cmp n b.item)
by_item b n = ap (λ o. is_lt (ordering_then o (name_cmp n b.item))) (tied_itself nat_cmp_total b.rule)

module _ (rule_of : Name → Option ℕ) where
  -- no rule and item of these come before the break
  abbrev IsFirstAmong : List Name → Option Break → Type 0
  IsFirstAmong ns None = (n : Name) → list_any (same_name n) ns ≡ true → rule_of n ≡ None
  IsFirstAmong ns (Some b) = (rule_of b.item ≡ Some b.rule) × ((n : Name) (rule : ℕ) → list_any (same_name n) ns ≡ true → rule_of n ≡ Some rule → is_lt (break_cmp (record { rule = rule; item = n }) b) ≡ false)

  -- a name of a longer list is one of the former, or the new one
  or_last : (P : Type 0) (m n : Name) (ns : List Name) → list_any (same_name m) (ns ++ n ∷ []) ≡ true → (list_any (same_name m) ns ≡ true → P) → (m ≡ n → P) → P
  or_last P m n ns h old new = by (list_any (same_name m) ns) refl (same_name m n) refl (sym (list_any-append (same_name m) ns (n ∷ [])) ∙ h)
    where
      by : (b : Bool) → list_any (same_name m) ns ≡ b → (c : Bool) → same_name m n ≡ c → (b || (c || false)) ≡ true → P
      by true e c k a = old e
      by false e true k a = new (same m n k)
      by false e false k a = absurd (false≢true a)

  value_of : (a b : ℕ) → Some a ≡ Some b → a ≡ b
  value_of a b e = ap value e
    where
      value : Option ℕ → ℕ
      value None = 0
      value (Some y) = y

  among_step : (ns : List Name) (n : Name) (o : Option Break) → IsFirstAmong ns o → IsFirstAmong (ns ++ n ∷ []) (earlier o (rule_of n) n)
  among_step ns n o h = by o h (rule_of n) refl
    where
      own : (x : ℕ) (e : rule_of n ≡ Some x) (m : Name) (rule : ℕ) → m ≡ n → rule_of m ≡ Some rule → (b : Break) → is_lt (break_cmp (record { rule = x; item = n }) b) ≡ false
          → is_lt (break_cmp (record { rule = rule; item = m }) b) ≡ false
      own x e m rule s k b f = subst (λ (q : Name). is_lt (break_cmp (record { rule = rule; item = q }) b) ≡ false) (sym s)
          (subst (λ (r : ℕ). is_lt (break_cmp (record { rule = r; item = n }) b) ≡ false) (value_of x rule (sym e ∙ (ap rule_of (sym s) ∙ k))) f)

      chosen : (b : Break) → IsFirstAmong ns (Some b) → (x : ℕ) → rule_of n ≡ Some x → (c : Bool) → is_lt (break_cmp (record { rule = x; item = n }) b) ≡ c
          → IsFirstAmong (ns ++ n ∷ []) (cond c (Some (record { rule = x; item = n })) (Some b))
      chosen b h x e true l = (
        e,
        λ m rule a k. or_last _ m n ns a
            (λ i. behind (record { rule = rule; item = m }) (is_lt (break_cmp (record { rule = rule; item = m }) (record { rule = x; item = n }))) refl (h.1 m rule i k))
            (λ s. own x e m rule s k (record { rule = x; item = n }) (not_before_itself (record { rule = x; item = n }))),
      )
        where
          behind : (a : Break) (c : Bool) → is_lt (break_cmp a (record { rule = x; item = n })) ≡ c → is_lt (break_cmp a b) ≡ false → c ≡ false
          behind a true q f = absurd (false≢true (sym f ∙ before_both a (record { rule = x; item = n }) b q l))
          behind a false q f = refl
      chosen b h x e false l = (h.0, λ m rule a k. or_last _ m n ns a (λ i. h.1 m rule i k) (λ s. own x e m rule s k b l))

      by : (o : Option Break) → IsFirstAmong ns o → (r : Option ℕ) → rule_of n ≡ r → IsFirstAmong (ns ++ n ∷ []) (earlier o r n)
      by None h None e = λ m a. or_last _ m n ns a (h m) (λ s. ap rule_of s ∙ e)
      by (Some b) h None e = (h.0, λ m rule a k. or_last _ m n ns a (λ i. h.1 m rule i k) (λ s. absurd (none-some rule (sym e ∙ (ap rule_of (sym s) ∙ k)))))
      by None h (Some x) e = (
        e,
        λ m rule a k. or_last _ m n ns a (λ i. absurd (none-some rule (sym (h m i) ∙ k)))
            (λ s. own x e m rule s k (record { rule = x; item = n }) (not_before_itself (record { rule = x; item = n }))),
      )
      by (Some b) h (Some x) e = chosen b h x e (is_lt (break_cmp (record { rule = x; item = n }) b)) refl

  among_all : (done ns : List Name) (o : Option Break) → IsFirstAmong done o → IsFirstAmong (done ++ ns) (fold (λ b n. earlier b (rule_of n) n) o ns)
  among_all done [] o h = subst (λ ds. IsFirstAmong ds o) (sym (append-nil done)) h
  among_all done (n ∷ ns) o h = subst (λ ds. IsFirstAmong ds (fold (λ b n. earlier b (rule_of n) n) (earlier o (rule_of n) n) ns)) (append_assoc done (n ∷ []) ns)
      (among_all (done ++ n ∷ []) ns (earlier o (rule_of n) n) (among_step done n o h))

  -- the first break at names beside which no rule fails
  pub first_everywhere : (ns : List Name) → ((n : Name) → list_any (same_name n) ns ≡ false → rule_of n ≡ None) → IsFirstBreak rule_of (first_break rule_of ns)
  first_everywhere ns apart = by (first_break rule_of ns) (among_all [] ns None (λ n h. absurd (false≢true h)))
    where
      among : (n : Name) (b : Bool) → list_any (same_name n) ns ≡ b → (o : Option ℕ) → rule_of n ≡ o → (x : ℕ) → o ≡ Some x → list_any (same_name n) ns ≡ true
      among n true e o k x s = e
      among n false e o k x s = absurd (none-some x (sym (apart n e) ∙ (k ∙ s)))

      by : (o : Option Break) → IsFirstAmong ns o → IsFirstBreak rule_of o
      by None h = λ n. nothing n (list_any (same_name n) ns) refl h
        where
          nothing : (n : Name) (b : Bool) → list_any (same_name n) ns ≡ b → IsFirstAmong ns None → rule_of n ≡ None
          nothing n true e h = h n e
          nothing n false e h = apart n e
      by (Some b) h = (h.0, λ n rule k. h.1 n rule (among n (list_any (same_name n) ns) refl (rule_of n) refl rule k) k)

-- ---- at a node

violations_in : {Y : Type 0} (v : ℕ → Name → Y) (F : ℕ → List Name) (ks : List ℕ) (r : ℕ) (n : Name) (low : ℕ) (others : List ℕ) → are_within low others ks ≡ true
    → list_any (λ k. k == r) ks ≡ true → first_of (F r) ≡ Some n → ((k : ℕ) → k < r → F k ≡ []) → first_of (flat_map (λ k. map (v k) (F k)) ks) ≡ Some (v r n)
violations_in v F [] r n low others w a f h = absurd (false≢true a)
violations_in {Y} v F (k ∷ ks) r n low others w a f h = by (k == r) refl a (λ c. violations_in v F ks r n (suc k) others (second_of_both _ _ (second_of_both (nat_le low k) _ w)) c f h)
  where
    rest : are_within (suc k) others ks ≡ true
    rest = second_of_both (list_any (λ j. j == k) others) (are_within (suc k) others ks) (second_of_both (nat_le low k) (list_any (λ j. j == k) others && are_within (suc k) others ks) w)

    first_seen : (xs : List Name) (g : Name → Y) (ys : List Y) → first_of xs ≡ Some n → first_of (map g xs ++ ys) ≡ Some (g n)
    first_seen [] g ys e = absurd (none-some n e)
    first_seen (x ∷ xs) g ys e = ap (λ o. option_map g o) e

    by : (b : Bool) → (k == r) ≡ b → (b || list_any (λ k. k == r) ks) ≡ true → (list_any (λ k. k == r) ks ≡ true → first_of (flat_map (λ k. map (v k) (F k)) ks) ≡ Some (v r n))
        → first_of (map (v k) (F k) ++ flat_map (λ k. map (v k) (F k)) ks) ≡ Some (v r n)
    by true e a more = let s : k ≡ r = same_number k r e in
        first_seen (F k) (v k) _ (ap (λ j. first_of (F j)) s ∙ f) ∙ ap (λ j. Some (v j n)) s
    by false e a more =
        let up : suc k ≤ r = (placed (suc k) others ks r rest a).low_up in
        let less : k < r = omega (arith, up) in
        ap (λ xs. first_of (map (v k) xs ++ flat_map (λ k. map (v k) (F k)) ks)) (h k less) ∙ more a

no_violations : {Y : Type 0} (v : ℕ → Name → Y) (F : ℕ → List Name) (ks : List ℕ) → ((k : ℕ) → F k ≡ []) → flat_map (λ k. map (v k) (F k)) ks ≡ []
no_violations v F [] h = refl
no_violations v F (k ∷ ks) h = ap (λ xs. map (v k) xs ++ flat_map (λ k. map (v k) (F k)) ks) (h k) ∙ no_violations v F ks h

module _ (asked : Name → Bool) (types : List TypeDef) (t : Nodes) (p : Path) where
  abbrev own : Name → List ℕ
  own n = property_faults types (node_types t p) n (property_at t p n)

  abbrev below : Name → List ℕ
  below n = faults_among asked types t p n

  abbrev told : ℕ → Name → Violation
  told rule n = record { node = p; rule = rule; item = n }

  abbrev ds : List TypeDef
  ds = types_of types (node_types t p)

  abbrev all_rules : List ℕ
  all_rules = 1 ∷ 2 ∷ 3 ∷ 4 ∷ 5 ∷ 6 ∷ 7 ∷ 8 ∷ 9 ∷ []

  own_within : (n : Name) → are_within 1 of_properties (own n) ≡ true
  own_within n = let o = property_at t p n in six_within (same_name n primary_type && not (is_primary_type types o)) (same_name n mixin_types && not (are_mixins types o))
      (is_undefined ds n o) (is_misfit ds n o) (is_outside ds n o) (is_missing (mandatory_props ds) n o)

  below_within : (n : Name) → are_within 7 of_children (below n) ≡ true
  below_within n = by (asked n)
    where
      by : (b : Bool) → are_within 7 of_children (cond b (child_faults types (node_types t p) n (child_at t p n)) []) ≡ true
      by true = let o = child_at t p n in three_within (is_stray ds n o) (is_of_no_type types ds n o) (is_missing (mandatory_children ds) n o)
      by false = refl

  below_apart : (n : Name) → list_any (same_name n) (child_names types t p) ≡ false → below n ≡ []
  below_apart n e = by (asked n)
    where
      by : (b : Bool) → cond b (child_faults types (node_types t p) n (child_at t p n)) [] ≡ []
      by true = child_apart types t p n e
      by false = refl

  abbrev own_at : ℕ → List Name
  own_at k = filter (λ n. list_any (λ r. r == k) (own n)) (property_names types t p)

  abbrev below_at : ℕ → List Name
  below_at k = filter (λ n. list_any (λ r. r == k) (below n)) (child_names types t p)

  module _ (rules : Name → List ℕ) (low : ℕ) (others : List ℕ) (within : (n : Name) → are_within low others (rules n) ≡ true) (b : Break) (first : IsFirstBreak (λ n. first_of (rules n)) (Some b)) where
    none_before : (k : ℕ) → k < b.rule → (n : Name) → list_any (λ r. r == k) (rules n) ≡ false
    none_before k l n = by (list_any (λ r. r == k) (rules n)) refl
      where
        by : (c : Bool) → list_any (λ r. r == k) (rules n) ≡ c → c ≡ false
        by false e = refl
        by true e =
            let s = placed low others (rules n) k (within n) e in
            let up : s.first ≤ k = s.up in
            let less : s.first < b.rule = omega (arith, up, l) in
            absurd (false≢true (sym (first.1 n s.first s.is_first) ∙ before_by_rule (record { rule = s.first; item = n }) b less))

    least_item : (n : Name) → list_any (λ r. r == b.rule) (rules n) ≡ true → is_lt (name_cmp n b.item) ≡ false
    least_item n e =
        let s = placed low others (rules n) b.rule (within n) e in
        let up : s.first ≤ b.rule = s.up in
        by s.first s.is_first up (cases_lt s.first b.rule)
      where
        by : (x : ℕ) → first_of (rules n) ≡ Some x → x ≤ b.rule → (x < b.rule) ⊎ (b.rule ≤ x) → is_lt (name_cmp n b.item) ≡ false
        by x f up (inl less) = absurd (false≢true (sym (first.1 n x f) ∙ before_by_rule (record { rule = x; item = n }) b less))
        by x f up (inr more) =
            let same : x ≡ b.rule = omega (arith, up, more) in
            sym (by_item b n) ∙ first.1 n b.rule (f ∙ ap Some same)

    pub known_rule : list_any (λ k. k == b.rule) others ≡ true
    known_rule = (placed low others (rules b.item) b.rule (within b.item) (first_there (rules b.item) b.rule first.0)).known

    -- the first of the names at which the rule fails
    item_first : (names : List Name) → ((n : Name) → list_any (same_name n) (in_name_order names) ≡ false → rules n ≡ [])
        → first_of (filter (λ n. list_any (λ r. r == b.rule) (rules n)) (in_name_order names)) ≡ Some b.item
    item_first names apart = least_first (λ n. list_any (λ r. r == b.rule) (rules n)) b.item (in_name_order names) (order_is names) (first_there (rules b.item) b.rule first.0)
        (by (list_any (same_name b.item) (in_name_order names)) refl) least_item
      where
        by : (c : Bool) → list_any (same_name b.item) (in_name_order names) ≡ c → c ≡ true
        by true e = refl
        by false e = absurd (none-some b.rule (sym (ap first_of (apart b.item e)) ∙ first.0))

  all_less : list_all (λ k. nat_lt k 7) of_properties ≡ true
  all_less = refl

  no_rules : (rules : Name → List ℕ) → IsFirstBreak (λ n. first_of (rules n)) None → (k : ℕ) (names : List Name) → filter (λ n. list_any (λ r. r == k) (rules n)) names ≡ []
  no_rules rules h k names = none_left (λ n. list_any (λ r. r == k) (rules n)) names (λ n. none_there (rules n) k (h n))

  -- a rule of properties comes before those of children
  no_child_before : (k : ℕ) → k < 7 → below_at k ≡ []
  no_child_before k l = none_left (λ n. list_any (λ r. r == k) (below n)) (child_names types t p) (λ n. by n (list_any (λ r. r == k) (below n)) refl)
    where
      by : (n : Name) (c : Bool) → list_any (λ r. r == k) (below n) ≡ c → c ≡ false
      by n false e = refl
      by n true e =
          let up : 7 ≤ k = (placed 7 of_children (below n) k (below_within n) e).low_up in
          absurd (contradiction up l)
        where
          contradiction : 7 ≤ k → k < 7 → ⊥
          contradiction a b = omega (arith, a, b)

  pub first_of_properties : (b : Break) → IsFirstBreak (λ n. first_of (own n)) (Some b) → first_of (violations_among asked types t p) ≡ Some (told b.rule b.item)
  first_of_properties b h =
      let known = known_rule own 1 of_properties own_within b h in
      let less : b.rule < 7 = ltb-true b.rule 7 (of_all (λ k. nat_lt k 7) of_properties b.rule refl known) in
      violations_in told (λ k. own_at k ++ below_at k) all_rules b.rule b.item 1 all_rules refl
      (list_any-append (λ k. k == b.rule) of_properties of_children ∙ ap (λ c. c || list_any (λ k. k == b.rule) of_children) known)
      (ap (λ xs. first_of (own_at b.rule ++ xs)) (no_child_before b.rule less) ∙ (ap first_of (append-nil (own_at b.rule)) ∙ item_first own 1 of_properties own_within b h (primary_type ∷ mixin_types ∷ map (λ e. e.0) (properties_at t p) ++ mandatory_props ds) (λ n e. property_apart types t p n e)))
      (λ k l. let m : k < 7 = omega (arith, l, less) in
      ap (λ xs. xs ++ below_at k) (none_left (λ n. list_any (λ r. r == k) (own n)) (property_names types t p) (none_before own 1 of_properties own_within b h k l)) ∙ no_child_before k m)

  pub first_of_children : (b : Break) → IsFirstBreak (λ n. first_of (own n)) None → IsFirstBreak (λ n. first_of (below n)) (Some b) → first_of (violations_among asked types t p) ≡ Some (told b.rule b.item)
  first_of_children b g h =
      let known = known_rule below 7 of_children below_within b h in
      violations_in told (λ k. own_at k ++ below_at k) all_rules b.rule b.item 1 all_rules refl
      (list_any-append (λ k. k == b.rule) of_properties of_children ∙ or_right (list_any (λ k. k == b.rule) of_properties) _ known)
      (ap (λ xs. first_of (xs ++ below_at b.rule)) (no_rules own g b.rule (property_names types t p)) ∙ item_first below 7 of_children below_within b h (children_of t p ++ mandatory_children ds) (λ n e. below_apart n e))
      (λ k l. ap (λ xs. xs ++ below_at k) (no_rules own g k (property_names types t p))
      ∙ none_left (λ n. list_any (λ r. r == k) (below n)) (child_names types t p) (none_before below 7 of_children below_within b h k l))
    where
      or_right : (a b : Bool) → b ≡ true → (a || b) ≡ true
      or_right true b h = refl
      or_right false b h = h

  pub none_at : IsFirstBreak (λ n. first_of (own n)) None → IsFirstBreak (λ n. first_of (below n)) None → violations_among asked types t p ≡ []
  none_at g h = no_violations told (λ k. own_at k ++ below_at k) all_rules
      (λ k. ap (λ xs. xs ++ below_at k) (no_rules own g k (property_names types t p)) ∙ no_rules below h k (child_names types t p))
