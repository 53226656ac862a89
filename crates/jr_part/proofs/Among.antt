-- The children of a node are gone over one after another: nothing lacks below those before, and what lacks first below one lacks first of all.
use Rattle.std.proofs.Common.{◌≡◌, ◌⊎◌, inl, inr, ℕ, ◌+◌, ◌<◌, ◌≤◌, Bool, true, false, cond, ◌||◌, Some, None, Option, [], ◌∷◌, ◌++◌, length, take, drop, get_or, is_some, refl, sym, ap, ◌∙◌, subst, append_assoc}
use Rattle.std.specs.declared.cmp.Ordering.TheVariants.{Less}
use Rattle.std.specs.Ordering.{eq_by_cmp, is_le}
use Rattle.std.specs.Map.{lookup}
use Rattle.std.specs.BTreeMap.{is_at}
use Rattle.std.specs.FinMap.{is_sorted}
use Rattle.std.specs.FinMap.Entries.{below_all}
use Rattle.std.proofs.lemmas.Cmp.{eq_by_cmp_equiv, nat_list_cmp_total}
use Rattle.std.proofs.lemmas.List.{take_more, take_all, take-append-drop}
use mathlib.Core.Bool.{false≢true}
use Rattle.jr_path.specs.Names.{name_cmp}
use Rattle.jr_path.specs.declared.name.Name.{Name}
use Rattle.jr_path.specs.declared.path.Path.{Path}
use Rattle.jr_path.proofs.Maps.{name_exact}
use Rattle.jr_rev.specs.declared.revision.Revision.{Revision}
use Rattle.basics.proofs.Orders.{less_of as is_less}
use Rattle.jr_tree.proofs.Entries.{exactly, first, second}
use Rattle.jr_part.specs.declared.need.Need.{Need}
use Rattle.jr_part.specs.declared.need.Need.TheVariants as need
use Rattle.jr_part.specs.Parts.{AsksBelow, IsFirstLacking, Knowledge, Lacks, LacksNothing, ChildNames, knows, list_at, need_cmp, has_name}
use Rattle.jr_part.proofs.Ways.{AsksChild, There, asks_below, below_asks, lists_from, nothing_among, there_known}
use Rattle.jr_part.proofs.Order.{apart}

-- ---- names in lists

or_parts : (a b : Bool) → (a || b) ≡ true → (a ≡ true) ⊎ (b ≡ true)
or_parts true b h = inl refl
or_parts false b h = inr h

or_left : (a b : Bool) → a ≡ true → (a || b) ≡ true
or_left true b h = refl
or_left false b h = absurd (false≢true h)

or_right : (a b : Bool) → b ≡ true → (a || b) ≡ true
or_right true b h = refl
or_right false b h = h

has_append : (n : Name) (xs ys : ChildNames) → has_name (xs ++ ys) n ≡ (has_name xs n || has_name ys n)
has_append n [] ys = refl
has_append n (x ∷ xs) ys = by (eq_by_cmp name_cmp n x.0) (has_append n xs ys)
  where
    by : (b : Bool) → has_name (xs ++ ys) n ≡ (has_name xs n || has_name ys n)
        → is_some (cond b (Some x.1) (lookup (is_at (name_cmp n)) (xs ++ ys))) ≡ (is_some (cond b (Some x.1) (lookup (is_at (name_cmp n)) xs)) || has_name ys n)
    by true rest = refl
    by false rest = rest

has_one : (n : Name) (x : Name × Option Revision) → has_name (x ∷ []) n ≡ true → n ≡ x.0
has_one n x h = name_exact n x.0 (exactly _ (by (eq_by_cmp name_cmp n x.0) h))
  where
    by : (b : Bool) → is_some (cond b (Some x.1) None) ≡ true → b ≡ true
    by true k = refl
    by false k = absurd (false≢true k)

one_has : (x : Name × Option Revision) → has_name (x ∷ []) x.0 ≡ true
one_has x = ap (λ b. is_some (cond b (Some x.1) None)) ((eq_by_cmp_equiv nat_list_cmp_total).refl x.0)

has_above : (n x : Name) (ys : ChildNames) → below_all name_cmp x ys ≡ true → has_name ys n ≡ true → name_cmp x n ≡ Less
has_above n x [] above h = absurd (false≢true h)
has_above n x (y ∷ ys) above h = by (eq_by_cmp name_cmp n y.0) refl h (has_above n x ys (second _ _ above))
  where
    by : (b : Bool) → eq_by_cmp name_cmp n y.0 ≡ b → is_some (cond b (Some y.1) (lookup (is_at (name_cmp n)) ys)) ≡ true → (has_name ys n ≡ true → name_cmp x n ≡ Less) → name_cmp x n ≡ Less
    by true same k rest = ap (name_cmp x) (name_exact n y.0 (exactly _ same)) ∙ is_less _ (first _ _ above)
    by false same k rest = rest k

sorted_behind : (xs : ChildNames) (x : Name × Option Revision) (ys : ChildNames) → is_sorted name_cmp (xs ++ x ∷ ys) ≡ true → below_all name_cmp x.0 ys ≡ true
sorted_behind [] x ys h = first _ _ h
sorted_behind (z ∷ xs) x ys h = sorted_behind xs x ys (second _ _ h)

-- ---- the first names of a list

-- nothing lacks below the children of the first names
abbrev pub Fine : Knowledge → Path → ChildNames → ℕ → Type 0
Fine k p xs i = (n : Name) → has_name (take i xs) n ≡ true → LacksNothing k (need.Subtree (p ++ n ∷ []))

module _ (k : Knowledge) (p : Path) (xs : ChildNames) where
  pub fine_begins : (i : ℕ) → i ≡ 0 → Fine k p xs i
  fine_begins i none = λ n h. absurd (false≢true (ap (λ j. has_name (take j xs) n) (sym none) ∙ h))

  pub fine_all : (i : ℕ) → length xs ≤ i → There k p → list_at k p ≡ Some xs → Fine k p xs i → LacksNothing k (need.Subtree p)
  fine_all i end there is fine = nothing_among k p xs there is (λ n h. fine n (ap (λ ns. has_name ns n) (take_all i xs end) ∙ h))

  module _ (i : ℕ) (x : Name × Option Revision) (below : i < length xs) (at : x ≡ get_or xs i x) (fine : Fine k p xs i) where
    more : take (i + 1) xs ≡ take i xs ++ x ∷ []
    more = take_more xs i x below ∙ ap (λ y. take i xs ++ y ∷ []) (sym at)

    pub fine_more : (child : Path) → child ≡ p ++ x.0 ∷ [] → LacksNothing k (need.Subtree child) → Fine k p xs (i + 1)
    fine_more child is nothing = λ n h. by n (or_parts _ _ (sym (has_append n (take i xs) (x ∷ [])) ∙ (ap (λ ns. has_name ns n) (sym more) ∙ h)))
      where
        by : (n : Name) → (has_name (take i xs) n ≡ true) ⊎ (has_name (x ∷ []) n ≡ true) → LacksNothing k (need.Subtree (p ++ n ∷ []))
        by n (inl h) = fine n h
        by n (inr h) = subst (λ (q : Path). LacksNothing k (need.Subtree q)) (is ∙ ap (λ m. p ++ m ∷ []) (sym (has_one n x h))) nothing

    whole : take i xs ++ x ∷ drop (i + 1) xs ≡ xs
    whole = sym (append_assoc (take i xs) (x ∷ []) (drop (i + 1) xs)) ∙ (ap (λ (f : ChildNames). f ++ drop (i + 1) xs) (sym more) ∙ take-append-drop (i + 1) xs)

    module _ (sorted : is_sorted name_cmp xs ≡ true) (there : There k p) (is : list_at k p ≡ Some xs) where
      place : (n : Name) → has_name xs n ≡ true → (has_name (take i xs) n ≡ true) ⊎ ((n ≡ x.0) ⊎ (name_cmp x.0 n ≡ Less))
      place n h = by (or_parts _ _ (sym (has_append n (take i xs) (x ∷ drop (i + 1) xs)) ∙ (ap (λ ns. has_name ns n) whole ∙ h)))
        where
          rest : (has_name (x ∷ []) n ≡ true) ⊎ (has_name (drop (i + 1) xs) n ≡ true) → (n ≡ x.0) ⊎ (name_cmp x.0 n ≡ Less)
          rest (inl h) = inl (has_one n x h)
          rest (inr h) = inr (has_above n x.0 (drop (i + 1) xs) (sorted_behind (take i xs) x (drop (i + 1) xs) (ap (is_sorted name_cmp) whole ∙ sorted)) h)

          by : (has_name (take i xs) n ≡ true) ⊎ (has_name (x ∷ drop (i + 1) xs) n ≡ true) → (has_name (take i xs) n ≡ true) ⊎ ((n ≡ x.0) ⊎ (name_cmp x.0 n ≡ Less))
          by (inl h) = inl h
          by (inr h) = inr (rest (or_parts _ _ (sym (has_append n (x ∷ []) (drop (i + 1) xs)) ∙ h)))

      own : has_name xs x.0 ≡ true
      own =
          ap (λ ns. has_name ns x.0) (sym whole)
          ∙ (has_append x.0 (take i xs) (x ∷ drop (i + 1) xs)
          ∙ or_right (has_name (take i xs) x.0) _ (has_append x.0 (x ∷ []) (drop (i + 1) xs) ∙ or_left _ (has_name (drop (i + 1) xs) x.0) (one_has x)))

      pub fine_stops : (child : Path) (lacking : Need) → child ≡ p ++ x.0 ∷ [] → IsFirstLacking k (need.Subtree child) lacking → IsFirstLacking k (need.Subtree p) lacking
      fine_stops child lacking child_is of_child = record {
        asked = asks_below k p x.0 lacking there (lists_from k p xs x.0 is ∙ own) here.asked;
        unknown = here.unknown;
        first = λ m a not. by m (below_asks k p m a) not;
      }
        where
          here : IsFirstLacking k (need.Subtree (p ++ x.0 ∷ [])) lacking
          here = subst (λ (q : Path). IsFirstLacking k (need.Subtree q) lacking) child_is of_child

          among : (m : Need) (n : Name) → AsksBelow k (p ++ n ∷ []) m → (has_name (take i xs) n ≡ true) ⊎ ((n ≡ x.0) ⊎ (name_cmp x.0 n ≡ Less)) → knows k m ≡ false → is_le (need_cmp lacking m) ≡ true
          among m n a (inl h) not = absurd (false≢true (sym not ∙ fine n h m a))
          among m n a (inr (inl e)) not = here.first m (subst (λ (y : Name). AsksBelow k (p ++ y ∷ []) m) e a) not
          among m n a (inr (inr less)) not = apart k p x.0 n lacking m here.asked a less

          by : (m : Need) → (m ≡ need.Node p) ⊎ (((m ≡ need.Children p) × There k p) ⊎ AsksChild k p m) → knows k m ≡ false → is_le (need_cmp lacking m) ≡ true
          by m (inl e) not = absurd (false≢true (sym not ∙ (ap (knows k) e ∙ ap is_some (there_known k p there))))
          by m (inr (inl e)) not = absurd (false≢true (sym not ∙ (ap (knows k) e.0 ∙ ap is_some is)))
          by m (inr (inr r)) not = among m r.0 r.3 (place r.0 (sym (lists_from k p xs r.0 is) ∙ r.2)) not

      -- what the call for the child answered
      pub some_lacks : (child : Path) (answer : Option Need) → child ≡ p ++ x.0 ∷ [] → is_some answer ≡ true → Lacks k (need.Subtree child) answer → Lacks k (need.Subtree p) answer
      some_lacks child None is some lacks = absurd (false≢true some)
      some_lacks child (Some lacking) is some lacks = fine_stops child lacking is lacks

pub none_lacks : (k : Knowledge) (wanted : Need) (answer : Option Need) → is_some answer ≡ false → Lacks k wanted answer → LacksNothing k wanted
none_lacks k wanted None none lacks = lacks
none_lacks k wanted (Some lacking) none lacks = absurd (false≢true (sym none))
