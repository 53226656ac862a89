-- The last write of each item, by a set of the items that later writes have.
use Rattle.std.proofs.Common.{◌≡◌, ℕ, ◌+◌, ◌-◌, ◌<◌, ◌≤◌, Bool, true, false, cond, ◌&&◌, ◌||◌, not, List, [], ◌∷◌, ◌++◌, length, get_or, map, reverse, drop, refl, sym, ap, ◌∙◌, arith}
use Rattle.std.specs.declared.cmp.Ordering.{Ordering}
use Rattle.std.specs.declared.cmp.Ordering.TheVariants.{Less, Equal, Greater}
use Rattle.std.specs.Ordering.{is_eq, eq_by_cmp, ordering_then}
use Rattle.std.specs.List.{list_any}
use Rattle.std.specs.BTreeSet.{BTreeSet, contains, Updates}
use Rattle.std.specs.Cmp.{IsTotalOrder, on_total, then_total}
use Rattle.std.specs.Cmp.Lexicographic.{options_total}
use Rattle.std.proofs.lemmas.Cmp.{nat_list_cmp_total, eq_by_cmp_equiv}
use Rattle.std.proofs.lemmas.List.{reverse-append, map-append, drop_more, drop_all}
use Rattle.jr_path.specs.Names.{name_cmp, path_cmp}
use Rattle.jr_path.specs.declared.path.Item.{Item}
use Rattle.jr_path.proofs.Maps.{path_total}
use Rattle.jr_tree.specs.declared.edit.Write.{Write}
use Rattle.jr_tree.specs.declared.edit.Write.TheVariants.{Here, Gone, Put, Unset}
use Rattle.jr_tree.specs.Edits.{is_same_item, item_of, item_cmp, last_writes}

pub item_total : IsTotalOrder item_cmp
item_total = then_total (on_total (λ (i : Item). i.path) path_total) (on_total (λ (i : Item). i.name) (options_total nat_list_cmp_total))

pub none_tied : (o : Ordering) → is_eq o ≡ is_eq (ordering_then o Equal)
none_tied Less = refl
none_tied Equal = refl
none_tied Greater = refl

pub both_tied : (o r : Ordering) → (is_eq o && is_eq r) ≡ is_eq (ordering_then o r)
both_tied Less r = refl
both_tied Equal r = refl
both_tied Greater r = refl

pub apart_less : (o : Ordering) → false ≡ is_eq (ordering_then o Less)
apart_less Less = refl
apart_less Equal = refl
apart_less Greater = refl

pub apart_greater : (o : Ordering) → false ≡ is_eq (ordering_then o Greater)
apart_greater Less = refl
apart_greater Equal = refl
apart_greater Greater = refl

-- writes of one item are those whose items are equal
pub same_is : (w v : Write) → is_same_item w v ≡ eq_by_cmp item_cmp (item_of w) (item_of v)
same_is (Here p) (Here q) = none_tied (path_cmp p q)
same_is (Here p) (Gone q) = none_tied (path_cmp p q)
same_is (Gone p) (Here q) = none_tied (path_cmp p q)
same_is (Gone p) (Gone q) = none_tied (path_cmp p q)
same_is (Here p) (Put q m y) = apart_less (path_cmp p q)
same_is (Here p) (Unset q m) = apart_less (path_cmp p q)
same_is (Gone p) (Put q m y) = apart_less (path_cmp p q)
same_is (Gone p) (Unset q m) = apart_less (path_cmp p q)
same_is (Put p n x) (Here q) = apart_greater (path_cmp p q)
same_is (Put p n x) (Gone q) = apart_greater (path_cmp p q)
same_is (Unset p n) (Here q) = apart_greater (path_cmp p q)
same_is (Unset p n) (Gone q) = apart_greater (path_cmp p q)
same_is (Put p n x) (Put q m y) = both_tied (path_cmp p q) (name_cmp n m)
same_is (Put p n x) (Unset q m) = both_tied (path_cmp p q) (name_cmp n m)
same_is (Unset p n) (Put q m y) = both_tied (path_cmp p q) (name_cmp n m)
same_is (Unset p n) (Unset q m) = both_tied (path_cmp p q) (name_cmp n m)

-- an item is among those of some writes
abbrev pub is_written : List Write → Item → Bool
is_written ws i = list_any (λ w. eq_by_cmp item_cmp (item_of w) i) ws

pub written_again : (w : Write) (ws : List Write) → list_any (is_same_item w) ws ≡ is_written ws (item_of w)
written_again w [] = refl
written_again w (v ∷ ws) = λ i. (same_is w v ∙ (eq_by_cmp_equiv item_total).symm (item_of w) (item_of v)) i || written_again w ws i

-- the writes from a place on were read from the last to the first
pub record IsRead (ws last : List Write) (seen : BTreeSet Item) : Type 0 where
  pub last_are : reverse last ≡ last_writes ws
  pub seen_are : (i : Item) → contains item_cmp seen i ≡ is_written ws i

seen_more : (ws : List Write) (w : Write) (item : Item) (seen seen' : BTreeSet Item) → ((i : Item) → contains item_cmp seen i ≡ is_written ws i) → item ≡ item_of w → Updates item_cmp seen seen' item true → (i : Item) → contains item_cmp seen' i ≡ is_written (w ∷ ws) i
seen_more ws w item seen seen' before same new i =
    new.0 i ∙ (ap (λ (k : Item). cond (eq_by_cmp item_cmp k i) true (contains item_cmp seen i)) same
    ∙ (seen_by (eq_by_cmp item_cmp (item_of w) i) (contains item_cmp seen i) ∙ ap (λ b. eq_by_cmp item_cmp (item_of w) i || b) (before i)))
  where
    seen_by : (b c : Bool) → cond b true c ≡ (b || c)
    seen_by true c = refl
    seen_by false c = refl

again : (ws : List Write) (w : Write) (item : Item) (seen : BTreeSet Item) (added : Bool) → ((i : Item) → contains item_cmp seen i ≡ is_written ws i) → item ≡ item_of w → added ≡ not (contains item_cmp seen item) → list_any (is_same_item w) ws ≡ not added
again ws w item seen added before same told =
    written_again w ws ∙ (sym (before (item_of w)) ∙ (ap (contains item_cmp seen) (sym same) ∙ (twice (contains item_cmp seen item) ∙ ap not (sym told))))
  where
    twice : (b : Bool) → b ≡ not (not b)
    twice true = refl
    twice false = refl

-- a write whose item no later write has
pub read_kept : (ws ws' last last' : List Write) (seen seen' : BTreeSet Item) (w : Write) (item : Item) (added : Bool) → IsRead ws last seen → ws' ≡ w ∷ ws → item ≡ item_of w → added ≡ not (contains item_cmp seen item)
    → Updates item_cmp seen seen' item true → added ≡ true → last' ≡ last ++ w ∷ [] → IsRead ws' last' seen'
read_kept ws ws' last last' seen seen' w item added before first same told new is pushed =
    rw (first, pushed) (record {
      last_are = reverse-append last (w ∷ []) ∙ (ap (λ (us : List Write). w ∷ us) before.last_are ∙ ap (λ b. cond b (last_writes ws) (w ∷ last_writes ws)) (sym (again ws w item seen added before.seen_are same told ∙ ap not is)));
      seen_are = seen_more ws w item seen seen' before.seen_are same new;
    })

-- a write whose item a later write has
pub read_passed : (ws ws' last : List Write) (seen seen' : BTreeSet Item) (w : Write) (item : Item) (added : Bool) → IsRead ws last seen → ws' ≡ w ∷ ws → item ≡ item_of w → added ≡ not (contains item_cmp seen item)
    → Updates item_cmp seen seen' item true → added ≡ false → IsRead ws' last seen'
read_passed ws ws' last seen seen' w item added before first same told new is =
    rw first (record {
      last_are = before.last_are ∙ ap (λ b. cond b (last_writes ws) (w ∷ last_writes ws)) (sym (again ws w item seen added before.seen_are same told ∙ ap not is));
      seen_are = seen_more ws w item seen seen' before.seen_are same new;
    })

pub dropped : (writes ws : List Write) (k : ℕ) (w : Write) → writes ≡ ws → 0 < k → k ≤ length writes → w ≡ get_or writes (k - 1) w → drop (k - 1) ws ≡ w ∷ drop k ws
dropped writes ws k w all some within is =
    let below : k - 1 < length writes = omega arith in
    let next : k - 1 + 1 ≡ k = omega arith in
    rw (← all) (drop_more writes (k - 1) w below ∙ (ap (λ v. v ∷ drop (k - 1 + 1) writes) (sym is) ∙ ap (λ n. w ∷ drop n writes) next))

pub read_none : (writes ws last : List Write) (seen : BTreeSet Item) (k : ℕ) → k ≡ length writes → writes ≡ ws → last ≡ [] → seen.keys ≡ [] → IsRead (drop k ws) last seen
read_none writes ws last seen k long all none empty =
    let end : drop k ws ≡ [] = ap (λ n. drop n ws) (long ∙ ap length all) ∙ drop_all (length ws) ws (omega arith) in
    rw (end, none) (record { last_are = refl; seen_are = λ i. ap (λ ks. list_any (eq_by_cmp item_cmp i) ks) empty })

map-reverse : {A : Type 0} (f : A → Write) (xs : List A) → map f (reverse xs) ≡ reverse (map f xs)
map-reverse f [] = refl
map-reverse f (x ∷ xs) =
    ap (map f) (reverse-append (x ∷ []) xs)
    ∙ (map-append f (reverse xs) (x ∷ [])
    ∙ (ap (λ (ys : List Write). ys ++ f x ∷ []) (map-reverse f xs) ∙ sym (reverse-append (f x ∷ []) (map f xs))))

-- all were read
pub read_all : {A : Type 0} (f : A → Write) (ws : List Write) (last turned : List A) (seen : BTreeSet Item) (k : ℕ) → IsRead (drop k ws) (map f last) seen → k ≡ 0 → turned ≡ reverse last → map f turned ≡ last_writes ws
read_all f ws last turned seen k whole none turns = ap (map f) turns ∙ (map-reverse f last ∙ (whole.last_are ∙ ap (λ n. last_writes (drop n ws)) none))
