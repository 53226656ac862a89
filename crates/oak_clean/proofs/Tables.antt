-- A store while documents are removed, put and skipped, against the store as it was before.
use Rattle.std.proofs.Common.{◌≡◌, ◌⊎◌, inl, inr, ℕ, suc, Bool, true, false, cond, ◌&&◌, List, [], ◌∷◌, Option, None, Some, length, fold, refl, sym, ap, ◌∙◌, subst, arith}
use Rattle.std.specs.Prelude.{◌+◌, ◌-◌, ◌^◌, ◌≤◌, min, not, reverse, Contains}
use Rattle.std.specs.Option.{option_map_or}
use Rattle.std.specs.List.{AllByRecursion}
use Rattle.std.specs.List.Sorted.{IsStrictlySortedBy}
use Rattle.std.specs.Map.{keys_of, lookup, remove_entry, set_value}
use Rattle.std.specs.BTreeMap.{insert_entry, is_at}
use Rattle.std.specs.FinMap.{nat_cmp-IsAntisymmetric}
use Rattle.std.specs.Ordering.{eq_by_cmp, is_eq, match_ordering, nat_cmp}
use Rattle.std.specs.declared.cmp.Ordering.{Ordering}
use Rattle.std.specs.declared.cmp.Ordering.TheVariants.{Less, Equal, Greater}
use Rattle.std.proofs.lemmas.Bool.{false≢true}
use Rattle.std.proofs.lemmas.Cmp.{nat_cmp_total}
use Rattle.std.proofs.lemmas.Grind.{reverse_onto}
use Rattle.std.proofs.lemmas.List.Elements.{Contains-append_left}
use Rattle.basics.proofs.Bools.{number_itself}
use Rattle.basics.proofs.Orders.{equal_of}
use Rattle.jr_path.proofs.Maps.{lookup-insert_entry}
use Rattle.jr_path.proofs.Orders.{id_exact, id_total}
use Rattle.jr_path.specs.Ids.{id_cmp}
use Rattle.jr_path.specs.declared.path.DocId.{DocId}
use Rattle.jr_path.specs.declared.path.DocId.TheVariants as id
use Rattle.jr_path.specs.declared.path.Path.{Path}
use Rattle.oak_doc.proofs.Entries.{set_is_insert}
use Rattle.oak_doc.specs.declared.asks.RemoveOut.{RemoveOut}
use Rattle.oak_doc.specs.declared.asks.RemoveOut.TheVariants as removal
use Rattle.oak_doc.specs.declared.document.Document.{Document}
use Rattle.oak_gc.proofs.Ordered.{lookup_removed, sorted_put, sorted_removed}
use Rattle.oak_gc.specs.Collecting.{Previous, more_documents, more_entries, more_skips}
use Rattle.oak_gc.specs.Resting.{Emptied, previous_listed, removal_counted, without, without_previous}
use Rattle.oak_read.proofs.Walking.{all_both, same_id}
use Rattle.oak_read.specs.Meaning.{Documents}
use Rattle.oak_store.specs.Tables.{Table, after_removal, found, is_removable, removal_of, with_document}
use Rattle.oak_clean.specs.Clean.{has_last_number}

-- ---- lookups

pub other_id : (y x : DocId) → (y ≡ x → ⊥) → eq_by_cmp id_cmp y x ≡ false
other_id y x apart = by (eq_by_cmp id_cmp y x) refl
  where
    by : (b : Bool) → eq_by_cmp id_cmp y x ≡ b → b ≡ false
    by false is = refl
    by true is = absurd (apart (same_id y x is))

abbrev pub IsSortedTable : Table → Type 0
IsSortedTable t = IsStrictlySortedBy id_cmp (keys_of t.documents)

-- without the document of an id
abbrev pub removed_at : Table → DocId → Table
removed_at t x = record t { documents = remove_entry (is_at (id_cmp x)) t.documents }

pub found_removed : (t : Table) → IsSortedTable t → (x y : DocId) → found (removed_at t x) y ≡ cond (eq_by_cmp id_cmp y x) None (found t y)
found_removed t sorted x y = lookup_removed id_cmp id_total id_exact x y t.documents sorted

pub found_put : (t : Table) (x : DocId) (d : Document) (n : ℕ) (y : DocId) → found (with_document t x d n) y ≡ cond (eq_by_cmp id_cmp y x) (Some d) (found t y)
found_put t x d n y = lookup-insert_entry id_cmp id_total y x d t.documents

length_removed : {K X : Type 0} (test : K → Bool) (es : List (K × X)) (v : X) → lookup test es ≡ Some v → length es ≡ suc (length (remove_entry test es))
length_removed test [] v h = cc
length_removed {K} {X} test (e ∷ es) v h = by (test e.0) h (length_removed test es v)
  where
    by : (b : Bool) → cond b (Some e.1) (lookup test es) ≡ Some v → (lookup test es ≡ Some v → length es ≡ suc (length (remove_entry test es))) → suc (length es) ≡ suc (length (cond b es (e ∷ remove_entry test es)))
    by true h' rest = refl
    by false h' rest = ap suc (rest h')

length_set : {K X : Type 0} (test : K → Bool) (es : List (K × X)) (v : X) → length (set_value test es v) ≡ length es
length_set test [] v = refl
length_set {K} {X} test (e ∷ es) v = by (test e.0) (length_set test es v)
  where
    by : (b : Bool) → length (set_value test es v) ≡ length es → length (cond b ((e.0, v) ∷ es) (e ∷ set_value test es v)) ≡ suc (length es)
    by true rest = refl
    by false rest = ap suc rest

length_put : (t : Table) → IsSortedTable t → (x : DocId) (d new : Document) → found t x ≡ Some d → length (insert_entry id_cmp t.documents x new) ≡ length t.documents
length_put t sorted x d new at = sym (ap length (set_is_insert id_cmp id_total t.documents x d new sorted at)) ∙ length_set (is_at (id_cmp x)) t.documents new

-- ---- a removal on the number that a document has

pub removal_none : (t : Table) (x : DocId) (n : ℕ) → found t x ≡ None → removal_of t x n ≡ removal.Absent
removal_none t x n none = ap (λ f. option_map_or (λ d. cond (is_removable d n) removal.Removed (removal.Changed d.mod_count)) f removal.Absent) none

pub removal_own : (t : Table) (x : DocId) (d : Document) → found t x ≡ Some d → removal_of t x d.mod_count ≡ cond (has_last_number d) (removal.Changed d.mod_count) removal.Removed
removal_own t x d at =
    ap (λ f. option_map_or (λ (g : Document). cond (is_removable g d.mod_count) removal.Removed (removal.Changed g.mod_count)) f removal.Absent) at
    ∙ ap (λ b. cond (b && not (has_last_number d)) removal.Removed (removal.Changed d.mod_count)) (number_itself d.mod_count)
    ∙ turned (has_last_number d)
  where
    turned : (b : Bool) → cond (not b) removal.Removed (removal.Changed d.mod_count) ≡ cond b (removal.Changed d.mod_count) removal.Removed
    turned true = refl
    turned false = refl

-- ---- numbers

abbrev pub last : ℕ
last = 2 ^ 64 - 1

counted_more : (n k : ℕ) → k ≡ min n last → min (k + 1) last ≡ min (suc n) last
counted_more n k is = omega (arith, is)

-- ---- a store against the one before

module _ (old : Table) where
  -- a skip of a document that had the last number
  abbrev pub WasLast : DocId × ℕ × ℕ → Type 0
  WasLast s = (d : Document) × (found old s.0 ≡ Some d) × (has_last_number d ≡ true) × (s.1 ≡ d.mod_count) × (s.2 ≡ d.mod_count)

  -- a store, and what is counted until then
  pub record IsCollecting (o : Emptied) : Type 0 where
    pub sorted : IsSortedTable o.store
    pub previous : (k : ℕ) (p : Path) → (found o.store (id.Prev k p) ≡ None) ⊎ (found o.store (id.Prev k p) ≡ found old (id.Prev k p))
    pub stays : (x : DocId) (d : Document) → found old x ≡ Some d → has_last_number d ≡ true → found o.store x ≡ Some d
    pub skipped : AllByRecursion WasLast o.collected.skipped
    pub gone : ℕ
    pub fewer : length old.documents ≡ gone + length o.store.documents
    pub documents : o.collected.documents ≡ min gone last
    pub entries : o.collected.entries ≤ last

  -- another document than one with the last number
  not_last : (o : Emptied) → IsCollecting o → (x : DocId) (d : Document) → found o.store x ≡ Some d → has_last_number d ≡ false → (y : DocId) (e : Document) → found old y ≡ Some e → has_last_number e ≡ true → y ≡ x → ⊥
  not_last o is x d at other y e was lasts same =
      let now : found o.store x ≡ Some e = subst (λ (x : DocId). found o.store x ≡ Some e) same (is.stays y e was lasts) in
      let one : d ≡ e = some d e (sym at ∙ now) in
      false≢true (sym other ∙ subst (λ (d : Document). has_last_number d ≡ true) (sym one) lasts)
    where
      some : (a b : Document) → ◌≡◌ {A = Option Document} (Some a) (Some b) → a ≡ b
      some a b h = cc

  pub one_removed : (o : Emptied) → IsCollecting o → (x : DocId) (d : Document) → found o.store x ≡ Some d → has_last_number d ≡ false → IsCollecting (record { store = removed_at o.store x; collected = more_documents o.collected })
  one_removed o is x d at other = record {
    sorted = sorted_removed id_cmp id_total id_exact x o.store.documents is.sorted;
    previous = λ k p. by (eq_by_cmp id_cmp (id.Prev k p) x) (found_removed o.store is.sorted x (id.Prev k p)) (is.previous k p);
    stays = λ y e was lasts. found_removed o.store is.sorted x y ∙ ap (λ b. cond b None (found o.store y)) (other_id y x (not_last o is x d at other y e was lasts)) ∙ is.stays y e was lasts;
    skipped = is.skipped;
    gone = suc is.gone;
    fewer = is.fewer ∙ ap (λ (n : ℕ). is.gone + n) (length_removed (is_at (id_cmp x)) o.store.documents d at) ∙ moved is.gone (length (removed_at o.store x).documents);
    documents = counted_more is.gone o.collected.documents is.documents;
    entries = is.entries;
  }
    where
      moved : (a b : ℕ) → a + suc b ≡ suc a + b
      moved a b = omega arith

      by : {f g h : Option Document} (b : Bool) → g ≡ cond b None f → (f ≡ None) ⊎ (f ≡ h) → (g ≡ None) ⊎ (g ≡ h)
      by true now is = inl now
      by false now (inl none) = inl (now ∙ none)
      by false now (inr same) = inr (now ∙ same)

  pub one_skipped : (o : Emptied) → IsCollecting o → (x : DocId) (d : Document) → found old x ≡ Some d → has_last_number d ≡ true → IsCollecting (record { store = o.store; collected = more_skips o.collected x d.mod_count d.mod_count })
  one_skipped o is x d was lasts = record {
    sorted = is.sorted;
    previous = is.previous;
    stays = is.stays;
    skipped = all_both WasLast o.collected.skipped ((x, d.mod_count, d.mod_count) ∷ []) is.skipped ((d, was, lasts, refl, refl), tt);
    gone = is.gone;
    fewer = is.fewer;
    documents = is.documents;
    entries = is.entries;
  }

  pub one_put : (o : Emptied) → IsCollecting o → (p : Path) (x : DocId) → x ≡ id.Node p → (d new : Document) (n c : ℕ) → found o.store x ≡ Some d → has_last_number d ≡ false → IsCollecting (record { store = with_document o.store x new n; collected = more_entries o.collected c })
  one_put o is p x node d new n c at other = record {
    sorted = sorted_put id_cmp id_total id_exact x new o.store.documents is.sorted;
    previous = λ k q. by (found_put o.store x new n (id.Prev k q) ∙ ap (λ b. cond b (Some new) (found o.store (id.Prev k q))) (other_id (id.Prev k q) x (λ e. none k q (e ∙ node)))) (is.previous k q);
    stays = λ y e was lasts. found_put o.store x new n y ∙ ap (λ b. cond b (Some new) (found o.store y)) (other_id y x (not_last o is x d at other y e was lasts)) ∙ is.stays y e was lasts;
    skipped = is.skipped;
    gone = is.gone;
    fewer = is.fewer ∙ ap (λ (n : ℕ). is.gone + n) (sym (length_put o.store is.sorted x d new at));
    documents = is.documents;
    entries = low (o.collected.entries + c);
  }
    where
      none : (k : ℕ) (q : Path) → id.Prev k q ≡ id.Node p → ⊥
      none k q e = cc

      low : (k : ℕ) → min k last ≤ last
      low k = omega arith

      by : {f g h : Option Document} → g ≡ f → (f ≡ None) ⊎ (f ≡ h) → (g ≡ None) ⊎ (g ≡ h)
      by now (inl none) = inl (now ∙ none)
      by now (inr same) = inr (now ∙ same)

  -- ---- previous documents are removed

  -- a removal answered so
  abbrev answered : Emptied → DocId → ℕ → RemoveOut → Emptied
  answered o x n r = record { store = after_removal o.store x r; collected = removal_counted o.collected x n r }

  one_without : (o : Emptied) → IsCollecting o → (k : ℕ) (q : Path) (d : Document) → found old (id.Prev k q) ≡ Some d → IsCollecting (without o (id.Prev k q) d.mod_count)
  one_without o is k q d was = by (is.previous k q)
    where
      x : DocId
      x = id.Prev k q

      there : found o.store x ≡ Some d → (b : Bool) → has_last_number d ≡ b → IsCollecting (answered o x d.mod_count (cond b (removal.Changed d.mod_count) removal.Removed))
      there at true lasts = one_skipped o is x d was lasts
      there at false other = one_removed o is x d at other

      by : (found o.store x ≡ None) ⊎ (found o.store x ≡ found old x) → IsCollecting (without o x d.mod_count)
      by (inl none) = subst (λ r. IsCollecting (answered o x d.mod_count r)) (sym (removal_none o.store x d.mod_count none)) is
      by (inr same) = subst (λ r. IsCollecting (answered o x d.mod_count r)) (sym (removal_own o.store x d (same ∙ was))) (there (same ∙ was) (has_last_number d) refl)

-- what removals of previous documents of a node leave
pub record IsBeside (q : Path) (o u : Emptied) : Type 0 where
  pub others : (y : DocId) → ((k : ℕ) → y ≡ id.Prev k q → ⊥) → found u.store y ≡ found o.store y
  pub previous : (k : ℕ) → (found u.store (id.Prev k q) ≡ None) ⊎ (found u.store (id.Prev k q) ≡ found o.store (id.Prev k q))
  pub entries : u.collected.entries ≡ o.collected.entries
  pub skipped : (s : DocId × ℕ × ℕ) → Contains o.collected.skipped s → Contains u.collected.skipped s

beside_itself : (q : Path) (o : Emptied) → IsBeside q o o
beside_itself q o = record { others = λ y off. refl; previous = λ k. inr refl; entries = refl; skipped = λ s h. h }

then_beside : (q : Path) (o u v : Emptied) → IsBeside q o u → IsBeside q u v → IsBeside q o v
then_beside q o u v b c = record {
  others = λ y off. c.others y off ∙ b.others y off;
  previous = λ k. by (b.previous k) (c.previous k);
  entries = c.entries ∙ b.entries;
  skipped = λ s h. c.skipped s (b.skipped s h);
}
  where
    by : {f g h : Option Document} → (g ≡ None) ⊎ (g ≡ f) → (h ≡ None) ⊎ (h ≡ g) → (h ≡ None) ⊎ (h ≡ f)
    by first (inl none) = inl none
    by (inl none) (inr same) = inl (same ∙ none)
    by (inr one) (inr same) = inr (same ∙ one)

one_beside : (q : Path) (o : Emptied) → IsSortedTable o.store → (k n : ℕ) → IsBeside q o (without o (id.Prev k q) n)
one_beside q o sorted k n = by (removal_of o.store (id.Prev k q) n)
  where
    x : DocId
    x = id.Prev k q

    gone : {f g : Option Document} (b : Bool) → g ≡ cond b None f → (g ≡ None) ⊎ (g ≡ f)
    gone true now = inl now
    gone false now = inr now

    by : (r : RemoveOut) → IsBeside q o (record { store = after_removal o.store (id.Prev k q) r; collected = removal_counted o.collected (id.Prev k q) n r })
    by removal.Removed = record {
      others = λ y off. found_removed o.store sorted (id.Prev k q) y ∙ ap (λ b. cond b None (found o.store y)) (other_id y (id.Prev k q) (off k));
      previous = λ j. gone (eq_by_cmp id_cmp (id.Prev j q) (id.Prev k q)) (found_removed o.store sorted (id.Prev k q) (id.Prev j q));
      entries = refl;
      skipped = λ s h. h;
    }
    by (removal.Changed m) = record { others = λ y off. refl; previous = λ j. inr refl; entries = refl; skipped = λ s h. Contains-append_left o.collected.skipped ((id.Prev k q, n, m) ∷ []) s h }
    by removal.Absent = beside_itself q o

-- they were found so before
abbrev pub WereThere : Table → Path → Previous → Type 0
WereThere old q es = AllByRecursion (λ (e : ℕ × Document). found old (id.Prev e.0 q) ≡ Some e.1) es

some_without : (old : Table) (q : Path) (es : Previous) (o : Emptied) → IsCollecting old o → WereThere old q es
    → IsCollecting old (fold (λ o e. without o (id.Prev e.0 q) e.1.mod_count) o es) × IsBeside q o (fold (λ o e. without o (id.Prev e.0 q) e.1.mod_count) o es)
some_without old q [] o is were = (is, beside_itself q o)
some_without old q (e ∷ es) o is were =
    let one = one_without old o is e.0 q e.1 were.0 in
    let more = some_without old q es (without o (id.Prev e.0 q) e.1.mod_count) one were.1 in
    (more.0, then_beside q o (without o (id.Prev e.0 q) e.1.mod_count) _ (one_beside q o is.sorted e.0 e.1.mod_count) more.1)

all_reversed : {X : Type 0} (P : X → Type 0) (xs : List X) → AllByRecursion P xs → AllByRecursion P (reverse xs)
all_reversed P [] h = tt
all_reversed P (x ∷ xs) h = subst (AllByRecursion P) (sym (reverse_onto xs x [])) (all_both P (reverse xs) (x ∷ []) (all_reversed P xs h.1) (h.0, tt))

pub all_without : (old : Table) (q : Path) (es : Previous) (o : Emptied) → IsCollecting old o → WereThere old q es → IsCollecting old (without_previous q o es) × IsBeside q o (without_previous q o es)
all_without old q es o is were = some_without old q (reverse es) o is (all_reversed (λ (e : ℕ × Document). found old (id.Prev e.0 q) ≡ Some e.1) es were)

-- ---- the previous documents that a document lists

module _ (ds : Documents) (p : Path) where
  abbrev Found : ℕ × Document → Type 0
  Found e = ds (id.Prev e.0 p) ≡ Some e.1

  found_more : (n : ℕ) (d : Document) → ds (id.Prev n p) ≡ Some d → (es : Previous) → AllByRecursion Found es → AllByRecursion Found (insert_entry nat_cmp es n d)
  found_more n d at [] h = (at, tt)
  found_more n d at (e ∷ es) h = by (nat_cmp n e.0) refl (found_more n d at es h.1)
    where
      by : (c : Ordering) → nat_cmp n e.0 ≡ c → AllByRecursion Found (insert_entry nat_cmp es n d) → AllByRecursion Found (match_ordering c ((n, d) ∷ e ∷ es) ((e.0, d) ∷ es) (e ∷ insert_entry nat_cmp es n d))
      by Less is rest = (at, h)
      by Equal is rest = (subst (λ (k : ℕ). ds (id.Prev k p) ≡ Some d) (nat_cmp-IsAntisymmetric n e.0 is) at, h.1)
      by Greater is rest = (h.0, rest)

  -- with the previous document of a number, if it is there
  abbrev more : Previous → ℕ → Previous
  more es n = option_map_or (insert_entry nat_cmp es n) (ds (id.Prev n p)) es

  found_with : (n : ℕ) (es : Previous) → AllByRecursion Found es → AllByRecursion Found (more es n)
  found_with n es h = by (ds (id.Prev n p)) refl
    where
      by : (o : Option Document) → ds (id.Prev n p) ≡ o → AllByRecursion Found (option_map_or (insert_entry nat_cmp es n) o es)
      by None at = h
      by (Some d) at = found_more n d at es h

  pub listed_there : (ns : List ℕ) (es : Previous) → AllByRecursion Found es → AllByRecursion Found (previous_listed ds p ns es)
  listed_there [] es h = h
  listed_there (n ∷ ns) es h = listed_there ns (more es n) (found_with n es h)

  -- the one of a number is the one that is there, or none
  right_number : (k : ℕ) (es : Previous) → AllByRecursion Found es → (lookup (is_at (nat_cmp k)) es ≡ None) ⊎ (lookup (is_at (nat_cmp k)) es ≡ ds (id.Prev k p))
  right_number k [] h = inl refl
  right_number k (e ∷ es) h = by (is_eq (nat_cmp k e.0)) refl (right_number k es h.1)
    where
      by : (b : Bool) → is_eq (nat_cmp k e.0) ≡ b → (lookup (is_at (nat_cmp k)) es ≡ None) ⊎ (lookup (is_at (nat_cmp k)) es ≡ ds (id.Prev k p))
          → (cond b (Some e.1) (lookup (is_at (nat_cmp k)) es) ≡ None) ⊎ (cond b (Some e.1) (lookup (is_at (nat_cmp k)) es) ≡ ds (id.Prev k p))
      by true is rest = inr (sym (ap (λ (k : ℕ). ds (id.Prev k p)) (nat_cmp-IsAntisymmetric k e.0 (equal_of (nat_cmp k e.0) is)) ∙ h.0))
      by false is rest = rest

  abbrev IsAt : ℕ → Previous → Type 0
  IsAt k es = lookup (is_at (nat_cmp k)) es ≡ ds (id.Prev k p)

  stays_at : (k n : ℕ) (es : Previous) → IsAt k es → IsAt k (more es n)
  stays_at k n es at = by (ds (id.Prev n p)) refl
    where
      put : (d : Document) → ds (id.Prev n p) ≡ Some d → (b : Bool) → eq_by_cmp nat_cmp k n ≡ b → cond b (Some d) (lookup (is_at (nat_cmp k)) es) ≡ ds (id.Prev k p)
      put d there true is = sym (ap (λ (k : ℕ). ds (id.Prev k p)) (nat_cmp-IsAntisymmetric k n (equal_of (nat_cmp k n) is)) ∙ there)
      put d there false is = at

      by : (o : Option Document) → ds (id.Prev n p) ≡ o → lookup (is_at (nat_cmp k)) (option_map_or (insert_entry nat_cmp es n) o es) ≡ ds (id.Prev k p)
      by None there = at
      by (Some d) there = lookup-insert_entry nat_cmp nat_cmp_total k n d es ∙ put d there (eq_by_cmp nat_cmp k n) refl

  all_stay : (k : ℕ) (ns : List ℕ) (es : Previous) → IsAt k es → IsAt k (previous_listed ds p ns es)
  all_stay k [] es at = at
  all_stay k (n ∷ ns) es at = all_stay k ns (more es n) (stays_at k n es at)

  comes : (n : ℕ) (es : Previous) → AllByRecursion Found es → IsAt n (more es n)
  comes n es h = by (ds (id.Prev n p)) refl (right_number n es h)
    where
      by : (o : Option Document) → ds (id.Prev n p) ≡ o → (lookup (is_at (nat_cmp n)) es ≡ None) ⊎ IsAt n es → lookup (is_at (nat_cmp n)) (option_map_or (insert_entry nat_cmp es n) o es) ≡ ds (id.Prev n p)
      by None there (inl none) = none ∙ sym there
      by None there (inr same) = same
      by (Some d) there is = lookup-insert_entry nat_cmp nat_cmp_total n n d es ∙ ap (λ b. cond b (Some d) (lookup (is_at (nat_cmp n)) es)) (ap is_eq (Rattle.std.proofs.lemmas.Cmp.tied_itself nat_cmp_total n)) ∙ sym there

  pub each_listed : (ns : List ℕ) (es : Previous) → AllByRecursion Found es → AllByRecursion (λ n. IsAt n (previous_listed ds p ns es)) ns
  each_listed [] es h = tt
  each_listed (n ∷ ns) es h = (all_stay n ns (more es n) (comes n es h), each_listed ns (more es n) (found_with n es h))
