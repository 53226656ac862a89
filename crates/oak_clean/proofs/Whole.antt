-- All documents of a store are collected: what is left, and what is counted.
use Rattle.std.proofs.Common.{◌≡◌, inr, ℕ, Bool, true, false, cond, ◌&&◌, List, [], ◌∷◌, None, Some, length, map, is_some, refl, sym, ap, ◌∙◌, subst, arith}
use Rattle.std.specs.Prelude.{◌+◌, ◌-◌, min, not, Contains, sum_by}
use Rattle.std.specs.List.{AllByRecursion}
use Rattle.std.specs.List.Sorted.{IsStrictlySortedBy}
use Rattle.std.specs.Map.{keys_of, lookup}
use Rattle.std.specs.BTreeMap.{is_at}
use Rattle.std.specs.Ordering.{eq_by_cmp, is_eq}
use Rattle.std.specs.declared.cmp.Ordering.TheVariants.{Less}
use Rattle.std.proofs.lemmas.Bool.{false≢true}
use Rattle.std.proofs.lemmas.List.Elements.{All-from_recursion, recursion_from_All}
use Rattle.std.proofs.lemmas.List.Sums.{sum_by-cons}
use Rattle.jr_path.proofs.Orders.{id_exact, id_total}
use Rattle.jr_path.specs.Ids.{id_cmp}
use Rattle.jr_path.specs.Names.{name_cmp}
use Rattle.jr_path.specs.declared.path.DocId.{DocId}
use Rattle.jr_path.specs.declared.path.DocId.TheVariants as id
use Rattle.jr_path.specs.declared.path.Path.{Path}
use Rattle.jr_rev.specs.declared.vector.Pin.{Pin}
use Rattle.jr_tree.proofs.Entries.{rising}
use Rattle.oak_doc.specs.declared.document.Document.{Document}
use Rattle.oak_gc.proofs.Ordered.{each_found}
use Rattle.oak_gc.proofs.Resting.{collects_by_the_least}
use Rattle.oak_gc.specs.Bounding.{those_that_tell}
use Rattle.oak_gc.specs.Bounds.{bound_of}
use Rattle.oak_gc.specs.Collecting.{nothing_collected, plus}
use Rattle.oak_gc.specs.Garbage.{has_garbage}
use Rattle.oak_gc.specs.Resting.{Emptied, collected_by, previous_listed, with_collected}
use Rattle.oak_read.proofs.Walking.{all_of, own_id, same_id}
use Rattle.oak_read.specs.Meaning.{path_of}
use Rattle.oak_read.specs.Reading.{IsTable}
use Rattle.oak_store.specs.Tables.{Table, found}
use Rattle.oak_clean.proofs.Entries.{all_two}
use Rattle.oak_clean.proofs.Nodes.{IsDone, node_done, plus_none}
use Rattle.oak_clean.proofs.Tables.{IsCollecting, last}
use Rattle.oak_clean.specs.Clean.{AreNamesInOrder, CollectorsEndClean, IsClean, IsCounted, IsSkipped, SeesSwept, SkipsWhatStays, after_collection, entries_gone, has_last_number}

abbrev Entries : Type 0
Entries = List (DocId × Document)

-- no document of these is that of an id
abbrev IsNone : DocId → Entries → Type 0
IsNone x es = AllByRecursion (λ (e : DocId × Document). e.0 ≡ x → ⊥) es

none_below : (x : DocId) (es : Entries) → AllByRecursion (λ y. id_cmp x y ≡ Less) (keys_of es) → IsNone x es
none_below x [] h = tt
none_below x (e ∷ es) h = (λ same. apart (subst (λ y. id_cmp x y ≡ Less) same h.0), none_below x es h.1)
  where
    apart : id_cmp x x ≡ Less → ⊥
    apart less = false≢true (sym (ap is_eq less) ∙ own_id x)

none_found : (x : DocId) (es : Entries) → IsNone x es → lookup (is_at (id_cmp x)) es ≡ None
none_found x [] h = refl
none_found x (e ∷ es) h = by (eq_by_cmp id_cmp x e.0) refl (none_found x es h.1)
  where
    by : (b : Bool) → eq_by_cmp id_cmp x e.0 ≡ b → lookup (is_at (id_cmp x)) es ≡ None → cond b (Some e.1) (lookup (is_at (id_cmp x)) es) ≡ None
    by true is rest = absurd (h.0 (sym (same_id x e.0 is)))
    by false is rest = rest

-- what is so at each of these and where there is none is so
one_or_none : (p : Path) (C : Path → Type 0) (es : Entries) → AllByRecursion (λ (e : DocId × Document). (q : Path) → e.0 ≡ id.Node q → C q) es → (IsNone (id.Node p) es → C p) → C p
one_or_none p C [] h none = none tt
one_or_none p C (e ∷ es) h none = by (eq_by_cmp id_cmp e.0 (id.Node p)) refl (one_or_none p C es h.1)
  where
    by : (b : Bool) → eq_by_cmp id_cmp e.0 (id.Node p) ≡ b → ((IsNone (id.Node p) es → C p) → C p) → C p
    by true is rest = h.0 p (same_id e.0 (id.Node p) is)
    by false is rest = rest (λ more. none (λ same. false≢true (sym is ∙ subst (λ (x : DocId). eq_by_cmp id_cmp e.0 x ≡ true) same (own_id e.0)), more))

none_more : (n : ℕ) → n ≡ 0 + n
none_more n = omega arith

plus_twice : (a b c : ℕ) → plus (plus a b) c ≡ plus a (b + c)
plus_twice a b c = omega arith

module _ (old : Table) (bound : Pin) where
  -- the documents that are left are those of the store before, and nodes' are still there
  abbrev IsComing : Emptied → DocId × Document → Type 0
  IsComing o e = (e.1.id ≡ e.0) × (found old e.0 ≡ Some e.1) × ((p : Path) → e.0 ≡ id.Node p → found o.store (id.Node p) ≡ Some e.1)

  -- garbage is left at a node only where its document has the last number, and was skipped
  abbrev IsLeftAt : Emptied → Path → Type 0
  IsLeftAt out p = (e : Document) → found out.store (id.Node p) ≡ Some e → has_garbage bound.base bound.sweep (found out.store) e ≡ true
      → (has_last_number e ≡ true) × Contains out.collected.skipped (id.Node p, e.mod_count, e.mod_count)

  record IsWalked (es : Entries) (o out : Emptied) : Type 0 where
    collecting : IsCollecting old out
    others : (p : Path) → IsNone (id.Node p) es → (found out.store (id.Node p) ≡ found o.store (id.Node p)) × ((k : ℕ) → found out.store (id.Prev k p) ≡ found o.store (id.Prev k p))
    entries : out.collected.entries ≡ plus o.collected.entries (sum_by (entries_gone bound out.store) es)
    skipped : (s : DocId × ℕ × ℕ) → Contains o.collected.skipped s → Contains out.collected.skipped s
    clean : SeesSwept bound → AreNamesInOrder old → AllByRecursion (λ (e : DocId × Document). (p : Path) → e.0 ≡ id.Node p → IsLeftAt out p) es

  -- a document of no node is passed over
  passed_over : (e : DocId × Document) (es : Entries) (o out : Emptied) → ((p : Path) → e.0 ≡ id.Node p → ⊥) → entries_gone bound out.store e ≡ 0 → IsWalked es o out → IsWalked (e ∷ es) o out
  passed_over e es o out other none is = record {
    collecting = is.collecting;
    others = λ p off. is.others p off.1;
    entries = is.entries ∙ ap (plus o.collected.entries) (sym (sum_by-cons (entries_gone bound out.store) e es ∙ ap (λ n. n + sum_by (entries_gone bound out.store) es) none ∙ sym (none_more (sum_by (entries_gone bound out.store) es))));
    skipped = is.skipped;
    clean = λ swept names. (λ p same. absurd (other p same), is.clean swept names);
  }

  walked : (es : Entries) → IsStrictlySortedBy id_cmp (keys_of es) → (o : Emptied) → IsCollecting old o → AllByRecursion (IsComing o) es → IsWalked es o (collected_by bound o es)
  unfolding IsStrictlySortedBy
  walked [] sorted o is coming = record {
    collecting = is;
    others = λ p off. (refl, λ k. refl);
    entries = plus_none o.collected.entries is.entries;
    skipped = λ s h. h;
    clean = λ swept names. tt;
  }
  walked ((id.Prev n p, d) ∷ es) sorted o is coming = passed_over (id.Prev n p, d) es o (collected_by bound o es) (λ q same. no_node q same) refl (walked es sorted.1 o is coming.1)
    where
      no_node : (q : Path) → id.Prev n p ≡ id.Node q → ⊥
      no_node q same = cc
  walked ((id.Settings, d) ∷ es) sorted o is coming = passed_over (id.Settings, d) es o (collected_by bound o es) (λ q same. no_node q same) refl (walked es sorted.1 o is coming.1)
    where
      no_node : (q : Path) → id.Settings ≡ id.Node q → ⊥
      no_node q same = cc
  walked ((id.Node q, d) ∷ es) sorted o is coming = by (walked es sorted.1 u done.collecting more_coming)
    where
      u : Emptied
      u = with_collected bound o q d (previous_listed (found o.store) q (map (λ l. l.number) d.prev) [])

      done : IsDone old bound q d coming.0.0 o u
      done = node_done old bound q d coming.0.0 o is (coming.0.2 q refl) coming.0.1

      apart : IsNone (id.Node q) es
      apart = none_below (id.Node q) es sorted.0

      no_previous : (p : Path) (k : ℕ) → id.Node p ≡ id.Prev k q → ⊥
      no_previous p k same = cc

      no_node : (p : Path) (k : ℕ) → id.Prev k p ≡ id.Node q → ⊥
      no_node p k same = cc

      more_coming : AllByRecursion (IsComing u) es
      more_coming = all_two (λ (e : DocId × Document). e.0 ≡ id.Node q → ⊥) (IsComing o) (IsComing u) (λ e off is. (is.0, is.1, λ p same. done.others (id.Node p) (no_previous p) (λ one. off (same ∙ one)) ∙ is.2 p same)) es apart coming.1

      by : IsWalked es u (collected_by bound u es) → IsWalked ((id.Node q, d) ∷ es) o (collected_by bound u es)
      by rest = record {
        collecting = rest.collecting;
        others = λ p off. let more = rest.others p off.1 in (
          more.0 ∙ done.others (id.Node p) (no_previous p) (λ same. off.0 (sym same)),
          λ k. more.1 k ∙ done.others (id.Prev k p) (λ j same. off.0 (ap (λ x. id.Node (path_of x)) (sym same))) (no_node p k),
        );
        entries =
            rest.entries
            ∙ ap (λ n. plus n (sum_by (entries_gone bound (collected_by bound u es).store) es)) (done.entries ∙ ap (λ f. plus o.collected.entries (cond (is_some f && not (has_last_number d)) (length (Rattle.oak_gc.specs.Garbage.garbage_in bound.base bound.sweep d)) 0)) (sym (rest.others q apart).0))
            ∙ plus_twice o.collected.entries (entries_gone bound (collected_by bound u es).store (id.Node q, d)) (sum_by (entries_gone bound (collected_by bound u es).store) es)
            ∙ ap (plus o.collected.entries) (sym (sum_by-cons (entries_gone bound (collected_by bound u es).store) (id.Node q, d) es));
        skipped = λ s h. rest.skipped s (done.skipped s h);
        clean = λ swept names. (λ p same. subst (IsLeftAt (collected_by bound u es)) (ap path_of same) (here swept names rest), rest.clean swept names);
      }
        where
          here : SeesSwept bound → AreNamesInOrder old → IsWalked es u (collected_by bound u es) → IsLeftAt (collected_by bound u es) q
          here swept names rest e at garbage =
              let stay = rest.others q apart in
              let left = done.clean (rising name_cmp d.props (names q d coming.0.1)) swept (collected_by bound u es).store stay.0 stay.1 e at garbage in
              (left.0, rest.skipped (id.Node q, e.mod_count, e.mod_count) left.1)

module _ (bound : Pin) (t : Table) (table : IsTable t.documents) where
  abbrev start : Emptied
  start = record { store = t; collected = nothing_collected }

  abbrev out : Emptied
  out = after_collection bound t

  starts : IsCollecting t start
  starts = record {
    sorted = table.ordered;
    previous = λ k p. inr refl;
    stays = λ x d at lasts. at;
    skipped = tt;
    gone = 0;
    fewer = none_more (length t.documents);
    documents = omega arith;
    entries = omega arith;
  }

  all_coming : AllByRecursion (IsComing t bound start) t.documents
  all_coming = all_two (λ (e : DocId × Document). e.1.id ≡ e.0) (λ (e : DocId × Document). lookup (is_at (id_cmp e.0)) t.documents ≡ Some e.1) (IsComing t bound start)
      (λ e named at. (named, at, λ p same. subst (λ (x : DocId). found t x ≡ Some e.1) same at)) t.documents
      (recursion_from_All (λ (e : DocId × Document). e.1.id ≡ e.0) t.documents table.named) (each_found id_cmp id_total id_exact t.documents table.ordered)

  all_walked : IsWalked t bound t.documents start out
  all_walked = walked t bound t.documents table.ordered start starts all_coming

  left_at : SeesSwept bound → AreNamesInOrder t → (p : Path) → IsLeftAt t bound out p
  left_at swept names p = one_or_none p (IsLeftAt t bound out) t.documents (all_walked.clean swept names) (λ none e at garbage. absurd (gone none e at))
    where
      gone : IsNone (id.Node p) t.documents → (e : Document) → found out.store (id.Node p) ≡ Some e → ⊥
      gone none e at = false≢true (ap is_some (sym ((all_walked.others p none).0 ∙ none_found (id.Node p) t.documents none) ∙ at))

  pub leaves_clean : SeesSwept bound → AreNamesInOrder t → IsClean bound out.store
  leaves_clean swept names p d at other = by (has_garbage bound.base bound.sweep (found out.store) d) refl
    where
      by : (b : Bool) → has_garbage bound.base bound.sweep (found out.store) d ≡ b → b ≡ false
      by false is = refl
      by true is = absurd (false≢true (sym other ∙ (left_at swept names p d at is).0))

  pub skips_what_stays : SeesSwept bound → AreNamesInOrder t → SkipsWhatStays bound out
  skips_what_stays swept names p d at garbage = (left_at swept names p d at garbage).1

  pub counts_what_goes : IsCounted bound t out
  counts_what_goes = record {
    documents = all_walked.collecting.documents ∙ ap (λ n. min n last) (left_over all_walked.collecting.gone (length out.store.documents) (length t.documents) all_walked.collecting.fewer);
    entries = all_walked.entries ∙ none_before (sum_by (entries_gone bound out.store) t.documents);
    skipped = All-from_recursion (IsSkipped t out.store) out.collected.skipped
        (all_of (λ s. (d : Document) × (found t s.0 ≡ Some d) × (has_last_number d ≡ true) × (s.1 ≡ d.mod_count) × (s.2 ≡ d.mod_count)) (IsSkipped t out.store)
        (λ s was. record { document = was.0; before = was.1; stays = all_walked.collecting.stays s.0 was.0 was.1 was.2; last = was.2; read = was.3; met = was.4 }) out.collected.skipped all_walked.collecting.skipped);
  }
    where
      left_over : (gone now before : ℕ) → before ≡ gone + now → gone ≡ before - now
      left_over gone now before is = omega (arith, is)

      none_before : (n : ℕ) → plus 0 n ≡ min n last
      none_before n = omega arith

pub collectors_end : CollectorsEndClean
collectors_end told t a root settings is_root is_settings swept table names =
    let bound : Pin = bound_of root (those_that_tell told) settings in
    let ends = collects_by_the_least told t a root settings table is_root is_settings in
    (ends.0, (ends.2, subst (IsClean bound) (sym ends.1) (leaves_clean bound t table swept names)))
