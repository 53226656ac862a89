-- What moves, entry by entry, and as the definition of a split has it.
use Rattle.std.proofs.Common.{◌≡◌, ℕ, zero, suc, ◌-◌, Bool, true, false, List, [], ◌∷◌, ◌++◌, Option, None, Some, length, map, fold, refl, sym, ap, ◌∙◌, arith}
use Rattle.std.specs.Prelude.{is_some, slice_get}
use Rattle.std.specs.BTreeMap.{insert_entry, is_at}
use Rattle.std.specs.List.{filter, flat_map, list_any}
use Rattle.std.specs.Map.{keys_of, lookup}
use Rattle.std.proofs.lemmas.List.{length-map, map-append}
use Rattle.std.proofs.lemmas.List.Folds.{fold-map}
use Rattle.std.proofs.lemmas.Map.Made.{is_some-lookup}
use Rattle.std.specs.Option.{option_map}
use Rattle.jr_path.specs.declared.name.Name.{Name}
use Rattle.jr_path.specs.declared.path.Path.{Path}
use Rattle.jr_path.specs.declared.path.DocId.{DocId}
use Rattle.jr_path.specs.declared.path.DocId.TheVariants.{Prev}
use Rattle.jr_value.specs.declared.value.Property.{Property}
use Rattle.jr_rev.specs.declared.revision.Revision.{Revision}
use Rattle.jr_rev.specs.declared.vector.Pin.{Pin}
use Rattle.jr_rev.specs.Revisions.{revision_cmp, is_same}
use Rattle.oak_doc.specs.declared.document.Document.{Document}
use Rattle.oak_doc.specs.declared.document.PrevEntry.{PrevEntry}
use Rattle.oak_doc.specs.declared.update.Change.{Change}
use Rattle.oak_doc.specs.declared.update.Change.TheVariants as change
use Rattle.oak_doc.specs.declared.update.Cond.TheVariants.{Missing, Unchanged}
use Rattle.oak_doc.specs.declared.update.EntryKey.{EntryKey}
use Rattle.oak_doc.specs.declared.update.UpdateOp.{UpdateOp}
use Rattle.oak_doc.specs.Updates.{Props}
use Rattle.oak_read.specs.Meaning.{Documents, path_of}
use Rattle.oak_prev.specs.Moving.{Entry, writing_change, entries_of, entry_of, entry_key, listing_entry, moved_entries, revisions_of, root_depths}
use Rattle.oak_prev.specs.declared.moving.Moved.{Moved}
use Rattle.oak_prev.specs.Splits.{entry_from, has_values, listed_as, main_write, moved_count, moved_keys, moved_props, moved_revisions, moved_roots, older_values, previous_write}

abbrev Values : Type 0
Values = List (Revision × Option Property)

-- what is made of the entries of a property
one_by_one : {Y : Type 0} (g : Entry → Y) (n : Name) (es : Values) → map g (entries_of n es) ≡ map (λ e. g (n, e.0, e.1)) es
one_by_one g n [] = refl
one_by_one g n (e ∷ es) = ap (λ ys. g (n, e.0, e.1) ∷ ys) (one_by_one g n es)

-- what is made of each entry, property by property, those that have none left out
pub each_entry : {Y : Type 0} (g : Entry → Y) (f : Values → Values) (ps : Props)
    → map g (flat_map (λ p. entries_of p.0 (f p.1)) ps) ≡ flat_map (λ p. map (λ e. g (p.0, e.0, e.1)) p.1) (filter has_values (map (λ p. (p.0, f p.1)) ps))
each_entry g f [] = refl
each_entry {Y} g f (p ∷ ps) = map-append g (entries_of p.0 (f p.1)) (flat_map (λ p. entries_of p.0 (f p.1)) ps) ∙ by (f p.1) (each_entry g f ps)
  where
    by : (es : Values) → map g (flat_map (λ p. entries_of p.0 (f p.1)) ps) ≡ flat_map (λ p. map (λ e. g (p.0, e.0, e.1)) p.1) (filter has_values (map (λ p. (p.0, f p.1)) ps))
        → map g (entries_of p.0 es) ++ map g (flat_map (λ p. entries_of p.0 (f p.1)) ps)
        ≡ flat_map (λ p. map (λ e. g (p.0, e.0, e.1)) p.1) (filter has_values ((p.0, es) ∷ map (λ p. (p.0, f p.1)) ps))
    by [] rest = rest
    by (e ∷ es) rest = ap (λ ys. ys ++ map g (flat_map (λ p. entries_of p.0 (f p.1)) ps)) (one_by_one g p.0 (e ∷ es)) ∙ ap (λ ys. map (λ e. g (p.0, e.0, e.1)) (e ∷ es) ++ ys) rest

module _ (ds : Documents) (pin : Pin) (d : Document) where
  -- the keys of what moves
  pub keys_are : map entry_key (moved_entries ds pin d) ≡ moved_keys ds pin d
  keys_are = each_entry entry_key (λ es. older_values ds pin d es) d.props

  -- its revisions
  pub revisions_are : keys_of (revisions_of (moved_entries ds pin d)) ≡ moved_revisions ds pin d
  revisions_are =
      ap (λ es. keys_of es) (sym (fold-map (λ es k. insert_entry revision_cmp es k.revision true) entry_key [] (moved_entries ds pin d)))
      ∙ ap (λ ks. keys_of (fold (λ es k. insert_entry revision_cmp es k.revision true) [] ks)) keys_are

  -- its values
  pub changes_are : map writing_change (moved_entries ds pin d) ≡ flat_map (λ p. map (λ e. change.Prop p.0 e.0 e.1) p.1) (moved_props ds pin d)
  changes_are = each_entry writing_change (λ es. older_values ds pin d es) d.props

  -- the depths of its commit roots
  pub roots_are : root_depths (revisions_of (moved_entries ds pin d)) d.commit_root ≡ moved_roots ds pin d
  roots_are = ap (λ rs. filter (λ e. list_any (is_same e.0) rs) d.commit_root) revisions_are

  -- how the previous document is listed
  pub listed_are : listing_entry d.mod_count (revisions_of (moved_entries ds pin d)) ≡ listed_as ds pin d
  listed_are = by (keys_of (revisions_of (moved_entries ds pin d))) (moved_revisions ds pin d) refl refl revisions_are
    where
      by : (rs qs : List Revision) → keys_of (revisions_of (moved_entries ds pin d)) ≡ rs → moved_revisions ds pin d ≡ qs → rs ≡ qs → listing_entry d.mod_count (revisions_of (moved_entries ds pin d)) ≡ listed_as ds pin d
      by [] [] is_r is_q same = rw (is_r, is_q) refl
      by [] (q ∷ qs) is_r is_q same = cc
      by (r ∷ rs) [] is_r is_q same = cc
      by (r ∷ rs) (q ∷ qs) is_r is_q same = rw (is_r, is_q) (ap (λ (all : List Revision). by_first all) same)
        where
          by_first : List Revision → Option PrevEntry
          by_first [] = None
          by_first (r ∷ rs) = Some (entry_from d.mod_count r rs)

-- ---- what the code makes of them

-- how a previous document is listed, with the count of what moves
abbrev with_count : ℕ → PrevEntry → PrevEntry × ℕ
with_count n e = (e, n)

module _ (ds : Documents) (pin : Pin) (d : Document) (items slice : List Moved) (moved : map entry_of items ≡ moved_entries ds pin d) (lent : slice ≡ items) where
  of_slice : map entry_of slice ≡ moved_entries ds pin d
  of_slice = ap (map entry_of) lent ∙ moved

  revisions_made : (rs : List (Revision × Bool)) → rs ≡ revisions_of (map entry_of slice) → rs ≡ revisions_of (moved_entries ds pin d)
  revisions_made rs is = is ∙ ap revisions_of of_slice

  listing : (rs : List (Revision × Bool)) (l : Option PrevEntry) → rs ≡ revisions_of (map entry_of slice) → l ≡ listing_entry d.mod_count rs → l ≡ listed_as ds pin d
  listing rs l is listed = listed ∙ ap (listing_entry d.mod_count) (revisions_made rs is) ∙ listed_are ds pin d

  count_is : length items ≡ moved_count ds pin d
  count_is = sym (length-map items entry_of) ∙ ap (λ es. length es) moved ∙ sym (length-map (moved_entries ds pin d) entry_key) ∙ ap (λ ks. length ks) (keys_are ds pin d)

  pub nothing_listed : (rs : List (Revision × Bool)) (l : Option PrevEntry) → rs ≡ revisions_of (map entry_of slice) → l ≡ listing_entry d.mod_count rs → l ≡ None → None ≡ option_map (with_count (moved_count ds pin d)) (listed_as ds pin d)
  nothing_listed rs l is listed none = ap (option_map (with_count (moved_count ds pin d))) (sym none ∙ listing rs l is listed)

  pub something_listed : (rs : List (Revision × Bool)) (l : Option PrevEntry) (e : PrevEntry) (n : ℕ) → rs ≡ revisions_of (map entry_of slice) → l ≡ listing_entry d.mod_count rs → l ≡ Some e → n ≡ length slice → Some (with_count n e) ≡ option_map (with_count (moved_count ds pin d)) (listed_as ds pin d)
  something_listed rs l e n is listed some count = ap (λ n. Some (with_count n e)) (count ∙ ap (λ es. length es) lent ∙ count_is) ∙ ap (option_map (with_count (moved_count ds pin d))) (sym some ∙ listing rs l is listed)

  pub main_is : (e : PrevEntry) (keys : List EntryKey) (x : DocId) (n0 n1 n2 : List Change) → keys ≡ map entry_key (map entry_of slice) → n0 ≡ [] → n1 ≡ n0 ++ change.Prune keys ∷ [] → n2 ≡ n1 ++ change.List e ∷ [] → x ≡ d.id
      → record { id = x; create = false; cond = Some (Unchanged d.mod_count); changes = n2 } ≡ main_write ds pin d e
  main_is e keys x n0 n1 n2 keys_is is0 is1 is2 is_id =
      let same : keys ≡ moved_keys ds pin d = keys_is ∙ ap (map entry_key) of_slice ∙ keys_are ds pin d in
      let changes : n2 ≡ change.Prune (moved_keys ds pin d) ∷ change.List e ∷ [] =
      is2 ∙ ap (λ n. n ++ change.List e ∷ []) (is1 ∙ ap (λ n. n ++ change.Prune keys ∷ []) is0) ∙ ap (λ ks. change.Prune ks ∷ change.List e ∷ []) same in
      ap (λ y. op_of y n2) is_id ∙ ap (λ cs. op_of d.id cs) changes
    where
      op_of : DocId → List Change → UpdateOp
      op_of y cs = record { id = y; create = false; cond = Some (Unchanged d.mod_count); changes = cs }

  pub previous_is : (slice' : List Moved) (rs : List (Revision × Bool)) (q : Path) (n0 n1 n2 : List Change) → slice' ≡ items → rs ≡ revisions_of (map entry_of slice) → n0 ≡ [] → n1 ≡ n0 ++ map (λ e. change.CommitRoot e.0 e.1) (root_depths rs d.commit_root) → n2 ≡ n1 ++ map writing_change (map entry_of slice') → q ≡ path_of d.id
      → record { id = Prev d.mod_count q; create = true; cond = Some Missing; changes = n2 } ≡ previous_write ds pin d
  previous_is slice' rs q n0 n1 n2 lent' rs_is is0 is1 is2 is_path =
      let roots : root_depths rs d.commit_root ≡ moved_roots ds pin d = ap (λ rs. root_depths rs d.commit_root) (revisions_made rs rs_is) ∙ roots_are ds pin d in
      let first : n1 ≡ map (λ e. change.CommitRoot e.0 e.1) (moved_roots ds pin d) = is1 ∙ ap (λ n. n ++ map (λ e. change.CommitRoot e.0 e.1) (root_depths rs d.commit_root)) is0 ∙ ap (map (λ e. change.CommitRoot e.0 e.1)) roots in
      let second : map writing_change (map entry_of slice') ≡ flat_map (λ p. map (λ e. change.Prop p.0 e.0 e.1) p.1) (moved_props ds pin d) = ap (λ s. map writing_change (map entry_of s)) lent' ∙ ap (map writing_change) moved ∙ changes_are ds pin d in
      let changes : n2 ≡ map (λ e. change.CommitRoot e.0 e.1) (moved_roots ds pin d) ++ flat_map (λ p. map (λ e. change.Prop p.0 e.0 e.1) p.1) (moved_props ds pin d) =
      is2 ∙ ap (λ n. n ++ map writing_change (map entry_of slice')) first ∙ ap (λ cs. map (λ e. change.CommitRoot e.0 e.1) (moved_roots ds pin d) ++ cs) second in
      ap (λ p. op_of p n2) is_path ∙ ap (λ cs. op_of (path_of d.id) cs) changes
    where
      op_of : Path → List Change → UpdateOp
      op_of p cs = record { id = Prev d.mod_count p; create = true; cond = Some Missing; changes = cs }

-- a revision that is found is one of them
pub is_among : (rs : List (Revision × Bool)) (r : Revision) → is_some (lookup (is_at (revision_cmp r)) rs) ≡ list_any (is_same r) (keys_of rs)
is_among rs r = is_some-lookup (is_at (revision_cmp r)) rs

-- the last of some entries
last_is : (e : Revision × Bool) (es : List (Revision × Bool)) (k : ℕ) (x : Revision × Bool) → length (e ∷ es) ≡ suc k → slice_get (e ∷ es) k ≡ Some x → fold (λ q r. r) e.0 (keys_of es) ≡ x.0
last_is e [] zero x n is = cc
last_is e [] (suc k) x n is = cc
last_is e (f ∷ es) zero x n is = let no : length es ≡ zero - 1 = omega arith in cc
last_is e (f ∷ es) (suc k) x n is = last_is f es k x (omega arith) is

-- the entry by which revisions are listed, by their first and their last
pub listed_is : (n : ℕ) (es : List (Revision × Bool)) (low high : Revision × Bool) → slice_get es 0 ≡ Some low → slice_get es (length es - 1) ≡ Some high → Some (record { number = n; high = high.0; low = low.0 }) ≡ listing_entry n es
listed_is n [] low high first last = cc
listed_is n (e ∷ es) low high first last =
    let same : e ≡ low = cc in
    let end : fold (λ q r. r) e.0 (keys_of es) ≡ high.0 = last_is e es (length (e ∷ es) - 1) high (omega arith) last in
    ap (λ r. Some (record { number = n; high = r; low = low.0 })) (sym end) ∙ ap (λ r. Some (record { number = n; high = fold (λ q r. r) e.0 (keys_of es); low = r })) (sym (ap (λ f. f.0) same))
