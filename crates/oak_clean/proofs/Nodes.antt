-- One node's document is collected: what is left of it, and what is counted.
use Rattle.std.proofs.Common.{◌≡◌, ◌⊎◌, inl, inr, ℕ, Bool, true, false, cond, ◌&&◌, List, [], ◌∷◌, ◌++◌, Option, None, Some, length, map, is_some, refl, sym, ap, ◌∙◌, subst, arith}
use Rattle.std.specs.Prelude.{◌≤◌, ◌==◌, not, Contains, Result, Ok, Err}
use Rattle.std.specs.List.{AllByRecursion, filter}
use Rattle.std.specs.List.Sorted.{IsStrictlySortedBy}
use Rattle.std.specs.Map.{keys_of}
use Rattle.std.proofs.lemmas.Bool.{eqb-true, false≢true}
use Rattle.std.proofs.lemmas.List.Elements.{Contains-append_left, Contains-push}
use Rattle.basics.proofs.Bools.{first_of_neither, number_itself, second_of_neither}
use Rattle.jr_path.specs.Names.{name_cmp}
use Rattle.jr_path.specs.declared.path.DocId.{DocId}
use Rattle.jr_path.specs.declared.path.DocId.TheVariants as id
use Rattle.jr_path.specs.declared.path.Path.{Path}
use Rattle.jr_rev.specs.declared.revision.Revision.{Revision}
use Rattle.jr_rev.specs.declared.vector.Pin.{Pin}
use Rattle.jr_rev.specs.Vectors.{sees}
use Rattle.oak_doc.specs.declared.asks.RemoveOut.TheVariants as removal
use Rattle.oak_doc.specs.declared.document.Document.{Document}
use Rattle.oak_doc.specs.declared.document.PrevEntry.{PrevEntry}
use Rattle.oak_doc.specs.declared.update.Cond.TheVariants.{Unchanged}
use Rattle.oak_doc.specs.declared.update.Kept.TheVariants as kept
use Rattle.oak_doc.specs.declared.update.OpFault.{OpFault}
use Rattle.oak_doc.specs.declared.update.OpFault.TheVariants as fault
use Rattle.oak_doc.specs.Updates.{after_changes, updated}
use Rattle.oak_gc.specs.Collecting.{Previous, found_in, more_documents, more_entries, more_skips, plus}
use Rattle.oak_gc.specs.Garbage.{garbage_in, has_garbage, is_garbage_document, is_garbage_previous}
use Rattle.oak_gc.specs.Resting.{Emptied, garbage_op, previous_listed, removal_counted, with_collected, with_removed_previous, with_update, without_document, without_garbage, without_previous}
use Rattle.oak_read.proofs.Walking.{all_of, own_id}
use Rattle.oak_read.specs.Meaning.{path_of}
use Rattle.oak_store.specs.Tables.{Table, after_removal, found, next_number, with_document}
use Rattle.oak_clean.proofs.Entries.{all_filter}
use Rattle.oak_clean.proofs.Pruned.{none_left, same_garbage}
use Rattle.oak_clean.proofs.Tables.{IsBeside, IsCollecting, all_without, each_listed, found_put, found_removed, last, listed_there, one_put, one_removed, one_skipped, other_id, removal_own, removed_at}
use Rattle.oak_clean.specs.Clean.{entries_gone, has_last_number}

-- ---- what is counted

pub plus_none : (a : ℕ) → a ≤ last → a ≡ plus a 0
plus_none a low = omega (arith, low)

-- nothing goes where the document has the last number
none_last : (b c : Bool) (n : ℕ) → c ≡ true → cond (b && not c) n 0 ≡ 0
none_last true c n is = ap (λ c. cond (not c) n 0) is
none_last false c n is = refl

none_gone : (b : Bool) (n : ℕ) → cond (false && b) n 0 ≡ 0
none_gone b n = refl

none_either : (b : Bool) (n : ℕ) → n ≡ 0 → cond b n 0 ≡ 0
none_either true n is = is
none_either false n is = refl

some_same : (a b : Document) → ◌≡◌ {A = Option Document} (Some a) (Some b) → a ≡ b
some_same a b h = cc

-- ---- an update that drops the garbage of a document as it was read

updated_own : (bound : Pin) (f : Option Document) (d : Document) (ps : Previous) (n : ℕ) → f ≡ Some d
    → updated f (garbage_op bound d ps) n ≡ cond (has_last_number d) (Err (fault.Unmet (Unchanged d.mod_count) (kept.Number d.mod_count))) (Ok (after_changes (Some d) (garbage_op bound d ps) n))
updated_own bound f d ps n at =
    ap (λ f. updated f (garbage_op bound d ps) n) at
    ∙ ap (λ b. cond (b && not (has_last_number d)) (Ok (after_changes (Some d) (garbage_op bound d ps) n)) (Err (fault.Unmet (Unchanged d.mod_count) (kept.Number d.mod_count)))) (number_itself d.mod_count)
    ∙ turned (has_last_number d)
  where
    turned : (b : Bool) → ◌≡◌ {A = Result Document OpFault} (cond (not b) (Ok (after_changes (Some d) (garbage_op bound d ps) n)) (Err (fault.Unmet (Unchanged d.mod_count) (kept.Number d.mod_count))))
        (cond b (Err (fault.Unmet (Unchanged d.mod_count) (kept.Number d.mod_count))) (Ok (after_changes (Some d) (garbage_op bound d ps) n)))
    turned true = refl
    turned false = refl

-- ---- what a collection makes of one node

module _ (old : Table) (bound : Pin) (q : Path) (d : Document) (own : d.id ≡ id.Node q) (o : Emptied) where
  -- what is left at the node, whatever is collected later, and what was counted
  pub record IsDone (u : Emptied) : Type 0 where
    pub collecting : IsCollecting old u
    pub others : (y : DocId) → ((k : ℕ) → y ≡ id.Prev k q → ⊥) → (y ≡ id.Node q → ⊥) → found u.store y ≡ found o.store y
    pub entries : u.collected.entries ≡ plus o.collected.entries (entries_gone bound u.store (id.Node q, d))
    pub skipped : (s : DocId × ℕ × ℕ) → Contains o.collected.skipped s → Contains u.collected.skipped s
    pub clean : IsStrictlySortedBy name_cmp (keys_of d.props) → ((r : Revision) → sees bound.sweep r ≡ true → sees bound.base r ≡ true)
        → (t : Table) → found t (id.Node q) ≡ found u.store (id.Node q) → ((k : ℕ) → found t (id.Prev k q) ≡ found u.store (id.Prev k q))
        → (e : Document) → found t (id.Node q) ≡ Some e → has_garbage bound.base bound.sweep (found t) e ≡ true
        → (has_last_number e ≡ true) × Contains u.collected.skipped (id.Node q, e.mod_count, e.mod_count)

  module _ (is : IsCollecting old o) (here : found o.store (id.Node q) ≡ Some d) (was : found old (id.Node q) ≡ Some d) where
    abbrev ps : Previous
    ps = previous_listed (found o.store) q (map (λ l. l.number) d.prev) []

    here_own : found o.store d.id ≡ Some d
    here_own = subst (λ (x : DocId). found o.store x ≡ Some d) (sym own) here

    was_own : found old d.id ≡ Some d
    was_own = subst (λ (x : DocId). found old x ≡ Some d) (sym own) was

    were_there : AllByRecursion (λ (e : ℕ × Document). found old (id.Prev e.0 q) ≡ Some e.1) ps
    were_there = all_of (λ (e : ℕ × Document). found o.store (id.Prev e.0 q) ≡ Some e.1) (λ (e : ℕ × Document). found old (id.Prev e.0 q) ≡ Some e.1) (λ e at. by e at (is.previous e.0 q)) ps (listed_there (found o.store) q (map (λ l. l.number) d.prev) [] tt)
      where
        by : (e : ℕ × Document) → found o.store (id.Prev e.0 q) ≡ Some e.1 → (found o.store (id.Prev e.0 q) ≡ None) ⊎ (found o.store (id.Prev e.0 q) ≡ found old (id.Prev e.0 q)) → found old (id.Prev e.0 q) ≡ Some e.1
        by e at (inl none) = absurd (false≢true (ap is_some (sym none ∙ at)))
        by e at (inr same) = sym same ∙ at

    -- each that is listed is found among those that were read as it is in the store
    are_read : AllByRecursion (λ (e : PrevEntry). found_in ps (id.Prev e.number q) ≡ found o.store (id.Prev e.number q)) d.prev
    are_read = unmapped d.prev (each_listed (found o.store) q (map (λ l. l.number) d.prev) [] tt)
      where
        unmapped : (es : List PrevEntry) → AllByRecursion (λ n. found_in ps (id.Prev n q) ≡ found o.store (id.Prev n q)) (map (λ l. l.number) es) → AllByRecursion (λ (e : PrevEntry). found_in ps (id.Prev e.number q) ≡ found o.store (id.Prev e.number q)) es
        unmapped [] h = tt
        unmapped (e ∷ es) h = (h.0, unmapped es h.1)

    -- ---- nothing is done at it

    skipped_done : has_last_number d ≡ true → IsDone (record { store = o.store; collected = more_skips o.collected d.id d.mod_count d.mod_count })
    skipped_done lasts = record {
      collecting = one_skipped old o is d.id d was_own lasts;
      others = λ y off_previous off. refl;
      entries = plus_none o.collected.entries is.entries ∙ ap (plus o.collected.entries) (sym (none_last (is_some (found o.store (id.Node q))) (has_last_number d) (length (garbage_in bound.base bound.sweep d)) lasts));
      skipped = λ s h. Contains-append_left o.collected.skipped ((d.id, d.mod_count, d.mod_count) ∷ []) s h;
      clean = λ names within t main previous e at garbage.
          let one : d ≡ e = some_same d e (sym here ∙ sym main ∙ at) in
          subst (λ e. (has_last_number e ≡ true) × Contains (o.collected.skipped ++ (d.id, d.mod_count, d.mod_count) ∷ []) (id.Node q, e.mod_count, e.mod_count)) one
          (lasts, subst (λ x. Contains (o.collected.skipped ++ (d.id, d.mod_count, d.mod_count) ∷ []) (x, d.mod_count, d.mod_count)) own (Contains-push o.collected.skipped (d.id, d.mod_count, d.mod_count)));
    }

    nothing_done : has_garbage bound.base bound.sweep (found_in ps) d ≡ false → IsDone o
    nothing_done none = record {
      collecting = is;
      others = λ y off_previous off. refl;
      entries = plus_none o.collected.entries is.entries ∙ ap (plus o.collected.entries) (sym (none_either (is_some (found o.store (id.Node q)) && not (has_last_number d)) (length (garbage_in bound.base bound.sweep d)) no_entries));
      skipped = λ s h. h;
      clean = λ names within t main previous e at garbage.
          let one : d ≡ e = some_same d e (sym here ∙ sym main ∙ at) in
          let now = subst (λ e. has_garbage bound.base bound.sweep (found t) e ≡ true) (sym one) garbage in
          absurd (false≢true (sym none ∙ sym (same_garbage bound.base bound.sweep (found_in ps) (found t) d (as_read t previous)) ∙ now));
    }
      where
        no_entries : length (garbage_in bound.base bound.sweep d) ≡ 0
        no_entries = eqb-true _ 0 (by (length (garbage_in bound.base bound.sweep d) == 0) (second_of_neither (is_garbage_document bound.base bound.sweep d) _ (first_of_neither _ _ none)))
          where
            by : (b : Bool) → not b ≡ false → b ≡ true
            by true h = refl
            by false h = absurd (false≢true (sym h))

        as_read : (t : Table) → ((k : ℕ) → found t (id.Prev k q) ≡ found o.store (id.Prev k q)) → AllByRecursion (λ (e : PrevEntry). found t (id.Prev e.number (path_of d.id)) ≡ found_in ps (id.Prev e.number (path_of d.id))) d.prev
        as_read t previous = subst (λ x. AllByRecursion (λ (e : PrevEntry). found t (id.Prev e.number (path_of x)) ≡ found_in ps (id.Prev e.number (path_of x))) d.prev) (sym own)
            (all_of (λ (e : PrevEntry). found_in ps (id.Prev e.number q) ≡ found o.store (id.Prev e.number q)) (λ (e : PrevEntry). found t (id.Prev e.number q) ≡ found_in ps (id.Prev e.number q)) (λ e read. previous e.number ∙ sym read) d.prev are_read)

    -- ---- the document goes

    gone_done : has_last_number d ≡ false → IsDone (without_previous q (record { store = removed_at o.store d.id; collected = more_documents o.collected }) ps)
    gone_done other = record {
      collecting = rest.0;
      others = λ y off_previous off. rest.1.others y off_previous ∙ found_removed o.store is.sorted d.id y ∙ ap (λ b. cond b None (found o.store y)) (other_id y d.id (λ same. off (same ∙ own)));
      entries = rest.1.entries ∙ plus_none o.collected.entries is.entries ∙ ap (plus o.collected.entries) (sym (ap (λ f. cond (is_some f && not (has_last_number d)) (length (garbage_in bound.base bound.sweep d)) 0) now_none));
      skipped = rest.1.skipped;
      clean = λ names within t main previous e at garbage. absurd (false≢true (ap is_some (sym (main ∙ now_none) ∙ at)));
    }
      where
        u : Emptied
        u = record { store = removed_at o.store d.id; collected = more_documents o.collected }

        rest : IsCollecting old (without_previous q u ps) × IsBeside q u (without_previous q u ps)
        rest = all_without old q ps u (one_removed old o is d.id d here_own other) were_there

        no_previous : (k : ℕ) → id.Node q ≡ id.Prev k q → ⊥
        no_previous k e = cc

        now_none : found (without_previous q u ps).store (id.Node q) ≡ None
        now_none = rest.1.others (id.Node q) no_previous ∙ found_removed o.store is.sorted d.id (id.Node q) ∙ ap (λ x. cond (Rattle.std.specs.Ordering.eq_by_cmp Rattle.jr_path.specs.Ids.id_cmp (id.Node q) x) None (found o.store (id.Node q))) own ∙ ap (λ b. cond b None (found o.store (id.Node q))) (own_id (id.Node q))

    -- ---- its garbage goes

    abbrev after : Document
    after = after_changes (Some d) (garbage_op bound d ps) (next_number o.store)

    abbrev garbage_of_it : Previous
    garbage_of_it = filter (λ e. is_garbage_previous bound.base bound.sweep d e.1) ps

    pruned_done : is_garbage_document bound.base bound.sweep d ≡ false → has_last_number d ≡ false
        → IsDone (without_previous q (record { store = with_document o.store d.id after (next_number o.store); collected = more_entries o.collected (length (garbage_in bound.base bound.sweep d)) }) garbage_of_it)
    pruned_done stays other = record {
      collecting = rest.0;
      others = λ y off_previous off. rest.1.others y off_previous ∙ found_put o.store d.id after (next_number o.store) y ∙ ap (λ b. cond b (Some after) (found o.store y)) (other_id y d.id (λ same. off (same ∙ own)));
      entries = rest.1.entries ∙ ap (plus o.collected.entries) (sym (ap (λ f. cond (is_some f && not (has_last_number d)) (length (garbage_in bound.base bound.sweep d)) 0) now_after ∙ ap (λ b. cond (not b) (length (garbage_in bound.base bound.sweep d)) 0) other));
      skipped = rest.1.skipped;
      clean = λ names within t main previous e at garbage.
          let one : after ≡ e = some_same after e (sym now_after ∙ sym main ∙ at) in
          let now = subst (λ e. has_garbage bound.base bound.sweep (found t) e ≡ true) (sym one) garbage in
          absurd (false≢true (sym (none_left bound.base bound.sweep (found_in ps) (found t) within d names (next_number o.store) stays (as_read t previous)) ∙ now));
    }
      where
        u : Emptied
        u = record { store = with_document o.store d.id after (next_number o.store); collected = more_entries o.collected (length (garbage_in bound.base bound.sweep d)) }

        rest : IsCollecting old (without_previous q u garbage_of_it) × IsBeside q u (without_previous q u garbage_of_it)
        rest = all_without old q garbage_of_it u (one_put old o is q d.id own d after (next_number o.store) (length (garbage_in bound.base bound.sweep d)) here_own other)
            (all_filter (λ (e : ℕ × Document). found old (id.Prev e.0 q) ≡ Some e.1) (λ e. is_garbage_previous bound.base bound.sweep d e.1) ps were_there)

        no_previous : (k : ℕ) → id.Node q ≡ id.Prev k q → ⊥
        no_previous k e = cc

        no_node : (k : ℕ) → id.Prev k q ≡ id.Node q → ⊥
        no_node k e = cc

        now_after : found (without_previous q u garbage_of_it).store (id.Node q) ≡ Some after
        now_after = rest.1.others (id.Node q) no_previous ∙ found_put o.store d.id after (next_number o.store) (id.Node q) ∙ ap (λ x. cond (Rattle.std.specs.Ordering.eq_by_cmp Rattle.jr_path.specs.Ids.id_cmp (id.Node q) x) (Some after) (found o.store (id.Node q))) own ∙ ap (λ b. cond b (Some after) (found o.store (id.Node q))) (own_id (id.Node q))

        previous_put : (k : ℕ) → found u.store (id.Prev k q) ≡ found o.store (id.Prev k q)
        previous_put k = found_put o.store d.id after (next_number o.store) (id.Prev k q) ∙ ap (λ b. cond b (Some after) (found o.store (id.Prev k q))) (other_id (id.Prev k q) d.id (λ same. no_node k (same ∙ own)))

        as_read : (t : Table) → ((k : ℕ) → found t (id.Prev k q) ≡ found (without_previous q u garbage_of_it).store (id.Prev k q))
            → AllByRecursion (λ (e : PrevEntry). (found t (id.Prev e.number (path_of d.id)) ≡ None) ⊎ (found t (id.Prev e.number (path_of d.id)) ≡ found_in ps (id.Prev e.number (path_of d.id)))) d.prev
        as_read t previous = subst (λ x. AllByRecursion (λ (e : PrevEntry). (found t (id.Prev e.number (path_of x)) ≡ None) ⊎ (found t (id.Prev e.number (path_of x)) ≡ found_in ps (id.Prev e.number (path_of x)))) d.prev) (sym own)
            (all_of (λ (e : PrevEntry). found_in ps (id.Prev e.number q) ≡ found o.store (id.Prev e.number q)) (λ (e : PrevEntry). (found t (id.Prev e.number q) ≡ None) ⊎ (found t (id.Prev e.number q) ≡ found_in ps (id.Prev e.number q))) (λ e read. by e read (rest.1.previous e.number)) d.prev are_read)
          where
            by : (e : PrevEntry) → found_in ps (id.Prev e.number q) ≡ found o.store (id.Prev e.number q)
                → (found (without_previous q u garbage_of_it).store (id.Prev e.number q) ≡ None) ⊎ (found (without_previous q u garbage_of_it).store (id.Prev e.number q) ≡ found u.store (id.Prev e.number q))
                → (found t (id.Prev e.number q) ≡ None) ⊎ (found t (id.Prev e.number q) ≡ found_in ps (id.Prev e.number q))
            by e read (inl none) = inl (previous e.number ∙ none)
            by e read (inr same) = inr (previous e.number ∙ same ∙ previous_put e.number ∙ sym read)

    -- ---- whichever it is

    document_done : IsDone (without_document o q d ps)
    document_done = subst (λ r. IsDone (with_removed_previous r q (record { store = after_removal o.store d.id r; collected = removal_counted o.collected d.id d.mod_count r }) ps)) (sym (removal_own o.store d.id d here_own)) (by (has_last_number d) refl)
      where
        by : (b : Bool) → has_last_number d ≡ b → IsDone (with_removed_previous (cond b (removal.Changed d.mod_count) removal.Removed) q (record { store = after_removal o.store d.id (cond b (removal.Changed d.mod_count) removal.Removed); collected = removal_counted o.collected d.id d.mod_count (cond b (removal.Changed d.mod_count) removal.Removed) }) ps)
        by true lasts = skipped_done lasts
        by false other = gone_done other

    garbage_done : is_garbage_document bound.base bound.sweep d ≡ false → IsDone (without_garbage bound o q d ps)
    garbage_done stays = subst (λ r. IsDone (with_update bound o q d ps r)) (sym (updated_own bound (found o.store d.id) d ps (next_number o.store) here_own)) (by (has_last_number d) refl)
      where
        by : (b : Bool) → has_last_number d ≡ b → IsDone (with_update bound o q d ps (cond b (Err (fault.Unmet (Unchanged d.mod_count) (kept.Number d.mod_count))) (Ok after)))
        by true lasts = skipped_done lasts
        by false other = pruned_done stays other

    pub node_done : IsDone (with_collected bound o q d ps)
    node_done = by (is_garbage_document bound.base bound.sweep d) (has_garbage bound.base bound.sweep (found_in ps) d) refl refl
      where
        by : (g h : Bool) → is_garbage_document bound.base bound.sweep d ≡ g → has_garbage bound.base bound.sweep (found_in ps) d ≡ h → IsDone (cond g (without_document o q d ps) (cond h (without_garbage bound o q d ps) o))
        by true h is_g is_h = document_done
        by false true is_g is_h = garbage_done is_g
        by false false is_g is_h = nothing_done is_h
