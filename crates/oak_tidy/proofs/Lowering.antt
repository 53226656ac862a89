-- Each step lowers the number of steps that are left.
use Rattle.std.proofs.Common.{◌≡◌, ◌≢◌, ◌+◌, ◌-◌, ◌<◌, ◌≤◌, ℕ, Bool, true, false, cond, length, List, [], ◌∷◌, Option, Some, None, Ok, Err, map, refl, sym, ap, subst, ◌∙◌, arith}
use Rattle.std.specs.Prelude.{nat_lt, slice_get}
use Rattle.std.specs.List.{filter}
use Rattle.std.specs.Option.{option_map, option_map_or}
use Rattle.std.specs.Ordering.{match_ordering, nat_cmp}
use Rattle.std.specs.Map.{values_of}
use Rattle.std.specs.BTreeMap.{insert_entry}
use Rattle.std.specs.declared.cmp.Ordering.{Ordering}
use Rattle.std.specs.declared.cmp.Ordering.TheVariants.{Less, Equal, Greater}
use Rattle.std.proofs.lemmas.Bool.Decides.{nat_tests}
use Rattle.std.proofs.lemmas.List.{length-map}
use Rattle.std.proofs.lemmas.List.Elements.{recursion_from_All}
use Rattle.jr_path.specs.declared.path.DocId.{DocId}
use Rattle.jr_path.specs.declared.path.DocId.TheVariants as id
use Rattle.jr_path.specs.declared.path.Path.{Path}
use Rattle.jr_path.specs.Ids.{id_cmp}
use Rattle.oak_doc.specs.declared.asks.Ask.TheVariants as ask
use Rattle.oak_doc.specs.declared.asks.RemoveOut.{RemoveOut}
use Rattle.oak_doc.specs.declared.asks.RemoveOut.TheVariants as removal
use Rattle.oak_doc.specs.declared.asks.Reply.TheVariants as reply
use Rattle.oak_doc.specs.declared.asks.SplitEnd.TheVariants as end
use Rattle.oak_doc.specs.declared.document.Document.{Document}
use Rattle.oak_doc.specs.declared.document.PrevEntry.{PrevEntry}
use Rattle.oak_doc.specs.declared.update.Cond.TheVariants.{Unchanged}
use Rattle.oak_doc.specs.Updates.{after_changes, is_met, update_refusal, updated}
use Rattle.oak_gc.specs.Bounding.{node_reply}
use Rattle.oak_gc.specs.Bounds.{Told, root_pair}
use Rattle.oak_gc.specs.Collecting as collecting
use Rattle.oak_gc.specs.Collecting.{Previous, decided, found_document, garbage_previous, going_on, has_garbage_in, last_of, node_reading, on_next, removing, with_document, with_entries, with_previous_read, with_skip}
use Rattle.oak_gc.specs.Garbage.{garbage_in, is_garbage_document, is_garbage_previous}
use Rattle.oak_gc.specs.declared.collector.Collector.{Collector}
use Rattle.oak_gc.specs.declared.reading.Step.{Step as CollectStep}
use Rattle.oak_gc.specs.declared.reading.Step.TheVariants as collect_step
use Rattle.oak_gc.proofs.Behind.{behind, comes, is_node, left, left_put, left_removed, next_is, none_next, not_itself, of_first}
use Rattle.oak_prev.specs.Splitting as splitting
use Rattle.oak_prev.specs.Splitting.{on_next_root, split_ended, statuses_known}
use Rattle.oak_prev.specs.declared.splitter.Splitter.{Splitter}
use Rattle.oak_prev.specs.declared.splitter.Step.{Step as SplitStep}
use Rattle.oak_prev.specs.declared.splitter.Step.TheVariants as split_step
use Rattle.oak_prev.specs.Splits.{listed_as, main_write, moved_count, previous_write}
use Rattle.oak_prev.specs.Wanted.{roots_wanted}
use Rattle.oak_read.specs.Meaning.{documents_in}
use Rattle.oak_read.specs.Reading.{IsTable, with_known}
use Rattle.oak_read.specs.Wanted.{Ids}
use Rattle.oak_store.specs.Tables.{Table, after_removal, found, next_number, removal_of}
use Rattle.oak_node.specs.Pins.{pin_now}
use Rattle.core_world.specs.States.{memory_at}
use Rattle.core_world.specs.Steps.{with_result}
use Rattle.oak_acts.specs.Acts.{replied}
use Rattle.oak_tidy.specs.declared.tidying.Tidying.{Tidying}
use Rattle.oak_tidy.specs.declared.tidying.Tidying.TheVariants as tidying
use Rattle.oak_tidy.specs.Left.{StepsLower, all_steps, collect_left, nodes_behind, split_left, tidying_left}
use Rattle.oak_tidy.specs.Replies.{AllParts, table_after, told_to}
use Rattle.oak_tidy.specs.Tidyings.{AsksNodesOf, CanTidy, tidied_on, tidying_ask}

abbrev Entries : Type 0
Entries = List (DocId × Document)

-- ---- documents in store order

one_entry : (f e : DocId × Document) → ◌≡◌ {A = Option (DocId × Document)} (Some f) (Some e) → f ≡ e
one_entry f e h = cc

-- a node's document that is found behind an id: behind that one the others are
next_nodes : (es : Entries) → IsTable es → (o : Option DocId) (e : DocId × Document) → slice_get (behind o es) 0 ≡ Some e → is_node e.0 ≡ true → nodes_behind o es ≡ e ∷ nodes_behind (Some e.0) es
next_nodes es is o e h node = by (left o es) refl
  where
    by : (l : Entries) → left o es ≡ l → nodes_behind o es ≡ e ∷ nodes_behind (Some e.0) es
    by [] none = let other : is_node e.0 ≡ false = none_next o es none e h in cc
    by (f ∷ more) rest =
        let n = next_is o es f more is.ordered rest in
        let same : f ≡ e = one_entry f e (sym n.first ∙ h) in
        rest ∙ (ap (λ (l : Entries). f ∷ l) (sym n.rest) ∙ ap (λ (g : DocId × Document). g ∷ left (Some g.0) es) same)

-- what is found is under its id
next_named : (es : Entries) → IsTable es → (o : Option DocId) (e : DocId × Document) → slice_get (behind o es) 0 ≡ Some e → e.1.id ≡ e.0
next_named es is o e h = of_first o (λ e. e.1.id ≡ e.0) es (recursion_from_All (λ e. e.1.id ≡ e.0) es is.named) e h

-- a node's document that is found behind an id
next_at : (es : Entries) → IsTable es → (o : Option DocId) (e : DocId × Document) (p : Path) → slice_get (behind o es) 0 ≡ Some e → e.1.id ≡ id.Node p → nodes_behind o es ≡ e ∷ nodes_behind (Some (id.Node p)) es
next_at es is o e p h at =
    let key : e.0 ≡ id.Node p = sym (next_named es is o e h) ∙ at in
    next_nodes es is o e h (ap is_node key) ∙ ap (λ (x : DocId). e ∷ nodes_behind (Some x) es) key

-- ---- a split

module _ (es : Entries) where
  settled : (s : Splitter) (k : ℕ) (o : Option PrevEntry) → split_left es (option_map_or (λ e. record s { step = split_step.Previous e k }) o (split_ended s (end.Split 0))) < 5
  settled s k None = omega arith
  settled s k (Some e) = omega arith

  next_root : (s : Splitter) → split_left es (on_next_root s) < length s.left + 5
  next_root s = by s.left
    where
      by : (ids : Ids) → split_left es (on_next_root (record s { left = ids })) < length ids + 5
      by [] = settled (record s { left = [] }) (moved_count (splitting.known s) s.pin s.reading.document) (listed_as (splitting.known s) s.pin s.reading.document)
      by (x ∷ xs) = omega arith

  found_again : (s : Splitter) (k : ℕ) (o : _) (d : Option Document) → split_left es (option_map_or (λ d. record s { step = split_step.Remove k d.mod_count o }) d (split_ended s o)) < 2
  found_again s k o None = omega arith
  found_again s k o (Some d) = omega arith

further : (a b c : ℕ) → a < b + 5 → a < b + 6
further a b c h = omega (arith, h)

module _ (p : AllParts) where
  split_reads : (s : Splitter) (o : Option Document) → split_left p.table.documents (option_map_or (splitting.fed_read (record s { step = split_step.Read })) o (split_ended (record s { step = split_step.Read }) (end.Split 0))) < option_map_or (λ d. length (roots_wanted s.pin d)) o 0 + 6
  split_reads s None = omega arith
  split_reads s (Some d) = further _ _ 0 (next_root p.table.documents (record s { reading = record { document = d; roots = [] }; left = roots_wanted s.pin d; step = split_step.Read }))

  split_lowers : (s : Splitter) (st : SplitStep) → splitting.due (record s { step = st }) ≢ ask.Done
      → split_left (table_after p.table (splitting.due (record s { step = st }))).documents (splitting.fed (record s { step = st }) (told_to p (splitting.due (record s { step = st })))) < split_left p.table.documents (record s { step = st })
  split_lowers s split_step.Read busy = split_reads s (documents_in p.table.documents (id.Node s.path))
  split_lowers s split_step.Root busy = next_root p.table.documents (record s { reading = record s.reading { roots = with_known s.reading.roots s.asked (documents_in p.table.documents s.asked) }; step = split_step.Root })
  split_lowers s (split_step.Previous e n) busy = by (table_after p.table (ask.Update (previous_write (splitting.known s) s.pin s.reading.document))).documents (found p.table (previous_write (splitting.known s) s.pin s.reading.document).id)
    where
      by : (es : Entries) (o : Option Document) → split_left es (splitting.fed (record s { step = split_step.Previous e n }) (replied o (updated o (previous_write (splitting.known s) s.pin s.reading.document) (next_number p.table)))) < 4
      by es None = omega arith
      by es (Some d) = omega arith
  split_lowers s (split_step.Main e n) busy = by (table_after p.table (ask.Update (main_write (splitting.known s) s.pin s.reading.document e))).documents (found p.table s.reading.document.id)
    where
      met : (es : Entries) (d after : Document) (b : Bool) → split_left es (splitting.fed (record s { step = split_step.Main e n }) (replied (Some d) (cond b (Ok after) (Err (update_refusal (Some d) (Some (Unchanged s.reading.document.mod_count))))))) < 3
      met es d after true = omega arith
      met es d after false = omega arith

      by : (es : Entries) (o : Option Document) → split_left es (splitting.fed (record s { step = split_step.Main e n }) (replied o (updated o (main_write (splitting.known s) s.pin s.reading.document e) (next_number p.table)))) < 3
      by es None = omega arith
      by es (Some d) = met es d (after_changes (Some d) (main_write (splitting.known s) s.pin s.reading.document e) (next_number p.table)) (is_met (Some d) (Some (Unchanged s.reading.document.mod_count)))
  split_lowers s (split_step.Find k o) busy = found_again p.table.documents (record s { step = split_step.Find k o }) k o (documents_in p.table.documents (id.Prev k s.path))
  split_lowers s (split_step.Remove k found o) busy = omega arith
  split_lowers s (split_step.Done o) busy = absurd (busy refl)

-- ---- a collection

filter_within : (test : ℕ × Document → Bool) (ps : Previous) → length (filter test ps) ≤ length ps
filter_within test [] = omega arith
filter_within test (e ∷ ps) = by (test e) (filter_within test ps)
  where
    by : (b : Bool) → length (filter test ps) ≤ length ps → length (cond b (e ∷ filter test ps) (filter test ps)) ≤ length (e ∷ ps)
    by true h = omega (arith, h)
    by false h = omega (arith, h)

put_within : (n : ℕ) (d : Document) (ps : Previous) → length (insert_entry nat_cmp ps n d) ≤ length ps + 1
put_within n d [] = omega arith
put_within n d (e ∷ ps) = by (nat_cmp n e.0) (put_within n d ps)
  where
    by : (o : Ordering) → length (insert_entry nat_cmp ps n d) ≤ length ps + 1 → length (match_ordering o ((n, d) ∷ e ∷ ps) ((e.0, d) ∷ ps) (e ∷ insert_entry nat_cmp ps n d)) ≤ length (e ∷ ps) + 1
    by Less h = omega arith
    by Equal h = omega arith
    by Greater h = omega (arith, h)

noted_within : (n : ℕ) (o : Option Document) (ps : Previous) → length (option_map_or (insert_entry nat_cmp ps n) o ps) ≤ length ps + 1
noted_within n None ps = omega arith
noted_within n (Some d) ps = put_within n d ps

one_last : (l m : (ℕ × Document) × Previous) → ◌≡◌ {A = Option ((ℕ × Document) × Previous)} (Some l) (Some m) → l ≡ m
one_last l m h = cc

abbrev last_with : ℕ × Document → Option ((ℕ × Document) × Previous) → (ℕ × Document) × Previous
last_with e None = (e, [])
last_with e (Some l) = (l.0, e ∷ l.1)

last_shorter : (ps : Previous) (l : (ℕ × Document) × Previous) → last_of ps ≡ Some l → length l.1 + 1 ≡ length ps
last_shorter [] l h = cc
last_shorter (e ∷ []) l h = let none = ap (λ (l : (ℕ × Document) × Previous). length l.1) (one_last (e, []) l h) in omega (arith, none)
last_shorter (e ∷ f ∷ fs) l h = by (last_of (f ∷ fs)) refl (λ m is. last_shorter (f ∷ fs) m is)
  where
    by : (o : Option ((ℕ × Document) × Previous)) → last_of (f ∷ fs) ≡ o → ((m : (ℕ × Document) × Previous) → last_of (f ∷ fs) ≡ Some m → length m.1 + 1 ≡ length (f ∷ fs)) → length l.1 + 1 ≡ length (e ∷ f ∷ fs)
    by None is rest = cc
    by (Some m) is rest =
        let here : ◌≡◌ {A = Option ((ℕ × Document) × Previous)} (Some (last_with e (Some m))) (Some l) = ap (λ (o : Option ((ℕ × Document) × Previous)). Some (last_with e o)) (sym is) ∙ h in
        let one_more = ap (λ (l : (ℕ × Document) × Previous). length l.1) (one_last (last_with e (Some m)) l here) in
        let behind_it = rest m is in
        omega (arith, one_more, behind_it)

module _ (es : Entries) where
  abbrev behind_at : Collector → ℕ
  behind_at c = all_steps (nodes_behind (Some (id.Node c.reading.at)) es)

  removes_lower : (c : Collector) → collect_left es (removing c) < behind_at c + (length c.reading.previous + 2)
  removes_lower c = by (last_of c.reading.previous) refl
    where
      by : (o : Option ((ℕ × Document) × Previous)) → last_of c.reading.previous ≡ o → collect_left es (option_map_or (λ l. record c { reading = record c.reading { previous = l.1 }; step = collect_step.RemovePrevious l.0.0 l.0.1.mod_count }) o (record c { step = collect_step.Next })) < behind_at c + (length c.reading.previous + 2)
      by None is = omega arith
      by (Some l) is = let shorter = last_shorter c.reading.previous l is in omega (arith, shorter)

  decides_lower : (c : Collector) (a b : Bool) → collect_left es (record c { step = cond a collect_step.Remove (cond b collect_step.Prune collect_step.Next) }) < behind_at c + (length c.reading.previous + 3)
  decides_lower c true b = omega arith
  decides_lower c false true = omega arith
  decides_lower c false false = omega arith

  goes_lower : (c : Collector) → collect_left es (going_on c) < behind_at c + (length c.reading.listed + length c.reading.listed + length c.reading.previous + 3)
  goes_lower c = by c.reading.listed
    where
      by : (ns : List ℕ) → collect_left es (going_on (record c { reading = record c.reading { listed = ns } })) < behind_at c + (length ns + length ns + length c.reading.previous + 3)
      by [] = let it = decides_lower (record c { reading = record c.reading { listed = [] } }) (is_garbage_document c.bound.base c.bound.sweep c.reading.document) (has_garbage_in c.bound (record c.reading { listed = [] })) in omega (arith, it)
      by (m ∷ ms) = omega arith

  module _ (is : IsTable es) where
    finds_lower : (c : Collector) (o : Option DocId) (r : Option (DocId × Document)) → slice_get (behind o es) 0 ≡ r → collect_left es (option_map_or (found_document c) (option_map (λ e. e.1) r) (record c { step = collect_step.Done })) < all_steps (nodes_behind o es) + 1
    finds_lower c o None h = omega arith
    finds_lower c o (Some e) h = by e.1.id refl
      where
        by : (x : DocId) → e.1.id ≡ x → collect_left es (option_map_or (λ r. going_on (record c { reading = r })) (node_reading c.bound x e.1) (record c { step = collect_step.Done })) < all_steps (nodes_behind o es) + 1
        by (id.Node q) at =
            let more = ap all_steps (next_at es is o e q h at) in
            let as_long = length-map e.1.prev (λ (l : PrevEntry). l.number) in
            let it = goes_lower (record c { reading = record { at = q; document = e.1; garbage = garbage_in c.bound.base c.bound.sweep e.1; listed = map (λ l. l.number) e.1.prev; previous = [] } }) in
            omega (arith, more, as_long, it)
        by (id.Prev n q) at = omega arith
        by id.Settings at = omega arith

-- what stands behind a node's document is what was there, when that is changed or goes
put_off : (q : Path) (x : DocId) → x ≡ id.Node q → comes (Some (id.Node q)) x ≡ false
put_off q x own = ap (comes (Some (id.Node q))) own ∙ not_itself (id.Node q)

removed_alike : (t : Table) (q : Path) (x : DocId) (r : RemoveOut) → comes (Some (id.Node q)) x ≡ false → all_steps (nodes_behind (Some (id.Node q)) (after_removal t x r).documents) ≡ all_steps (nodes_behind (Some (id.Node q)) t.documents)
removed_alike t q x removal.Removed off = ap all_steps (left_removed x (Some (id.Node q)) off t.documents)
removed_alike t q x (removal.Changed n) off = refl
removed_alike t q x removal.Absent off = refl

module _ (p : AllParts) (is : IsTable p.table.documents) where
  nodes_lower : (es : Entries) (c : Collector) (k : ℕ) (b : Bool) → nat_lt k c.clusters ≡ b → collect_left es (record c { step = cond b (collect_step.Node (k + 1)) collect_step.Settings }) < all_steps (nodes_behind None es) + (c.clusters - k) + 3
  nodes_lower es c k true h = let below : k < c.clusters = grind (arith, nat_tests) in omega (arith, below)
  nodes_lower es c k false h = omega arith

  collect_lowers : (n : ℕ) (c : Collector) (st : CollectStep) → AsksNodesOf n (record c { step = st }) → collecting.due (record c { step = st }) ≢ ask.Done
      → collect_left (table_after p.table (collecting.due (record c { step = st }))).documents (collecting.fed (record c { step = st }) (told_to p (collecting.due (record c { step = st })))) < collect_left p.table.documents (record c { step = st })
  collect_lowers n c collect_step.Root asks busy = let it = nodes_lower p.table.documents (record c { bound = option_map_or root_pair (documents_in p.table.documents (id.Node [])) collecting.no_pair }) 0 (nat_lt 0 c.clusters) refl in omega (arith, it)
  collect_lowers n c (collect_step.Node k) asks busy = by (memory_at p.memories k).recovered (record { head = pin_now (memory_at p.memories k); pins = values_of (memory_at p.memories k).pins })
    where
      by : (b : Bool) (t : Told) → collect_left p.table.documents (collecting.fed (record c { step = collect_step.Node k }) (node_reply (cond b None (Some t)))) < all_steps (nodes_behind None p.table.documents) + (c.clusters - k) + 3
      by true t = nodes_lower p.table.documents c k (nat_lt k c.clusters) refl
      by false t = nodes_lower p.table.documents (collecting.lowered c (record { base = t.head.base; sweep = t.head.sweep } ∷ t.pins)) k (nat_lt k c.clusters) refl
  collect_lowers n c collect_step.Settings asks busy = omega arith
  collect_lowers n c collect_step.First asks busy = finds_lower p.table.documents is (record c { step = collect_step.First }) None (slice_get p.table.documents 0) refl
  collect_lowers n c collect_step.Next asks busy = finds_lower p.table.documents is (record c { step = collect_step.Next }) (Some (id.Node c.reading.at)) (slice_get (behind (Some (id.Node c.reading.at)) p.table.documents) 0) refl
  collect_lowers n c (collect_step.Listed m) asks busy =
      let it = goes_lower p.table.documents (record c { reading = with_previous_read c.reading m (documents_in p.table.documents (id.Prev m c.reading.at)); step = collect_step.Listed m }) in
      let noted = noted_within m (documents_in p.table.documents (id.Prev m c.reading.at)) c.reading.previous in
      omega (arith, it, noted)
  collect_lowers n c collect_step.Prune asks busy = by (found p.table c.reading.document.id)
    where
      met : (d changed : Document) (b : Bool) → collect_left (with_result p.table c.reading.document.id (cond b (Ok changed) (Err (update_refusal (Some d) (Some (Unchanged c.reading.document.mod_count)))))).documents
          (collecting.fed (record c { step = collect_step.Prune }) (replied (Some d) (cond b (Ok changed) (Err (update_refusal (Some d) (Some (Unchanged c.reading.document.mod_count)))))))
          < all_steps (nodes_behind (Some (id.Node c.reading.at)) p.table.documents) + (length c.reading.previous + 2)
      met d changed true =
          let it = removes_lower (insert_entry id_cmp p.table.documents c.reading.document.id changed) (with_entries (record c { reading = record c.reading { previous = garbage_previous c.bound c.reading }; step = collect_step.Prune }) (length c.reading.garbage)) in
          let alike = ap all_steps (left_put c.reading.document.id (Some (id.Node c.reading.at)) (put_off c.reading.at c.reading.document.id asks.at) changed p.table.documents) in
          let fewer = filter_within (λ e. is_garbage_previous c.bound.base c.bound.sweep c.reading.document e.1) c.reading.previous in
          omega (arith, it, alike, fewer)
      met d changed false = omega arith

      by : (o : Option Document) → collect_left (with_result p.table c.reading.document.id (updated o (collecting.prune_op c.bound c.reading) (next_number p.table))).documents
          (collecting.fed (record c { step = collect_step.Prune }) (replied o (updated o (collecting.prune_op c.bound c.reading) (next_number p.table))))
          < all_steps (nodes_behind (Some (id.Node c.reading.at)) p.table.documents) + (length c.reading.previous + 2)
      by None = omega arith
      by (Some d) = met d (after_changes (Some d) (collecting.prune_op c.bound c.reading) (next_number p.table)) (is_met (Some d) (Some (Unchanged c.reading.document.mod_count)))
  collect_lowers n c collect_step.Remove asks busy = by (removal_of p.table c.reading.document.id c.reading.document.mod_count) (removed_alike p.table c.reading.at c.reading.document.id (removal_of p.table c.reading.document.id c.reading.document.mod_count) (put_off c.reading.at c.reading.document.id asks.at))
    where
      by : (r : RemoveOut) → all_steps (nodes_behind (Some (id.Node c.reading.at)) (after_removal p.table c.reading.document.id r).documents) ≡ all_steps (nodes_behind (Some (id.Node c.reading.at)) p.table.documents)
          → collect_left (after_removal p.table c.reading.document.id r).documents (collecting.fed (record c { step = collect_step.Remove }) (reply.Removed r))
          < all_steps (nodes_behind (Some (id.Node c.reading.at)) p.table.documents) + (length c.reading.previous + 2)
      by removal.Removed alike = let it = removes_lower (after_removal p.table c.reading.document.id removal.Removed).documents (with_document (record c { step = collect_step.Remove })) in omega (arith, it, alike)
      by (removal.Changed k) alike = omega arith
      by removal.Absent alike = omega arith
  collect_lowers n c (collect_step.RemovePrevious m read) asks busy = by (removal_of p.table (id.Prev m c.reading.at) read) (removed_alike p.table c.reading.at (id.Prev m c.reading.at) (removal_of p.table (id.Prev m c.reading.at) read) refl)
    where
      by : (r : RemoveOut) → all_steps (nodes_behind (Some (id.Node c.reading.at)) (after_removal p.table (id.Prev m c.reading.at) r).documents) ≡ all_steps (nodes_behind (Some (id.Node c.reading.at)) p.table.documents)
          → collect_left (after_removal p.table (id.Prev m c.reading.at) r).documents (collecting.fed (record c { step = collect_step.RemovePrevious m read }) (reply.Removed r))
          < all_steps (nodes_behind (Some (id.Node c.reading.at)) p.table.documents) + (length c.reading.previous + 2)
      by removal.Removed alike = let it = removes_lower (after_removal p.table (id.Prev m c.reading.at) removal.Removed).documents (with_document (record c { step = collect_step.RemovePrevious m read })) in omega (arith, it, alike)
      by (removal.Changed k) alike = removes_lower p.table.documents (with_skip (record c { step = collect_step.RemovePrevious m read }) (id.Prev m c.reading.at) read k)
      by removal.Absent alike = removes_lower p.table.documents (record c { step = collect_step.RemovePrevious m read })
  collect_lowers n c collect_step.Done asks busy = absurd (busy refl)

pub steps_lower : StepsLower
steps_lower p n (tidying.Split x) is can = split_lowers p x x.step can.busy
steps_lower p n (tidying.Collect x) is can = collect_lowers p is n x x.step can.asks.0 can.busy

-- what goes on has fewer steps left
pub goes_lower_on : (p : AllParts) (u : Table) (n : ℕ) (x y : Tidying) → IsTable p.table.documents → CanTidy n x → u ≡ table_after p.table (tidying_ask x) → y ≡ tidied_on p x → tidying_left u y < tidying_left p.table x
goes_lower_on p u n x y is can after same =
    subst (λ (z : Tidying). tidying_left u z < tidying_left p.table x) (sym same)
    (subst (λ (t : Table). tidying_left t (tidied_on p x) < tidying_left p.table x) (sym after) (steps_lower p n x is can))
