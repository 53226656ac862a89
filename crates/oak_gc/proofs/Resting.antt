-- A collector that a store answers alone collects each document of the store, and ends.
use Rattle.std.proofs.Common.{◌≡◌, ℕ, zero, suc, Bool, true, false, cond, List, [], ◌∷◌, ◌++◌, Option, None, Some, length, map, fold, refl, sym, ap, ◌∙◌, subst, arith, append_assoc}
use Rattle.std.specs.Prelude.{◌+◌, ◌-◌, nat_lt, reverse, Ok, Err, slice_get}
use Rattle.std.specs.Option.{option_flatten, option_map, option_map_or}
use Rattle.std.specs.Ordering.{nat_cmp}
use Rattle.std.specs.BTreeMap.{insert_entry}
use Rattle.std.specs.Map.{keys_of}
use Rattle.std.specs.List.{AllByRecursion, filter}
use Rattle.std.specs.List.Sorted.{IsStrictlySortedBy}
use Rattle.std.specs.declared.alloc.Global.{Global}
use Rattle.std.proofs.lemmas.Grind.{reverse_onto}
use Rattle.std.proofs.lemmas.List.{length-append, reverse-reverse}
use Rattle.std.proofs.lemmas.List.Elements.{recursion_from_All}
use Rattle.jr_path.proofs.Orders.{id_exact, id_total}
use Rattle.jr_path.specs.Ids.{id_cmp}
use Rattle.jr_path.specs.declared.path.Path.{Path}
use Rattle.jr_path.specs.declared.path.DocId.{DocId}
use Rattle.jr_path.specs.declared.path.DocId.TheVariants as id
use Rattle.jr_rev.specs.declared.revision.Revision.{Revision}
use Rattle.jr_rev.specs.declared.vector.Pin.{Pin}
use Rattle.oak_doc.specs.declared.asks.Ask.TheVariants as ask
use Rattle.oak_doc.specs.declared.asks.Collected.{Collected}
use Rattle.oak_doc.specs.declared.asks.MemoryAsk.TheVariants as memory
use Rattle.oak_doc.specs.declared.asks.RemoveOut.{RemoveOut}
use Rattle.oak_doc.specs.declared.asks.RemoveOut.TheVariants as removal
use Rattle.oak_doc.specs.declared.asks.Reply.TheVariants as reply
use Rattle.oak_doc.specs.declared.document.Document.{Document}
use Rattle.oak_doc.specs.declared.update.Change.TheVariants as change
use Rattle.oak_doc.specs.declared.update.Cond.TheVariants.{Unchanged}
use Rattle.oak_doc.specs.declared.update.EntryKey.{EntryKey}
use Rattle.oak_doc.specs.declared.update.Field.{Field}
use Rattle.oak_doc.specs.declared.update.Field.TheVariants as field
use Rattle.oak_doc.specs.Updates.{after_changes, changed, is_met, pruned, update_refusal, updated}
use Rattle.oak_prev.proofs.Resting.{named_found}
use Rattle.oak_prev.specs.Resting.{update_reply}
use Rattle.oak_store.specs.Tables.{Table, after_removal, found, next_after, next_number, removal_of, with_document}
use Rattle.oak_gc.proofs.Asking.{garbage_is}
use Rattle.oak_gc.proofs.Behind.{Entries, behind, comes, is_node, left, left_put, left_removed, named_put, named_removed, next_is, nodes_left, none_next, not_itself, of_first, of_left}
use Rattle.oak_gc.proofs.Ordered.{sorted_put, sorted_removed}
use Rattle.oak_gc.proofs.Bounding.{at_node, fold-append, more_to_ask, none_to_ask, one_node, pairs_more, pairs_of}
use Rattle.oak_gc.proofs.Going.{last_is}
use Rattle.oak_gc.specs.Bounding.{node_reply, those_that_tell}
use Rattle.oak_gc.specs.Bounds.{Told, bound_of, kept_pairs, lesser_pair, root_pair}
use Rattle.oak_gc.specs.Collecting.{Previous, begun, decided, due, fed, found_document, found_in, going_on, has_garbage_in, more_documents, more_entries, more_skips, nothing_collected, nothing_read, on_next, node_reading, removing}
use Rattle.oak_gc.specs.Garbage.{garbage_in, garbage_listed, has_garbage, is_garbage_document, is_garbage_previous}
use Rattle.oak_gc.specs.Resting.{CollectsByTheLeast, CollectsEach, CollectionEndsIn, Emptied, after, store_after, collector_answer, collected_at, collected_by, removal_counted, garbage_op, previous_listed, with_collected, with_removed_previous, with_update, without, without_document, without_garbage, without_previous}
use Rattle.oak_gc.specs.declared.collector.Collector.{Collector}
use Rattle.oak_gc.specs.declared.reading.Reading.{Reading}
use Rattle.oak_gc.specs.declared.reading.Step.{Step}
use Rattle.oak_gc.specs.declared.reading.Step.TheVariants as step

-- ---- the steps of a collector at one document

reversed : (e : ℕ × Document) (es : Previous) → reverse (e ∷ es) ≡ reverse es ++ e ∷ []
reversed e es = reverse_onto es e []

module _ (told : List (Option Told)) (a : Global) (clusters : ℕ) (bound : Pin) (out : Emptied) where
  abbrev at : Reading → Collected → Step → Collector
  at r o s = record { alloc = a; clusters = clusters; bound = bound; reading = r; collected = o; step = s }

  abbrev EndsAt : Table → Collector → Type 0
  EndsAt t c = CollectionEndsIn told (record { store = t; collector = c }) out

  one_more : (t : Table) (c : Collector) → EndsAt (after t (due c)) (fed c (collector_answer told t (due c))) → EndsAt t c
  one_more t c e = (suc e.0, e.1, e.2, e.3)

  module _ (p : Path) (d : Document) where
    abbrev reading : List ℕ → Previous → Reading
    reading ns ps = record { at = p; document = d; garbage = garbage_in bound.base bound.sweep d; listed = ns; previous = ps }

    -- it ends once it goes on to the next document
    abbrev GoesOn : Emptied → Type 0
    GoesOn o = (ps : Previous) → EndsAt o.store (at (reading [] ps) o.collected step.Next)

    abbrev removing_by : Collector → Option ((ℕ × Document) × Previous) → Collector
    removing_by c l = option_map_or (λ l. record c { reading = record c.reading { previous = l.1 }; step = step.RemovePrevious l.0.0 l.0.1.mod_count }) l (on_next c)

    removals : (rs : Previous) (o : Emptied) (s : Step) → GoesOn (fold (λ o e. without o (id.Prev e.0 p) e.1.mod_count) o rs) → EndsAt o.store (removing (at (reading [] (reverse rs)) o.collected s))
    removals [] o s go = go []
    removals (e ∷ rs) o s go =
        subst (λ ps. EndsAt o.store (removing (at (reading [] ps) o.collected s))) (sym (reversed e rs))
        (subst (λ l. EndsAt o.store (removing_by (at (reading [] (reverse rs ++ e ∷ [])) o.collected s) l)) (sym (last_is (reverse rs) e))
        (one_more o.store (at (reading [] (reverse rs)) o.collected (step.RemovePrevious e.0 e.1.mod_count)) (by (removal_of o.store (id.Prev e.0 p) e.1.mod_count) (removals rs) go)))
      where
        by : (x : RemoveOut) → ((o : Emptied) (s : Step) → GoesOn (fold (λ o e. without o (id.Prev e.0 p) e.1.mod_count) o rs) → EndsAt o.store (removing (at (reading [] (reverse rs)) o.collected s)))
            → GoesOn (fold (λ o e. without o (id.Prev e.0 p) e.1.mod_count) (record { store = after_removal o.store (id.Prev e.0 p) x; collected = removal_counted o.collected (id.Prev e.0 p) e.1.mod_count x }) rs)
            → EndsAt (after_removal o.store (id.Prev e.0 p) x) (fed (at (reading [] (reverse rs)) o.collected (step.RemovePrevious e.0 e.1.mod_count)) (reply.Removed x))
        by removal.Removed again go' = again (record { store = after_removal o.store (id.Prev e.0 p) removal.Removed; collected = more_documents o.collected }) (step.RemovePrevious e.0 e.1.mod_count) go'
        by (removal.Changed k) again go' = again (record { store = o.store; collected = more_skips o.collected (id.Prev e.0 p) e.1.mod_count k }) (step.RemovePrevious e.0 e.1.mod_count) go'
        by removal.Absent again go' = again o (step.RemovePrevious e.0 e.1.mod_count) go'

    all_removals : (ps : Previous) (o : Emptied) (s : Step) → GoesOn (without_previous p o ps) → EndsAt o.store (removing (at (reading [] ps) o.collected s))
    all_removals ps o s go = subst (λ qs. EndsAt o.store (removing (at (reading [] qs) o.collected s))) (reverse-reverse ps) (removals (reverse ps) o s go)

    removes : (ps : Previous) (o : Emptied) → GoesOn (without_document o p d ps) → EndsAt o.store (at (reading [] ps) o.collected step.Remove)
    removes ps o go = one_more o.store (at (reading [] ps) o.collected step.Remove) (by (removal_of o.store d.id d.mod_count) go)
      where
        by : (x : RemoveOut) → GoesOn (with_removed_previous x p (record { store = after_removal o.store d.id x; collected = removal_counted o.collected d.id d.mod_count x }) ps)
            → EndsAt (after_removal o.store d.id x) (fed (at (reading [] ps) o.collected step.Remove) (reply.Removed x))
        by removal.Removed go' = all_removals ps (record { store = after_removal o.store d.id removal.Removed; collected = more_documents o.collected }) step.Remove go'
        by (removal.Changed k) go' = go' ps
        by removal.Absent go' = go' ps

    prunes : (ps : Previous) (o : Emptied) → GoesOn (without_garbage bound o p d ps) → EndsAt o.store (at (reading [] ps) o.collected step.Prune)
    prunes ps o go = one_more o.store (at (reading [] ps) o.collected step.Prune) (by (found o.store d.id) go)
      where
        met : (f : Document) (b : Bool) → GoesOn (with_update bound o p d ps (cond b (Ok (after_changes (Some f) (garbage_op bound d ps) (next_number o.store))) (Err (update_refusal (Some f) (Some (Unchanged d.mod_count))))))
            → EndsAt (store_after o.store d.id (cond b (Ok (after_changes (Some f) (garbage_op bound d ps) (next_number o.store))) (Err (update_refusal (Some f) (Some (Unchanged d.mod_count))))))
            (fed (at (reading [] ps) o.collected step.Prune) (update_reply (Some f) (cond b (Ok (after_changes (Some f) (garbage_op bound d ps) (next_number o.store))) (Err (update_refusal (Some f) (Some (Unchanged d.mod_count)))))))
        met f true go' = all_removals (filter (λ e. is_garbage_previous bound.base bound.sweep d e.1) ps)
            (record { store = with_document o.store d.id (after_changes (Some f) (garbage_op bound d ps) (next_number o.store)) (next_number o.store); collected = more_entries o.collected (length (garbage_in bound.base bound.sweep d)) }) step.Prune go'
        met f false go' = go' ps

        by : (f : Option Document) → GoesOn (with_update bound o p d ps (updated f (garbage_op bound d ps) (next_number o.store)))
            → EndsAt (store_after o.store d.id (updated f (garbage_op bound d ps) (next_number o.store))) (fed (at (reading [] ps) o.collected step.Prune) (update_reply f (updated f (garbage_op bound d ps) (next_number o.store))))
        by None go' = go' ps
        by (Some f) go' = met f (is_met (Some f) (Some (Unchanged d.mod_count))) go'

    decides : (ps : Previous) (o : Emptied) → GoesOn (with_collected bound o p d ps) → EndsAt o.store (at (reading [] ps) o.collected (decided bound (reading [] ps)))
    decides ps o go = by (is_garbage_document bound.base bound.sweep d) refl go
      where
        some : (h : Bool) → GoesOn (cond h (without_garbage bound o p d ps) o) → EndsAt o.store (at (reading [] ps) o.collected (cond h step.Prune step.Next))
        some true go' = prunes ps o go'
        some false go' = go' ps

        by : (g : Bool) → is_garbage_document bound.base bound.sweep d ≡ g → GoesOn (cond g (without_document o p d ps) (cond (has_garbage bound.base bound.sweep (found_in ps) d) (without_garbage bound o p d ps) o))
            → EndsAt o.store (at (reading [] ps) o.collected (cond g step.Remove (cond (has_garbage_in bound (reading [] ps)) step.Prune step.Next)))
        by true is go' = removes ps o go'
        by false is go' = some (has_garbage_in bound (reading [] ps)) (subst (λ h. GoesOn (cond h (without_garbage bound o p d ps) o)) (garbage_is bound (reading [] ps) refl is) go')

    finds : (ns : List ℕ) (ps : Previous) (o : Emptied) (s : Step) → GoesOn (with_collected bound o p d (previous_listed (found o.store) p ns ps)) → EndsAt o.store (going_on (at (reading ns ps) o.collected s))
    finds [] ps o s go = decides ps o go
    finds (n ∷ ns) ps o s go =
        one_more o.store (at (reading ns ps) o.collected (step.Listed n))
        (finds ns (option_map_or (insert_entry nat_cmp ps n) (found o.store (id.Prev n p)) ps) o (step.Listed n) go)

-- ---- a change of one document leaves those behind it

-- in store order, each document under its id
pub record IsOrdered (t : Table) : Type 0 where
  pub sorted : IsStrictlySortedBy id_cmp (keys_of t.documents)
  pub named : AllByRecursion (λ e. e.1.id ≡ e.0) t.documents

prune_id : (d : Document) (k : EntryKey) → (pruned d k).id ≡ d.id
prune_id d k = by k.field k.revision
  where
    by : (f : Field) (r : Revision) → (pruned d (record { field = f; revision = r })).id ≡ d.id
    by field.Deleted r = refl
    by field.CommitRoot r = refl
    by field.Revisions r = refl
    by field.Collisions r = refl
    by field.Touched r = refl
    by field.Guard r = refl
    by (field.Prop n) r = refl

prunes_id : (ks : List EntryKey) (d : Document) → (fold pruned d ks).id ≡ d.id
prunes_id [] d = refl
prunes_id (k ∷ ks) d = prunes_id ks (pruned d k) ∙ prune_id d k

unlists_id : (ns : List ℕ) (d : Document) → (fold changed d (map change.Unlist ns)).id ≡ d.id
unlists_id [] d = refl
unlists_id (n ∷ ns) d = unlists_id ns (changed d (change.Unlist n))

module _ (bound : Pin) (q : Path) where
  -- the nodes' documents behind are the ones that were there
  pub record Leaves (t u : Table) : Type 0 where
    pub ordered : IsOrdered u
    pub behind_it : left (Some (id.Node q)) u.documents ≡ left (Some (id.Node q)) t.documents

  itself : (t : Table) → IsOrdered t → Leaves t t
  itself t is = record { ordered = is; behind_it = refl }

  then_leaves : (t u v : Table) → Leaves t u → Leaves u v → Leaves t v
  then_leaves t u v l m = record { ordered = m.ordered; behind_it = m.behind_it ∙ l.behind_it }

  removal_leaves : (t : Table) (x : DocId) (r : RemoveOut) → IsOrdered t → comes (Some (id.Node q)) x ≡ false → Leaves t (after_removal t x r)
  removal_leaves t x removal.Removed is off = record {
    ordered = record { sorted = sorted_removed id_cmp id_total id_exact x t.documents is.sorted; named = named_removed x t.documents is.named };
    behind_it = left_removed x (Some (id.Node q)) off t.documents;
  }
  removal_leaves t x (removal.Changed k) is off = itself t is
  removal_leaves t x removal.Absent is off = itself t is

  previous_leave : (es : Previous) (o : Emptied) → IsOrdered o.store → Leaves o.store (fold (λ o e. without o (id.Prev e.0 q) e.1.mod_count) o es).store
  previous_leave [] o is = itself o.store is
  previous_leave (e ∷ es) o is =
      let first = removal_leaves o.store (id.Prev e.0 q) (removal_of o.store (id.Prev e.0 q) e.1.mod_count) is refl in
      then_leaves o.store (without o (id.Prev e.0 q) e.1.mod_count).store _ first (previous_leave es (without o (id.Prev e.0 q) e.1.mod_count) first.ordered)

  module _ (d : Document) (own : d.id ≡ id.Node q) (ps : Previous) where
    off : comes (Some (id.Node q)) d.id ≡ false
    off = ap (comes (Some (id.Node q))) own ∙ not_itself (id.Node q)

    document_leaves : (o : Emptied) → IsOrdered o.store → Leaves o.store (without_document o q d ps).store
    document_leaves o is = by (removal_of o.store d.id d.mod_count) (removal_leaves o.store d.id (removal_of o.store d.id d.mod_count) is off)
      where
        by : (x : RemoveOut) → Leaves o.store (after_removal o.store d.id x) → Leaves o.store (with_removed_previous x q (record { store = after_removal o.store d.id x; collected = removal_counted o.collected d.id d.mod_count x }) ps).store
        by removal.Removed l = then_leaves o.store (after_removal o.store d.id removal.Removed) _ l (previous_leave (reverse ps) (record { store = after_removal o.store d.id removal.Removed; collected = more_documents o.collected }) l.ordered)
        by (removal.Changed k) l = l
        by removal.Absent l = l

    garbage_leaves : (o : Emptied) → IsOrdered o.store → Leaves o.store (without_garbage bound o q d ps).store
    garbage_leaves o is = by (found o.store d.id) (λ f h. named_found o.store.documents is.named d.id f h)
      where
        made : (new : Document) → new.id ≡ d.id → Leaves o.store (with_update bound o q d ps (Ok new)).store
        made new same =
            let u = with_document o.store d.id new (next_number o.store) in
            let put : Leaves o.store u = record {
              ordered = record { sorted = sorted_put id_cmp id_total id_exact d.id new o.store.documents is.sorted; named = named_put d.id new same o.store.documents is.named };
              behind_it = left_put d.id (Some (id.Node q)) off new o.store.documents;
            } in
            then_leaves o.store u _ put (previous_leave (reverse (filter (λ e. is_garbage_previous bound.base bound.sweep d e.1) ps))
            (record { store = u; collected = more_entries o.collected (length (garbage_in bound.base bound.sweep d)) }) put.ordered)

        met : (f : Document) → f.id ≡ d.id → (b : Bool) → Leaves o.store (with_update bound o q d ps (cond b (Ok (after_changes (Some f) (garbage_op bound d ps) (next_number o.store))) (Err (update_refusal (Some f) (Some (Unchanged d.mod_count)))))).store
        met f same true = made (after_changes (Some f) (garbage_op bound d ps) (next_number o.store))
            (unlists_id (garbage_listed bound.base bound.sweep (found_in ps) d) (fold pruned f (garbage_in bound.base bound.sweep d)) ∙ prunes_id (garbage_in bound.base bound.sweep d) f ∙ same)
        met f same false = itself o.store is

        by : (f : Option Document) → ((g : Document) → f ≡ Some g → g.id ≡ d.id) → Leaves o.store (with_update bound o q d ps (updated f (garbage_op bound d ps) (next_number o.store))).store
        by None named = itself o.store is
        by (Some f) named = met f (named f refl) (is_met (Some f) (Some (Unchanged d.mod_count)))

    collected_leaves : (o : Emptied) → IsOrdered o.store → Leaves o.store (with_collected bound o q d ps).store
    collected_leaves o is = by (is_garbage_document bound.base bound.sweep d) (has_garbage bound.base bound.sweep (found_in ps) d)
      where
        by : (g h : Bool) → Leaves o.store (cond g (without_document o q d ps) (cond h (without_garbage bound o q d ps) o)).store
        by true h = document_leaves o is
        by false true = garbage_leaves o is
        by false false = itself o.store is

-- ---- all documents

-- documents of no node are passed over
nodes_alone : (bound : Pin) (es : Entries) (o : Emptied) → collected_by bound o (left None es) ≡ collected_by bound o es
nodes_alone bound [] o = refl
nodes_alone bound (e ∷ es) o = by e.0 (nodes_alone bound es)
  where
    by : (x : DocId) → ((o : Emptied) → collected_by bound o (left None es) ≡ collected_by bound o es) → collected_by bound o (cond (is_node x) ((x, e.1) ∷ left None es) (left None es)) ≡ collected_by bound o ((x, e.1) ∷ es)
    by (id.Node p) again = again (collected_at bound o (id.Node p, e.1))
    by (id.Prev n p) again = again o
    by id.Settings again = again o

next_found : (t : Table) (x : Option DocId) → next_after t x ≡ option_map (λ e. e.1) (slice_get (behind x t.documents) 0)
next_found t None = refl
next_found t (Some x) = refl

module _ (told : List (Option Told)) (a : Global) (clusters : ℕ) (bound : Pin) (out : Emptied) where
  abbrev asking : Reading → Emptied → Step → Collector
  asking r o s = at told a clusters bound out r o.collected s

  -- it goes on so from this document
  abbrev Goes : Emptied → Reading → Step → Option Document → Type 0
  Goes o r s f = EndsAt told a clusters bound out o.store (option_map_or (found_document (asking r o s)) f (asking r o step.Done))

  -- from an ask for the next document, with these nodes' documents left
  walk : (rest : Entries) (x : Option DocId) (o : Emptied) (r : Reading) (s : Step) → IsOrdered o.store → left x o.store.documents ≡ rest → collected_by bound o rest ≡ out → Goes o r s (next_after o.store x)
  walk [] x o r s is h same = subst (Goes o r s) (sym (next_found o.store x)) (by (slice_get (behind x o.store.documents) 0) refl)
    where
      ended : EndsAt told a clusters bound out o.store (asking r o step.Done)
      ended = (zero, ap (λ (o : Emptied). o.store) same, refl, ap (λ (o : Emptied). o.collected) same)

      other : (d : Document) (y : DocId) → is_node y ≡ false → EndsAt told a clusters bound out o.store (option_map_or (λ r'. going_on (asking r' o s)) (node_reading bound y d) (asking r o step.Done))
      other d (id.Node p) off = cc
      other d (id.Prev n p) off = ended
      other d id.Settings off = ended

      by : (f : Option (DocId × Document)) → slice_get (behind x o.store.documents) 0 ≡ f → Goes o r s (option_map (λ e. e.1) f)
      by None e = ended
      by (Some g) e =
          let own : g.1.id ≡ g.0 = of_first x (λ e. e.1.id ≡ e.0) o.store.documents is.named g e in
          other g.1 g.1.id (ap is_node own ∙ none_next x o.store.documents h g e)
  walk ((id.Node q, d) ∷ more) x o r s is h same =
      let n = next_is x o.store.documents (id.Node q, d) more is.sorted h in
      let own : d.id ≡ id.Node q = (subst (λ es. AllByRecursion (λ (e : DocId × Document). e.1.id ≡ e.0) es) h (of_left x (λ e. e.1.id ≡ e.0) o.store.documents is.named)).0 in
      let ps = previous_listed (found o.store) q (map (λ l. l.number) d.prev) [] in
      let l = collected_leaves bound q d own ps o is in
      subst (Goes o r s) (sym (next_found o.store x ∙ ap (option_map (λ e. e.1)) n.first))
      (subst (λ y. EndsAt told a clusters bound out o.store (option_map_or (λ r'. going_on (asking r' o s)) (node_reading bound y d) (asking r o step.Done))) (sym own)
      (finds told a clusters bound out q d (map (λ l. l.number) d.prev) [] o s
      (λ qs. one_more told a clusters bound out (with_collected bound o q d ps).store (at told a clusters bound out (reading told a clusters bound out q d [] qs) (with_collected bound o q d ps).collected step.Next)
      (walk more (Some (id.Node q)) (with_collected bound o q d ps) (reading told a clusters bound out q d [] qs) step.Next l.ordered (l.behind_it ∙ n.rest) same))))
  walk ((id.Prev n q, d) ∷ more) x o r s is h same = let node : is_node (id.Prev n q) ≡ true = (subst (λ es. AllByRecursion (λ (e : DocId × Document). is_node e.0 ≡ true) es) h (nodes_left x o.store.documents)).0 in cc
  walk ((id.Settings, d) ∷ more) x o r s is h same = let node : is_node id.Settings ≡ true = (subst (λ es. AllByRecursion (λ (e : DocId × Document). is_node e.0 ≡ true) es) h (nodes_left x o.store.documents)).0 in cc

pub collects_each : CollectsEach
collects_each told t a clusters bound is =
    let start : Emptied = record { store = t; collected = nothing_collected } in
    let out : Emptied = collected_by bound start t.documents in
    one_more told a clusters bound out t (at told a clusters bound out nothing_read nothing_collected step.First)
    (walk told a clusters bound out (left None t.documents) None start nothing_read step.First (record { sorted = is.ordered; named = recursion_from_All (λ e. e.1.id ≡ e.0) t.documents is.named }) refl (nodes_alone bound t.documents start))

-- ---- the bound before

told_here : (front : List (Option Told)) (n : Option Told) (ns : List (Option Told)) → slice_get (front ++ n ∷ ns) (length front) ≡ Some n
told_here [] n ns = refl
told_here (m ∷ front) n ns = told_here front n ns

one_longer : (front : List (Option Told)) (n : Option Told) → length (front ++ n ∷ []) ≡ length front + 1
one_longer front n = length-append front (n ∷ [])

module _ (told : List (Option Told)) (a : Global) (t : Table) (out : Emptied) where
  abbrev EndsFrom : Collector → Type 0
  EndsFrom c = CollectionEndsIn told (record { store = t; collector = c }) out

  asked : (c : Collector) → CollectionEndsIn told (record { store = after t (due c); collector = fed c (collector_answer told t (due c)) }) out → EndsFrom c
  asked c e = (suc e.0, e.1, e.2, e.3)

  -- the cluster nodes are asked one after another
  nodes_asked : (nodes front : List (Option Told)) (b : Pin) → told ≡ front ++ nodes
      → EndsFrom (record (begun a (length told)) { bound = fold lesser_pair b (pairs_of nodes); step = step.Settings }) → EndsFrom (at_node a (length told) b (length front))
  nodes_asked [] front b is e =
      let all : nat_lt (length front) (length told) ≡ false = none_to_ask (length front) (length told) (sym (ap length is ∙ length-append front [])) in
      subst (λ less. EndsFrom (record (begun a (length told)) { bound = b; step = cond less (step.Node (length front + 1)) step.Settings })) (sym all) e
  nodes_asked (n ∷ ns) front b is e =
      let more : nat_lt (length front) (length told) ≡ true = more_to_ask (length front) (length ns) (length told) (sym (ap length is ∙ length-append front (n ∷ ns))) in
      let answered : collector_answer told t (ask.Memory (memory.Pins (length front + 1))) ≡ node_reply n =
      (let back : length front + 1 - 1 ≡ length front = omega arith in ap (λ k. node_reply (option_flatten (slice_get told k))) back)
      ∙ ap (λ o. node_reply (option_flatten o)) (ap (λ ns. slice_get ns (length front)) is ∙ told_here front n ns) in
      let next : EndsFrom (at_node a (length told) (fold lesser_pair b (pairs_of (n ∷ []))) (length front + 1)) =
      subst (λ k. EndsFrom (at_node a (length told) (fold lesser_pair b (pairs_of (n ∷ []))) k)) (one_longer front n)
      (nodes_asked ns (front ++ n ∷ []) (fold lesser_pair b (pairs_of (n ∷ []))) (is ∙ sym (append_assoc front (n ∷ []) ns))
      (subst (λ b. EndsFrom (record (begun a (length told)) { bound = b; step = step.Settings })) (sym (pairs_more a (length told) n ns b)) e)) in
      subst (λ less. EndsFrom (record (begun a (length told)) { bound = b; step = cond less (step.Node (length front + 1)) step.Settings })) (sym more)
      (asked (record (begun a (length told)) { bound = b; step = step.Node (length front + 1) })
      (subst (λ r. EndsFrom (fed (record (begun a (length told)) { bound = b; step = step.Node (length front + 1) }) r)) (sym answered)
      (subst (λ less. EndsFrom (fed (record (begun a (length told)) { bound = b; step = cond less (step.Node (length front + 1)) step.Settings }) (node_reply n))) more
      (subst EndsFrom (sym (one_node a (length told) b n (length front) more)) next))))

pub collects_by_the_least : CollectsByTheLeast
collects_by_the_least told t a root settings is root_is settings_is =
    let start : Emptied = record { store = t; collected = nothing_collected } in
    let bound : Pin = bound_of root (those_that_tell told) settings in
    let out : Emptied = collected_by bound start t.documents in
    let nodes : Pin = fold lesser_pair (root_pair root) (pairs_of told) in
    let whole : EndsFrom told a t out (record (begun a (length told)) { bound = fold lesser_pair nodes (kept_pairs settings); step = step.First }) =
    subst (λ b. EndsFrom told a t out (record (begun a (length told)) { bound = b; step = step.First })) (fold-append lesser_pair (root_pair root) (pairs_of told) (kept_pairs settings)) (collects_each told t a (length told) bound is) in
    let settled : EndsFrom told a t out (record (begun a (length told)) { bound = nodes; step = step.Settings }) =
    asked told a t out (record (begun a (length told)) { bound = nodes; step = step.Settings })
    (subst (λ f. EndsFrom told a t out (fed (record (begun a (length told)) { bound = nodes; step = step.Settings }) (reply.Found f))) (sym settings_is) whole) in
    asked told a t out (begun a (length told))
    (subst (λ f. EndsFrom told a t out (fed (begun a (length told)) (reply.Found f))) (sym root_is) (nodes_asked told a t out told [] (root_pair root) refl settled))
