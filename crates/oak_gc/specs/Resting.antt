-- A collection over a store in which nobody else writes.
use Rattle.std.specs.Prelude.{◌≡◌, ℕ, zero, suc, ◌-◌, cond, List, [], length, map, reverse, slice_get, Option, Some, Result, Ok, Err}
use Rattle.std.specs.List.{filter, fold}
use Rattle.std.specs.Option.{option_flatten, option_map_or}
use Rattle.std.specs.Ordering.{nat_cmp}
use Rattle.std.specs.BTreeMap.{insert_entry}
use Rattle.std.specs.declared.alloc.Global.{Global}
use Rattle.jr_path.specs.declared.path.Path.{Path}
use Rattle.jr_path.specs.declared.path.DocId.{DocId}
use Rattle.jr_path.specs.declared.path.DocId.TheVariants as id
use Rattle.jr_rev.specs.declared.vector.Pin.{Pin}
use Rattle.oak_doc.specs.declared.asks.Ask.{Ask}
use Rattle.oak_doc.specs.declared.asks.Ask.TheVariants as ask
use Rattle.oak_doc.specs.declared.asks.Collected.{Collected}
use Rattle.oak_doc.specs.declared.asks.MemoryAsk.TheVariants as memory
use Rattle.oak_doc.specs.declared.asks.RemoveOut.{RemoveOut}
use Rattle.oak_doc.specs.declared.asks.RemoveOut.TheVariants as removal
use Rattle.oak_doc.specs.declared.asks.Reply.{Reply}
use Rattle.oak_doc.specs.declared.asks.Reply.TheVariants as reply
use Rattle.oak_doc.specs.declared.document.Document.{Document}
use Rattle.oak_doc.specs.declared.update.Kept.TheVariants as kept
use Rattle.oak_doc.specs.declared.update.OpFault.{OpFault}
use Rattle.oak_doc.specs.declared.update.OpFault.TheVariants as fault
use Rattle.oak_doc.specs.declared.update.UpdateOp.{UpdateOp}
use Rattle.oak_doc.specs.Updates.{updated}
use Rattle.oak_prev.specs.Resting.{update_reply}
use Rattle.oak_read.specs.Meaning.{Documents}
use Rattle.oak_read.specs.Reading.{IsTable}
use Rattle.oak_store.specs.Tables.{Table, after_removal, found, next_after, next_number, removal_of, with_document}
use Rattle.oak_gc.specs.Bounding.{node_reply, those_that_tell}
use Rattle.oak_gc.specs.Bounds.{Told, bound_of}
use Rattle.oak_gc.specs.Collecting.{Previous, begun, due, fed, found_in, more_documents, more_entries, more_skips, nothing_collected}
use Rattle.oak_gc.specs.Garbage.{garbage_in, garbage_listed, has_garbage, is_garbage_document, is_garbage_previous, pruning}
use Rattle.oak_gc.specs.declared.collector.Collector.{Collector}
use Rattle.oak_gc.specs.declared.reading.Step.TheVariants as step

-- ---- a store that answers a collector alone

-- what the cluster nodes, which tell this, and a store answer; the first cluster node has the number 1
abbrev pub collector_answer : List (Option Told) → Table → Ask → Reply
collector_answer told t (ask.Find x) = reply.Found (found t x)
collector_answer told t (ask.NextAfter x) = reply.Found (next_after t x)
collector_answer told t (ask.Update op) = update_reply (found t op.id) (updated (found t op.id) op (next_number t))
collector_answer told t (ask.RemoveIf x n) = reply.Removed (removal_of t x n)
collector_answer told t (ask.Memory (memory.Pins k)) = node_reply (option_flatten (slice_get told (k - 1)))
collector_answer told t _ = reply.Finished

-- a store after an update that comes to this
abbrev pub store_after : Table → DocId → Result Document OpFault → Table
store_after t x (Ok d) = with_document t x d (next_number t)
store_after t x (Err refused) = t

-- a store after what was asked of it
abbrev pub after : Table → Ask → Table
after t (ask.Update op) = store_after t op.id (updated (found t op.id) op (next_number t))
after t (ask.RemoveIf x n) = after_removal t x (removal_of t x n)
after t _ = t

-- a store, and the one collector that it answers
pub record StoreAlone : Type 0 where
  pub store : Table
  pub collector : Collector

-- one ask and its answer
abbrev pub asked_once : List (Option Told) → StoreAlone → StoreAlone
asked_once told w = record { store = after w.store (due w.collector); collector = fed w.collector (collector_answer told w.store (due w.collector)) }

-- n asks, each with its answer
abbrev pub after_asks : List (Option Told) → ℕ → StoreAlone → StoreAlone
after_asks told zero w = w
after_asks told (suc n) w = after_asks told n (asked_once told w)

-- ---- what a collection makes of a store

-- a store, and what was counted until then
pub record Emptied : Type 0 where
  pub store : Table
  pub collected : Collected

-- what is counted once a removal on the number read is answered so
abbrev pub removal_counted : Collected → DocId → ℕ → RemoveOut → Collected
removal_counted o x read removal.Removed = more_documents o
removal_counted o x read (removal.Changed found) = more_skips o x read found
removal_counted o x read removal.Absent = o

-- a document is removed, where it has the number read
abbrev pub without : Emptied → DocId → ℕ → Emptied
without o x read = record { store = after_removal o.store x (removal_of o.store x read); collected = removal_counted o.collected x read (removal_of o.store x read) }

-- previous documents of a node are removed, the one that was split off last first
abbrev pub without_previous : Path → Emptied → Previous → Emptied
without_previous p o previous = fold (λ o e. without o (id.Prev e.0 p) e.1.mod_count) o (reverse previous)

-- where the removal of its document is answered so, those that it lists follow
abbrev pub with_removed_previous : RemoveOut → Path → Emptied → Previous → Emptied
with_removed_previous removal.Removed p o previous = without_previous p o previous
with_removed_previous _ p o previous = o

-- a node's document is removed, with the previous documents that it lists
abbrev pub without_document : Emptied → Path → Document → Previous → Emptied
without_document o p d previous = with_removed_previous (removal_of o.store d.id d.mod_count) p (without o d.id d.mod_count) previous

-- the listed previous documents that are there, by their numbers
abbrev pub previous_listed : Documents → Path → List ℕ → Previous → Previous
previous_listed ds p ns previous = fold (λ es n. option_map_or (insert_entry nat_cmp es n) (ds (id.Prev n p)) es) previous ns

module _ (bound : Pin) where
  -- the update of a document that drops its garbage
  abbrev pub garbage_op : Document → Previous → UpdateOp
  garbage_op d previous = pruning bound.base bound.sweep d (garbage_listed bound.base bound.sweep (found_in previous) d)

  -- that update came to this: it was made, and the previous documents that it unlisted follow; or the document is skipped, or gone
  abbrev pub with_update : Emptied → Path → Document → Previous → Result Document OpFault → Emptied
  with_update o p d previous (Ok after) =
      without_previous p (record { store = with_document o.store d.id after (next_number o.store); collected = more_entries o.collected (length (garbage_in bound.base bound.sweep d)) })
      (filter (λ e. is_garbage_previous bound.base bound.sweep d e.1) previous)
  with_update o p d previous (Err (fault.Unmet c (kept.Number n))) = record o { collected = more_skips o.collected d.id d.mod_count n }
  with_update o p d previous (Err _) = o

  -- the garbage of a document is dropped, where it has the number read
  abbrev pub without_garbage : Emptied → Path → Document → Previous → Emptied
  without_garbage o p d previous = with_update o p d previous (updated (found o.store d.id) (garbage_op d previous) (next_number o.store))

  -- a node's document that lists these goes whole, or its garbage goes, or nothing of it
  abbrev pub with_collected : Emptied → Path → Document → Previous → Emptied
  with_collected o p d previous = cond (is_garbage_document bound.base bound.sweep d) (without_document o p d previous) (cond (has_garbage bound.base bound.sweep (found_in previous) d) (without_garbage o p d previous) o)

  -- a document is collected with what it lists, where it is a node's
  abbrev pub collected_at : Emptied → DocId × Document → Emptied
  collected_at o e = by e.0
    where
      by : DocId → Emptied
      by (id.Node p) = with_collected o p e.1 (previous_listed (found o.store) p (map (λ l. l.number) e.1.prev) [])
      by _ = o

  -- documents are collected one after another
  abbrev pub collected_by : Emptied → List (DocId × Document) → Emptied
  collected_by o es = fold collected_at o es

-- after some steps the collector has ended, and the store and what was counted are so
abbrev pub CollectionEndsIn : List (Option Told) → StoreAlone → Emptied → Type 0
CollectionEndsIn told w o = (n : ℕ) × ((after_asks told n w).store ≡ o.store) × (due (after_asks told n w).collector ≡ ask.Done) × ((after_asks told n w).collector.collected ≡ o.collected)

-- a collector that has its bound collects each document of the store as it stood then, in store order, and ends
abbrev pub CollectsEach : Type 0
CollectsEach = (told : List (Option Told)) (t : Table) (a : Global) (clusters : ℕ) (bound : Pin) → IsTable t.documents
    → CollectionEndsIn told (record { store = t; collector = record (begun a clusters) { bound = bound; step = step.First } }) (collected_by bound (record { store = t; collected = nothing_collected }) t.documents)

-- a collector of so many cluster nodes as tell something takes the least of all pairs as its bound, and so it ends
abbrev pub CollectsByTheLeast : Type 0
CollectsByTheLeast = (told : List (Option Told)) (t : Table) (a : Global) (root settings : Document) → IsTable t.documents → found t (id.Node []) ≡ Some root → found t id.Settings ≡ Some settings
    → CollectionEndsIn told (record { store = t; collector = begun a (length told) }) (collected_by (bound_of root (those_that_tell told) settings) (record { store = t; collected = nothing_collected }) t.documents)
