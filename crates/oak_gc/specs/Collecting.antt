-- What a collector asks, and what it keeps after a reply.
use Rattle.std.specs.Prelude.{ℕ, ◌+◌, ◌^◌, ◌-◌, Bool, false, cond, not, ◌||◌, ◌==◌, nat_lt, min, List, [], ◌∷◌, ◌++◌, length, map, Option, None, Some}
use Rattle.std.specs.Option.{option_map_or}
use Rattle.std.specs.Ordering.{nat_cmp}
use Rattle.std.specs.Map.{lookup}
use Rattle.std.specs.BTreeMap.{insert_entry, is_at}
use Rattle.std.specs.List.{filter, fold, list_any}
use Rattle.std.specs.declared.alloc.Global.{Global}
use Rattle.jr_path.specs.declared.path.DocId.{DocId}
use Rattle.jr_path.specs.declared.path.DocId.TheVariants as id
use Rattle.jr_rev.specs.declared.vector.Pin.{Pin}
use Rattle.jr_rev.specs.Vectors.{no_entries}
use Rattle.oak_doc.specs.declared.asks.Ask.{Ask}
use Rattle.oak_doc.specs.declared.asks.Ask.TheVariants as ask
use Rattle.oak_doc.specs.declared.asks.Collected.{Collected}
use Rattle.oak_doc.specs.declared.asks.MemoryAsk.TheVariants as memory
use Rattle.oak_doc.specs.declared.asks.RemoveOut.TheVariants as removal
use Rattle.oak_doc.specs.declared.asks.Reply.{Reply}
use Rattle.oak_doc.specs.declared.asks.Reply.TheVariants as reply
use Rattle.oak_doc.specs.declared.document.Document.{Document}
use Rattle.oak_doc.specs.declared.update.Change.TheVariants as change
use Rattle.oak_doc.specs.declared.update.Cond.TheVariants.{Unchanged}
use Rattle.oak_doc.specs.declared.update.Kept.TheVariants as kept
use Rattle.oak_doc.specs.declared.update.UpdateOp.{UpdateOp}
use Rattle.oak_doc.specs.Updates.{document_of}
use Rattle.oak_read.specs.Meaning.{Documents}
use Rattle.oak_gc.specs.Bounds.{kept_pairs, lesser_pair, root_pair}
use Rattle.oak_gc.specs.Garbage.{garbage_in, garbage_listed, is_garbage_document, is_garbage_listed, is_garbage_previous}
use Rattle.oak_gc.specs.declared.collector.Collector.{Collector}
use Rattle.oak_gc.specs.declared.reading.Reading.{Reading}
use Rattle.oak_gc.specs.declared.reading.Step.{Step}
use Rattle.oak_gc.specs.declared.reading.Step.TheVariants as step

-- the pair that sees nothing
abbrev pub no_pair : Pin
no_pair = record { base = no_entries; sweep = no_entries }

-- previous documents of one node by their numbers
abbrev pub Previous : Type 0
Previous = List (ℕ × Document)

-- they as documents by their ids
abbrev pub found_in : Previous → Documents
found_in previous (id.Prev n p) = lookup (is_at (nat_cmp n)) previous
found_in previous (id.Node p) = None
found_in previous id.Settings = None

-- what a collector has read before any document
abbrev pub nothing_read : Reading
nothing_read = record { at = []; document = document_of None id.Settings; garbage = []; listed = []; previous = [] }

-- nothing is counted
abbrev pub nothing_collected : Collected
nothing_collected = record { entries = 0; documents = 0; skipped = [] }

-- a collector of so many cluster nodes, before it has read anything
abbrev pub begun : Global → ℕ → Collector
begun a clusters = record {
  alloc = a;
  clusters = clusters;
  bound = no_pair;
  reading = nothing_read;
  collected = nothing_collected;
  step = step.Root;
}

-- ---- what it asks for

-- the update that drops the garbage of a document, and unlists each previous document of which all is garbage, where the document has the number read
abbrev pub prune_op : Pin → Reading → UpdateOp
prune_op bound r = record {
  id = r.document.id;
  create = false;
  cond = Some (Unchanged r.document.mod_count);
  changes = change.Prune r.garbage ∷ map change.Unlist (garbage_listed bound.base bound.sweep (found_in r.previous) r.document);
}

-- what is due
abbrev pub due : Collector → Ask
due c = due_at c.step
  where
    due_at : Step → Ask
    due_at step.Root = ask.Find (id.Node [])
    due_at (step.Node k) = ask.Memory (memory.Pins k)
    due_at step.Settings = ask.Find id.Settings
    due_at step.First = ask.NextAfter None
    due_at step.Next = ask.NextAfter (Some (id.Node c.reading.at))
    due_at (step.Listed n) = ask.Find (id.Prev n c.reading.at)
    due_at step.Prune = ask.Update (prune_op c.bound c.reading)
    due_at step.Remove = ask.RemoveIf c.reading.document.id c.reading.document.mod_count
    due_at (step.RemovePrevious n read) = ask.RemoveIf (id.Prev n c.reading.at) read
    due_at step.Done = ask.Done

-- ---- what it keeps

-- so many more; at the greatest number it stays
abbrev pub plus : ℕ → ℕ → ℕ
plus a b = min (a + b) (2 ^ 64 - 1)

-- so many entries more were dropped from documents that stay
abbrev pub more_entries : Collected → ℕ → Collected
more_entries o n = record o { entries = plus o.entries n }

-- one document more was removed
abbrev pub more_documents : Collected → Collected
more_documents o = record o { documents = plus o.documents 1 }

-- a document more was skipped, with the numbers read and found
abbrev pub more_skips : Collected → DocId → ℕ → ℕ → Collected
more_skips o x read found = record o { skipped = o.skipped ++ (x, read, found) ∷ [] }

-- the collector counts so many entries more
abbrev pub with_entries : Collector → ℕ → Collector
with_entries c n = record c { collected = more_entries c.collected n }

-- the collector counts one document more
abbrev pub with_document : Collector → Collector
with_document c = record c { collected = more_documents c.collected }

-- the collector notes one skip more
abbrev pub with_skip : Collector → DocId → ℕ → ℕ → Collector
with_skip c x read found = record c { collected = more_skips c.collected x read found }

-- next the document behind the one that was read
abbrev pub on_next : Collector → Collector
on_next c = record c { step = step.Next }

-- behind the cluster node k, or the root: the next cluster node, and behind the last one the settings
abbrev pub behind_node : Collector → ℕ → Step
behind_node c k = cond (nat_lt k c.clusters) (step.Node (k + 1)) step.Settings

-- the bound is lowered to more pairs
abbrev pub lowered : Collector → List Pin → Collector
lowered c pins = record c { bound = fold lesser_pair c.bound pins }

-- something of a document may go: entries, or previous documents that it lists
abbrev pub has_garbage_in : Pin → Reading → Bool
has_garbage_in bound r = not (length r.garbage == 0) || list_any (is_garbage_listed bound.base bound.sweep (found_in r.previous) r.document) r.document.prev

-- what becomes of a document once all is read that it lists: it goes, or its garbage goes, or it stays as it is
abbrev pub decided : Pin → Reading → Step
decided bound r = cond (is_garbage_document bound.base bound.sweep r.document) step.Remove (cond (has_garbage_in bound r) step.Prune step.Next)

-- next the first of the previous documents that are left to be asked for, and behind all of them what becomes of the document
abbrev pub going_on : Collector → Collector
going_on c = by c.reading.listed
  where
    by : List ℕ → Collector
    by [] = record c { step = decided c.bound c.reading }
    by (n ∷ ns) = record c { reading = record c.reading { listed = ns }; step = step.Listed n }

-- what is read of a node's document: its path, itself, its entries that are garbage, and the numbers of the previous documents that it lists
abbrev pub node_reading : Pin → DocId → Document → Option Reading
node_reading bound (id.Node p) d = Some (record { at = p; document = d; garbage = garbage_in bound.base bound.sweep d; listed = map (λ e. e.number) d.prev; previous = [] })
node_reading bound (id.Prev n p) d = None
node_reading bound id.Settings d = None

-- a document is found: behind those of nodes it is done
abbrev pub found_document : Collector → Document → Collector
found_document c d = option_map_or (λ r. going_on (record c { reading = r })) (node_reading c.bound d.id d) (record c { step = step.Done })

-- with a previous document under its number, where it is there
abbrev pub with_previous_read : Reading → ℕ → Option Document → Reading
with_previous_read r n found = record r { previous = option_map_or (insert_entry nat_cmp r.previous n) found r.previous }

-- the last of some documents, and those before it
abbrev pub last_of : Previous → Option ((ℕ × Document) × Previous)
last_of [] = None
last_of (e ∷ es) = Some (by (last_of es))
  where
    by : Option ((ℕ × Document) × Previous) → (ℕ × Document) × Previous
    by None = (e, [])
    by (Some l) = (l.0, e ∷ l.1)

-- next the removal of the previous document that was split off last, then of those before it, and then the next document
abbrev pub removing : Collector → Collector
removing c = option_map_or (λ l. record c { reading = record c.reading { previous = l.1 }; step = step.RemovePrevious l.0.0 l.0.1.mod_count }) (last_of c.reading.previous) (on_next c)

-- the previous documents of which all is garbage
abbrev pub garbage_previous : Pin → Reading → Previous
garbage_previous bound r = filter (λ e. is_garbage_previous bound.base bound.sweep r.document e.1) r.previous

-- the garbage of the document is dropped: next the previous documents that it unlisted
abbrev pub garbage_dropped : Collector → Collector
garbage_dropped c = removing (with_entries (record c { reading = record c.reading { previous = garbage_previous c.bound c.reading } }) (length c.reading.garbage))

-- what a collector keeps after a reply
abbrev pub fed : Collector → Reply → Collector
fed c r = by c.step r
  where
    by : Step → Reply → Collector
    by step.Root (reply.Found root) = record c { bound = option_map_or root_pair root no_pair; step = behind_node c 0 }
    by (step.Node k) (reply.Pins head sweep pins) = record (lowered c (record { base = head; sweep = sweep } ∷ pins)) { step = behind_node c k }
    by (step.Node k) reply.Gone = record c { step = behind_node c k }
    by step.Settings (reply.Found settings) = record (lowered c (option_map_or kept_pairs settings [])) { step = step.First }
    by step.First (reply.Found found) = option_map_or (found_document c) found (record c { step = step.Done })
    by step.Next (reply.Found found) = option_map_or (found_document c) found (record c { step = step.Done })
    by (step.Listed n) (reply.Found found) = going_on (record c { reading = with_previous_read c.reading n found })
    by step.Prune (reply.Updated before) = garbage_dropped c
    by step.Prune (reply.Unmet cond (kept.Number found)) = on_next (with_skip c c.reading.document.id c.reading.document.mod_count found)
    by step.Prune reply.Absent = on_next c
    by step.Remove (reply.Removed removal.Removed) = removing (with_document c)
    by step.Remove (reply.Removed (removal.Changed found)) = on_next (with_skip c c.reading.document.id c.reading.document.mod_count found)
    by step.Remove (reply.Removed removal.Absent) = on_next c
    by (step.RemovePrevious n read) (reply.Removed removal.Removed) = removing (with_document c)
    by (step.RemovePrevious n read) (reply.Removed (removal.Changed found)) = removing (with_skip c (id.Prev n c.reading.at) read found)
    by (step.RemovePrevious n read) (reply.Removed removal.Absent) = removing c
    by _ _ = c
