-- What the commands of the cluster answer: background work, checkpoints, splits, collections,
-- stops.
use Rattle.std.specs.Prelude.{ℕ, Bool, true, false, ◌==◌, ◌||◌, ◌&&◌, not, nat_eq, List, [], ◌∷◌, codes, Option, None, Some, is_none, is_some, map}
use Rattle.std.specs.List.{list_all, range_with_len}
use Rattle.std.specs.Option.{option_map_or}
use Rattle.std.specs.Ordering.{eq_by_cmp}
use Rattle.serde_json.specs.Data.{Data, array, member, no_members, number, object, string, unsigned}
use Rattle.serde_json.specs.View.{items_of}
use Rattle.jr_path.specs.Ids.{id_text}
use Rattle.jr_path.specs.declared.path.DocId.{DocId}
use Rattle.jr_rev.specs.declared.revision.Revision.{Revision}
use Rattle.jr_rev.specs.declared.vector.RevVec.{RevVec}
use Rattle.jr_rev.specs.Revisions.{is_at_most, is_same}
use Rattle.jr_rev.specs.Vectors.{entry}
use Rattle.jr_tree.specs.declared.shared.Datum.TheVariants as datum
use Rattle.jr_tree.specs.declared.shared.Refusal.{Refusal}
use Rattle.jr_tree.specs.Trees.{Nodes, node_at}
use Rattle.jr_path.specs.declared.path.Path.{Path}
use Rattle.jr_items.specs.Items.{first_some}
use Rattle.jr_items.specs.Refusals.{limit_refusal, no_item, refusal, when}
use Rattle.oak_doc.specs.declared.asks.Collected.{Collected}
use Rattle.oak_doc.specs.declared.asks.SplitEnd.{SplitEnd}
use Rattle.oak_doc.specs.declared.asks.SplitEnd.TheVariants as split
use Rattle.oak_machine.specs.declared.event.Event.{Event}
use Rattle.oak_machine.specs.declared.event.Event.TheVariants as event
use Rattle.oak_machine.specs.Heads.{published}
use Rattle.oak_machine.specs.History.{Begin, Past}
use Rattle.oak_machine.specs.Sessions.{is_recovered, is_stopped, kept_checkpoint}
use Rattle.jcr_law.specs.Since.{is_setting, is_stopping}

-- 14: the cluster node was stopped at that position of the journal
abbrev pub stopped_at : ℕ → Refusal
stopped_at position = refusal 14 (datum.Number position ∷ [])

-- cluster node k published up to this revision, or swept up to it, or learned this vector
abbrev pub is_out : ℕ → Revision → Event → Bool
is_out k r (event.Out m q) = (m == k) && is_same r q
is_out k r _ = false

-- the event tells that cluster node k swept up to revision r
abbrev pub is_sweep : ℕ → Revision → Event → Bool
is_sweep k r (event.Sweep m q) = (m == k) && is_same r q
is_sweep k r _ = false

-- the test of an event before which cluster node k was recovered, with which it published r
abbrev pub is_recovering : ℕ → Revision → Past → Event → Bool
is_recovering k r earlier e = is_out k r e && is_recovered earlier k

-- a step on the settings found no checkpoint of that id
abbrev pub misses : ℕ → List ℕ → Past → Event → Bool
misses s id earlier e = is_setting s e && is_none (kept_checkpoint earlier id)

-- a step of a stop found that cluster node k was stopped
abbrev pub finds_stopped : ℕ → ℕ → Past → Event → Bool
finds_stopped s k earlier e = is_stopping s e && is_stopped earlier k

-- the vector has of each other cluster node at least what it had published
abbrev pub knows_published : ℕ → Begin → Past → (k : ℕ) → RevVec → Bool
knows_published clusters begin past k v = list_all (λ m. (m == k)
    || option_map_or (is_at_most (published begin past m)) (entry v m) false)
    (range_with_len 1 clusters)

-- why a document can't be split: the path's limits, or there is no node
abbrev pub split_refusal : Nodes → Path → Option Refusal
split_refusal t p = first_some (limit_refusal p ∷ when (is_none (node_at t p)) (no_item p) ∷ [])

-- the numbers read and found of something skipped
abbrev pub skip_data : ℕ → ℕ → List Data
skip_data read found = number (unsigned read) ∷ number (unsigned found) ∷ []

-- how a split ended: what it moved, or the numbers read and found
abbrev pub split_data : SplitEnd → Data
split_data (split.Split n) = object (member (codes "moved") (number (unsigned n)) no_members)
split_data (split.Skipped read found) =
    object (member (codes "skipped") (array (items_of (skip_data read found))) no_members)

-- a document that a collection skipped, with the numbers read and found
abbrev pub skipped_data : DocId × ℕ × ℕ → Data
skipped_data x = array (items_of (string (id_text x.0) ∷ skip_data x.1 x.2))

-- what a collection did
abbrev pub collected_data : Collected → Data
collected_data c = object
    (member (codes "documents") (number (unsigned c.documents))
    (member (codes "entries") (number (unsigned c.entries))
    (member (codes "skipped") (array (items_of (map skipped_data c.skipped))) no_members)))
