-- The table of documents: a finite map in store order, and the number that was drawn last.
use Rattle.std.specs.Prelude.{◌≡◌, ◌≤◌, ℕ, ◌+◌, ◌-◌, ◌^◌, Bool, cond, ◌==◌, ◌&&◌, not, min, List, map, slice_get, Option, None, Some, Result, Ok, Err, All}
use Rattle.std.specs.Option.{option_map, option_map_or}
use Rattle.std.specs.BTreeMap.{insert_entry, is_at}
use Rattle.std.specs.BTreeMap.Range.{entries_between}
use Rattle.std.specs.List.Sorted.{IsStrictlySortedBy}
use Rattle.std.specs.declared.ops.Bound.TheVariants.{Excluded, Unbounded}
use Rattle.std.specs.Map.{lookup, remove_entry, set_value}
use Rattle.jr_path.specs.Ids.{id_cmp}
use Rattle.jr_path.specs.declared.path.DocId.{DocId}
use Rattle.jr_rev.specs.declared.revision.Revision.{Revision}
use Rattle.oak_doc.specs.declared.document.Document.{Document}
use Rattle.oak_doc.specs.declared.update.UpdateOp.{UpdateOp}
use Rattle.oak_doc.specs.declared.update.OpFault.{OpFault}
use Rattle.oak_doc.specs.declared.update.OpFault.TheVariants as fault
use Rattle.oak_doc.specs.declared.asks.RemoveOut.{RemoveOut}
use Rattle.oak_doc.specs.declared.asks.RemoveOut.TheVariants as removal
use Rattle.oak_doc.specs.Updates.{updated, undone}

-- the documents in store order, by their ids, and the number drawn last
pub record Table : Type 0 where
  pub documents : List (DocId × Document)
  pub number : ℕ

-- the document of an id
abbrev pub found : Table → DocId → Option Document
found t id = lookup (is_at (id_cmp id)) t.documents

-- the next number of the whole store; at the last one it stays
abbrev pub next_number : Table → ℕ
next_number t = min (t.number + 1) (2 ^ 64 - 1)

-- the same table with a document that has drawn a number
abbrev pub with_document : Table → DocId → Document → ℕ → Table
with_document t id d n = record { documents = insert_entry id_cmp t.documents id d; number = n }

-- what an update answers and leaves: the document before, and one step of that document with the next number; a refusal leaves all as it was
abbrev pub Updates : Table → Table → UpdateOp → Result (Option Document) OpFault → Type 0
Updates old new op (Ok before) =
    (before ≡ found old op.id) × (d : Document) × (updated before op (next_number old) ≡ Ok d) × (new ≡ with_document old op.id d (next_number old))
Updates old new op (Err fault.Memory) = new ≡ old
Updates old new op (Err fault.Absent) = (new ≡ old) × (updated (found old op.id) op (next_number old) ≡ Err fault.Absent)
Updates old new op (Err (fault.Unmet c k)) = (new ≡ old) × (updated (found old op.id) op (next_number old) ≡ Err (fault.Unmet c k))

-- the table once the entries of a revision are dropped from a document; the number is drawn also where there is none
abbrev pub after_undo : Table → DocId → Revision → Table
after_undo t id r = record {
  documents = option_map_or (λ d. set_value (is_at (id_cmp id)) t.documents (undone d r (next_number t))) (found t id) t.documents;
  number = next_number t;
}

-- the number is the document's, and it isn't the last one
abbrev pub is_removable : Document → ℕ → Bool
is_removable d n = d.mod_count == n && not (n == 2 ^ 64 - 1)

-- what a removal on a number answers
abbrev pub removal_of : Table → DocId → ℕ → RemoveOut
removal_of t id n = option_map_or (λ d. cond (is_removable d n) removal.Removed (removal.Changed d.mod_count)) (found t id) removal.Absent

-- the table after a removal that is answered so; no number is drawn
abbrev pub after_removal : Table → DocId → RemoveOut → Table
after_removal t id removal.Removed = record t { documents = remove_entry (is_at (id_cmp id)) t.documents }
after_removal t id _ = t

-- the first document of all, or behind an id in store order
abbrev pub next_after : Table → Option DocId → Option Document
next_after t None = option_map (λ e. e.1) (slice_get t.documents 0)
next_after t (Some id) = option_map (λ e. e.1) (slice_get (entries_between id_cmp (Excluded id) Unbounded t.documents) 0)

-- the documents by their ids
abbrev pub by_id : List Document → List (DocId × Document)
by_id ds = map (λ d. (d.id, d)) ds

-- the ids are distinct and in store order, and the number is at least each document's
pub record AreStored (ds : List Document) (number : ℕ) : Type 0 where
  pub ordered : IsStrictlySortedBy id_cmp (map (λ d. d.id) ds)
  pub drawn : All (λ d. d.mod_count ≤ number) ds
