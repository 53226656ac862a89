-- One update of one document.
use Rattle.std.specs.Prelude.{◌≡◌, ℕ, ◌-◌, ◌^◌, Bool, true, false, cond, not, ◌&&◌, ◌==◌, nat_eq, List, [], ◌∷◌, length, map, Option, None, Some, is_some, is_none, Result, Ok, Err}
use Rattle.std.specs.Option.{option_map_or, unwrap_or}
use Rattle.std.specs.Ordering.{nat_cmp}
use Rattle.std.specs.Map.{lookup, remove_entry}
use Rattle.std.specs.BTreeMap.{is_at, insert_entry}
use Rattle.std.specs.List.{filter, fold}
use Rattle.jr_path.specs.Names.{name_cmp}
use Rattle.jr_path.specs.declared.name.Name.{Name}
use Rattle.jr_path.specs.declared.path.DocId.{DocId}
use Rattle.jr_value.specs.declared.value.Property.{Property}
use Rattle.jr_rev.specs.declared.revision.Revision.{Revision}
use Rattle.jr_rev.specs.Revisions.{revision_cmp, is_same}
use Rattle.jr_rev.specs.Vectors.{no_entries, raised}
use Rattle.oak_doc.specs.declared.document.Document.{Document}
use Rattle.oak_doc.specs.declared.update.UpdateOp.{UpdateOp}
use Rattle.oak_doc.specs.declared.update.Cond.{Cond}
use Rattle.oak_doc.specs.declared.update.Cond.TheVariants.{NoCollision, NotCommitted, Unchanged, Exists, Missing}
use Rattle.oak_doc.specs.declared.update.Kept.{Kept}
use Rattle.oak_doc.specs.declared.update.Kept.TheVariants.{Entry, Number, Nothing}
use Rattle.oak_doc.specs.declared.update.OpFault.{OpFault}
use Rattle.oak_doc.specs.declared.update.OpFault.TheVariants.{Unmet, Absent, Memory}
use Rattle.oak_doc.specs.declared.update.EntryKey.{EntryKey}
use Rattle.oak_doc.specs.declared.update.Field.{Field}
use Rattle.oak_doc.specs.declared.update.Field.TheVariants as field
use Rattle.oak_doc.specs.declared.update.Change.{Change}
use Rattle.oak_doc.specs.declared.update.Change.TheVariants as change

-- what is kept for a revision
abbrev pub of_revision : {X : Type 0} → List (Revision × X) → Revision → Option X
of_revision es r = lookup (is_at (revision_cmp r)) es

-- with x for a revision
abbrev pub with_revision : {X : Type 0} → List (Revision × X) → Revision → X → List (Revision × X)
with_revision es r x = insert_entry revision_cmp es r x

-- with nothing for a revision
abbrev pub without_revision : {X : Type 0} → Revision → List (Revision × X) → List (Revision × X)
without_revision r es = filter (λ e. not (is_same r e.0)) es

-- the values of each property by revision
abbrev pub Props : Type 0
Props = List (Name × List (Revision × Option Property))

-- a property's entries among those of a document
abbrev pub values_of_property : Props → Name → List (Revision × Option Property)
values_of_property ps n = unwrap_or (lookup (is_at (name_cmp n)) ps) []

-- a property that is left without a value is left out
abbrev pub with_values : Props → Name → List (Revision × Option Property) → Props
with_values ps n [] = remove_entry (is_at (name_cmp n)) ps
with_values ps n (e ∷ es) = insert_entry name_cmp ps n (e ∷ es)

-- each property without a value for a revision; one that is left without a value is left out
abbrev pub props_without_revision : Revision → Props → Props
props_without_revision r ps = filter (λ p. not (nat_eq (length p.1) 0)) (map (λ p. (p.0, without_revision r p.1)) ps)

-- without one entry
abbrev pub pruned : Document → EntryKey → Document
pruned d k = drop_of k.field k.revision d
  where
    drop_of : Field → Revision → Document → Document
    drop_of field.Deleted r d = record d { deleted = without_revision r d.deleted }
    drop_of field.CommitRoot r d = record d { commit_root = without_revision r d.commit_root }
    drop_of field.Revisions r d = record d { revisions = without_revision r d.revisions }
    drop_of field.Collisions r d = record d { collisions = without_revision r d.collisions }
    drop_of field.Touched r d = record d { touched = without_revision r d.touched }
    drop_of field.Guard r d = record d { guard = without_revision r d.guard }
    drop_of (field.Prop n) r d = record d { props = with_values d.props n (without_revision r (values_of_property d.props n)) }

-- one change of a document
abbrev pub changed : Document → Change → Document
changed d (change.Deleted r b) = record d { deleted = with_revision d.deleted r b }
changed d (change.CommitRoot r depth) = record d { commit_root = with_revision d.commit_root r depth }
changed d (change.Revisions r) = record d { revisions = with_revision d.revisions r tt }
changed d (change.Collision o r item) = record d { collisions = cond (is_some (of_revision d.collisions o)) d.collisions (with_revision d.collisions o (r, item)) }
changed d (change.Touched r) = record d { touched = with_revision d.touched r tt }
changed d (change.Guard r) = record d { guard = with_revision d.guard r tt }
changed d (change.Prop n r x) = record d { props = with_values d.props n (with_revision (values_of_property d.props n) r x) }
changed d (change.Undo r) = record d {
  deleted = without_revision r d.deleted;
  commit_root = without_revision r d.commit_root;
  revisions = without_revision r d.revisions;
  touched = without_revision r d.touched;
  guard = without_revision r d.guard;
  props = props_without_revision r d.props;
}
changed d (change.Prune keys) = fold pruned d keys
changed d (change.List e) = record d { prev = e ∷ d.prev }
changed d (change.Unlist n) = record d { prev = filter (λ e. not (e.number == n)) d.prev }
changed d (change.LastRev r) = record d { last_rev = raised d.last_rev r }
changed d (change.SweepRev r) = record d { sweep_rev = raised d.sweep_rev r }
changed d (change.Checkpoint id pin) = record d { checkpoints = insert_entry name_cmp d.checkpoints id pin }
changed d (change.Release id) = record d { checkpoints = remove_entry (is_at (name_cmp id)) d.checkpoints }
changed d (change.Attach s id) = record d { readers = option_map_or (λ pin. insert_entry nat_cmp d.readers s pin) (lookup (is_at (name_cmp id)) d.checkpoints) d.readers }
changed d (change.Detach s) = record d { readers = remove_entry (is_at (nat_cmp s)) d.readers }

-- whether a condition holds of the document, if there is one
abbrev pub holds : Option Document → Cond → Bool
holds d (NoCollision r) = option_map_or (λ d. is_none (of_revision d.collisions r)) d true
holds d (NotCommitted r) = option_map_or (λ d. is_none (of_revision d.revisions r)) d true
holds d (Unchanged n) = option_map_or (λ d. d.mod_count == n && not (n == 2 ^ 64 - 1)) d false
holds d Exists = is_some d
holds d Missing = is_none d

-- what an unmet condition is answered with
abbrev pub kept : Option Document → Cond → Kept
kept d (NoCollision r) = option_map_or (λ d. option_map_or (λ e. Entry e.0 e.1) (of_revision d.collisions r) Nothing) d Nothing
kept d (Unchanged n) = option_map_or (λ d. Number d.mod_count) d Nothing
kept d _ = Nothing

-- the document, or the empty one of that id
abbrev pub document_of : Option Document → DocId → Document
document_of None id = record {
  id = id;
  mod_count = 0;
  deleted = [];
  commit_root = [];
  revisions = [];
  collisions = [];
  touched = [];
  guard = [];
  last_rev = no_entries;
  sweep_rev = no_entries;
  prev = [];
  props = [];
  sessions = 0;
  checkpoints = [];
  readers = [];
}
document_of (Some d) id = d

-- the document after the changes, with the number
abbrev pub after_changes : Option Document → UpdateOp → ℕ → Document
after_changes d op number = record (fold changed (document_of d op.id) op.changes) { mod_count = number }

-- whether the condition, where there is one, holds
abbrev pub is_met : Option Document → Option Cond → Bool
is_met d None = true
is_met d (Some c) = holds d c

-- why an update is refused: the document is absent, or a condition is unmet
abbrev pub update_refusal : Option Document → Option Cond → OpFault
update_refusal d None = Absent
update_refusal d (Some c) = Unmet c (kept d c)

-- one update with the number: no document and none made, a condition unmet, or the changes made
abbrev pub updated : Option Document → UpdateOp → ℕ → Result Document OpFault
updated d op number = cond (is_none d && not op.create) (Err Absent) (cond (is_met d op.cond) (Ok (after_changes d op number)) (Err (update_refusal d op.cond)))

-- the entries of a revision are dropped, and the document takes the number
abbrev pub undone : Document → Revision → ℕ → Document
undone d r number = record (changed d (change.Undo r)) { mod_count = number }

-- an answer is that of the update, unless memory is refused
abbrev pub IsUpdateAnswer : Result Document OpFault → Result Document OpFault → Type 0
IsUpdateAnswer (Err Memory) update = Unit {0}
IsUpdateAnswer (Err (Unmet c k)) update = update ≡ Err (Unmet c k)
IsUpdateAnswer (Err Absent) update = update ≡ Err Absent
IsUpdateAnswer (Ok d) update = update ≡ Ok d
