-- What a collection may drop, by its bound of two vectors: m, and t for what is swept.
use Rattle.std.specs.Prelude.{ℕ, Bool, true, false, not, ◌&&◌, ◌||◌, ◌==◌, List, ◌∷◌, ◌++◌, length, map, Option, Some}
use Rattle.std.specs.Option.{option_map_or}
use Rattle.std.specs.Map.{keys_of}
use Rattle.std.specs.List.{filter, flat_map, list_all, list_any}
use Rattle.jr_path.specs.declared.name.Name.{Name}
use Rattle.jr_value.specs.declared.value.Property.{Property}
use Rattle.jr_rev.specs.declared.revision.Revision.{Revision}
use Rattle.jr_rev.specs.declared.vector.RevVec.{RevVec}
use Rattle.jr_rev.specs.Revisions.{is_before}
use Rattle.jr_rev.specs.Vectors.{sees}
use Rattle.oak_doc.specs.declared.document.Document.{Document}
use Rattle.oak_doc.specs.declared.update.EntryKey.{EntryKey}
use Rattle.oak_doc.specs.declared.update.Field.{Field}
use Rattle.oak_doc.specs.declared.update.Field.TheVariants as field
use Rattle.oak_doc.specs.declared.update.Cond.TheVariants.{Unchanged}
use Rattle.oak_doc.specs.declared.update.Change.TheVariants as change
use Rattle.oak_doc.specs.declared.update.UpdateOp.{UpdateOp}
use Rattle.oak_doc.specs.Updates.{values_of_property}
use Rattle.oak_doc.specs.declared.document.PrevEntry.{PrevEntry}
use Rattle.oak_read.specs.Meaning.{Documents, latest, path_of}
use Rattle.jr_path.specs.declared.path.DocId.TheVariants.{Prev}

-- the entries of a field that pass a test
abbrev pub keys_where : {X : Type 0} → (Revision → Bool) → Field → List (Revision × X) → List EntryKey
keys_where test f es = map (λ e. record { field = f; revision = e.0 }) (filter (λ e. test e.0) es)

-- the revisions of all that a document keeps by revision
abbrev pub revisions_kept : Document → List Revision
revisions_kept d =
    keys_of d.deleted ++ keys_of d.commit_root ++ keys_of d.revisions ++ keys_of d.collisions ++ keys_of d.touched ++ keys_of d.guard
    ++ flat_map (λ p. keys_of p.1) d.props

module _ (m t : RevVec) where
  -- m sees r, and a later one of its item that m and t see; as t sees that one, it is committed
  abbrev pub is_superseded : List Revision → Revision → Bool
  is_superseded rs r = sees m r && list_any (λ q. is_before r q && sees m q && sees t q) rs

  -- the garbage entries of a document: superseded ones, marks and collisions that m sees, statuses that t sees
  abbrev pub garbage_in : Document → List EntryKey
  garbage_in d =
      keys_where (is_superseded (keys_of d.deleted)) field.Deleted d.deleted
      ++ keys_where (sees t) field.CommitRoot d.commit_root
      ++ keys_where (sees t) field.Revisions d.revisions
      ++ keys_where (sees m) field.Collisions d.collisions
      ++ keys_where (sees m) field.Touched d.touched
      ++ keys_where (sees m) field.Guard d.guard
      ++ flat_map (λ p. keys_where (is_superseded (keys_of p.1)) (field.Prop p.0) p.1) d.props

  -- the values of a property in a previous document would be garbage among those of its document
  abbrev pub are_superseded : Document → Name × List (Revision × Option Property) → Bool
  are_superseded d p = list_all (is_superseded (keys_of (values_of_property d.props p.0) ++ keys_of p.1)) (keys_of p.1)

  -- the entries of a previous document that d lists would all be garbage if they stood in d
  abbrev pub is_garbage_previous : Document → Document → Bool
  is_garbage_previous d previous = list_all (λ e. sees t e.0) previous.commit_root && list_all (are_superseded d) previous.props

  -- the latest `_deleted` entry that m sees says that the node is gone, or there is none
  abbrev pub is_absent : Document → Bool
  is_absent d = option_map_or (λ e. e.1) (latest (filter (λ e. sees m e.0) d.deleted)) true

  -- the node is absent at m, m sees all that the document keeps, and t each status
  abbrev pub is_garbage_document : Document → Bool
  is_garbage_document d = is_absent d && list_all (sees m) (revisions_kept d) && list_all (sees t) (keys_of d.revisions)

  -- the update that drops just the garbage entries and these previous documents, where d has the number read
  abbrev pub pruning : Document → List ℕ → UpdateOp
  pruning d ns = record { id = d.id; create = false; cond = Some (Unchanged d.mod_count); changes = change.Prune (garbage_in d) ∷ map change.Unlist ns }

  -- a listed previous document that is there is garbage
  abbrev pub is_garbage_listed : Documents → Document → PrevEntry → Bool
  is_garbage_listed ds d e = option_map_or (is_garbage_previous d) (ds (Prev e.number (path_of d.id))) false

  -- the numbers of the listed previous documents that are garbage
  abbrev pub garbage_listed : Documents → Document → List ℕ
  garbage_listed ds d = map (λ e. e.number) (filter (is_garbage_listed ds d) d.prev)

  -- there is something to drop: the document, entries of it, or previous documents that it lists
  abbrev pub has_garbage : Documents → Document → Bool
  has_garbage ds d = is_garbage_document d || not (length (garbage_in d) == 0) || not (length (garbage_listed ds d) == 0)
