-- What a committer writes at a document.
use Rattle.std.specs.Prelude.{true, false, cond, List, [], ◌∷◌, ◌++◌, length, None, Some}
use Rattle.std.specs.Ordering.{eq_by_cmp}
use Rattle.std.specs.List.{flat_map, fold}
use Rattle.std.specs.Map.{keys_of}
use Rattle.std.specs.BTreeMap.{insert_entry}
use Rattle.jr_path.specs.Names.{path_cmp}
use Rattle.jr_path.specs.Ids.{id_cmp}
use Rattle.jr_path.specs.declared.path.Path.{Path}
use Rattle.jr_path.specs.declared.path.DocId.{DocId}
use Rattle.jr_path.specs.declared.path.DocId.TheVariants as id
use Rattle.jr_rev.specs.declared.revision.Revision.{Revision}
use Rattle.jr_tree.specs.declared.edit.Write.{Write}
use Rattle.jr_tree.specs.declared.edit.Write.TheVariants.{Here, Gone, Put, Unset}
use Rattle.oak_clash.specs.declared.mark.Mark.{Mark}
use Rattle.oak_clash.specs.declared.mark.Mark.TheVariants.{Touch, Guard}
use Rattle.oak_clash.specs.declared.mark.MarkAt.{MarkAt}
use Rattle.oak_clash.specs.Clashes.{commit_root, marks_at}
use Rattle.oak_doc.specs.declared.update.UpdateOp.{UpdateOp}
use Rattle.oak_doc.specs.declared.update.Cond.TheVariants.{NoCollision}
use Rattle.oak_doc.specs.declared.update.Change.{Change}
use Rattle.oak_doc.specs.declared.update.Change.TheVariants as change

-- the entry that a write makes in the document of the node at p
abbrev pub entry_of : Revision → Path → Write → List Change
entry_of r p (Here q) = cond (eq_by_cmp path_cmp p q) (change.Deleted r false ∷ []) []
entry_of r p (Gone q) = cond (eq_by_cmp path_cmp p q) (change.Deleted r true ∷ []) []
entry_of r p (Put q m x) = cond (eq_by_cmp path_cmp p q) (change.Prop m r (Some x) ∷ []) []
entry_of r p (Unset q m) = cond (eq_by_cmp path_cmp p q) (change.Prop m r None ∷ []) []

-- the entries of an edit in the document of the node at p
abbrev pub entries_at : Revision → Path → List Write → List Change
entries_at r p ws = flat_map (entry_of r p) ws

-- the note of the commit root in the document of the node at p; the commit root has none
abbrev pub rooting : Revision → Path → Path → List Change
rooting r p root = cond (eq_by_cmp path_cmp p root) [] (change.CommitRoot r (length root) ∷ [])

-- the entry of a mark that is no item's
abbrev pub marking_of : Revision → Mark → List Change
marking_of r Touch = change.Touched r ∷ []
marking_of r Guard = change.Guard r ∷ []
marking_of r _ = []

-- the entries, in the document of the node at p, of its marks that are no item's
abbrev pub markings_at : Revision → Path → List MarkAt → List Change
markings_at r p ms = flat_map (marking_of r) (marks_at p ms)

-- the write of the document of the node at p
abbrev pub write_op : Revision → List Write → List MarkAt → Path → UpdateOp
write_op r ws ms p = record { id = id.Node p; create = true; cond = None; changes = entries_at r p ws ++ (rooting r p (commit_root ms) ++ markings_at r p ms) }

-- the last write, where nobody noted a collision with r: it says on the commit root that r is committed
abbrev pub last_op : Revision → List MarkAt → UpdateOp
last_op r ms = record { id = id.Node (commit_root ms); create = true; cond = Some (NoCollision r); changes = change.Revisions r ∷ [] }

-- the ids of the marked nodes' documents, each once, in store order
abbrev pub written_ids : List MarkAt → List DocId
written_ids ms = keys_of (fold (λ es m. insert_entry id_cmp es (id.Node m.path) true) [] ms)
