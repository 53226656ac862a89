-- What a committer has written so far, and what it writes at a document.
use Rattle.std.specs.Prelude.{◌≡◌, Bool, true, false, cond, List, [], ◌∷◌, ◌++◌, length, take, Option, None, Some, IsTrue, IsFalse}
use Rattle.std.specs.Option.{option_map}
use Rattle.std.specs.Ordering.{eq_by_cmp}
use Rattle.std.specs.List.{list_any, list_all, flat_map}
use Rattle.jr_path.specs.Names.{path_cmp}
use Rattle.jr_path.specs.declared.name.Name.{Name}
use Rattle.jr_path.specs.declared.path.Path.{Path}
use Rattle.jr_path.specs.declared.path.DocId.TheVariants as id
use Rattle.jr_rev.specs.declared.revision.Revision.{Revision}
use Rattle.jr_tree.specs.declared.edit.Write.{Write}
use Rattle.jr_tree.specs.declared.edit.Write.TheVariants.{Here, Gone, Put, Unset}
use Rattle.oak_doc.specs.declared.document.Document.{Document}
use Rattle.oak_doc.specs.declared.update.UpdateOp.{UpdateOp}
use Rattle.oak_doc.specs.declared.update.Change.{Change}
use Rattle.oak_doc.specs.declared.update.Change.TheVariants as change
use Rattle.oak_read.specs.Meaning.{Documents, commit_root_of}
use Rattle.jr_tree.specs.Items.{here_of, put_of, written}
use Rattle.core_read.specs.Holds.{here_entry, prop_entry, root_entry, is_at_path}

-- the entry that a write makes in the document of the node at p
abbrev pub entry_of : Revision → Path → Write → List Change
entry_of r p (Here q) = cond (eq_by_cmp path_cmp p q) (change.Deleted r false ∷ []) []
entry_of r p (Gone q) = cond (eq_by_cmp path_cmp p q) (change.Deleted r true ∷ []) []
entry_of r p (Put q m x) = cond (eq_by_cmp path_cmp p q) (change.Prop m r (Some x) ∷ []) []
entry_of r p (Unset q m) = cond (eq_by_cmp path_cmp p q) (change.Prop m r None ∷ []) []

-- the entries of an edit in the document of the node at p
abbrev pub entries_at : Revision → Path → List Write → List Change
entries_at r p ws = flat_map (entry_of r p) ws

-- the note of the commit root in the document of the node at p
abbrev pub rooting : Revision → Path → Path → List Change
rooting r p root = cond (eq_by_cmp path_cmp p root) [] (change.CommitRoot r (length root) ∷ [])

-- a mark or a note that is no entry of an item and no status
abbrev pub is_marking : Change → Bool
is_marking (change.Collision q o item) = true
is_marking (change.Touched q) = true
is_marking (change.Guard q) = true
is_marking (change.LastRev q) = true
is_marking (change.SweepRev q) = true
is_marking _ = false

-- the update by which a committer writes the document of the node at p
pub record IsWriteOp (op : UpdateOp) (r : Revision) (ws : List Write) (root p : Path)
    (marks : List Change) : Type 0 where
  pub at : op.id ≡ id.Node p
  pub changes : op.changes ≡ entries_at r p ws ++ (rooting r p root ++ marks)
  pub marking : IsTrue (list_all is_marking marks)
  pub below : take (length root) p ≡ root

-- all that the edit writes at p stands there, with the commit root
pub record IsWrittenAt (o : Option Document) (r : Revision) (ws : List Write)
    (root p : Path) : Type 0 where
  pub node : here_entry o r ≡ written (here_of p) ws
  pub prop : (n : Name) → prop_entry o n r ≡ written (put_of p n) ws
  pub rooted : IsTrue (list_any (is_at_path p) ws)
      → option_map (λ d. commit_root_of d r) o ≡ Some (id.Node root)

-- nothing of r stands there
pub record IsUnwritten (o : Option Document) (r : Revision) : Type 0 where
  pub node : here_entry o r ≡ None
  pub prop : (n : Name) → prop_entry o n r ≡ None
  pub root : root_entry o r ≡ None

-- of an edit, just the paths that pass have been written
pub record IsPartly (ds : Documents) (r : Revision) (ws : List Write) (root : Path)
    (done : Path → Bool) : Type 0 where
  pub written_ : (p : Path) → IsTrue (done p) → IsWrittenAt (ds (id.Node p)) r ws root p
  pub left : (p : Path) → IsFalse (done p) → IsUnwritten (ds (id.Node p)) r
