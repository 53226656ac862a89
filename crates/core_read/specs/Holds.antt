-- The entries of a document, and what a step on one document leaves of them.
use Rattle.std.specs.Prelude.{◌≡◌, ℕ, Bool, false, not, List, [], ◌∷◌, Option, None, Some, is_some, IsTrue, IsFalse}
use Rattle.std.specs.Option.{option_map_or, option_map, option_and_then}
use Rattle.std.specs.Ordering.{eq_by_cmp}
use Rattle.std.specs.List.{list_any}
use Rattle.jr_path.specs.Names.{path_cmp}
use Rattle.jr_path.specs.declared.name.Name.{Name}
use Rattle.jr_path.specs.declared.path.Path.{Path}
use Rattle.jr_path.specs.declared.path.DocId.TheVariants as id
use Rattle.jr_value.specs.declared.value.Property.{Property}
use Rattle.jr_rev.specs.declared.revision.Revision.{Revision}
use Rattle.jr_rev.specs.Revisions.{revision_cmp}
use Rattle.jr_rev.specs.Vectors.{start_of}
use Rattle.jr_tree.specs.declared.edit.Write.{Write}
use Rattle.jr_tree.specs.declared.edit.Write.TheVariants.{Here, Gone, Put, Unset}
use Rattle.oak_doc.specs.declared.document.Document.{Document}
use Rattle.oak_doc.specs.Updates.{of_revision, values_of_property}
use Rattle.oak_read.specs.Meaning.{Documents, commit_root_of}
use Rattle.jr_tree.specs.Items.{here_of, put_of, written}
use Rattle.core_read.specs.Commits.{Commits}

-- the revision of the start
abbrev pub the_start : Revision
the_start = start_of 1

-- the commits of the second list before those of the first, turned round
abbrev pub onto : Commits → Commits → Commits
onto done [] = done
onto done (e ∷ es) = onto (e ∷ done) es

-- whether a write is of the node at p or of a property of it
abbrev pub is_at_path : Path → Write → Bool
is_at_path p (Here q) = eq_by_cmp path_cmp p q
is_at_path p (Gone q) = eq_by_cmp path_cmp p q
is_at_path p (Put q m x) = eq_by_cmp path_cmp p q
is_at_path p (Unset q m) = eq_by_cmp path_cmp p q

-- the entries of r in the document of the node at p: whether the node is there, and the value of a
-- property
abbrev pub here_entry : Option Document → Revision → Option Bool
here_entry o r = option_and_then (λ d. option_map not (of_revision d.deleted r)) o

-- the entry of r for property n in a document: its value, or that it was removed
abbrev pub prop_entry : Option Document → Name → Revision → Option (Option Property)
prop_entry o n r = option_and_then (λ d. of_revision (values_of_property d.props n) r) o

-- the depth of the commit root that a document notes for r
abbrev pub root_entry : Option Document → Revision → Option ℕ
root_entry o r = option_and_then (λ d. of_revision d.commit_root r) o

-- whether a document has r in `_revisions`
abbrev pub has_revision : Option Document → Revision → Bool
has_revision o r = option_map_or (λ d. is_some (of_revision d.revisions r)) o false

-- ---- a step that changes one document

-- the documents are the same but for that of the node at p, which is d now
pub record IsWrite (ds now : Documents) (p : Path) (d : Document) : Type 0 where
  pub at : now (id.Node p) ≡ Some d
  pub else_ : (q : Path) → IsFalse (eq_by_cmp path_cmp q p) → now (id.Node q) ≡ ds (id.Node q)

-- a document has of q what there was
pub record IsSameAt (q : Revision) (o : Option Document) (d : Document) : Type 0 where
  pub here : here_entry (Some d) q ≡ here_entry o q
  pub prop : (n : Name) → prop_entry (Some d) n q ≡ prop_entry o n q
  pub root : root_entry (Some d) q ≡ root_entry o q

-- a document is that of the node at p, and has what there was, but for entries of r
pub record IsSameBut (r : Revision) (p : Path) (o : Option Document) (d : Document) : Type 0 where
  pub at : (q : Revision) → IsFalse (eq_by_cmp revision_cmp q r) → IsSameAt q o d
  pub said : (q : Revision) → IsFalse (eq_by_cmp revision_cmp q r)
      → has_revision (Some d) q ≡ has_revision o q
  pub whole : d.prev ≡ option_map_or (λ d. d.prev) o []
  pub named : d.id ≡ id.Node p

-- all of an edit stands as entries of r, with the node at root as commit root
pub record IsEditWhole (ds : Documents) (r : Revision) (ws : List Write)
    (root : Path) : Type 0 where
  pub node : (p : Path) → here_entry (ds (id.Node p)) r ≡ written (here_of p) ws
  pub prop : (p : Path) (n : Name) → prop_entry (ds (id.Node p)) n r ≡ written (put_of p n) ws
  pub rooted : (p : Path) → IsTrue (list_any (is_at_path p) ws)
      → option_map (λ d. commit_root_of d r) (ds (id.Node p)) ≡ Some (id.Node root)

-- no entry of r is left
pub record IsUndone (ds : Documents) (r : Revision) : Type 0 where
  pub node : (p : Path) → here_entry (ds (id.Node p)) r ≡ None
  pub prop : (p : Path) (n : Name) → prop_entry (ds (id.Node p)) n r ≡ None
  pub root : (p : Path) → root_entry (ds (id.Node p)) r ≡ None
