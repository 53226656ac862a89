-- Where a reader stands between its steps, and what it gives.
use Rattle.std.specs.Prelude.{◌≡◌, Bool, ◌||◌, ◌⊎◌, List, [], ◌∷◌, ◌++◌, map, Option, None, Some, is_some, is_none, IsTrue, IsFalse, codes}
use Rattle.std.specs.Option.{unwrap_or}
use Rattle.std.specs.declared.cmp.Ordering.{Ordering}
use Rattle.std.specs.Ordering.{is_le, is_lt}
use Rattle.std.specs.Map.{lookup}
use Rattle.std.specs.BTreeMap.{is_at}
use Rattle.std.specs.FinMap.{is_sorted}
use Rattle.std.specs.List.{filter, list_all}
use Rattle.jr_path.specs.Ids.{id_cmp}
use Rattle.jr_path.specs.declared.name.Name.{Name}
use Rattle.jr_path.specs.declared.path.Path.{Path}
use Rattle.jr_path.specs.declared.path.DocId.{DocId}
use Rattle.jr_path.specs.declared.path.DocId.TheVariants as id
use Rattle.jr_rev.specs.declared.revision.Revision.{Revision}
use Rattle.jr_rev.specs.declared.vector.RevVec.{RevVec}
use Rattle.jr_rev.specs.declared.vector.Pin.{Pin}
use Rattle.jr_rev.specs.Vectors.{sees}
use Rattle.jr_tree.specs.Trees.{Nodes, born_at, node_at, is_child_of, children_of, dated_children_of}
use Rattle.oak_doc.specs.declared.document.Document.{Document}
use Rattle.oak_read.specs.Meaning.{Documents, documents_in, commit_root_of}
use Rattle.oak_read.specs.Wanted.{Known, Ids}
use Rattle.oak_read.specs.declared.reader.Reader.{Reader}
use Rattle.oak_read.specs.declared.reader.ReadOut.{ReadOut}
use Rattle.oak_read.specs.declared.reader.ReadOut.TheVariants as out
use Rattle.oak_read.specs.declared.reader.Step.{Step}
use Rattle.oak_read.specs.declared.reader.Step.TheVariants as step
use Rattle.oak_machine.specs.History.{Past}
use Rattle.oak_machine.specs.Commits.{tree_at}
use Rattle.core_read.specs.Holds.{here_entry, prop_entry}

-- the path that a reader was made for: that of the node, or that whose children are read
abbrev pub path_read : Reader → Path
path_read r = unwrap_or r.parent r.at

-- an entry of q stands in a document: of the node, or, where its properties are wanted too, of one
-- of them
abbrev pub HasEntry : Bool → Document → Revision → Type 0
HasEntry whole d q =
    IsTrue (is_some (here_entry (Some d) q))
    ⊎ ((n : Name) × IsTrue whole × IsTrue (is_some (prop_entry (Some d) n q)))

-- the document of an id is known, or it is left to be read
abbrev pub is_known_or_left : Known → Ids → DocId → Bool
is_known_or_left known left x =
    is_some (documents_in known x) || is_some (lookup (is_at (id_cmp x)) left)

-- the names of the children of p, of those whose documents stand so to that of the node at q
abbrev pub children_to : (Ordering → Bool) → Nodes → Path → Path → List Name
children_to test tree p q =
    filter (λ n. test (id_cmp (id.Node (p ++ n ∷ [])) (id.Node q))) (children_of tree p)

-- the name of a child, with the revision that added it
abbrev pub Child : Type 0
Child = Name × Option Revision

-- a child of p of that name
abbrev pub dated : Nodes → Path → Name → Child
dated tree p n = (n, born_at tree (p ++ n ∷ []))

-- a reader of children of p is at the path of a child, there or not, and its names are those of the
-- children before it, or up to it
pub record HasNames (test : Ordering → Bool) (tree : Nodes) (p : Path) (at : Path)
    (names : List Child) : Type 0 where
  pub child : IsTrue (is_child_of p at)
  pub so_far : names ≡ map (dated tree p) (children_to test tree p at)

-- the same, where children are read
abbrev pub IsOnWay : (Ordering → Bool) → Nodes → Option Path → Path → List Child → Type 0
IsOnWay test tree None at names = Unit {0}
IsOnWay test tree (Some p) at names = HasNames test tree p at names

-- a reader of children begins at the least name that a child can have
pub record HasBegun (p : Path) (at : Path) (names : List Child) : Type 0 where
  pub least : at ≡ p ++ codes "!" ∷ []
  pub none : names ≡ []

-- what is given is the node of a tree at a path
abbrev pub IsNodeOf : Nodes → Path → ReadOut → Type 0
IsNodeOf tree p (out.Node n) = n ≡ node_at tree p
IsNodeOf tree p (out.Children ns) = ⊥

-- what is given are the names of the children of a path in a tree, in order, each with the revision
-- that added the child
abbrev pub AreChildrenOf : Nodes → Path → ReadOut → Type 0
AreChildrenOf tree p (out.Node n) = ⊥
AreChildrenOf tree p (out.Children ns) = ns ≡ dated_children_of tree p
