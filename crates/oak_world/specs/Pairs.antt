-- Pairs of vectors at which the tree is read.
use Rattle.std.specs.Prelude.{◌≡◌, IsTrue}
use Rattle.jr_path.specs.declared.path.Path.{Path}
use Rattle.jr_rev.specs.declared.vector.Pin.{Pin}
use Rattle.jr_rev.specs.Vectors.{is_below}
use Rattle.jr_tree.specs.Trees.{node_at}
use Rattle.oak_machine.specs.Commits.{IsClosed, IsSettled, tree_at}
use Rattle.oak_machine.specs.History.{Begin, Past}
use Rattle.oak_read.specs.Meaning.{documents_in, found_node}
use Rattle.oak_store.specs.Tables.{Table}

-- the pair's vector is settled and closed, and at least its sweep vector; at the pair the documents
-- show at each path the node of the journal's tree
pub record ShowsTree (begin : Begin) (past : Past) (t : Table) (x : Pin) : Type 0 where
  pub below : IsTrue (is_below x.sweep x.base)
  pub settled : IsSettled past x.base
  pub closed : IsClosed past x.base
  pub shown : (p : Path) → found_node (documents_in t.documents) x.sweep x.base p
      ≡ node_at (tree_at begin past x.base) p
