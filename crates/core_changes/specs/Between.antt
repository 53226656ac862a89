-- Vectors between two others, the commits that one sees and the other doesn't, and what these
-- change.
use Rattle.std.specs.Prelude.{◌≡◌, Bool, not, ◌&&◌, List, Option, None, Some, is_some, IsTrue}
use Rattle.std.specs.Option.{option_map}
use Rattle.jr_path.specs.declared.path.Item.{Item}
use Rattle.jr_path.specs.declared.name.Name.{Name}
use Rattle.jr_rev.specs.declared.revision.Revision.{Revision}
use Rattle.jr_rev.specs.declared.vector.RevVec.{RevVec}
use Rattle.jr_rev.specs.Vectors.{sees}
use Rattle.jr_tree.specs.declared.edit.Write.{Write}
use Rattle.jr_tree.specs.declared.shared.ItemChange.{ItemChange}
use Rattle.jr_tree.specs.Items.{here_of, put_of, written}
use Rattle.jr_tree.specs.Trees.{Nodes, node_at, property_at}
use Rattle.oak_machine.specs.Changed.{tree_below}
use Rattle.oak_machine.specs.History.{Past}
use Rattle.oak_changes.specs.declared.said.Said.{Said}
use Rattle.core_begun.specs.Told.{edit_since, IsClosedSince}
use Rattle.oak_machine.specs.declared.event.Start.{Start}

-- `to` sees the revision, and `from` doesn't
abbrev pub is_new : RevVec → RevVec → Revision → Bool
is_new from to r = sees to r && not (sees from r)

-- a vector between two others: it sees all that the lesser sees, nothing that the greater doesn't,
-- and with a commit all that its base sees
pub record IsBetween (past : Past) (from to v : RevVec) : Type 0 where
  pub low : (q : Revision) → IsTrue (sees from q) → IsTrue (sees v q)
  pub high : (q : Revision) → IsTrue (sees v q) → IsTrue (sees to q)
  pub closed : IsClosedSince past (sees v)

-- what an edit changes at an item of a tree, where it writes it
abbrev pub change_of : Nodes → List Write → Item → Option ItemChange
change_of t ws item = by item.name
  where
    by : Option Name → Option ItemChange
    by None = option_map (λ there. record {
      item = item;
      before = is_some (node_at t item.path);
      after = there;
    }) (written (here_of item.path) ws)
    by (Some n) = option_map (λ x. record {
      item = item;
      before = is_some (property_at t item.path n);
      after = is_some x;
    }) (written (put_of item.path n) ws)

-- what is said is a change by a commit that `to` sees and `from` doesn't, on the tree of the
-- commits below it that `to` sees
pub record IsChange (start : Start) (past : Past) (from to : RevVec) (s : Said) : Type 0 where
  pub edit : List Write
  pub is_edit : edit_since past s.revision ≡ Some edit
  pub new : IsTrue (is_new from to s.revision)
  pub change : change_of (tree_below (Some start) past to s.revision) edit s.change.item
      ≡ Some s.change
