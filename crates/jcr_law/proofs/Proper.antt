-- The test of proper writes says what proper writes are.
use Rattle.std.proofs.Common.{◌≡◌, true, List}
use Rattle.std.specs.Prelude.{None}
use Rattle.jr_tree.specs.declared.edit.Write.{Write}
use Rattle.jr_tree.specs.Edits.{IsProper, applied}
use Rattle.jr_tree.specs.Trees.{IsTree, Nodes}
use Rattle.jr_tree.proofs.Entries.{both, first, second}
use Rattle.jcr_law.specs.Proper.{is_proper, is_tree}

pub tree_of : (t : Nodes) → is_tree t ≡ true → IsTree t
tree_of t h = record {
  paths = first _ _ (first _ _ (first _ _ h));
  names = second _ _ (first _ _ (first _ _ h));
  root = second _ _ (first _ _ h);
  parents = second _ _ h;
}

pub tree_is : (t : Nodes) → IsTree t → is_tree t ≡ true
tree_is t is = both _ _ (both _ _ (both _ _ is.paths is.names) is.root) is.parents

-- writes that pass the test are proper
pub proper_of : (t : Nodes) (ws : List Write) → is_proper t ws ≡ true → IsProper t ws
unfolding is_proper
proper_of t ws h = record {
  tree = tree_of (applied None t ws) (first _ _ (first _ _ (first _ _ h)));
  once = second _ _ (first _ _ (first _ _ h));
  changing = second _ _ (first _ _ h);
  emptied = second _ _ h;
}

-- and proper writes pass it
pub proper_is : (t : Nodes) (ws : List Write) → IsProper t ws → is_proper t ws ≡ true
unfolding is_proper
proper_is t ws is =
    both _ _ (both _ _ (both _ _ (tree_is (applied None t ws) is.tree) is.once) is.changing) is.emptied
