-- Parts of a tree with changes over it.
use Rattle.std.specs.Prelude.{IsTrue}
use Rattle.std.specs.FinMap.{is_sorted}
use Rattle.jr_path.specs.Names.{path_cmp}
use Rattle.jr_tree.specs.Trees.{IsTree, Nodes}
use Rattle.jr_part.specs.Parts.{AgreesWith, Knowledge}
use Rattle.jr_overlay.specs.Overlays.{AreOver, Changed}

-- so much is known of a tree, and these are changes over it
pub record IsPartOf (t : Nodes) (k : Knowledge) (c : Changed) : Type 0 where
  pub tree : IsTree t
  pub order : IsTrue (is_sorted path_cmp k.nodes)
  pub agrees : AgreesWith t k
  pub over : AreOver t c
