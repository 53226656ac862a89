-- The whole tree at an earlier base, and how the tree at a later one differs from it.
use Rattle.std.specs.Prelude.{◌≡◌, List, Contains, IsTrue, is_some}
use Rattle.jr_path.specs.declared.path.Path.{Path}
use Rattle.jr_tree.specs.Trees.{IsTree, Nodes, node_at}
use Rattle.jr_part.specs.Parts.{AgreesWith, Knowledge, known_at}

-- what was known of the whole tree at an earlier base, and paths that were told to have changed
pub record Earlier : Type 0 where
  pub part : Knowledge
  pub told : List Path

-- of the paths at which the new tree isn't the old one each is told
abbrev pub SameButAt : (told : List Path) → (old new : Nodes) → Type 0
SameButAt told old new = (p : Path) → (Contains told p → ⊥) → node_at new p ≡ node_at old p

-- what was known is so of a tree that differs from the new one at the told paths alone
pub record IsEarlierThan (new : Nodes) (e : Earlier) : Type 0 where
  pub old : Nodes
  pub tree : IsTree old
  pub agrees : AgreesWith old e.part
  pub same : SameButAt e.told old new

-- of each of these paths it is known what is there
abbrev pub AreKnown : Knowledge → List Path → Type 0
AreKnown k told = (p : Path) → Contains told p → IsTrue (is_some (known_at k p))
