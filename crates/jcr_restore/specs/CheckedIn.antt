-- A check-in, changes that leave its version alone, and a restore of that version.
use Rattle.std.specs.Prelude.{◌≡◌, List, None, Ok, IsFalse}
use Rattle.jr_path.specs.declared.name.Name.{Name}
use Rattle.jr_path.specs.declared.path.Path.{Path}
use Rattle.jr_tree.specs.declared.edit.Write.{Write}
use Rattle.jr_tree.specs.declared.shared.Who.{Who}
use Rattle.jr_tree.specs.Trees.{IsTree, Nodes, node_at, subtree_of, undated}
use Rattle.jr_items.specs.Items.{is_checked_in}
use Rattle.jr_types.specs.declared.TypeDef.{TypeDef}
use Rattle.jcr_ref.specs.Histories.{version_history_of}
use Rattle.jcr_version.specs.Edits.{checkin_edit, next_version}
use Rattle.jcr_restore.specs.BroughtBack.{left_out}
use Rattle.jcr_restore.specs.Edits.{frozen_of}

-- the version that a check-in of p makes
abbrev pub made_version : Nodes → Path → Path
made_version t p = next_version t (version_history_of t p)

-- the node at p is checked in by these writes, as a version that wasn't there
pub record IsCheckIn (types : List TypeDef) (old : Nodes) (p : Path) (who : Who)
    (ws : List Write) : Type 0 where
  -- the tree before is a tree
  pub was : IsTree old
  -- the node isn't checked in yet
  pub out : IsFalse (is_checked_in old p)
  -- the check-in is accepted, with these writes
  pub due : checkin_edit types old p who ≡ Ok ws
  -- no node stands in the place of the version
  pub free : node_at old (made_version old p) ≡ None

-- between a check-in of p and a later tree nothing happened to what a restore of the version needs
pub record IsUntouchedSince (types : List TypeDef) (old checked new : Nodes)
    (p version : Path) : Type 0 where
  -- the later tree is a tree
  pub is : IsTree new
  -- at and below the version's frozen node are the nodes that the check-in left, whoever added them
  pub frozen : undated (subtree_of new (frozen_of version))
      ≡ undated (subtree_of checked (frozen_of version))
  -- what a version of p leaves out is as it was before the check-in
  pub others : (ns : List Name) → left_out types new p ns ≡ left_out types old p ns
