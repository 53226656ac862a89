-- A tree with an edit made, as the tree with the few nodes that the edit writes in their places.
use Rattle.std.specs.Prelude.{◌≡◌, ◌≤◌, ◌+◌, ℕ, cond, IsTrue, List, [], None, is_some, length}
use Rattle.std.specs.BTreeMap.{insert_entry}
use Rattle.std.specs.FinMap.{is_sorted}
use Rattle.std.specs.List.{fold}
use Rattle.jr_path.specs.Names.{path_cmp}
use Rattle.jr_path.specs.declared.path.Path.{Path}
use Rattle.jr_tree.specs.declared.edit.Write.{Write}
use Rattle.jr_tree.specs.Edits.{applied, item_of}
use Rattle.jr_tree.specs.Merging.{written_nodes}
use Rattle.jr_tree.specs.Trees.{Nodes, node_at}
use Rattle.jr_overlay.specs.declared.overlay.Change.{Change}
use Rattle.jr_overlay.specs.Overlays.{Changed, change_at, view_of}

-- what two trees have at a path
abbrev pub change_between : (old new : Nodes) → Path → Change
change_between old new p = record { old = node_at old p; new = node_at new p }

-- the changes with what two trees have at one path more
abbrev pub with_change_of : (old new : Nodes) → Changed → Path → Changed
with_change_of old new c p = cond (is_some (change_at c p)) c
    (insert_entry path_cmp c p (change_between old new p))

-- what two trees have at each written path
abbrev pub changed_between : (old new : Nodes) → List Write → Changed
changed_between old new ws = fold (λ c w. with_change_of old new c (item_of w).path) [] ws

-- what an edit makes of the nodes that it writes
abbrev pub changed_nodes : Nodes → List Write → Changed
changed_nodes t ws =
    let part = written_nodes t ws in changed_between part (applied None part ws) ws

-- the tree and the changes stand in order, and so many nodes stood at the changed paths before and
-- stand there now
pub record IsCounted (t : Nodes) (c : Changed) (before after : ℕ) : Type 0 where
  pub tree : IsTrue (is_sorted path_cmp t)
  pub changes : IsTrue (is_sorted path_cmp c)
  pub within : before ≤ length t
  pub count : length (view_of t c) + before ≡ length t + after
