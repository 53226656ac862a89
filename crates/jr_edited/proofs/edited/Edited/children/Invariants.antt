use Rattle.std.proofs.Common.{◌≡◌, map, take}
use Rattle.std.specs.Map.Iter.{deref_pair}
use Rattle.jr_tree.specs.Trees.{children_of}
use Rattle.jr_edited.proofs.edited.Edited.children.Given as goal

-- the names so far are those of the children among the nodes so far
abbrev pub invariant-loop-at : goal.invariant-loop-at
invariant-loop-at l = l.names.items ≡ children_of (map deref_pair (take l.at-index l.at-items)) l.path
