use Rattle.std.proofs.Common.{◌≡◌, drop, map}
use Rattle.std.specs.List.{fold}
use Rattle.std.specs.Map.Iter.{deref_pair}
use Rattle.jr_tree.specs.Trees.{subtree_of}
use Rattle.jcr_restore.specs.Restored.{with_staying}
use Rattle.jcr_restore.proofs.restored.Bringing.put_staying.Given as goal

-- what is left leads there
abbrev pub invariant-loop-at : goal.invariant-loop-at
invariant-loop-at l =
    fold (with_staying l.self.types.now l.self.tree.now l.self.path.now l.self.frozen.now) l.tree (map deref_pair (drop l.at-index l.at-items))
    ≡ fold (with_staying l.self.types.now l.self.tree.now l.self.path.now l.self.frozen.now) l.initial.tree (subtree_of l.self.tree.now l.self.path.now)
