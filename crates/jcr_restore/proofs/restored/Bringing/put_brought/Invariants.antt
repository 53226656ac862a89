use Rattle.std.proofs.Common.{◌≡◌, drop, map}
use Rattle.std.specs.List.{fold}
use Rattle.std.specs.Map.Iter.{deref_pair}
use Rattle.jr_tree.specs.Trees.{subtree_of}
use Rattle.jcr_restore.specs.Restored.{with_brought}
use Rattle.jcr_restore.proofs.restored.Bringing.put_brought.Given as goal

-- what is left leads there
abbrev pub invariant-loop-from : goal.invariant-loop-from
invariant-loop-from l =
    fold (with_brought l.self.types.now l.self.tree.now l.self.path.now l.self.frozen.now) l.tree (map deref_pair (drop l.from-index l.from-items))
    ≡ fold (with_brought l.self.types.now l.self.tree.now l.self.path.now l.self.frozen.now) l.initial.tree (subtree_of l.self.tree.now l.self.frozen.now)
