use Rattle.std.proofs.Common.{◌≡◌, ◌≤◌, ◌∷◌, length, take}
use Rattle.oak_clash.specs.Clashes.{commit_root}
use Rattle.oak_clash.proofs.marked.commit_root.Given as goal

-- the commit root of the marks so far is an ancestor of the first, or self
abbrev pub invariant-loop-mark : goal.invariant-loop-mark
invariant-loop-mark l = record {
  within : l.depth ≤ length l.names;
  root : take l.depth l.names ≡ commit_root (l.first ∷ take l.mark-index l.rest);
}
