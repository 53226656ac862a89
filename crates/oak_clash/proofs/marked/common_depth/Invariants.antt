use Rattle.std.proofs.Common.{◌≡◌, ◌++◌, take, drop}
use Rattle.oak_clash.specs.Clashes.{common}
use Rattle.oak_clash.proofs.marked.common_depth.Given as goal

-- the names so far are the same
abbrev pub invariant-loop-depth : goal.invariant-loop-depth
invariant-loop-depth l = common l.a l.b ≡ take l.depth l.a ++ common (drop l.depth l.a) (drop l.depth l.b)
