use Rattle.std.proofs.Common.{take}
use Rattle.oak_sync.specs.Sets.{HasUpward}
use Rattle.oak_sync.proofs.paths.ids_upward.Given as goal

-- the paths so far, with all that is above them
abbrev pub invariant-loop-path : goal.invariant-loop-path
invariant-loop-path l = HasUpward (take l.path-index l.paths) l.ids
