use Rattle.std.proofs.Common.{◌≡◌, ◌++◌, take, drop}
use Rattle.oak_node.specs.Heads.{with_end}
use Rattle.oak_node.proofs.drawn.end.Given as goal

-- what was passed is ended where it is to be, and the rest is as it was
abbrev pub invariant-loop-d : goal.invariant-loop-d
invariant-loop-d l = l.drawn ≡ with_end (take l.d-index l.initial.drawn) l.r ++ drop l.d-index l.initial.drawn
