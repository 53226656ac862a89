use Rattle.std.proofs.Common.{◌≡◌, length, take}
use Rattle.jr_path.proofs.Pieces.{pieces}
use Rattle.jr_path.proofs.path_text.path_behind.Given as goal

-- the path has the pieces so far
abbrev pub invariant-loop-name : goal.invariant-loop-name
invariant-loop-name l = l.path ≡ take (length l.yielded) (pieces l.fn.behind)
