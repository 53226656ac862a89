use Rattle.std.proofs.Common.{◌≡◌, length, take}
use Rattle.jr_path.specs.Ids.{joined}
use Rattle.jr_path.proofs.Pieces.{AllNames, pieces}
use Rattle.jr_path.proofs.path_text.depth_behind.Given as goal

-- the pieces so far are names
abbrev pub invariant-loop-name : goal.invariant-loop-name
invariant-loop-name l = record {
  count : l.depth ≡ length l.yielded;
  start : l.start ≡ length (joined (take l.depth (pieces l.fn.behind)));
  names : AllNames (take l.depth (pieces l.fn.behind));
}
