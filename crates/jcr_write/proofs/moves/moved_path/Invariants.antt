use Rattle.std.proofs.Common.{◌≡◌, ◌++◌, take}
use Rattle.jcr_write.proofs.moves.moved_path.Given as goal

-- the names so far stand behind the other path
abbrev pub invariant-loop-name : goal.invariant-loop-name
invariant-loop-name l = l.place ≡ l.to ++ take l.name-index l.name-items
