use Rattle.std.specs.Str.Iter.{char_indices_offset, char_indices_rest}
use Rattle.jr_path.proofs.Scanned.{Scanned}
use Rattle.jr_path.proofs.name.check_name.Given as goal

-- the characters so far are read
abbrev pub invariant-loop-offset : goal.invariant-loop-offset
invariant-loop-offset l =
    (goal.iterator-loop-offset.can_next l.offset-iterator) × Scanned l.text l.stage (char_indices_rest l.offset-iterator) (char_indices_offset l.offset-iterator)
