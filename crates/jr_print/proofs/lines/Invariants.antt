use Rattle.std.proofs.Common.{◌≡◌}
use Rattle.std.specs.List.{flat_map, range_with_len}
use Rattle.jr_print.specs.Replies.{lines_of}
use Rattle.jr_print.proofs.lines.Given as goal

-- the lines of the sessions so far
abbrev pub invariant-loop-session : goal.invariant-loop-session
invariant-loop-session l = l.text.items ≡ flat_map (lines_of l.journal.events.list) (range_with_len 0 l.session)
