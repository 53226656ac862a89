use Rattle.std.proofs.Common.{◌≡◌, ◌++◌, take}
use Rattle.jr_print.specs.Replies.{lines_of}
use Rattle.jr_print.proofs.put_lines.Given as goal

-- the lines of the events so far
abbrev pub invariant-loop-event : goal.invariant-loop-event
invariant-loop-event l = l.out.items ≡ l.initial.out.items ++ lines_of (take l.event-index l.events) l.session
