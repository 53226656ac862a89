use Rattle.std.proofs.Common.{◌≡◌, drop}
use Rattle.std.specs.List.{list_any}
use Rattle.jcr_marks.specs.Marks.{locks_anew}
use Rattle.jcr_marks.proofs.covered.gains_lock.Given as goal

-- what is left decides
abbrev pub invariant-loop-above : goal.invariant-loop-above
invariant-loop-above l = list_any (locks_anew l.old l.new l.at) (drop l.above-index l.above-items) ≡ list_any (locks_anew l.old l.new l.at) l.above-items
