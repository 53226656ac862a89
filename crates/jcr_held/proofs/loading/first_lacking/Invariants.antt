use Rattle.std.proofs.Common.{take}
use Rattle.std.specs.List.{All}
use Rattle.jr_part.specs.Parts.{LacksNothing}
use Rattle.jcr_held.proofs.loading.first_lacking.Given as goal

-- nothing lacks of the needs so far
abbrev pub invariant-loop-need : goal.invariant-loop-need
invariant-loop-need l = All (LacksNothing l.part) (take l.need-index l.needs)
