-- Where a session stands behind a step of a split or a collection, and its turn.
use Rattle.std.specs.Prelude.{Bool, true, false}
use Rattle.oak_machine.specs.declared.event.StepKind.{StepKind}
use Rattle.oak_machine.specs.declared.event.StepKind.TheVariants as kind
use Rattle.jcr_steps.specs.declared.tidying.Tidied.{Tidied}
use Rattle.jcr_steps.specs.declared.tidying.Tidied.TheVariants as tidied
use Rattle.jcr_steps.specs.declared.tidying.TidyCame.{TidyCame}
use Rattle.jcr_steps.specs.declared.tidying.TidyCame.TheVariants as came
use Rattle.jcr_run.specs.declared.run.Phase.{Phase}
use Rattle.jcr_run.specs.declared.run.Phase.TheVariants as phase
use Rattle.jcr_run.specs.declared.turn.Turn.{Turn}
use Rattle.jcr_run.specs.declared.turn.Turn.TheVariants as turn

-- the turn in which a step of a split or a collection was made that goes on
abbrev pub going_turn : StepKind → Turn
going_turn kind.Read = turn.Read
going_turn k = turn.Stepped k

-- the turn in which a split has ended, by a reading step or by a change
abbrev pub split_turn : (reads : Bool) → Turn
split_turn true = turn.Read
split_turn false = turn.Stepped kind.Split

-- the turn in which a split or a collection has ended so
abbrev pub last_turn : (reads : Bool) → Tidied → Turn
last_turn reads (tidied.Split e) = split_turn reads
last_turn reads (tidied.Collected c) = turn.Stepped kind.Collect

-- the turn of a step of a split or a collection, for which a reading step is due or another, by
-- what it came to
abbrev pub turn_told : (reads : Bool) → TidyCame → Turn
turn_told reads (came.Going k) = going_turn k
turn_told reads (came.Ended t) = last_turn reads t
turn_told reads came.Refused = turn.Memory

-- where the session stands behind it
abbrev pub phase_told : TidyCame → Phase
phase_told (came.Ended t) = phase.Tidied t
phase_told _ = phase.Tidying
