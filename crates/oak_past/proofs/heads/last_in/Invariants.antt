use Rattle.std.proofs.Common.{◌≡◌, reverse, take}
use Rattle.oak_machine.specs.Heads.{last_in}
use Rattle.oak_past.proofs.heads.last_in.Given as goal

abbrev pub invariant-loop-event : goal.invariant-loop-event
invariant-loop-event l = l.last ≡ last_in l.journal.clusters l.journal.start (reverse (take l.event-index l.events)) l.cluster
