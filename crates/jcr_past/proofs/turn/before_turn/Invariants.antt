use Rattle.std.proofs.Common.{◌≡◌, ◌≤◌, reverse, take}
use Rattle.jcr_law.specs.Since.{before_turn}
use Rattle.jcr_past.proofs.turn.before_turn.Given as goal

abbrev pub invariant-loop-at : goal.invariant-loop-at
invariant-loop-at l =
    (l.turn ≤ l.at)
    × (reverse (take l.turn l.events) ≡ before_turn (reverse (take l.at l.events)) l.session)
