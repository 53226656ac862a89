use Rattle.std.proofs.Common.{◌≡◌}
use Rattle.jr_work.specs.Workers.{HasGoneOn}
use Rattle.jr_work.proofs.worker.to_end.Given as goal

-- the session stands where its turns have brought it
abbrev pub invariant-turns : goal.invariant-turns
invariant-turns g l =
    (goal.iterator-turns g).can_next l.iterator' × (goal.iterator-turns g).is_finite l.iterator'
    × (g.P.Port.law l.port ≡ g.P.Port.law l.initial.port)
    × HasGoneOn (g.P.Port.law l.initial.port) (g.P.Port.shown l.initial.port) (g.P.Port.shown l.port) l.initial.run l.run
