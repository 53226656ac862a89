use Rattle.std.proofs.Common.{◌≡◌, ◌++◌}
use Rattle.std.specs.Map.{values_of}
use Rattle.jr_stage.proofs.stage.sessions_of.Given as goal

-- the sessions so far, in their order
abbrev pub invariant-loop-session : goal.invariant-loop-session
invariant-loop-session l = l.sessions ++ values_of l.session-iterator ≡ values_of l.flying.entries
