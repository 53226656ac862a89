use Rattle.oak_sound.proofs.Breaking.{IsSoFar}
use Rattle.jr_open.specs.Typed.{keeps_types}
use Rattle.jr_open.proofs.types.first_untyped.Given as goal

-- so far each document keeps the rule; those that are left decide
abbrev pub invariant-loop-at : goal.invariant-loop-at
invariant-loop-at l = IsSoFar (λ before e. keeps_types l.types l.tree e.0) l.documents l.at l.id-iterator
