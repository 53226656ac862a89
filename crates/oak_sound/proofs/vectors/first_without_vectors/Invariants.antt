use Rattle.oak_sound.specs.Sound.{keeps_vectors}
use Rattle.oak_sound.proofs.Breaking.{IsSoFar}
use Rattle.oak_sound.proofs.vectors.first_without_vectors.Given as goal

-- so far each document keeps the rule; those that are left decide
abbrev pub invariant-loop-at : goal.invariant-loop-at
invariant-loop-at l = IsSoFar (λ before e. keeps_vectors l.clusters e.0 e.1) l.documents l.at l.id-iterator
