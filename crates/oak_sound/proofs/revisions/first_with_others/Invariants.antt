use Rattle.oak_sound.specs.Sound.{keeps_revisions}
use Rattle.oak_sound.proofs.Breaking.{IsSoFar}
use Rattle.oak_sound.proofs.revisions.first_with_others.Given as goal

-- so far each document keeps the rule; those that are left decide
abbrev pub invariant-loop-at : goal.invariant-loop-at
invariant-loop-at l = IsSoFar (λ before e. keeps_revisions l.clusters e.1) l.documents l.at l.document-iterator
