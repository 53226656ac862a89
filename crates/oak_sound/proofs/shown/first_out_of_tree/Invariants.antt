use Rattle.oak_sound.specs.Sound.{keeps_tree}
use Rattle.oak_sound.proofs.Breaking.{IsSoFar}
use Rattle.oak_sound.proofs.shown.first_out_of_tree.Given as goal

-- so far each document keeps the rule; those that are left decide
abbrev pub invariant-loop-at : goal.invariant-loop-at
invariant-loop-at l = IsSoFar (λ before e. keeps_tree l.documents l.sweep l.tree e.0 e.1) l.documents l.at l.id-iterator
