use Rattle.oak_sound.proofs.Numbering.{AreNumbered}
use Rattle.oak_sound.proofs.numbers.first_misnumbered.Given as goal

-- so far each document keeps the rule, and its number is known
abbrev pub invariant-loop-at : goal.invariant-loop-at
invariant-loop-at l = AreNumbered l.documents l.at l.document-iterator l.numbers
