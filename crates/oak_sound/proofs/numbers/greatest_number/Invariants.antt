use Rattle.std.proofs.Common.{◌≡◌, fold}
use Rattle.std.specs.Prelude.{max}
use Rattle.oak_sound.specs.Meant.{greatest_number}
use Rattle.oak_sound.proofs.numbers.greatest_number.Given as goal

-- what those that are left come to stays
abbrev pub invariant-loop-document : goal.invariant-loop-document
invariant-loop-document l = fold (λ n e. max n e.1.mod_count) l.greatest l.document-iterator ≡ greatest_number l.documents
