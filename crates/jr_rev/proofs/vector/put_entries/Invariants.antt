use Rattle.std.proofs.Common.{◌≡◌, ℕ, List, ◌++◌, drop, take, All}
use Rattle.jr_rev.specs.Grammar.{FitsFields}
use Rattle.jr_rev.specs.Texts.{vector_text}
use Rattle.jr_rev.specs.Vectors.{revisions_of}
use Rattle.jr_rev.proofs.Joined.{left_text}
use Rattle.jr_rev.proofs.vector.put_entries.Given as goal

abbrev pub invariant-loop-entry : goal.invariant-loop-entry
invariant-loop-entry l = record {
  left : l.out.items ++ left_text l.first (drop l.entry-index l.entries) ≡ l.initial.out.items ++ vector_text l.entries;
  front : (more : List ℕ) × (l.out.items ≡ l.initial.out.items ++ more);
  fits : All FitsFields (revisions_of (take l.entry-index l.entries));
}
