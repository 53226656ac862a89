use Rattle.std.proofs.Common.{◌≡◌, ◌≤◌, ◌+◌, ◌*◌, ◌∷◌, ◌++◌, IsTrue, IsFalse, All, length, drop, take}
use Rattle.jr_rev.specs.Grammar.{FitsFields}
use Rattle.jr_rev.specs.Texts.{vector_text}
use Rattle.jr_rev.specs.Vectors.{revisions_of}
use Rattle.jr_rev.proofs.Joined.{left_text}
use Rattle.jcr_steps.proofs.shown.shown_vector.Given as goal

abbrev pub invariant-loop-i : goal.invariant-loop-i
invariant-loop-i l = record {
  left : l.text.bytes ++ left_text l.first (drop l.i l.vector) ≡ 111 ∷ 107 ∷ 32 ∷ 34 ∷ vector_text l.vector;
  fits : All FitsFields (revisions_of (take l.i l.vector));
  start : IsTrue l.first → length l.text.bytes ≡ 4;
  room : IsFalse l.first → length l.text.bytes + 1 ≤ 4 + 36 * l.i;
}
