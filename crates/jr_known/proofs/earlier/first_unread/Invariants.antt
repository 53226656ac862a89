use Rattle.std.proofs.Common.{◌≡◌, ℕ, ◌<◌, ◌≤◌, IsTrue, get_or, is_some}
use Rattle.jr_path.specs.declared.path.Path.{Path}
use Rattle.jr_part.specs.Parts.{known_at}
use Rattle.jr_known.proofs.earlier.first_unread.Given as goal

abbrev pub invariant-loop-at : goal.invariant-loop-at
invariant-loop-at l = (i : ℕ) (p : Path) → l.from ≤ i → i < l.at → get_or l.told i p ≡ p → IsTrue (is_some (known_at l.fresh p))
