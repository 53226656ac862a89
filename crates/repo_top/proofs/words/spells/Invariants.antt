use Rattle.std.proofs.Common.{ℕ, List, ◌<◌, IsSome, IsTrue, bytes_eq, get_or, map}
use Rattle.std.specs.Map.{lookup}
use Rattle.std.specs.String.{string_bytes}
use Rattle.repo_top.specs.Words.{AreGiven, row_option}
use Rattle.repo_top.specs.declared.words.Given.{Given}
use Rattle.repo_top.specs.declared.words.WordOption.{WordOption}
use Rattle.repo_top.proofs.words.spells.Given as goal

abbrev pub invariant-loop-option : goal.invariant-loop-option
invariant-loop-option l =
    (given : List (List ℕ × Given)) → AreGiven (map row_option l.options) given (map string_bytes l.words) → (k : ℕ) (d : WordOption) → k < l.option-index → IsTrue (get_or l.options k d).required → IsSome (lookup (bytes_eq (get_or l.options k d).name.now) given)
