-- By the entries, one after the other.
use Rattle.core_calls.proofs.Alone.{set_alone}
use Rattle.core_calls.proofs.commits.set_entries_are_alone.Goals as goal

pub returns : goal.returns
returns c = λ v r low high vector tick. set_alone v r low high vector tick
