use Rattle.std.proofs.Common.{◌<◌, ℕ, IsTrue, slice_index_or}
use Rattle.oak_machine.specs.Runs.{is_skip}
use Rattle.oak_past.proofs.machine.are_skips.Given as goal

abbrev pub invariant-loop-read : goal.invariant-loop-read
invariant-loop-read l = (k : ℕ) (d : _) → k < l.read-index → IsTrue (is_skip (slice_index_or l.collected.skipped k d).1 (slice_index_or l.collected.skipped k d).2)
