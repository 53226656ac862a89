use Rattle.std.proofs.Common.{◌≡◌, ◌<◌, ℕ, Some}
use Rattle.std.specs.Prelude.{slice_get}
use Rattle.oak_machine.specs.Runs.{IsNode}
use Rattle.oak_past.proofs.machine.are_nodes.Given as goal

abbrev pub invariant-loop-node : goal.invariant-loop-node
invariant-loop-node l = (s k : ℕ) → s < l.node-index → slice_get l.journal.sessions s ≡ Some k → IsNode l.journal.clusters k
