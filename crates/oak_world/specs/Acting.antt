-- A step of a session's seat: on the memory of its cluster node alone, or over all memories.
use Rattle.std.specs.Prelude.{◌≡◌, ◌⊎◌, ℕ, Bool, true, false, List, length}
use Rattle.oak_machine.specs.Runs.{IsNode}
use Rattle.oak_node.specs.Memory.{NodeState}
use Rattle.oak_port.specs.declared.task.StepOut.{StepOut}
use Rattle.core_world.specs.States.{memory_at, with_memory}
use Rattle.oak_saves.specs.Saves.{parts}
use Rattle.oak_step.specs.declared.work.Work.{Work}
use Rattle.oak_step.specs.declared.work.Work.TheVariants as work
use Rattle.oak_step.specs.Parts.{CanStep, Steps}
use Rattle.oak_tidy.specs.declared.tidying.Tidied.{Tidied}
use Rattle.oak_tidy.specs.declared.tidying.Tidying.{Tidying}
use Rattle.oak_tidy.specs.Replies.{AllParts}
use Rattle.oak_tidy.specs.Tidyings.{CanTidy, Tidies}
use Rattle.oak_world.specs.Steps.{work_left}

-- a session splits or collects
abbrev pub is_tidying : Work → Bool
is_tidying (work.Tidy x) = true
is_tidying _ = false

-- a step takes what is there: a split or a collection goes over these memories; all else takes the
-- memory of its cluster node k alone
abbrev pub CanAct : ℕ → ℕ → List NodeState → ℕ → Work → Type 0
CanAct s k ms places v = ((x : Tidying) × (v ≡ work.Tidy x) × CanTidy (length ms) x)
    ⊎ (IsNode (length ms) k × CanStep s (memory_at ms k) places v)

-- a split or a collection goes on over all memories, which stay
abbrev pub ActsOnAll : ℕ → AllParts → Work → AllParts → Work → StepOut → Type 0
ActsOnAll s p v q y o = (x : Tidying) × (v ≡ work.Tidy x) × (left : Tidied) × (y ≡ work_left left)
    × (q.memories ≡ p.memories) × Tidies s p x q left o

-- all else goes on on the memory of cluster node k
abbrev pub ActsOnOne : ℕ → ℕ → AllParts → Work → AllParts → Work → StepOut → Type 0
ActsOnOne s k p v q y o = (m : NodeState) × (q.memories ≡ with_memory p.memories k m)
    × Steps s k (parts p.table (memory_at p.memories k) p.list) v (parts q.table m q.list) y o

-- a step of what session s of cluster node k does
abbrev pub Acts : ℕ → ℕ → AllParts → Work → AllParts → Work → StepOut → Type 0
Acts s k p v q y o = ActsOnAll s p v q y o ⊎ ActsOnOne s k p v q y o
