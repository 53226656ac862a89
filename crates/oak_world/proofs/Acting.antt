-- A step of a session's seat on the memory of its cluster node alone, by what is read there.
use mathlib.Core.Bool.{false≢true}
use Rattle.std.proofs.Common.{◌≡◌, ℕ, ◌-◌, ◌<◌, ◌≤◌, false, Option, List, length, inl, inr, refl, sym, ap, subst, ◌∙◌, arith}
use Rattle.std.proofs.Math.ListN.{get_or}
use Rattle.std.specs.Prelude.{slice_set}
use Rattle.std.specs.Option.{unwrap_or}
use Rattle.jr_rev.specs.Vectors.{no_entries}
use Rattle.oak_machine.specs.declared.event.Event.{Event}
use Rattle.oak_machine.specs.Runs.{IsNode}
use Rattle.oak_node.specs.Memory.{NodeState, begun}
use Rattle.oak_port.specs.declared.task.StepOut.{StepOut}
use Rattle.oak_store.specs.Tables.{Table}
use Rattle.core_world.specs.States.{memory_at}
use Rattle.oak_saves.specs.Saves.{parts}
use Rattle.oak_step.specs.declared.work.Work.{Work}
use Rattle.oak_step.specs.Parts.{Steps}
use Rattle.oak_tidy.specs.Replies.{all_parts}
use Rattle.oak_world.specs.Acting.{Acts, CanAct, is_tidying}
use Rattle.oak_world.proofs.Seats.{read_at}

module _ (s k : ℕ) (ms : List NodeState) (places : ℕ) (v : Work) (can : CanAct s k ms places v) (alone : is_tidying v ≡ false) where
  -- the cluster node is one of those that have a memory
  node_there : IsNode (length ms) k
  node_there = by can
    where
      by : CanAct s k ms places v → IsNode (length ms) k
      by (inl all) = absurd (false≢true (sym alone ∙ ap is_tidying all.1))
      by (inr one) = one.0

  -- its memory is what is read there
  memory_read : (m : NodeState) → m ≡ get_or ms (k - 1) m → memory_at ms k ≡ m
  memory_read m read =
      let low : 1 ≤ k = node_there.0 in
      let high : k ≤ length ms = node_there.1 in
      let within : k - 1 < length ms = omega arith in
      ap (λ (o : Option NodeState). unwrap_or o (begun k no_entries)) (read_at ms (k - 1) m m within read)

  -- a step on that memory is one of the seat
  pub acts_alone : (m : NodeState) → m ≡ get_or ms (k - 1) m → (t u : Table) (es fs : List Event) (n : NodeState) (y : Work) (o : StepOut) → Steps s k (parts t m es) v (parts u n fs) y o → Acts s k (all_parts t ms es) v (all_parts u (slice_set ms (k - 1) n) fs) y o
  acts_alone m read t u es fs n y o made = inr (n, refl, subst (λ (x : NodeState). Steps s k (parts t x es) v (parts u n fs) y o) (sym (memory_read m read)) made)
