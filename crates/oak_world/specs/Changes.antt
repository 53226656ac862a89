-- What a cluster node knows of what changed between two vectors.
use Rattle.std.specs.Prelude.{◌≡◌, ◌&&◌, ℕ, cond, List, map, Option, None, Some, option_map, IsTrue}
use Rattle.std.specs.Option.{option_map_or}
use Rattle.jr_path.specs.declared.path.Path.{Path}
use Rattle.jr_rev.specs.declared.vector.RevVec.{RevVec}
use Rattle.jr_rev.specs.Vectors.{is_below}
use Rattle.oak_node.specs.declared.pending.Note.{Note}
use Rattle.oak_node.specs.Changes.{changed_since}
use Rattle.oak_node.specs.Memory.{NodeState}
use Rattle.core_world.specs.States.{State, actor_pin, memory_of}

-- the paths are those that a memory knows to have changed since a vector; the memory's head is at
-- or above a base, and that at or above the vector
pub record IsToldUpTo (s : NodeState) (since base : RevVec) (told : List Path) : Type 0 where
  pub above : IsTrue (is_below since base)
  pub seen : IsTrue (is_below base s.head)
  pub notes : List Note
  pub known : changed_since s since ≡ Some notes
  pub paths : told ≡ map (λ note. note.path) notes

-- the paths that a memory knows to have changed between a vector and a base at or above it, which
-- its head sees; none are known else
abbrev pub told_up_to : NodeState → (since base : RevVec) → Option (List Path)
told_up_to s since base = cond (is_below since base && is_below base s.head)
    (option_map (map (λ note. note.path)) (changed_since s since)) None

-- the paths that the memory of its cluster node knows to have changed between a vector and the base
-- of session s
abbrev pub changes_known : State → ℕ → (since : RevVec) → Option (List Path)
changes_known w s since =
    option_map_or (λ pin. told_up_to (memory_of w s) since pin.base) (actor_pin w s) None
