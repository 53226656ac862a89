-- The pins of a cluster node, one for an owner.
use Rattle.std.specs.Prelude.{◌≡◌, ℕ, ◌<◌, ◌≤◌, Option, List, length}
use Rattle.std.specs.List.{HoldsAt, AllWithin}
use Rattle.std.specs.BTreeMap.{is_at, insert_entry}
use Rattle.std.specs.Map.{lookup, remove_entry}
use Rattle.std.specs.Ordering.{nat_cmp}
use Rattle.jr_rev.specs.declared.vector.Pin.{Pin}
use Rattle.oak_node.specs.Memory.{NodeState}

-- the owner's pin
abbrev pub pin_of : NodeState → ℕ → Option Pin
pin_of s owner = lookup (is_at (nat_cmp owner)) s.pins

-- the head, with the sweep vector
abbrev pub pin_now : NodeState → Pin
pin_now s = record { base = s.head; sweep = s.sweep }

-- the memory of the node, with a new pin for the owner, in the place of one that it has
abbrev pub with_pin : NodeState → ℕ → Pin → NodeState
with_pin s owner pin = record s { pins = insert_entry nat_cmp s.pins owner pin }

-- the memory of the node, with no pin for the owner
abbrev pub without_pin : NodeState → ℕ → NodeState
without_pin s owner = record s { pins = remove_entry (is_at (nat_cmp owner)) s.pins }

-- the owner's pin stands at place i
pub record IsPlaceOf (pins : List (ℕ × Pin)) (owner i : ℕ) : Type 0 where
  pub within : i < length pins
  pub there : HoldsAt (λ pin. pin.0 ≡ owner) pins i

-- the owner has no pin, and one would go to place i
pub record IsGapOf (pins : List (ℕ × Pin)) (owner i : ℕ) : Type 0 where
  pub within : i ≤ length pins
  pub front : AllWithin (λ pin. pin.0 < owner) pins 0 i
  pub back : AllWithin (λ pin. owner < pin.0) pins i (length pins)
