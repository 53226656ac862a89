-- What a world holds: the heads and the pins of its cluster nodes, and what its settings keep.
use Rattle.std.specs.Prelude.{ℕ, Bool, cond, not, ◌&&◌, ◌||◌, nat_le, ◌∷◌, List, []}
use Rattle.std.specs.Map.{values_of}
use Rattle.std.specs.Option.{option_map_or}
use Rattle.jr_path.specs.declared.path.DocId.TheVariants as id
use Rattle.jr_rev.specs.declared.vector.Pin.{Pin}
use Rattle.jr_rev.specs.declared.vector.RevVec.{RevVec}
use Rattle.jr_rev.specs.Vectors.{no_entries}
use Rattle.oak_machine.specs.declared.event.Event.TheVariants as event
use Rattle.oak_machine.specs.Sessions.{is_recovered}
use Rattle.oak_node.specs.Pins.{pin_now}
use Rattle.oak_read.specs.Meaning.{documents_in}
use Rattle.oak_store.specs.Tables.{Table}
use Rattle.core_keep.specs.Bounds.{kept_pairs}
use Rattle.core_keep.specs.Holding.{Holding, IsBelowAll}
use Rattle.jr_rev.specs.Vectors.{is_below, sees}
use Rattle.std.specs.Prelude.{IsTrue}
use Rattle.core_world.specs.States.{State, memory_at}
use Rattle.core_begun.specs.Told.{IsClosedSince}

-- the pairs that the settings keep: of checkpoints and of attached sessions
abbrev pub kept_in : Table → List Pin
kept_in t = option_map_or kept_pairs (documents_in t.documents id.Settings) []

-- k is one of the cluster nodes
abbrev pub is_node_in : ℕ → ℕ → Bool
is_node_in clusters k = nat_le 1 k && nat_le k clusters

-- what sees nothing
abbrev pub no_pin : Pin
no_pin = record { base = no_entries; sweep = no_entries }

-- what is held now: the head of each cluster node with its sweep vector, the pins of its sessions
-- and their cursors, and what the settings keep
abbrev pub holding_in : State → Holding
holding_in w = record {
  heads = λ k. cond (is_node_in w.clusters k) (pin_now (memory_at w.memories k)) no_pin;
  pins = λ k. values_of (memory_at w.memories k).pins;
  gone = λ k. not (is_node_in w.clusters k) || is_recovered w.past k;
  kept = kept_in w.table;
}

-- a collection has read its bound: m, with the sweep vector t
abbrev pub after_bound : State → RevVec → RevVec → State
after_bound w m t = record w { past = event.Bound m t ∷ w.past }

-- such a bound may be taken: it is at most what is held, and with an edit it sees all that the
-- edit's base saw
pub record MayTakeBound (w : State) (m t : RevVec) : Type 0 where
  pub below : IsBelowAll (record { base = m; sweep = t }) (holding_in w)
  pub swept : IsTrue (is_below t m)
  pub closed : IsClosedSince w.past (sees m)
