-- The bound of a collection while it is read: the least of the pairs that it was fed so far, and
-- what is held meanwhile.
use Rattle.std.specs.Prelude.{ℕ, ◌<◌, ◌∷◌, IsFalse, IsTrue}
use Rattle.std.specs.List.{fold}
use Rattle.jr_rev.specs.declared.vector.Pin.{Pin}
use Rattle.jr_rev.specs.Vectors.{is_below}
use Rattle.oak_machine.specs.History.{Begin, Past}
use Rattle.oak_machine.specs.Runs.{IsNode}
use Rattle.core_heads.specs.Sound.{IsGood, Seen}
use Rattle.core_keep.specs.Bounds.{lesser_pair}
use Rattle.core_keep.specs.Holding.{IsPairBelow}
use Rattle.core_read.specs.Told.{IsIn}
use Rattle.core_world.specs.Held.{holding_in}
use Rattle.core_world.specs.Kept.{SeesStarts}
use Rattle.core_world.specs.States.{State}

-- a pair can bound a collection
pub record CanBound (begin : Begin) (clusters : ℕ) (past : Past) (x : Pin) : Type 0 where
  -- the base sees nothing that is ahead, and with a drawn revision all that its base saw, however
  -- the run goes on
  pub good : IsGood begin past (Seen x.base)
  -- the sweep vector is at most the base, and sees the start of each cluster node
  pub swept : IsTrue (is_below x.sweep x.base)
  pub begun : SeesStarts clusters x.sweep

-- all that is held can
pub record CanAllBound (w : State) : Type 0 where
  pub pins : (k : ℕ) → IsFalse ((holding_in w).gone k) → (x : Pin) → IsIn x ((holding_in w).pins k)
      → CanBound w.begin w.clusters w.past x
  pub kept : (x : Pin) → IsIn x (holding_in w).kept → CanBound w.begin w.clusters w.past x

-- what the cluster nodes below k told, each at a moment of its own, was fed
pub record IsBounding (w : State) (k : ℕ) (x : Pin) : Type 0 where
  -- the least so far can bound
  pub can : CanBound w.begin w.clusters w.past x
  -- the least so far is at most the heads and pins of the cluster nodes below k now
  pub heads : (j : ℕ) → IsNode w.clusters j → j < k → IsFalse ((holding_in w).gone j)
      → IsPairBelow x ((holding_in w).heads j)
  pub pins : (j : ℕ) → IsNode w.clusters j → j < k → IsFalse ((holding_in w).gone j)
      → (y : Pin) → IsIn y ((holding_in w).pins j) → IsPairBelow x y

-- the least with what cluster node k tells now
abbrev pub fed_node : State → ℕ → Pin → Pin
fed_node w k x = fold lesser_pair x ((holding_in w).heads k ∷ (holding_in w).pins k)

-- and last with what the settings keep now
abbrev pub fed_settings : State → Pin → Pin
fed_settings w x = fold lesser_pair x (holding_in w).kept
