-- What background work has read, and what it publishes, stands after later events.
use Rattle.std.proofs.Common.{◌≡◌, ℕ, Bool, suc, true, false, List, [], ◌∷◌, ◌++◌, ◌∙◌}
use Rattle.std.specs.Prelude.{None}
use Rattle.jr_rev.specs.declared.revision.Revision.{Revision}
use Rattle.jr_rev.specs.declared.vector.RevVec.{RevVec}
use Rattle.jr_rev.specs.Revisions.{is_at_most}
use Rattle.oak_machine.specs.Heads.{local}
use Rattle.oak_machine.specs.History.{Past, Begin}
use Rattle.oak_machine.specs.Laws.{AreOthers, Says, Starts, after}
use Rattle.oak_machine.specs.Runs.{AreNodes, IsRunOf}
use Rattle.oak_machine.specs.Sessions.{is_attached}
use Rattle.core_heads.proofs.Runs.{later_run}
use Rattle.core_read.proofs.Latest.{at_most_trans}
use Rattle.core_world.specs.Kept.{WereOnRoot}
use Rattle.oak_sweep.specs.Sweeping as sweeping
use Rattle.oak_sweep.specs.declared.stage.Stage.{Stage as Swept}
use Rattle.oak_sweep.specs.declared.stage.Stage.TheVariants as swept
use Rattle.oak_sweep.specs.declared.sweeper.Sweeper.{Sweeper}
use Rattle.oak_sync.specs.Learning.{stage_of}
use Rattle.oak_sync.specs.declared.back_read.BackRead.{BackRead}
use Rattle.oak_sync.specs.declared.stage.Stage.{Stage as Syncing}
use Rattle.oak_sync.specs.declared.stage.Stage.TheVariants as syncing
use Rattle.oak_step.specs.declared.upkeep.Upkeep.{Upkeep}
use Rattle.oak_step.specs.declared.upkeep.Upkeep.TheVariants as upkeep
use Rattle.oak_world.specs.Kept.{IsOwn, IsOwnPublished, MayKeepUp, MayReadOn, MaySweepOn}
use Rattle.oak_world.specs.Worlds.{Story, live}
use Rattle.oak_world.proofs.Others.{attached_left, reader_left}
use Rattle.oak_world.proofs.Sweepers.{published_lasts}

-- local revisions rise
pub local_lasts : (starts : Starts) (says : Says) (clusters : ℕ) (sessions : List ℕ) (begin : Begin) → AreNodes clusters sessions → (own before : Past) → IsRunOf starts says clusters sessions begin (own ++ before) → (r : Revision) (k : ℕ) → is_at_most r (local begin before k) ≡ true → is_at_most r (local begin (own ++ before) k) ≡ true
local_lasts starts says clusters sessions begin nodes [] before run r k h = h
local_lasts starts says clusters sessions begin nodes (e ∷ own) before run r k h =
    at_most_trans r (local begin (own ++ before) k) (local begin (e ∷ (own ++ before)) k) (local_lasts starts says clusters sessions begin nodes own before run.1 r k h)
    ((later_run clusters sessions nodes begin starts says e (own ++ before) run).locals k)

-- what the root told once, it has told
pub were_lasts : (begin : Begin) (clusters : ℕ) (own before : Past) (last sweep : RevVec) → WereOnRoot begin clusters before last sweep → WereOnRoot begin clusters (own ++ before) last sweep
were_lasts begin clusters [] before last sweep h = h
were_lasts begin clusters (e ∷ own) before last sweep h = let w = were_lasts begin clusters own before last sweep h in (suc w.0, w.1)

module _ (starts : Starts) (says : Says) (h : Story) (nodes : AreNodes h.clusters h.sessions) (q : ℕ) (own : Past) (run : IsRunOf starts says h.clusters h.sessions None (own ++ h.past)) where
  pub own_lasts : (r : Revision) → IsOwn (live h) q r → IsOwn (after own (live h)) q r
  own_lasts r m = (m.0, local_lasts starts says h.clusters h.sessions None nodes own h.past run r r.cluster m.1)

  published_own_lasts : (r : Revision) → IsOwnPublished (live h) q r → IsOwnPublished (after own (live h)) q r
  published_own_lasts r m = (m.0, published_lasts None own h.past r.cluster r m.1)

  sweep_lasts : (x : Sweeper) (at : Swept) → MaySweepOn (live h) q x at → MaySweepOn (after own (live h)) q x at
  sweep_lasts x swept.Root m = m
  sweep_lasts x swept.Document m = published_own_lasts x.target m
  sweep_lasts x swept.Publish m = published_own_lasts x.target m
  sweep_lasts x swept.Learn m = published_own_lasts x.target m
  sweep_lasts x swept.Done m = absurd m

  module _ (others : AreOthers q own h.past) where
    -- a session is attached as before, or not
    pub still : (b : Bool) → is_attached h.past q ≡ b → is_attached (own ++ h.past) q ≡ b
    still b m = attached_left q own h.past others ∙ m

    learn_lasts : (b : BackRead) (at : Syncing) → MayReadOn (live h) b at → MayReadOn (after own (live h)) b at
    learn_lasts b syncing.Read m = tt
    learn_lasts b syncing.Learn m = were_lasts None h.clusters own h.past b.last b.sweep m
    learn_lasts b _ m = absurd m

    pub upkeep_lasts : (u : Upkeep) → MayKeepUp (live h) q u → MayKeepUp (after own (live h)) q u
    upkeep_lasts upkeep.Write m = tt
    upkeep_lasts (upkeep.Noted n) m = own_lasts n.upto m
    upkeep_lasts (upkeep.Publish b) m = (own_lasts b.upto m.0, m.1)
    upkeep_lasts (upkeep.Read b) m = learn_lasts b (stage_of b) m
    upkeep_lasts upkeep.Sweep m = tt
    upkeep_lasts (upkeep.Sweeping x) m = sweep_lasts x (sweeping.stage_of x) m
    upkeep_lasts (upkeep.Checkpoint i) m = still false m
    upkeep_lasts (upkeep.Release i) m = tt
    upkeep_lasts (upkeep.Attach i) m = still false m
    upkeep_lasts upkeep.Detach m = still true m
    upkeep_lasts (upkeep.Detaching pin) m = (still false m.0, reader_left q own h.past others ∙ m.1)
    upkeep_lasts upkeep.Observe m = still false m
