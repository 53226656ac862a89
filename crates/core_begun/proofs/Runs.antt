-- Each run keeps what documents have to be read by.
use Rattle.std.proofs.Common.{◌≡◌, ℕ, Bool, true, not, ◌&&◌, Some, None, Option, List, [], ◌∷◌, refl, sym, subst, is_some}
use mathlib.Core.Bool.{false≢true}
use Rattle.jr_rev.specs.declared.revision.Revision.{Revision}
use Rattle.jr_rev.specs.declared.vector.RevVec.{RevVec}
use Rattle.jr_rev.specs.Vectors.{sees}
use Rattle.jr_tree.specs.Edits.{IsProper}
use Rattle.jr_tree.specs.Trees.{Nodes}
use Rattle.oak_machine.specs.declared.event.Draw.{Draw}
use Rattle.oak_machine.specs.declared.event.Event.TheVariants as event
use Rattle.oak_machine.specs.declared.event.Start.{Start}
use Rattle.oak_machine.specs.History.{Begin, History, Past, begin_at}
use Rattle.oak_machine.specs.Commits.{draw_of, tree_at}
use Rattle.oak_machine.specs.Laws.{Starts, Says, StartsProper}
use Rattle.oak_machine.specs.Runs.{AreNodes, IsRunOf, MayCommit}
use Rattle.core_read.specs.Told.{IsInUse}
use Rattle.core_read.proofs.Marks.{covers_writes}
use Rattle.core_heads.specs.Sound.{IsInHand, IsNodesRun}
use Rattle.core_heads.specs.Sound.IsInHand.{base, checkpoint, head}
use Rattle.core_heads.proofs.Runs.{fresh_run, held_in_use}
use Rattle.core_heads.proofs.Stays.{hand_held}
use Rattle.core_begun.specs.Told.{start_in, IsInUseSince, IsToldSince}
use Rattle.core_begun.proofs.Bases.{all_see, head_sees}
use Rattle.core_begun.proofs.Told.{told_calm, told_commit, told_draw, told_start}

drawn_at : (o : Option Draw) (ended : Bool) → (is_some o && not ended) ≡ true → (d : Draw) × (o ≡ Some d)
drawn_at None ended h = absurd (false≢true h)
drawn_at (Some d) ended h = (d, refl)

-- a vector in use that sees all of the start
pub in_use_since : (start : Start) (past : Past) (v : RevVec) → IsInUse past v → ((o : Revision) → sees start.at o ≡ true → sees v o ≡ true) → IsInUseSince start past v
in_use_since start past v used all = record {
  settled = used.settled;
  closed = λ o us e. used.closed o;
  begun = all;
}

-- the tree that a vector sees is that from the start of the history
pub tree_in : (clusters : ℕ) (begin : Begin) (past : Past) (v : RevVec) → tree_at (Some (start_in clusters begin)) past v ≡ tree_at begin past v
tree_in clusters None past v = refl
tree_in clusters (Some s) past v = refl

module _ (starts : Starts) (says : Says) (proper : StartsProper starts) (clusters : ℕ) (sessions : List ℕ) (nodes : AreNodes clusters sessions) (begin : Begin) where
  abbrev start : Start
  start = start_in clusters begin

  commit_told : (past : Past) (r : Revision) → IsToldSince start past → MayCommit past r → IsToldSince start (event.Commit r ∷ past)
  commit_told past r told may = let d = drawn_at (draw_of past r) _ may.open_.in_flight in told_commit start past r d.0 told may d.1

  draw_told : (past : Past) (d : Draw) → IsRunOf starts says clusters sessions begin (event.Draw d ∷ past) → IsToldSince start past → IsToldSince start (event.Draw d ∷ past)
  draw_told past d run told =
      let new = fresh_run clusters sessions nodes begin starts says d past run in
      let p = proper (record { clusters = clusters; sessions = sessions; begin = begin; past = past }) d.session d.edit d.marks d.base run.0.base run.0.lawful in
      told_draw start past d told new.fresh
      (in_use_since start past d.base new.base ((all_see clusters sessions nodes begin starts says past run.1).bases d.session d.base run.0.base))
      new.rises (subst (λ (t : Nodes). IsProper t d.edit.writes) (sym (tree_in clusters begin past d.base)) p.0) (covers_writes (tree_at begin past d.base) d.edit.writes d.marks p.1) new.hidden

  pub told_run : (past : Past) → IsRunOf starts says clusters sessions begin past → IsToldSince start past
  told_run [] run = told_start start
  told_run (event.Draw d ∷ past) run = draw_told past d run (told_run past run.1)
  told_run (event.Commit r ∷ past) run = commit_told past r (told_run past run.1) run.0
  told_run (e ∷ past) run = told_calm start past e refl (told_run past run.1)

-- ---- of histories

-- a vector in hand sees all that there was at the beginning
pub hand_sees : (starts : Starts) (says : Says) (h : History) (v : RevVec) → IsNodesRun starts says h → IsInHand h v → (o : Revision) → sees (begin_at h.clusters h.begin) o ≡ true → sees v o ≡ true
hand_sees starts says h v is (base s k) o seen = (all_see h.clusters h.sessions is.nodes h.begin starts says h.past is.run).bases s v k o seen
hand_sees starts says h v is (checkpoint id k) o seen = (all_see h.clusters h.sessions is.nodes h.begin starts says h.past is.run).kept id v k o seen
hand_sees starts says h v is (head k node e) o seen = subst (λ (w : RevVec). sees w o ≡ true) (sym e) (head_sees h.clusters h.sessions is.nodes h.begin starts says h.past is.run k node o seen)

pub told_history : (starts : Starts) (says : Says) → StartsProper starts → (h : History) → IsNodesRun starts says h → IsToldSince (start_in h.clusters h.begin) h.past
told_history starts says proper h is = told_run starts says proper h.clusters h.sessions is.nodes h.begin h.past is.run

pub used_history : (starts : Starts) (says : Says) (h : History) (v : RevVec) → IsNodesRun starts says h → IsInHand h v → IsInUseSince (start_in h.clusters h.begin) h.past v
used_history starts says h v is hand =
    in_use_since (start_in h.clusters h.begin) h.past v (held_in_use h.begin h.past v (hand_held starts says h v is hand)) (λ o seen. hand_sees starts says h v is hand o seen)
