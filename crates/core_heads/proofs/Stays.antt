-- What is held in a run stays held, and the tree that it sees stays as it is, while events are added.
use Rattle.std.proofs.Common.{◌≡◌, ℕ, Bool, true, false, cond, Some, List, [], ◌∷◌, ◌++◌, is_some, refl, sym, subst}
use Rattle.jr_rev.specs.declared.revision.Revision.{Revision}
use Rattle.jr_rev.specs.declared.vector.RevVec.{RevVec}
use Rattle.jr_rev.specs.Revisions.{is_same}
use Rattle.jr_rev.specs.Vectors.{sees}
use Rattle.jr_rev.proofs.Order.{same_revision}
use Rattle.oak_machine.specs.declared.event.Draw.{Draw}
use Rattle.oak_machine.specs.declared.event.Event.TheVariants as event
use Rattle.oak_machine.specs.History.{Begin, History, Past}
use Rattle.oak_machine.specs.Commits.{draw_of, is_ended, tree_at, IsSettled, IsClosed}
use Rattle.oak_machine.specs.Laws.{Starts, Says, after}
use Rattle.oak_machine.specs.Runs.{IsRunOf, AreNodes}
use Rattle.oak_machine.specs.Sessions.{base_of}
use Rattle.oak_machine.proofs.Stays.{HadEnded, tree_stays}
use Rattle.core_heads.specs.Sound.{IsHeld, IsInHand, IsNodesRun}
use Rattle.core_heads.specs.Sound.IsInHand.{base, checkpoint, head}
use Rattle.core_heads.proofs.Orders.{not_both}
use Rattle.core_heads.proofs.Later.{held_kept}
use Rattle.core_heads.proofs.Steps.{new_ahead}
use Rattle.core_heads.proofs.Runs.{closed_run, earlier_run, head_run, held_settled, later_run, sound_run}

module _ (clusters : ℕ) (sessions : List ℕ) (nodes : AreNodes clusters sessions) (begin : Begin) (starts : Starts) (says : Says) where
  -- what is held stays held
  pub held_stays : (added past : Past) → IsRunOf starts says clusters sessions begin (added ++ past) → (v : RevVec) → IsHeld begin past v → IsHeld begin (added ++ past) v
  held_stays [] past run v h = h
  held_stays (e ∷ added) past run v h =
      held_kept clusters begin (added ++ past) (e ∷ added ++ past) (later_run clusters sessions nodes begin starts says e (added ++ past) run) v (held_stays added past run.1 v h)

  -- what is held doesn't see what is drawn after it
  pub draw_unseen : (d : Draw) (past : Past) → IsRunOf starts says clusters sessions begin (event.Draw d ∷ past) → (v : RevVec) → IsHeld begin past v → sees v d.revision ≡ false
  draw_unseen d past run v h = by (sees v d.revision) refl
    where
      by : (b : Bool) → sees v d.revision ≡ b → b ≡ false
      by true seen = absurd (h.good.behind d.revision (new_ahead clusters sessions nodes begin past (sound_run clusters sessions nodes begin starts says past run.1) d (nodes.node d.session d.revision.cluster run.0.cluster) run.0.next) seen)
      by false seen = refl

  -- what is held sees of the draws by now only what had ended
  pub had_ended : (added past : Past) → IsRunOf starts says clusters sessions begin (added ++ past) → (v : RevVec) → IsHeld begin past v → HadEnded starts says clusters sessions begin v past (added ++ past)
  had_ended [] past run v h = λ r drawn seen. held_settled begin past v h r drawn seen
  had_ended (event.Draw d ∷ added) past run v h = λ r drawn seen.
      elim (is_same r d.revision) as (λ b. is_same r d.revision ≡ b → is_some (cond b (Some d) (draw_of (added ++ past) r)) ≡ true → is_ended past r ≡ true) [
        | true ↦ λ same drawn. not_both (sees v d.revision) (subst (λ (q : Revision). sees v q ≡ true) (same_revision r d.revision same) seen) (draw_unseen d (added ++ past) run v (held_stays added past run.1 v h))
        | false ↦ λ other drawn. had_ended added past run.1 v h r drawn seen
      ] refl drawn
  had_ended (e ∷ added) past run v h = had_ended added past run.1 v h

  -- the tree that it sees stays as it is
  pub held_tree_stays : (added past : Past) → IsRunOf starts says clusters sessions begin (added ++ past) → (v : RevVec) → IsHeld begin past v → tree_at begin (added ++ past) v ≡ tree_at begin past v
  held_tree_stays added past run v h = tree_stays starts says clusters sessions begin v past added run (had_ended added past run v h)

  -- so does the tree at a base
  pub tree_at_base_stays : (s : ℕ) (added past : Past) → IsRunOf starts says clusters sessions begin (added ++ past) → (v : RevVec) → base_of past s ≡ Some v → tree_at begin (added ++ past) v ≡ tree_at begin past v
  tree_at_base_stays s added past run v is = held_tree_stays added past run v ((sound_run clusters sessions nodes begin starts says past (earlier_run clusters sessions nodes begin starts says added past run)).bases s v is)

module _ (starts : Starts) (says : Says) (h : History) (v : RevVec) where
  -- what is in hand is held
  pub hand_held : IsNodesRun starts says h → IsInHand h v → IsHeld h.begin h.past v
  hand_held is (base s e) = (sound_run h.clusters h.sessions is.nodes h.begin starts says h.past is.run).bases s v e
  hand_held is (checkpoint id e) = (sound_run h.clusters h.sessions is.nodes h.begin starts says h.past is.run).kept id v e
  hand_held is (head k node e) = subst (λ (u : RevVec). IsHeld h.begin h.past u) (sym e) (head_run h.clusters h.sessions is.nodes h.begin starts says h.past is.run k node)

  -- it is settled and closed
  pub hand_settled : IsNodesRun starts says h → IsInHand h v → IsSettled h.past v × IsClosed h.past v
  hand_settled is hand =
      let held = hand_held is hand in
      (held_settled h.begin h.past v held, closed_run h.clusters h.sessions is.nodes h.begin starts says h.past is.run v held)

  -- it doesn't see what is drawn after it
  pub hand_unseen : (d : Draw) → IsNodesRun starts says (after (event.Draw d ∷ []) h) → IsInHand h v → sees v d.revision ≡ false
  hand_unseen d is hand = draw_unseen h.clusters h.sessions is.nodes h.begin starts says d h.past is.run v (hand_held (record { nodes = is.nodes; run = is.run.1 }) hand)

  -- the tree that it sees stays as it is
  pub hand_tree_stays : (added : Past) → IsNodesRun starts says (after added h) → IsInHand h v → tree_at h.begin (added ++ h.past) v ≡ tree_at h.begin h.past v
  hand_tree_stays added is hand =
      let before : IsNodesRun starts says h = record { nodes = is.nodes; run = earlier_run h.clusters h.sessions is.nodes h.begin starts says added h.past is.run } in
      held_tree_stays h.clusters h.sessions is.nodes h.begin starts says added h.past is.run v (hand_held before hand)
