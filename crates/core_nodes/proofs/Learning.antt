-- What a cluster node learns from the root, as this was at some moment.
use Rattle.std.proofs.Common.{◌≡◌, ℕ, ◌≤◌, true, false, cond, ◌-◌, ◌⊎◌, inl, inr, Option, Some, List, ◌∷◌, sym, ap, subst, ◌∙◌, arith}
use Rattle.std.specs.Prelude.{◌==◌, drop}
use Rattle.std.specs.Option.{option_map_or}
use Rattle.jr_rev.specs.declared.revision.Revision.{Revision}
use Rattle.jr_rev.specs.declared.vector.RevVec.{RevVec}
use Rattle.jr_rev.specs.Revisions.{is_at_most}
use Rattle.jr_rev.specs.Vectors.{IsVector, entry, greatest, sees, start_of, with_entry}
use Rattle.jr_rev.proofs.Entries.{greatest_vector, set_vector}
use Rattle.oak_machine.specs.declared.event.Event.TheVariants as event
use Rattle.oak_machine.specs.History.{Begin, Past}
use Rattle.oak_machine.specs.Heads.{head_of, last_in, local}
use Rattle.oak_machine.specs.Laws.{Says, Starts}
use Rattle.oak_machine.specs.Runs.{AreNodes, IsNode, IsRunOf}
use Rattle.oak_machine.specs.Sessions.{is_stopped}
use Rattle.oak_node.specs.Heads.{learned}
use Rattle.oak_node.specs.Memory.{NodeState, own_entry}
use Rattle.oak_node.proofs.Kept.{learn_memory}
use Rattle.oak_node.proofs.Owns.{with_entry_same}
use Rattle.oak_node.proofs.Rules.{learned_own}
use Rattle.core_heads.specs.Sound.{IsSound, Public}
use Rattle.core_heads.proofs.Entries.{set_length, still_seen, seen_before}
use Rattle.core_heads.proofs.Later.{head_stands}
use Rattle.core_heads.proofs.Locals.{head_own, local_cluster}
use Rattle.core_heads.proofs.Orders.{not_both, same_itself}
use Rattle.core_heads.proofs.Runs.{IsOfMoment, moments_run, sound_run}
use Rattle.core_heads.proofs.Steps.{learned_from, learned_more, learned_public, learned_sound}
use Rattle.core_nodes.specs.Nodes.{IsMemoryOf, IsOnRoot, IsPair}
use Rattle.core_nodes.proofs.Memories.{head_entry, own_is}
use Rattle.core_nodes.proofs.Vectors.{either_seen, left_seen, right_seen, same_vector}

module _ (begin : Begin) where
  module _ (clusters : ℕ) (sessions : List ℕ) (nodes : AreNodes clusters sessions) (past : Past) (sound : IsSound clusters sessions begin past) (moment : Past) (of : IsOfMoment clusters begin past moment) (k : ℕ) (node : IsNode clusters k) (s : NodeState) (is : IsMemoryOf begin clusters past k s) (last sweep : RevVec) (root : IsOnRoot begin clusters moment last sweep) where
    abbrev told : RevVec
    told = Rattle.oak_machine.specs.Runs.learned clusters begin past moment k

    abbrev head : RevVec
    head = (learned s last sweep).head

    own : own_entry s ≡ local begin past k
    own = own_is begin clusters sessions nodes past sound k node s is

    own_cluster : (own_entry s).cluster ≡ k
    own_cluster = is.memory.own_node ∙ is.cluster

    low : 1 ≤ (own_entry s).cluster
    low = subst (λ (j : ℕ). 1 ≤ j) (sym own_cluster) node.0

    -- of its own the head sees what is at most the own entry
    own_low : (x : Revision) → sees s.head x ≡ true → x.cluster ≡ (own_entry s).cluster → is_at_most x (own_entry s) ≡ true
    own_low x h same =
        sym (ap (λ (o : Option Revision). option_map_or (is_at_most x) o false) is.memory.own)
        ∙ (ap (λ (j : ℕ). option_map_or (is_at_most x) (entry s.head j) false) (sym (same ∙ is.memory.own_node)) ∙ h)

    more : (x : Revision) → sees s.head x ≡ true → sees told x ≡ true
    more x h = learned_more clusters sessions nodes begin past sound moment of.of of.good of.public k node x (subst (λ (v : RevVec). sees v x ≡ true) is.head h)

    there : (x : Revision) → sees head x ≡ true → sees told x ≡ true
    there x h = by (seen_before (greatest s.head last) (own_entry s) x low h)
      where
        each : (sees s.head x ≡ true) ⊎ (sees last x ≡ true) → sees told x ≡ true
        each (inl a) = more x a
        each (inr a) = learned_public clusters sessions nodes begin past sound moment of.of of.good of.public k node x ((root.public x).0 a)

        by : (sees (greatest s.head last) x ≡ true) ⊎ ((x.cluster ≡ (own_entry s).cluster) × (is_at_most x (own_entry s) ≡ true)) → sees told x ≡ true
        by (inl a) = each (either_seen s.head last x a)
        by (inr p) =
            let n = nodes.eight in let u = node.1 in
            learned_more clusters sessions nodes begin past sound moment of.of of.good of.public k node x
            (head_own clusters begin past k x node.0 (omega arith) (sound.ins k node).eight (p.0 ∙ own_cluster) (subst (λ (e : Revision). is_at_most x e ≡ true) own p.1))

    kept : (x : Revision) → sees s.head x ≡ true → sees head x ≡ true
    kept x h = still_seen (greatest s.head last) (own_entry s) x low (left_seen s.head last x h) (own_low x h)

    back : (x : Revision) → sees told x ≡ true → sees head x ≡ true
    back x h = by (learned_from clusters sessions nodes begin past sound moment of.of of.good of.public k node x h)
      where
        by : (sees (head_of clusters begin past k) x ≡ true) ⊎ (Public clusters begin moment x × ((x.cluster == k) ≡ false)) → sees head x ≡ true
        by (inl a) = kept x (subst (λ (v : RevVec). sees v x ≡ true) (sym is.head) a)
        by (inr p) = still_seen (greatest s.head last) (own_entry s) x low (right_seen s.head last x ((root.public x).1 p.0))
            (λ same. not_both (x.cluster == k) (ap (λ j. j == k) (same ∙ own_cluster) ∙ same_itself k) p.1)

    head_vector : IsVector s.head
    head_vector = subst IsVector (sym is.head) (record {
      eight = set_length (last_in clusters begin past k) ((local begin past k).cluster - 1) (Some (local begin past k)) ∙ (sound.ins k node).eight;
      stands = head_stands clusters sessions nodes begin past sound k node;
    })

    -- the head that it has then is the one that it may tell
    pub head_is : head ≡ told
    head_is = same_vector head told
        (set_vector (greatest s.head last) (own_entry s) (greatest_vector s.head last head_vector root.vector) low)
        (let v = learned_sound clusters sessions nodes begin past sound moment of.of of.good of.public k node in record { eight = v.eight; stands = v.stands })
        there back

    -- an own entry of the sweep vector of the root is at most the node's own
    sweep_seen : (x : Revision) → sees sweep x ≡ true → sees head x ≡ true
    sweep_seen x h = back x (learned_public clusters sessions nodes begin past sound moment of.of of.good of.public k node x ((root.public x).0 (root.pair.below x h)))

    pair : IsPair head (greatest s.sweep sweep)
    pair = record {
      vector = greatest_vector s.sweep sweep is.sweep.vector root.pair.vector;
      begun = left_seen s.sweep sweep (start_of 1) is.sweep.begun;
      below = λ x h. by x (either_seen s.sweep sweep x h);
    }
      where
        by : (x : Revision) → (sees s.sweep x ≡ true) ⊎ (sees sweep x ≡ true) → sees head x ≡ true
        by x (inl a) = kept x (is.sweep.below x a)
        by x (inr a) = sweep_seen x a

    own_there : entry head k ≡ Some (local begin past k)
    own_there = ap (entry head) (sym is.cluster) ∙ (learned_own s last sweep is.memory ∙ (ap (λ (v : RevVec). entry v s.cluster) is.head ∙ (ap (entry (head_of clusters begin past k)) is.cluster ∙ head_entry begin clusters sessions nodes past sound k node)))

    pub learn_kept : IsMemoryOf begin clusters (event.In k head ∷ past) k (learned s last sweep)
    learn_kept = record {
      cluster = is.cluster;
      head = sym (with_entry_same head k (local begin past k) own_there (local_cluster begin past k)) ∙ sym (ap (λ b. with_entry (cond b head (last_in clusters begin past k)) (local begin past k)) (same_itself k));
      sweep = pair;
      last = is.last;
      above = is.above;
      stopped = is.stopped;
      recovered = is.recovered;
      memory = learn_memory s (learned s last sweep).head (learned s last sweep).sweep is.memory (learned_own s last sweep is.memory);
    }

  -- in a run, from the root as it was at any moment
  pub learn_run : (starts : Starts) (says : Says) (clusters : ℕ) (sessions : List ℕ) (nodes : AreNodes clusters sessions) (past : Past) → IsRunOf starts says clusters sessions begin past → (k n : ℕ) → IsNode clusters k → is_stopped past k ≡ false → (s : NodeState) → IsMemoryOf begin clusters past k s → (last sweep : RevVec) → IsOnRoot begin clusters (drop n past) last sweep
      → IsRunOf starts says clusters sessions begin (event.In k (learned s last sweep).head ∷ past) × IsMemoryOf begin clusters (event.In k (learned s last sweep).head ∷ past) k (learned s last sweep)
  learn_run starts says clusters sessions nodes past run k n node goes s is last sweep root =
      let sound = sound_run clusters sessions nodes begin starts says past run in
      let of = moments_run clusters sessions nodes begin starts says past run n in (
        ((goes, (n, head_is clusters sessions nodes past sound (drop n past) of k node s is last sweep root)), run),
        learn_kept clusters sessions nodes past sound (drop n past) of k node s is last sweep root,
      )
