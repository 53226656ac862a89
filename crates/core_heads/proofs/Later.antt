-- What an event leaves of what the heads keep.
use Rattle.std.proofs.Common.{◌≡◌, ℕ, ◌≤◌, true, ◌⊎◌, inl, inr, Some, List, [], length, is_some, refl, sym, ap, subst, arith}
use mathlib.Core.Bool.{false≢true}
use Rattle.jr_rev.specs.declared.revision.Revision.{Revision}
use Rattle.jr_rev.specs.declared.vector.RevVec.{RevVec}
use Rattle.jr_rev.specs.Revisions.{is_at_most}
use Rattle.jr_rev.specs.Vectors.{sees, start_of, stands_from}
use Rattle.oak_machine.specs.declared.event.Draw.{Draw}
use Rattle.oak_machine.specs.History.{Begin, IsBegun, Past, begin_of}
use Rattle.oak_machine.specs.Commits.{draw_of}
use Rattle.oak_machine.specs.Heads.{local, last_in, head_of, last_draw_time, published, outs_of}
use Rattle.core_read.proofs.Latest.{at_most_trans, before_at_most}
use Rattle.oak_machine.specs.Runs.{IsNode, AreNodes}
use Rattle.core_heads.specs.Sound.{SeenSet, Seen, IsAhead, IsGood, Public, IsSoundDraw, IsSoundIn, IsHeld, IsSound}
use Rattle.core_heads.proofs.Orders.{before_not, fold_has}
use Rattle.core_heads.proofs.Below.{with_stands}
use Rattle.core_heads.proofs.AtStart.{begin_cluster, begin_sees, begin_begun, begin_vector}
use Rattle.core_heads.proofs.Locals.{local_cluster, some_of, local_behind, local_first, head_seen, head_learned, head_own, AreTimed}

-- what an event has to leave: it makes nothing ahead, draws only what was ahead, and times, local revisions, what is public and heads grow
pub record IsLater (clusters : ℕ) (begin : Begin) (past later : Past) : Type 0 where
  pub ahead : (o : Revision) → IsAhead begin later o → IsAhead begin past o
  pub drawn : (o : Revision) (d : Draw) → draw_of later o ≡ Some d → (draw_of past o ≡ Some d) ⊎ IsAhead begin past o
  pub time : (k : ℕ) → last_draw_time past k ≤ last_draw_time later k
  pub locals : (k : ℕ) → is_at_most (local begin past k) (local begin later k) ≡ true
  pub public : (x : Revision) → Public clusters begin past x → Public clusters begin later x
  pub heads : (k : ℕ) → IsNode clusters k → (x : Revision) → sees (head_of clusters begin past k) x ≡ true → sees (head_of clusters begin later k) x ≡ true

module _ (clusters : ℕ) (begin : Begin) (past later : Past) (grown : IsLater clusters begin past later) where
  pub good_kept : (s : SeenSet) → IsGood begin past s → IsGood begin later s
  good_kept s good = record { behind = λ o a. good.behind o (grown.ahead o a); closed = λ o d e h. by o d h (grown.drawn o d e) }
    where
      by : (o : Revision) (d : Draw) → s o → (draw_of past o ≡ Some d) ⊎ IsAhead begin past o → (x : Revision) → sees d.base x ≡ true → s x
      by o d h (inl e) = good.closed o d e h
      by o d h (inr a) = absurd (good.behind o a h)

  pub held_kept : (v : RevVec) → IsHeld begin past v → IsHeld begin later v
  held_kept v h = record { good = good_kept (Seen v) h.good; stands = h.stands; begun = h.begun }

  told_kept : (k : ℕ) (x : Revision) → (x.cluster ≡ k) ⊎ Public clusters begin past x → (x.cluster ≡ k) ⊎ Public clusters begin later x
  told_kept k x (inl e) = inl e
  told_kept k x (inr p) = inr (grown.public x p)

  pub draw_kept : (o : Revision) (d : Draw) → IsSoundDraw clusters begin past o d → IsSoundDraw clusters begin later o d
  draw_kept o d s = record {
    node = s.node;
    late = let a = s.late in let b = grown.time o.cluster in omega arith;
    positive = s.positive;
    newer = s.newer;
    stands = s.stands;
    headed = λ x h. grown.heads o.cluster s.node x (s.headed x h);
    rises = s.rises;
    told = λ x h. told_kept o.cluster x (s.told x h);
  }

  pub in_kept : (k : ℕ) (v : RevVec) → IsSoundIn clusters begin past k v → IsSoundIn clusters begin later k v
  in_kept k v s = record {
    good = good_kept (Seen v) s.good;
    eight = s.eight;
    stands = s.stands;
    own = λ x h e. at_most_trans x (local begin past k) (local begin later k) (s.own x h e) (grown.locals k);
    told = λ x h. told_kept k x (s.told x h);
    begun = s.begun;
  }

  pub out_kept : (k : ℕ) (r : Revision) → (r.cluster ≡ k) × (is_at_most r (local begin past k) ≡ true) → (r.cluster ≡ k) × (is_at_most r (local begin later k) ≡ true)
  out_kept k r h = (h.0, at_most_trans r (local begin past k) (local begin later k) h.1 (grown.locals k))

-- ---- what a sound past has

module _ (clusters : ℕ) (sessions : List ℕ) (nodes : AreNodes clusters sessions) (begin : Begin) (past : Past) (sound : IsSound clusters sessions begin past) where
  pub timed : AreTimed begin past
  timed o h = let d = some_of (draw_of past o) h in let s = sound.draws o d.0 d.1 in (s.late, s.newer)

  -- a head is good, and sees the start
  pub head_good : (k : ℕ) → IsNode clusters k → IsGood begin past (Seen (head_of clusters begin past k))
  head_good k node = record { behind = λ o a h. back o a (head_seen clusters begin past k o node.0 h); closed = λ o d e h. close o d e (head_seen clusters begin past k o node.0 h) }
    where
      back : (o : Revision) → IsAhead begin past o → (sees (last_in clusters begin past k) o ≡ true) ⊎ ((o.cluster ≡ k) × (is_at_most o (local begin past k) ≡ true)) → ⊥
      back o a (inl h) = (sound.ins k node).good.behind o a h
      back o a (inr h) = local_behind begin past k o timed h.0 a h.1

      close : (o : Revision) (d : Draw) → draw_of past o ≡ Some d → (sees (last_in clusters begin past k) o ≡ true) ⊎ ((o.cluster ≡ k) × (is_at_most o (local begin past k) ≡ true)) → (x : Revision) → sees d.base x ≡ true → sees (head_of clusters begin past k) x ≡ true
      close o d e (inl h) x b = head_learned clusters begin past k x node.0 ((sound.ins k node).good.closed o d e h x b) (λ same. (sound.ins k node).own x ((sound.ins k node).good.closed o d e h x b) same)
      close o d e (inr h) x b = subst (λ (j : ℕ). sees (head_of clusters begin past j) x ≡ true) h.0 ((sound.draws o d e).headed x b)

  pub head_begun : (k : ℕ) → IsNode clusters k → sees (head_of clusters begin past k) (start_of 1) ≡ true
  head_begun k node = head_learned clusters begin past k (start_of 1) node.0 (sound.ins k node).begun (λ same. (sound.ins k node).own (start_of 1) (sound.ins k node).begun same)

  pub head_stands : (k : ℕ) → IsNode clusters k → stands_from 1 (head_of clusters begin past k) ≡ true
  head_stands k node = with_stands (last_in clusters begin past k) (local begin past k) (subst (λ (j : ℕ). 1 ≤ j) (sym (local_cluster begin past k)) node.0) (sound.ins k node).stands

  pub head_held : (k : ℕ) → IsNode clusters k → IsHeld begin past (head_of clusters begin past k)
  head_held k node = record { good = head_good k node; stands = head_stands k node; begun = head_begun k node }

  -- a head sees of others only what they have published
  pub head_told : (k : ℕ) → IsNode clusters k → (x : Revision) → sees (head_of clusters begin past k) x ≡ true → (x.cluster ≡ k) ⊎ Public clusters begin past x
  head_told k node x h = by (head_seen clusters begin past k x node.0 h)
    where
      by : (sees (last_in clusters begin past k) x ≡ true) ⊎ ((x.cluster ≡ k) × (is_at_most x (local begin past k) ≡ true)) → (x.cluster ≡ k) ⊎ Public clusters begin past x
      by (inl s) = (sound.ins k node).told x s
      by (inr p) = inl p.0

  -- heads grow where what was learned and the local revision do
  pub head_grows : (later : Past) (k : ℕ) → IsNode clusters k → is_at_most (local begin past k) (local begin later k) ≡ true → length (last_in clusters begin later k) ≡ 8
      → ((x : Revision) → sees (last_in clusters begin past k) x ≡ true → sees (last_in clusters begin later k) x ≡ true)
      → ((x : Revision) → sees (last_in clusters begin later k) x ≡ true → x.cluster ≡ k → is_at_most x (local begin later k) ≡ true)
      → (x : Revision) → sees (head_of clusters begin past k) x ≡ true → sees (head_of clusters begin later k) x ≡ true
  head_grows later k node locals eight more own x h = by (head_seen clusters begin past k x node.0 h)
    where
      by : (sees (last_in clusters begin past k) x ≡ true) ⊎ ((x.cluster ≡ k) × (is_at_most x (local begin past k) ≡ true)) → sees (head_of clusters begin later k) x ≡ true
      by (inl s) = head_learned clusters begin later k x node.0 (more x s) (own x (more x s))
      by (inr p) = let n = nodes.eight in let m = node.1 in head_own clusters begin later k x node.0 (omega arith) eight p.0 (at_most_trans x (local begin past k) (local begin later k) p.1 locals)

  pub published_is : (k : ℕ) → ((published begin past k).cluster ≡ k) × (is_at_most (published begin past k) (local begin past k) ≡ true)
  published_is k = fold_has (λ x. (x.cluster ≡ k) × (is_at_most x (local begin past k) ≡ true)) (begin_of begin k) (outs_of past k) (begin_cluster begin k, local_first begin past k) (sound.outs k)

  -- what is public is good
  pub public_good : IsGood begin past (Public clusters begin past)
  public_good = record {
    behind = λ o a h. local_behind begin past o.cluster o timed refl a (at_most_trans o (published begin past o.cluster) (local begin past o.cluster) h.1 (published_is o.cluster).1);
    closed = λ o d e h x b. close o d (sound.draws o d e) h x b ((sound.draws o d e).told x b);
  }
    where
      close : (o : Revision) (d : Draw) → IsSoundDraw clusters begin past o d → Public clusters begin past o → (x : Revision) → sees d.base x ≡ true → (x.cluster ≡ o.cluster) ⊎ Public clusters begin past x → Public clusters begin past x
      close o d s h x b (inl e) = subst (λ (j : ℕ). IsNode clusters j × (is_at_most x (published begin past j) ≡ true)) (sym e) (s.node, at_most_trans x o (published begin past o.cluster) (before_at_most x o (s.rises x b)) h.1)
      close o d s h x b (inr p) = p

-- ---- the beginning

pub sound_start : (clusters : ℕ) (sessions : List ℕ) → AreNodes clusters sessions → (begin : Begin) → IsBegun clusters begin → IsSound clusters sessions begin []
sound_start clusters sessions nodes begin begun = record {
  draws = λ o d e. absurd (false≢true (ap is_some e));
  outs = λ k r h. absurd h;
  ins = λ k node. record {
    good = record { behind = λ o a h. absurd (back o a (begin_sees clusters begin begun o h).1); closed = λ o d e. absurd (false≢true (ap is_some e)) };
    eight = (begin_vector clusters begin begun).eight;
    stands = (begin_vector clusters begin begun).stands;
    own = λ x h same. subst (λ (j : ℕ). is_at_most x (begin_of begin j) ≡ true) same (begin_sees clusters begin begun x h).1;
    told = λ x h. let p = begin_sees clusters begin begun x h in inr (p.0, p.1);
    begun = begin_begun clusters begin begun nodes.some;
  };
  bases = λ s v e. absurd (false≢true (ap is_some e));
  kept = λ id v e. absurd (false≢true (ap is_some e));
  headed = λ s k v e a b. absurd (false≢true (ap is_some b));
}
  where
    back : (o : Revision) → IsAhead begin [] o → is_at_most o (begin_of begin o.cluster) ≡ true → ⊥
    back o (inl f) h = false≢true f
    back o (inr late) h = before_not (begin_of begin o.cluster) o late.1 h
