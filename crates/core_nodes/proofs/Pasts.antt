-- Draws and ends of a run, and the local revisions that they leave.
use Rattle.std.proofs.Common.{◌≡◌, ℕ, ◌≤◌, Bool, true, false, cond, not, ◌&&◌, ◌||◌, ◌⊎◌, inl, inr, Some, List, [], ◌∷◌, reverse, is_some, refl, sym, ap, subst, ◌∙◌, arith}
use Rattle.std.specs.Prelude.{◌==◌}
use mathlib.Core.Bool.{false≢true}
use Rattle.jr_rev.specs.declared.revision.Revision.{Revision}
use Rattle.jr_rev.specs.Revisions.{is_at_most, is_before, is_same}
use Rattle.oak_machine.specs.declared.event.Draw.{Draw}
use Rattle.oak_machine.specs.declared.event.Event.TheVariants as event
use Rattle.oak_machine.specs.History.{Begin, Past, begin_of}
use Rattle.oak_machine.specs.Commits.{draw_of, is_drawn, is_ended, is_in_flight}
use Rattle.oak_machine.specs.Heads.{draws_by, last_draw_time, local}
use Rattle.oak_machine.specs.Laws.{Says, Starts}
use Rattle.oak_machine.specs.Runs.{AreNodes, IsRunOf}
use Rattle.oak_machine.specs.Sessions.{is_recovered, is_stopped}
use Rattle.core_read.proofs.Latest.{at_most_both, at_most_trans, before_itself, not_before, same_revision}
use Rattle.core_heads.specs.Sound.{IsIn, IsSound}
use Rattle.core_heads.proofs.Later.{IsLater, timed}
use Rattle.core_heads.proofs.Locals.{IsSettledDraw, draws_in, in_draws, local_grows, local_is}
use Rattle.core_heads.proofs.Orders.{and_both, and_true, before_not, filter_in, in_filter, not_both, same_number}
use Rattle.core_nodes.specs.Nodes.{revisions_above}
use Rattle.core_nodes.proofs.Lists.{in_reverse, reverse_in}

-- ---- tests

pub not_true : (b : Bool) → not b ≡ true → b ≡ false
not_true true h = absurd (false≢true h)
not_true false h = refl

pub not_false : (b : Bool) → b ≡ false → not b ≡ true
not_false true h = absurd (false≢true (sym h))
not_false false h = refl

pub number_itself : (r : Revision) → is_same r r ≡ true
number_itself r = ap Rattle.std.specs.Ordering.is_eq (Rattle.std.specs.Cmp.tied_itself Rattle.jr_rev.proofs.Order.revision_total r)

-- what is above another is above what is at most that
pub at_most_before : (a b c : Revision) → is_at_most a b ≡ true → is_before b c ≡ true → is_before a c ≡ true
at_most_before a b c h k = by (is_before a c) refl
  where
    by : (t : Bool) → is_before a c ≡ t → t ≡ true
    by true e = refl
    by false e = before_not b c k (at_most_trans c a b (not_before a c e) h)

-- a draw more leaves what was drawn
pub still_drawn : (b : Bool) (d : Draw) (past : Past) (r : Revision) → is_drawn past r ≡ true → is_some (cond b (Some d) (draw_of past r)) ≡ true
still_drawn true d past r h = refl
still_drawn false d past r h = h

module _ (begin : Begin) where
  -- ---- ends

  -- what has ended was drawn
  pub ended_was_drawn : (starts : Starts) (says : Says) (clusters : ℕ) (sessions : List ℕ) (past : Past) → IsRunOf starts says clusters sessions begin past → (r : Revision) → is_ended past r ≡ true → is_drawn past r ≡ true
  ended_was_drawn starts says clusters sessions [] run r h = absurd (false≢true h)
  ended_was_drawn starts says clusters sessions (event.Draw d ∷ past) run r h = still_drawn (is_same r d.revision) d past r (ended_was_drawn starts says clusters sessions past run.1 r h)
  ended_was_drawn starts says clusters sessions (event.End q ∷ past) run r h = by (ended_was_drawn starts says clusters sessions past run.1 r) (is_same r q) refl h
    where
      by : (is_ended past r ≡ true → is_drawn past r ≡ true) → (b : Bool) → is_same r q ≡ b → (b || is_ended past r) ≡ true → is_drawn past r ≡ true
      by rest true e h = subst (λ (x : Revision). is_drawn past x ≡ true) (sym (same_revision r q e)) (and_both (is_drawn past q) _ run.0).0
      by rest false e h = rest h
  ended_was_drawn starts says clusters sessions (e ∷ past) run r h = ended_was_drawn starts says clusters sessions past run.1 r h

  -- ---- stops

  -- who was recovered was stopped
  pub recovered_stopped : (starts : Starts) (says : Says) (clusters : ℕ) (sessions : List ℕ) (past : Past) → IsRunOf starts says clusters sessions begin past → (k : ℕ) → is_recovered past k ≡ true → is_stopped past k ≡ true
  recovered_stopped starts says clusters sessions [] run k h = absurd (false≢true h)
  recovered_stopped starts says clusters sessions (event.Recover m ∷ past) run k h = by (recovered_stopped starts says clusters sessions past run.1 k) (m == k) refl h
    where
      by : (is_recovered past k ≡ true → is_stopped past k ≡ true) → (b : Bool) → (m == k) ≡ b → (b || is_recovered past k) ≡ true → is_stopped past k ≡ true
      by rest true e i = subst (λ (j : ℕ). is_stopped past j ≡ true) (same_number m k e) run.0.0
      by rest false e i = rest i
  recovered_stopped starts says clusters sessions (event.Stop m ∷ past) run k h = by (m == k) (recovered_stopped starts says clusters sessions past run.1 k h)
    where
      by : (b : Bool) → is_stopped past k ≡ true → (b || is_stopped past k) ≡ true
      by true i = refl
      by false i = i
  recovered_stopped starts says clusters sessions (e ∷ past) run k h = recovered_stopped starts says clusters sessions past run.1 k h

  -- a node that wasn't stopped wasn't recovered
  pub running_alive : (starts : Starts) (says : Says) (clusters : ℕ) (sessions : List ℕ) (past : Past) → IsRunOf starts says clusters sessions begin past → (k : ℕ) → is_stopped past k ≡ false → is_recovered past k ≡ false
  running_alive starts says clusters sessions past run k goes = by (is_recovered past k) refl
    where
      by : (b : Bool) → is_recovered past k ≡ b → b ≡ false
      by true h = not_both (is_stopped past k) (recovered_stopped starts says clusters sessions past run k h) goes
      by false h = refl

  -- ---- local revisions

  -- where the same is settled, the local revision is the same
  pub local_same : (past later : Past) (k : ℕ) → is_at_most (local begin past k) (local begin later k) ≡ true → ((r : Revision) → IsSettledDraw later k r → IsSettledDraw past k r) → local begin later k ≡ local begin past k
  local_same past later k grown back = at_most_both (local begin later k) (local begin past k) (local_grows begin later past k back) grown

  -- it is before each revision of its node in flight
  pub local_before : (clusters : ℕ) (sessions : List ℕ) (nodes : AreNodes clusters sessions) (past : Past) → IsSound clusters sessions begin past → (k : ℕ) (o : Revision) → is_in_flight past o ≡ true → o.cluster ≡ k → is_before (local begin past k) o ≡ true
  local_before clusters sessions nodes past sound k o flies same = by (local_is begin past k)
    where
      by : (local begin past k ≡ begin_of begin k) ⊎ IsSettledDraw past k (local begin past k) → is_before (local begin past k) o ≡ true
      by (inl e) =
          let later = (timed clusters sessions nodes begin past sound o (and_both (is_drawn past o) _ flies).0).1 in
          subst (λ (x : Revision). is_before x o ≡ true) (sym e) (subst (λ (j : ℕ). is_before (begin_of begin j) o ≡ true) same later)
      by (inr s) = s.below o flies same

  -- and no later than what its node begins from and its last draw
  pub local_time : (clusters : ℕ) (sessions : List ℕ) (nodes : AreNodes clusters sessions) (past : Past) → IsSound clusters sessions begin past → (k n : ℕ) → (begin_of begin k).time ≤ n → last_draw_time past k ≤ n → (local begin past k).time ≤ n
  local_time clusters sessions nodes past sound k n first last = by (local_is begin past k)
    where
      by : (local begin past k ≡ begin_of begin k) ⊎ IsSettledDraw past k (local begin past k) → (local begin past k).time ≤ n
      by (inl e) = let z = ap (λ (x : Revision). x.time) e in omega arith
      by (inr s) = let t = subst (λ (j : ℕ). (local begin past k).time ≤ last_draw_time past j) s.cluster (timed clusters sessions nodes begin past sound (local begin past k) s.drawn).0 in omega arith

  -- a draw moves no local revision
  pub drawn_local : (clusters : ℕ) (past : Past) (d : Draw) → IsLater clusters begin past (event.Draw d ∷ past) → is_ended past d.revision ≡ false → (k : ℕ) → local begin (event.Draw d ∷ past) k ≡ local begin past k
  drawn_local clusters past d grown unended k = local_same past (event.Draw d ∷ past) k (grown.locals k) back
    where
      flies : is_in_flight (event.Draw d ∷ past) d.revision ≡ true
      flies = and_true (is_drawn (event.Draw d ∷ past) d.revision) _ (ap (λ b. is_some (cond b (Some d) (draw_of past d.revision))) (number_itself d.revision)) (not_false (is_ended past d.revision) unended)

      still : (o : Revision) → is_in_flight past o ≡ true → is_in_flight (event.Draw d ∷ past) o ≡ true
      still o f = let p = and_both (is_drawn past o) _ f in and_true (is_drawn (event.Draw d ∷ past) o) _ (still_drawn (is_same o d.revision) d past o p.0) p.1

      back : (q : Revision) → IsSettledDraw (event.Draw d ∷ past) k q → IsSettledDraw past k q
      back q s = record { drawn = by (is_same q d.revision) refl s.drawn; cluster = s.cluster; below = λ o f same. s.below o (still o f) same }
        where
          by : (b : Bool) → is_same q d.revision ≡ b → is_some (cond b (Some d) (draw_of past q)) ≡ true → is_drawn past q ≡ true
          by true e h =
              let it = same_revision q d.revision e in
              not_both (is_before q q) (subst (λ (x : Revision). is_before q x ≡ true) (sym it) (s.below d.revision flies (ap (λ (x : Revision). x.cluster) (sym it) ∙ s.cluster))) (before_itself q)
          by false e h = h

  -- an end moves no local revision of another node
  pub ended_local : (clusters : ℕ) (past : Past) (r : Revision) → IsLater clusters begin past (event.End r ∷ past) → (k : ℕ) → (r.cluster ≡ k → ⊥) → local begin (event.End r ∷ past) k ≡ local begin past k
  ended_local clusters past r grown k other = local_same past (event.End r ∷ past) k (grown.locals k) back
    where
      still : (o : Revision) → o.cluster ≡ k → (b : Bool) → is_same o r ≡ b → is_in_flight past o ≡ true → (is_drawn past o && not (b || is_ended past o)) ≡ true
      still o same true e f = absurd (other (ap (λ (x : Revision). x.cluster) (sym (same_revision o r e)) ∙ same))
      still o same false e f = f

      back : (q : Revision) → IsSettledDraw (event.End r ∷ past) k q → IsSettledDraw past k q
      back q s = record { drawn = s.drawn; cluster = s.cluster; below = λ o f same. s.below o (still o same (is_same o r) refl f) same }

  -- ---- what a node drew above its local revision

  pub above_in : (past : Past) (k : ℕ) (q : Revision) → IsIn q (revisions_above begin past k) → (is_drawn past q ≡ true) × (q.cluster ≡ k) × (is_before (local begin past k) q ≡ true)
  above_in past k q i =
      let p = filter_in (is_before (local begin past k)) (reverse (draws_by past k)) q i in
      let d = draws_in past k q (reverse_in (draws_by past k) q p.0) in
      (d.0, d.1, p.1)

  pub in_above : (past : Past) (k : ℕ) (q : Revision) → is_drawn past q ≡ true → q.cluster ≡ k → is_before (local begin past k) q ≡ true → IsIn q (revisions_above begin past k)
  in_above past k q drawn same above = in_filter (is_before (local begin past k)) (reverse (draws_by past k)) q (in_reverse (draws_by past k) q (in_draws past k q drawn same)) above
