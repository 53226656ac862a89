-- A bound that is at most what is held sees nothing in flight, and no more than the bases of what is.
use Rattle.core_nodes.proofs.Recovering.{flier_alive}
use Rattle.oak_read.specs.Meaning.{documents_in}
use Rattle.std.proofs.Common.{◌≡◌, ◌⊎◌, inl, inr, ℕ, Bool, true, false, cond, not, ◌&&◌, ◌||◌, Some, None, Option, List, [], ◌∷◌, refl, sym, ap, ◌∙◌, subst, is_some}
use Rattle.std.specs.Prelude.{◌==◌}
use Rattle.std.specs.BTreeMap.{is_at}
use Rattle.std.specs.Ordering.{nat_cmp}
use Rattle.std.specs.Option.{option_map_or, unwrap_or}
use mathlib.Core.Bool.{false≢true}
use Rattle.jr_rev.specs.declared.revision.Revision.{Revision}
use Rattle.jr_rev.specs.declared.vector.Pin.{Pin}
use Rattle.jr_rev.specs.declared.vector.RevVec.{RevVec}
use Rattle.jr_rev.specs.Revisions.{is_same}
use Rattle.jr_rev.specs.Vectors.{is_below, sees}
use Rattle.oak_machine.specs.declared.event.Draw.{Draw}
use Rattle.oak_machine.specs.declared.event.Event.TheVariants as event
use Rattle.oak_machine.specs.History.{Past, Begin}
use Rattle.oak_machine.specs.Commits.{draw_of, is_ended, is_in_base, is_in_flight}
use Rattle.oak_machine.specs.Laws.{Says, Starts, StartsProper}
use Rattle.oak_machine.specs.Runs.{IsNode, IsRunOf, MayBound}
use Rattle.oak_machine.specs.Sessions.{has_left, has_login, is_drawing, is_recovered, is_stopped_under, pinned_at}
use Rattle.oak_node.specs.Pins.{pin_of}
use Rattle.oak_store.specs.Tables.{Table}
use Rattle.core_heads.proofs.Below.{below_seen}
use Rattle.core_heads.proofs.Runs.{bound_run}
use Rattle.core_keep.specs.Holding.{IsBelowAll}
use Rattle.core_clash.specs.Collecting.{MayBoundCore as MayBoundBases}
use Rattle.core_clash.specs.Sessions.{Running}
use Rattle.core_clash.proofs.Basics.{some_is}
use Rattle.core_clash.proofs.Dropped.{bound_keeps}
use Rattle.core_world.specs.Held.{holding_in}
use Rattle.core_world.specs.Kept.{AreCommitting, AreLayersKept, has_written}
use Rattle.core_world.specs.States.{State, core_in, history_in, memory_of, node_of}
use Rattle.core_world.proofs.Draws.{pinned_is, some_pin}
use Rattle.core_world.proofs.Flights.{drawing, same_number}
use Rattle.core_world.proofs.Held.{found_in, takes_part}
use Rattle.core_world.proofs.Lives.{its_node, session_there}
use Rattle.core_world.proofs.Logged.{drawn_by}
use Rattle.core_world.proofs.Readers.{detached_base}
use Rattle.oak_machine.specs.declared.event.Start.{Start}
use Rattle.core_begun.proofs.Events.{kept_bound}
use Rattle.core_begun.specs.Kept.{IsUsedSince}

-- what is in flight was drawn
drawn_in : (past : Past) (r : Revision) → is_in_flight past r ≡ true → (d : Draw) × (draw_of past r ≡ Some d)
drawn_in past r h = by (draw_of past r) refl h
  where
    by : (o : Option Draw) → draw_of past r ≡ o → (is_some o && not (is_ended past r)) ≡ true → (d : Draw) × (draw_of past r ≡ Some d)
    by None e k = absurd (false≢true k)
    by (Some d) e k = (d, e)

not_ended : (past : Past) (r : Revision) → is_in_flight past r ≡ true → is_ended past r ≡ false
not_ended past r h = by (is_some (draw_of past r)) (is_ended past r) h
  where
    by : (a b : Bool) → (a && not b) ≡ true → b ≡ false
    by true false k = refl
    by true true k = absurd (false≢true k)
    by false b k = absurd (false≢true k)

module _ (starts : Starts) (says : Says) (clusters : ℕ) (sessions : List ℕ) (begin : Begin) where
  -- the base of what is in flight is the vector at which its session was pinned last
  pub flying_pinned : (past : Past) (r : Revision) (d : Draw) → IsRunOf starts says clusters sessions begin past → draw_of past r ≡ Some d → is_ended past r ≡ false → pinned_at past d.session ≡ Some d.base
  flying_pinned [] r d run h unended = absurd (false≢true (ap (λ (o : Option Draw). is_some o) h))
  flying_pinned (event.Draw e ∷ past) r d run h unended = by (λ k. flying_pinned past r d run.1 k unended) (is_same r e.revision) h
    where
      here : pinned_at past e.session ≡ Some e.base
      here = sym (detached_base past e.session run.0.detached) ∙ run.0.base

      by : (draw_of past r ≡ Some d → pinned_at past d.session ≡ Some d.base) → (b : Bool) → cond b (Some e) (draw_of past r) ≡ Some d → pinned_at past d.session ≡ Some d.base
      by rest true k = subst (λ (x : Draw). pinned_at past x.session ≡ Some x.base) (sym (some_is k)) here
      by rest false k = rest k
  flying_pinned (event.Login t v ∷ past) r d run h unended = by (flying_pinned past r d run.1 h unended) (t == d.session) refl
    where
      by : pinned_at past d.session ≡ Some d.base → (b : Bool) → (t == d.session) ≡ b → cond b (Some v) (pinned_at past d.session) ≡ Some d.base
      by rest true e = absurd (false≢true (sym (subst (λ (n : ℕ). has_login past n ≡ false) (same_number t d.session e) run.0.first) ∙ (drawn_by starts says clusters sessions begin past r d run.1 h).login))
      by rest false e = rest
  flying_pinned (event.Refresh t v ∷ past) r d run h unended = by (flying_pinned past r d run.1 h unended) (t == d.session) refl
    where
      by : pinned_at past d.session ≡ Some d.base → (b : Bool) → (t == d.session) ≡ b → cond b (Some v) (pinned_at past d.session) ≡ Some d.base
      by rest true e = absurd (false≢true (sym (subst (λ (n : ℕ). is_drawing past n ≡ false) (same_number t d.session e) run.0.idle) ∙ drawing past r d unended past h))
      by rest false e = rest
  flying_pinned (event.End q ∷ past) r d run h unended = flying_pinned past r d run.1 h (before (is_same r q) unended)
    where
      before : (b : Bool) → (b || is_ended past r) ≡ false → is_ended past r ≡ false
      before true k = absurd (false≢true (sym k))
      before false k = k
  flying_pinned (e ∷ past) r d run h unended = flying_pinned past r d run.1 h unended

module _ (starts : Starts) (says : Says) (proper : StartsProper starts) (w : State) (kept : AreLayersKept starts says w) (m t : RevVec) (below : IsBelowAll (record { base = m; sweep = t }) (holding_in w)) (swept : is_below t m ≡ true) (may : MayBound (history_in w) m t) where
  -- a session with a draw in flight hasn't left
  stays : (s : ℕ) → is_drawing w.past s ≡ true → has_left w.past s ≡ false
  stays s drawing = by (w.running s) refl
    where
      by : (o : Option Running) → w.running s ≡ o → has_left w.past s ≡ false
      by None e = idle (is_stopped_under w.sessions w.past s) refl
        where
          idle : (b : Bool) → is_stopped_under w.sessions w.past s ≡ b → has_left w.past s ≡ false
          idle false on = absurd (false≢true (sym (kept.sessions.working.idle s e on) ∙ drawing))
          idle true on = kept.sessions.working.halted s on drawing
      by (Some x) e = kept.sessions.working.stays s x e

  -- the node of a session with a draw in flight wasn't recovered
  alive : (r : Revision) → is_in_flight w.past r ≡ true → (d : Draw) → draw_of w.past r ≡ Some d → is_recovered w.past (node_of w d.session) ≡ false
  alive r flies d drawn =
      let by = drawn_by starts says w.clusters w.sessions w.begin w.past r d kept.sessions.run drawn in
      ap (is_recovered w.past) (ap (λ o. unwrap_or o 0) by.node ∙ ap (λ (x : Revision). x.cluster) by.named) ∙ flier_alive w.begin starts says w.clusters w.sessions kept.sessions.nodes w.past kept.sessions.run r flies

  base_sees_bound : (r o : Revision) → is_in_flight w.past r ≡ true → sees m o ≡ true → is_in_base w.past r o ≡ true
  base_sees_bound r o flies seen =
      let d = drawn_in w.past r flies in
      let by = drawn_by starts says w.clusters w.sessions w.begin w.past r d.0 kept.sessions.run d.1 in
      let unended = not_ended w.past r flies in
      let there = session_there starts says proper w kept.sessions (d.0).session by.login in
      let node = its_node starts says proper w kept.sessions (d.0).session there in
      let goes = alive r flies d.0 d.1 in
      let pin = some_pin starts says proper w kept.sessions (d.0).session goes by.login (stays (d.0).session (drawing w.past r d.0 unended w.past d.1)) in
      let held = below.pins (node_of w (d.0).session) (takes_part starts says proper w kept (node_of w (d.0).session) node goes) pin.0 (found_in (is_at (nat_cmp (d.0).session)) _ pin.0 pin.1) in
      let base : pin.0.base ≡ (d.0).base = base_of_pin (d.0) (d.1) unended goes by.login pin in
      ap (λ (x : Option Draw). option_map_or (λ (e : Draw). sees e.base o) x false) d.1 ∙ subst (λ (v : RevVec). sees v o ≡ true) base (below_seen m pin.0.base o held.0 seen)
    where
      value : (a b : RevVec) → Some a ≡ Some b → a ≡ b
      value a b h = ap (λ x. unwrap_or x a) h

      base_of_pin : (d : Draw) → draw_of w.past r ≡ Some d → is_ended w.past r ≡ false → is_recovered w.past (node_of w d.session) ≡ false → has_login w.past d.session ≡ true → (pin : (x : Pin) × (pin_of (memory_of w d.session) d.session ≡ Some x)) → pin.0.base ≡ d.base
      base_of_pin d drawn unended goes login pin = value _ _
          (sym (ap (λ (x : Option Pin). Some (option_map_or (λ (p : Pin). p.base) x (memory_of w d.session).head)) pin.1)
          ∙ (sym (pinned_is starts says proper w kept.sessions d.session goes login (stays d.session (drawing w.past r d unended w.past drawn)))
          ∙ flying_pinned starts says w.clusters w.sessions w.begin w.past r d kept.sessions.run drawn unended))

  pub may_bound_core : MayBoundBases w.past m t
  may_bound_core = record {
    settled = λ o flies. unseen o (sees m o) refl (inl flies);
    below = base_sees_bound;
    swept = λ o seen. below_seen t m o swept seen;
  }
    where
      node : (o : Revision) → is_in_flight w.past o ≡ true → IsNode w.clusters o.cluster
      node o flies =
          let d = drawn_in w.past o flies in
          let by = drawn_by starts says w.clusters w.sessions w.begin w.past o d.0 kept.sessions.run d.1 in
          subst (λ (x : Revision). IsNode w.clusters x.cluster) by.named (kept.sessions.nodes.node (d.0).session (d.0).revision.cluster by.node)

      unseen : (o : Revision) (b : Bool) → sees m o ≡ b → (is_in_flight w.past o ≡ true) ⊎ ⊥ → b ≡ false
      unseen o false e flies = refl
      unseen o true e (inl flies) = absurd ((bound_run w.clusters w.sessions kept.sessions.nodes w.begin starts says w.past m t (may, kept.sessions.run) o.cluster (node o flies) (flier_alive w.begin starts says w.clusters w.sessions kept.sessions.nodes w.past kept.sessions.run o flies) o (inl flies)).0 e)
      unseen o true e (inr n) = absurd n

pub bound_commits : (start : Start) (past : Past) (t : Table) (running : ℕ → Option Running) (a : AreCommitting start past t running) → (m s : RevVec) → MayBoundBases past m s → IsUsedSince past (sees m) → AreCommitting start (event.Bound m s ∷ past) t running
bound_commits start past t running a m s may used = record {
  writers = a.writers;
  sound = bound_keeps (core_in start past t a.writers) m s a.sound may;
  theirs = λ q y h. let i = a.theirs q y h in record { session = i.session; draw = i.draw; unended = i.unended; committed = i.committed; writer = i.writer };
  listed = a.listed;
  kept = kept_bound start (documents_in t.documents) past (λ r. has_written (a.writers r)) a.kept m s used (λ o f. unseen o (sees s o) refl f);
  unstopped = a.unstopped;
}
  where
    unseen : (o : Revision) (b : Bool) → sees s o ≡ b → is_in_flight past o ≡ true → b ≡ false
    unseen o false e f = refl
    unseen o true e f = absurd (false≢true (sym (may.settled o f) ∙ may.swept o e))
