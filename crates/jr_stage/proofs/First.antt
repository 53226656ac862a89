-- Who keeps a session waiting, and what its turns leave of that.
use Rattle.std.proofs.Common.{◌≡◌, ◌⊎◌, inl, inr, ℕ, Bool, true, false, cond, not, ◌||◌, ◌&&◌, Some, None, Option, List, [], ◌∷◌, ◌++◌, is_some, refl, sym, ap, ◌∙◌, subst, arith}
use Rattle.std.specs.Prelude.{◌==◌}
use Rattle.std.specs.Option.{option_map_or}
use Rattle.std.proofs.lemmas.Bool.Decides.{nat_tests}
use mathlib.Core.Bool.{false≢true}
use Rattle.jr_rev.specs.declared.revision.Revision.{Revision}
use Rattle.jr_rev.specs.Revisions.{is_same}
use Rattle.jr_rev.proofs.Order.{same_revision}
use Rattle.oak_machine.specs.declared.event.Draw.{Draw}
use Rattle.oak_machine.specs.declared.event.Event.{Event}
use Rattle.oak_machine.specs.declared.event.Event.TheVariants as event
use Rattle.oak_machine.specs.History.{Past}
use Rattle.oak_machine.specs.Commits.{draw_of, is_drawn, is_ended, is_in_flight}
use Rattle.oak_machine.specs.Laws.{Says, Starts, is_revision_of}
use Rattle.oak_machine.specs.Runs.{AreNodes, IsRunOf}
use Rattle.oak_machine.specs.Sessions.{is_drawing, is_drawing_among}
use Rattle.oak_port.specs.Ports.{HoldsBack}
use Rattle.jr_script.specs.declared.script.Script.{Script}
use Rattle.jr_stage.specs.Awaited.{DrawsNone, IsAlone, IsNextToReply, IsStill, KeepsWaiting, LeavesOtherSessions}
use Rattle.jr_stage.specs.Places.{is_own}
use Rattle.jr_stage.specs.SoFar.{AreMadeBy}
use Rattle.jr_stage.proofs.Flying.{flight_other, flying_by, halves, same_itself}
use Rattle.jr_stage.proofs.Seen.{known}
use Rattle.jr_stage.proofs.SoFar.{not_of_another, one_session, own_itself, told_own}

equal : (a b : ℕ) → (a == b) ≡ true → a ≡ b
equal a b h = grind (arith, nat_tests)

itself : (n : ℕ) → (n == n) ≡ true
itself n = grind (arith, nat_tests)

not_true : (b : Bool) → not b ≡ true → b ≡ false
not_true true h = absurd (false≢true h)
not_true false h = refl

-- ---- a commit in flight

-- the draw of a revision of s
pub record IsDrawnBy (past : Past) (s : ℕ) (r : Revision) : Type 0 where
  pub draw : Draw
  pub known : draw_of past r ≡ Some draw
  pub theirs : (draw.session == s) ≡ true

pub drawn_by : (past : Past) (s : ℕ) (r : Revision) → is_revision_of past s r ≡ true → IsDrawnBy past s r
drawn_by past s r h = by (draw_of past r) refl h
  where
    by : (o : Option Draw) → draw_of past r ≡ o → option_map_or (λ d. d.session == s) o false ≡ true → IsDrawnBy past s r
    by None is k = absurd (false≢true k)
    by (Some d) is k = record { draw = d; known = is; theirs = k }

pub revision_by : (past : Past) (s : ℕ) (r : Revision) → IsDrawnBy past s r → is_revision_of past s r ≡ true
revision_by past s r by = ap (λ (o : Option Draw). option_map_or (λ d. d.session == s) o false) by.known ∙ by.theirs

-- what flies is drawn, and hasn't ended
drawn_flying : (past : Past) (r : Revision) → is_in_flight past r ≡ true → is_drawn past r ≡ true
drawn_flying past r flies = (halves (is_drawn past r) _ flies).0

open_flying : (past : Past) (r : Revision) → is_in_flight past r ≡ true → is_ended past r ≡ false
open_flying past r flies = not_true (is_ended past r) (halves (is_drawn past r) _ flies).1

-- a session whose revision is in flight has a commit in flight
pub flying_drawing : (past : Past) (s : ℕ) (r : Revision) → is_revision_of past s r ≡ true → is_in_flight past r ≡ true → is_drawing past s ≡ true
flying_drawing past s r own flies =
    let by = drawn_by past s r own in
    flying_by past past s r by.draw by.known by.theirs (open_flying past r flies)

-- a commit of s that is in flight
pub record HasFlying (now past : Past) (s : ℕ) : Type 0 where
  pub draw : Draw
  pub known : draw_of past draw.revision ≡ Some draw
  pub theirs : (draw.session == s) ≡ true
  pub unended : is_ended now draw.revision ≡ false

-- ---- what turns leave

pub leaves_same : (past : Past) (s : ℕ) → LeavesOtherSessions past past s
leaves_same past s = record { drawing = λ t apart. refl; drawn = λ t r apart h. h; flying = λ t r apart own h. h }

pub leaves_on : (old mid new : Past) (s : ℕ) → LeavesOtherSessions old mid s → LeavesOtherSessions mid new s → LeavesOtherSessions old new s
leaves_on old mid new s before later = record {
  drawing = λ t apart. later.drawing t apart ∙ before.drawing t apart;
  drawn = λ t r apart h. before.drawn t r apart (later.drawn t r apart h);
  flying = λ t r apart own h. before.flying t r apart (later.drawn t r apart own) (later.flying t r apart own h);
}

pub alone_stays : (old new : Past) (s : ℕ) → LeavesOtherSessions old new s → IsAlone old s → IsAlone new s
alone_stays old new s leaves alone t apart = leaves.drawing t apart ∙ alone t apart

-- the revisions of two sessions are those that they had, and the first one's commit was in flight
still_waiting : (old new : Past) (s t u : ℕ) → LeavesOtherSessions old new s → (t == s) ≡ false → ((r : Revision) → is_revision_of new u r ≡ true → is_revision_of old u r ≡ true) → KeepsWaiting new t u → KeepsWaiting old t u
still_waiting old new s t u leaves apart drawn waits = record {
  holding = waits.holding;
  held = waits.held;
  theirs = leaves.drawn t waits.holding apart waits.theirs;
  own = drawn waits.held waits.own;
  holds = record {
    node = waits.holds.node;
    earlier = waits.holds.earlier;
    flying = leaves.flying t waits.holding apart waits.theirs waits.holds.flying;
  };
}

pub first_stays : (old new : Past) (s : ℕ) → LeavesOtherSessions old new s → DrawsNone old new s → IsNextToReply old s → IsNextToReply new s
first_stays old new s leaves none first t apart waits = first t apart (still_waiting old new s t s leaves apart none waits)

-- who is kept waiting by another was before a third one's turns
pub waits_still : (old new : Past) (s t u : ℕ) → LeavesOtherSessions old new s → (t == s) ≡ false → (u == s) ≡ false → KeepsWaiting new t u → KeepsWaiting old t u
waits_still old new s t u leaves apart other waits = still_waiting old new s t u leaves apart (λ r h. leaves.drawn u r other h) waits

-- ---- who waits

-- where no other session has a commit in flight, none keeps s waiting
pub alone_first : (past : Past) (s : ℕ) → IsAlone past s → IsNextToReply past s
alone_first past s alone t apart waits = false≢true (sym (alone t apart) ∙ flying_drawing past t waits.holding waits.theirs waits.holds.flying)

pub still_alone : (past : Past) (s : ℕ) → IsStill past → IsAlone past s
still_alone past s still t apart = still t

pub alone_still : (past : Past) (s : ℕ) → IsAlone past s → is_drawing past s ≡ false → IsStill past
alone_still past s alone idle t = by (t == s) refl
  where
    by : (b : Bool) → (t == s) ≡ b → is_drawing past t ≡ false
    by true same = subst (λ (n : ℕ). is_drawing past n ≡ false) (sym (equal t s same)) idle
    by false apart = alone t apart

-- what holds the head back from the last draw of s, which has ended, is another session's
pub kept_by_another : (past : Past) (s : ℕ) (q r : Revision) → is_revision_of past s r ≡ true → is_ended past r ≡ true → is_drawing (event.End r ∷ past) s ≡ false → HoldsBack past q r → (t : ℕ) × ((t == s) ≡ false) × KeepsWaiting past t s
kept_by_another past s q r own ended last holds = by (draw_of past q) refl (drawn_flying past q holds.flying)
  where
    open_now : is_ended past q ≡ false
    open_now = open_flying past q holds.flying

    -- it isn't the one that has ended
    other : is_same q r ≡ false
    other = apart (is_same q r) refl
      where
        apart : (b : Bool) → is_same q r ≡ b → b ≡ false
        apart true same = absurd (false≢true (sym open_now ∙ subst (λ (x : Revision). is_ended past x ≡ true) (sym (same_revision q r same)) ended))
        apart false same = refl

    by : (o : Option Draw) → draw_of past q ≡ o → is_some o ≡ true → (t : ℕ) × ((t == s) ≡ false) × KeepsWaiting past t s
    by None is h = absurd (false≢true h)
    by (Some d) is h = (
      d.session,
      foreign (d.session == s) refl,
      record { holding = q; held = r; theirs = revision_by past d.session q (record { draw = d; known = is; theirs = itself d.session }); own = own; holds = holds },
    )
      where
        foreign : (b : Bool) → (d.session == s) ≡ b → b ≡ false
        foreign true same = absurd (false≢true (sym last ∙ flying_by (event.End r ∷ past) past s q d is same (ap (λ b. b || is_ended past q) other ∙ open_now)))
        foreign false same = refl

-- ---- a turn

module _ (clusters : ℕ) (sessions : List ℕ) (nodes : AreNodes clusters sessions) (starts : Starts) (says : Says) where
  -- a session that has a commit in flight has drawn it
  flying_in : (now past : Past) (s : ℕ) → IsRunOf starts says clusters sessions None past → is_drawing_among now past s ≡ true → HasFlying now past s
  flying_in now [] s run h = absurd (false≢true h)
  flying_in now (event.Draw f ∷ past) s run h = by (λ k. flying_in now past s run.1 k) (f.session == s) (is_ended now f.revision) refl refl h
    where
      later : HasFlying now past s → HasFlying now (event.Draw f ∷ past) s
      later has = record {
        draw = has.draw;
        known = known clusters sessions nodes starts says past f run has.draw.revision has.draw has.known;
        theirs = has.theirs;
        unended = has.unended;
      }

      by : (is_drawing_among now past s ≡ true → HasFlying now past s) → (a b : Bool) → (f.session == s) ≡ a → is_ended now f.revision ≡ b → ((a && not b) || is_drawing_among now past s) ≡ true → HasFlying now (event.Draw f ∷ past) s
      by rest true false own unended k = record {
        draw = f;
        known = ap (λ b. cond b (Some f) (draw_of past f.revision)) (same_itself f.revision);
        theirs = own;
        unended = unended;
      }
      by rest true true own unended k = later (rest k)
      by rest false b own unended k = later (rest k)
  flying_in now (e ∷ past) s run h =
      let has = flying_in now past s run.1 h in
      record { draw = has.draw; known = has.known; theirs = has.theirs; unended = has.unended }

  pub has_flying : (past : Past) (s : ℕ) → IsRunOf starts says clusters sessions None past → is_drawing past s ≡ true → HasFlying past past s
  has_flying past s run h = flying_in past past s run h

  module _ (past : Past) (t : ℕ) where
    -- an event that isn't of t draws nothing of t
    drawn_then : (e : Event) → is_own past t e ≡ false → (r : Revision) → is_revision_of (e ∷ past) t r ≡ true → is_revision_of past t r ≡ true
    drawn_then (event.Draw d) other r h = by (is_same r d.revision) h
      where
        by : (b : Bool) → option_map_or (λ x. x.session == t) (cond b (Some d) (draw_of past r)) false ≡ true → is_revision_of past t r ≡ true
        by true k = absurd (false≢true (sym other ∙ k))
        by false k = k
    drawn_then e other r h = h

    -- what t had drawn it still has
    drawn_now : (e : Event) → IsRunOf starts says clusters sessions None (e ∷ past) → (r : Revision) (d : Draw) → draw_of past r ≡ Some d → draw_of (e ∷ past) r ≡ Some d
    drawn_now (event.Draw f) run r d h = known clusters sessions nodes starts says past f run r d h
    drawn_now e run r d h = h

    -- and where the event isn't of t, it ends nothing of t
    ended_then : (e : Event) → is_own past t e ≡ false → (r : Revision) → is_revision_of past t r ≡ true → is_ended (e ∷ past) r ≡ is_ended past r
    ended_then (event.End q) other r own = ap (λ b. b || is_ended past r) (by (is_same r q) refl)
      where
        by : (b : Bool) → is_same r q ≡ b → b ≡ false
        by true same = absurd (false≢true (sym other ∙ subst (λ (x : Revision). is_revision_of past t x ≡ true) (same_revision r q same) own))
        by false same = refl
    ended_then e other r own = refl

    flying_then : (e : Event) → is_own past t e ≡ false → (r : Revision) → is_revision_of (e ∷ past) t r ≡ true → is_in_flight (e ∷ past) r ≡ true → is_in_flight past r ≡ true
    flying_then e other r own flies =
        let before = drawn_then e other r own in
        let by = drawn_by past t r before in
        ap (λ (o : Option Draw). is_some o && not (is_ended past r)) by.known ∙ ap not (sym (ended_then e other r before) ∙ open_flying (e ∷ past) r flies)

    drawing_then : (e : Event) → IsRunOf starts says clusters sessions None (e ∷ past) → is_own past t e ≡ false → is_drawing (e ∷ past) t ≡ is_drawing past t
    drawing_then e run other = by (is_drawing past t) refl
      where
        by : (b : Bool) → is_drawing past t ≡ b → is_drawing (e ∷ past) t ≡ b
        by true flies =
            let has = has_flying past t run.1 flies in
            let own = revision_by past t has.draw.revision (record { draw = has.draw; known = has.known; theirs = has.theirs }) in
            flying_by (e ∷ past) (e ∷ past) t has.draw.revision has.draw (drawn_now e run has.draw.revision has.draw has.known) has.theirs
            (ended_then e other has.draw.revision own ∙ has.unended)
        by false idle = flight_other clusters sessions nodes starts says t e past None run other idle

  event_leaves : (past : Past) (s : ℕ) (e : Event) → IsRunOf starts says clusters sessions None (e ∷ past) → ((t : ℕ) → (t == s) ≡ false → is_own past t e ≡ false) → LeavesOtherSessions past (e ∷ past) s
  event_leaves past s e run other = record {
    drawing = λ t apart. drawing_then past t e run (other t apart);
    drawn = λ t r apart h. drawn_then past t e (other t apart) r h;
    flying = λ t r apart own h. flying_then past t e (other t apart) r own h;
  }

  module _ (script : Script) (s : ℕ) (past : Past) where
    -- the events of a turn of s
    pub turn_leaves : (own : Past) → IsRunOf starts says clusters sessions None (own ++ past) → (own ≡ []) ⊎ AreMadeBy script past s own → LeavesOtherSessions past (own ++ past) s
    turn_leaves own run (inl none) = subst (λ (o : Past). LeavesOtherSessions past (o ++ past) s) (sym none) (leaves_same past s)
    turn_leaves own run (inr (inl one)) =
        subst (λ (o : Past). LeavesOtherSessions past (o ++ past) s) (sym one.is)
        (event_leaves past s one.event (subst (λ (o : Past). IsRunOf starts says clusters sessions None (o ++ past)) one.is run) (λ t apart. not_of_another script past t s apart one.event one.made))
    turn_leaves own run (inr (inr (inl two))) =
        let ran : IsRunOf starts says clusters sessions None (event.Head two.cluster two.head ∷ event.End two.revision ∷ past) = subst (λ (o : Past). IsRunOf starts says clusters sessions None (o ++ past)) two.is run in
        subst (λ (o : Past). LeavesOtherSessions past (o ++ past) s) (sym two.is)
        (leaves_on past (event.End two.revision ∷ past) (event.Head two.cluster two.head ∷ event.End two.revision ∷ past) s
        (event_leaves past s (event.End two.revision) ran.1 (λ t apart. one_session past t s apart (event.End two.revision) two.theirs))
        (event_leaves (event.End two.revision ∷ past) s (event.Head two.cluster two.head) ran (λ t apart. refl)))
    turn_leaves own run (inr (inr (inr said))) =
        let ran : IsRunOf starts says clusters sessions None (event.Said s said.index said.text ∷ said.told ∷ past) = subst (λ (o : Past). IsRunOf starts says clusters sessions None (o ++ past)) said.is run in
        subst (λ (o : Past). LeavesOtherSessions past (o ++ past) s) (sym said.is)
        (leaves_on past (said.told ∷ past) (event.Said s said.index said.text ∷ said.told ∷ past) s
        (event_leaves past s said.told ran.1 (λ t apart. one_session past t s apart said.told (told_own past s said.told said.ends)))
        (event_leaves (said.told ∷ past) s (event.Said s said.index said.text) ran (λ t apart. one_session (said.told ∷ past) t s apart (event.Said s said.index said.text) (own_itself s))))
