-- What each session has, after a change of one session's; and the committers after a step of one.
use Rattle.std.proofs.Common.{◌≡◌, ℕ, Bool, true, false, cond, ◌⊎◌, inl, inr, Some, None, Option, List, refl, sym, ap, subst, ◌∙◌, is_some}
use Rattle.std.proofs.Math.Path.{fun_ext}
use Rattle.std.specs.Prelude.{◌==◌}
use mathlib.Core.Bool.{false≢true}
use Rattle.jr_rev.specs.declared.revision.Revision.{Revision}
use Rattle.jr_rev.specs.Revisions.{is_same}
use Rattle.oak_commit.specs.Clashing.{Writer}
use Rattle.oak_machine.specs.declared.event.Draw.{Draw}
use Rattle.oak_machine.specs.History.{Past}
use Rattle.oak_machine.specs.Commits.{draw_of, is_committed, is_ended}
use Rattle.core_clash.specs.Core.{with_writer}
use Rattle.core_clash.specs.Sessions.{IsTheirs, Running}
use Rattle.core_clash.proofs.Basics.{decide, some_is, writer_mine, writer_other}
use Rattle.oak_machine.specs.Sessions.{has_left, is_drawing, is_stopped_under}
use Rattle.oak_read.specs.declared.reader.Reader.{Reader}
use Rattle.core_world.specs.Kept.{AreAtWork}
use Rattle.core_world.specs.States.{with_session}
use Rattle.core_world.proofs.Flights.{other_number, same_number}

-- ---- sessions

-- what holds of the session that changed and of the others holds of each
pub at_session : {X : Type 0} (P : ℕ → X → Type 0) (has : ℕ → Option X) (s : ℕ) (x : X) → P s x → ((q : ℕ) (y : X) → (q == s) ≡ false → has q ≡ Some y → P q y) → (q : ℕ) (y : X) → with_session has s (Some x) q ≡ Some y → P q y
at_session P has s x here there q y = by (q == s) refl
  where
    by : (b : Bool) → (q == s) ≡ b → cond b (Some x) (has q) ≡ Some y → P q y
    by true t h = subst (λ (n : ℕ). P n y) (sym (same_number q s t)) (subst (λ z. P s z) (sym (some_is h)) here)
    by false f h = there q y f h

pub at_others : {X : Type 0} (P : ℕ → X → Type 0) (has : ℕ → Option X) (s : ℕ) → ((q : ℕ) (y : X) → (q == s) ≡ false → has q ≡ Some y → P q y) → (q : ℕ) (y : X) → with_session has s None q ≡ Some y → P q y
at_others P has s there q y = by (q == s) refl
  where
    by : (b : Bool) → (q == s) ≡ b → cond b None (has q) ≡ Some y → P q y
    by true t h = absurd (false≢true (ap is_some h))
    by false f h = there q y f h

-- of a session that has nothing
pub at_idle : {X : Type 0} (P : ℕ → Type 0) (has : ℕ → Option X) (s : ℕ) (x : X) → ((q : ℕ) → (q == s) ≡ false → has q ≡ None → P q) → (q : ℕ) → with_session has s (Some x) q ≡ None → P q
at_idle P has s x there q = by (q == s) refl
  where
    by : (b : Bool) → (q == s) ≡ b → cond b (Some x) (has q) ≡ None → P q
    by true t h = absurd (false≢true (sym (ap is_some h)))
    by false f h = there q f h

pub at_idle_now : {X : Type 0} (P : ℕ → Type 0) (has : ℕ → Option X) (s : ℕ) → P s → ((q : ℕ) → (q == s) ≡ false → has q ≡ None → P q) → (q : ℕ) → with_session has s None q ≡ None → P q
at_idle_now P has s here there q = by (q == s) refl
  where
    by : (b : Bool) → (q == s) ≡ b → cond b None (has q) ≡ None → P q
    by true t h = subst P (sym (same_number q s t)) here
    by false f h = there q f h

-- of two changes of one session the second counts
pub session_twice : {X : Type 0} (has : ℕ → Option X) (s : ℕ) (x y : Option X) → with_session (with_session has s x) s y ≡ with_session has s y
session_twice has s x y = fun_ext (λ q. by q (q == s))
  where
    by : (q : ℕ) (b : Bool) → cond b y (cond b x (has q)) ≡ cond b y (has q)
    by q true = refl
    by q false = refl

-- one session's committer stands otherwise
pub work_session : (sessions : List ℕ) (past : Past) (running : ℕ → Option Running) (reading : ℕ → Option Reader) → AreAtWork sessions past running reading → (s : ℕ) (y : Running) → has_left past s ≡ false → is_stopped_under sessions past s ≡ false → AreAtWork sessions past (with_session running s (Some y)) reading
work_session sessions past running reading work s y stays on = record {
  idle = at_idle (λ q. is_stopped_under sessions past q ≡ false → is_drawing past q ≡ false) running s y (λ q f h. work.idle q h);
  stays = at_session (λ q (z : Running). has_left past q ≡ false) running s y stays (λ q z f h. work.stays q z h);
  goes = at_session (λ q (z : Running). is_stopped_under sessions past q ≡ false) running s y on (λ q z f h. work.goes q z h);
  reads = work.reads;
  halted = work.halted;
}

-- ---- committers

-- the committers of two sessions are of two draws
pub of_others : (past : Past) (writers : Revision → Writer) (s q : ℕ) (x y : Running) → IsTheirs past writers s x → IsTheirs past writers q y → (q == s) ≡ false → is_same y.draw.revision x.draw.revision ≡ false
of_others past writers s q x y tx ty apart = by (decide y.draw.revision x.draw.revision)
  where
    by : (y.draw.revision ≡ x.draw.revision) ⊎ (is_same y.draw.revision x.draw.revision ≡ false) → is_same y.draw.revision x.draw.revision ≡ false
    by (inr f) = f
    by (inl e) =
        let d : x.draw ≡ y.draw = some_is (sym ty.draw ∙ (ap (λ (r : Revision). draw_of past r) e ∙ tx.draw)) in
        let same : q ≡ s = sym ty.session ∙ (ap (λ (z : Draw). z.session) (sym d) ∙ tx.session) in
        absurd (other_number q s apart same)

-- a step of the committer of s, which is w then, and is past its commit point or not
module _ (past : Past) (writers : Revision → Writer) (running : ℕ → Option Running) (theirs : (s : ℕ) (x : Running) → running s ≡ Some x → IsTheirs past writers s x) (s : ℕ) (x : Running) (here : running s ≡ Some x) (v w : Writer) (same : v ≡ w) (committed : Bool) (later : Past) where
  pub theirs_step : ((q : Revision) → draw_of later q ≡ draw_of past q) → ((q : Revision) → is_ended later q ≡ is_ended past q) → ((q : Revision) → is_same q x.draw.revision ≡ false → is_committed later q ≡ is_committed past q) → is_committed later x.draw.revision ≡ committed
      → (q : ℕ) (y : Running) → with_session running s (Some (record { draw = x.draw; writer = w; committed = committed })) q ≡ Some y → IsTheirs later (with_writer writers x.draw.revision v) q y
  theirs_step draws ends commits point = at_session (IsTheirs later (with_writer writers x.draw.revision v)) running s _ mine_now others
    where
      mine : IsTheirs past writers s x
      mine = theirs s x here

      mine_now : IsTheirs later (with_writer writers x.draw.revision v) s (record { draw = x.draw; writer = w; committed = committed })
      mine_now = record {
        session = mine.session;
        draw = draws x.draw.revision ∙ mine.draw;
        unended = ends x.draw.revision ∙ mine.unended;
        committed = point;
        writer = writer_mine writers x.draw.revision v ∙ same;
      }

      others : (q : ℕ) (y : Running) → (q == s) ≡ false → running q ≡ Some y → IsTheirs later (with_writer writers x.draw.revision v) q y
      others q y f h =
          let its = theirs q y h in
          let other = of_others past writers s q x y mine its f in
          record {
            session = its.session;
            draw = draws y.draw.revision ∙ its.draw;
            unended = ends y.draw.revision ∙ its.unended;
            committed = commits y.draw.revision other ∙ its.committed;
            writer = writer_other writers x.draw.revision v y.draw.revision other ∙ its.writer;
          }
