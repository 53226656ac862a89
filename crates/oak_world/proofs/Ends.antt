-- How a task has ended, where that is to be told, may be told.
use mathlib.Core.Bool.{false≢true}
use Rattle.std.proofs.Common.{◌≡◌, ℕ, true, false, None, ◌∷◌, refl, sym, ap, subst, ◌∙◌}
use Rattle.std.specs.Prelude.{◌==◌}
use Rattle.oak_machine.specs.declared.event.Event.{Event}
use Rattle.oak_machine.specs.declared.event.Event.TheVariants as event
use Rattle.oak_machine.specs.History.{History, Past}
use Rattle.oak_machine.specs.Laws.{AreOthers, Says, Starts, after, is_event_of}
use Rattle.oak_machine.specs.Runs.{MayFollow, is_task_end}
use Rattle.oak_machine.specs.Sessions.{is_attached, is_stopped, next_index}
use Rattle.oak_store.specs.Tables.{Table}
use Rattle.core_tidy.proofs.Since.{login_stays, since_left}
use Rattle.core_world.proofs.Flights.{same_number}
use Rattle.oak_step.specs.declared.work.Work.{Work}
use Rattle.oak_step.specs.declared.work.Work.TheVariants as work
use Rattle.oak_world.specs.Ends.{MayTell}
use Rattle.oak_world.specs.Kept.{IsWorld, May, scene}
use Rattle.oak_world.specs.Worlds.{IsAtRest, WorldOf, live, running_of, tidying_of, work_in}
use Rattle.oak_world.proofs.States.{SameReaders}
use Rattle.oak_world.proofs.StepsOf.{flipped}

pub ends_may : (starts : Starts) (says : Says) {L : Type 0} (w : WorldOf L) → IsWorld starts says w → (s : ℕ) (e : Event) → work_in w.actors s ≡ work.Told e → MayTell (live w.history) s e
ends_may starts says w is s e at = (subst (λ (v : Work). May starts (scene w.table is.formers (live w.history)) s v) at (is.may s)).1

-- the law has no part in how a task ends
pub may_tell : (starts : Starts) (says : Says) (h : History) (s : ℕ) (e : Event) → is_task_end s e ≡ true → MayFollow starts says h e → MayTell h s e
may_tell starts says h s (event.Split t path o) own may = record { own = own; follows = may }
may_tell starts says h s (event.Collected t c) own may = record { own = own; follows = may }
may_tell starts says h s _ own may = absurd (false≢true own)

pub tell_follows : (starts : Starts) (says : Says) (h : History) (s : ℕ) (e : Event) → MayTell h s e → MayFollow starts says h e
tell_follows starts says h s (event.Split t path o) may = may.follows
tell_follows starts says h s (event.Collected t c) may = may.follows
tell_follows starts says h s _ may = absurd (false≢true may.own)

-- after events of others it may be told still
pub tell_lasts : (h : History) (s : ℕ) (own : Past) → AreOthers s own h.past → (e : Event) → MayTell h s e → MayTell (after own h) s e
tell_lasts h s own others (event.Split t path o) may = record { own = may.own; follows = (login_stays t own h.past may.follows.0, may.follows.1) }
tell_lasts h s own others (event.Collected t c) may = record {
  own = may.own;
  follows = record {
    login = login_stays t own h.past may.follows.login;
    bound = since_left t own h.past (subst (λ (n : ℕ). AreOthers n own h.past) (sym (same_number t s may.own)) others) may.follows.bound;
    skips = may.follows.skips;
  };
}
tell_lasts h s own others _ may = absurd (false≢true may.own)

-- ---- how a task of session s ended is no reply, no event of others, attaches none and stops no cluster node

module _ (s : ℕ) (past : Past) where
  pub end_next : (q : ℕ) (e : Event) → is_task_end s e ≡ true → next_index (e ∷ past) q ≡ next_index past q
  end_next q (event.Split t path o) own = refl
  end_next q (event.Collected t c) own = refl
  end_next q _ own = absurd (false≢true own)

  pub end_attached : (q : ℕ) (e : Event) → is_task_end s e ≡ true → is_attached (e ∷ past) q ≡ is_attached past q
  end_attached q (event.Split t path o) own = refl
  end_attached q (event.Collected t c) own = refl
  end_attached q _ own = absurd (false≢true own)

  pub end_unstopped : (k : ℕ) (e : Event) → is_task_end s e ≡ true → is_stopped (e ∷ past) k ≡ is_stopped past k
  end_unstopped k (event.Split t path o) own = refl
  end_unstopped k (event.Collected t c) own = refl
  end_unstopped k _ own = absurd (false≢true own)

  pub end_others : (q : ℕ) → (q == s) ≡ false → (e : Event) → is_task_end s e ≡ true → is_event_of past q e ≡ false
  end_others q apart (event.Split t path o) own = ap (λ (n : ℕ). n == q) (same_number t s own) ∙ flipped q s apart
  end_others q apart (event.Collected t c) own = ap (λ (n : ℕ). n == q) (same_number t s own) ∙ flipped q s apart
  end_others q apart _ own = absurd (false≢true own)

-- ---- a session with nothing left to do but to tell how a task ended

pub rest_tidies : (v : Work) → IsAtRest v → tidying_of v ≡ None
rest_tidies work.Rest at = refl
rest_tidies (work.Told e) at = refl
rest_tidies _ at = absurd at

pub rest_running : (s : ℕ) (t : Table) (v : Work) → IsAtRest v → running_of t s v ≡ None
rest_running s t work.Rest at = refl
rest_running s t (work.Told e) at = refl
rest_running s t _ at = absurd at

pub rest_readers : (v : Work) → IsAtRest v → SameReaders v work.Rest
rest_readers work.Rest at = (refl, refl)
rest_readers (work.Told e) at = (refl, refl)
rest_readers _ at = absurd at
