-- A step of a split or a collection as a step of its session, after which all that tidies goes on.
use mathlib.Core.Bool.{false≢true}
use Rattle.std.proofs.Common.{◌≡◌, inl, inr, ℕ, Bool, true, false, cond, Option, Some, None, [], is_some, refl, sym, ap, subst, ◌∙◌}
use Rattle.std.specs.Prelude.{◌≢◌, ◌==◌}
use Rattle.oak_doc.specs.declared.asks.Ask.TheVariants as ask
use Rattle.oak_machine.specs.declared.event.Event.{Event}
use Rattle.oak_machine.specs.declared.event.StepKind.{StepKind}
use Rattle.oak_machine.specs.History.{History, Past}
use Rattle.oak_machine.specs.Laws.{Says, Starts, StartsProper, after}
use Rattle.oak_machine.specs.Sessions.{is_login_of}
use Rattle.oak_port.specs.declared.task.StepOut.{StepOut}
use Rattle.oak_port.specs.declared.task.StepOut.TheVariants as answers
use Rattle.oak_port.specs.declared.task.TaskEnd.{TaskEnd}
use Rattle.oak_port.specs.Ports.{AreOfStep, Makes as Tells}
use Rattle.oak_read.specs.Reading.{IsTable}
use Rattle.oak_step.specs.declared.work.Work.{Work}
use Rattle.oak_step.specs.declared.work.Work.TheVariants as work
use Rattle.oak_tidy.specs.declared.tidying.Tidying.{Tidying}
use Rattle.oak_tidy.specs.Replies.{AllParts, all_parts, told_to}
use Rattle.oak_tidy.specs.Tidyings.{CanTidy, TidiesTo, kind_tidied, tidy_events, tidying_ask}
use Rattle.oak_tidy.proofs.Staying.{goes_can}
use Rattle.core_keep.specs.Formers.{Formers, FormersGrow}
use Rattle.core_tidy.specs.Steps.{Bound, Copied, IsTidyStep, Listed, Makes, Pruned, Removed, Still, TakenBack, Unlisted, Went, after_tidied, tidied_in, told_of}
use Rattle.core_tidy.specs.Tidying.{AreTidying}
use Rattle.core_tidy.proofs.Beginning.{ends_tidying}
use Rattle.core_tidy.proofs.Since.{more}
use Rattle.core_tidy.proofs.Stepping.{tidying_steps}
use Rattle.core_tidy.proofs.Whole.{events_others, events_stay}
use Rattle.core_world.specs.Held.{after_bound}
use Rattle.core_world.specs.Kept.{IsKept}
use Rattle.core_world.specs.States.{State, history_in, with_session}
use Rattle.core_world.specs.Steps.{after_went, with_reader}
use Rattle.core_world.proofs.Numbers.{first_listed}
use Rattle.core_world.proofs.Whole.{gone_whole}
use Rattle.oak_world.specs.Kept.{May, scene}
use Rattle.oak_world.specs.Seen.{shown_tidying, shown_work}
use Rattle.oak_world.specs.Steps.{IsPresent, MakesTidying, work_left}
use Rattle.oak_world.specs.Worlds.{tidying_of, with_formers}
use Rattle.oak_world.proofs.Changing.{Changes, ChangesAlone, unchanged}
use Rattle.oak_world.proofs.Ends.{may_tell}
use Rattle.oak_world.proofs.StepsOf.{IsStepOf, holds_still, numbers_stay}
use Rattle.oak_world.proofs.TidiesShown.{events_attached, events_due, events_of_step, events_stopped, tidying_ends, tidying_goes, tidying_refused}
use Rattle.oak_world.proofs.Tidied.{back_changes, copied_changes, listed_changes, pruned_changes, removed_changes, unlisted_changes}

-- a step of session s that splits or collects: with what is told of former documents then it is a step of the session, and all that tidies goes on from what it has tidied so far
pub record IsTidyStepOf (starts : Starts) (says : Says) (s : ℕ) (w : State) (does : ℕ → Option Tidying) (x : Tidying) (u : State) (v : Work) (o : StepOut) : Type 0 where
  pub formers : Formers
  pub grow : FormersGrow w.formers formers
  pub step : IsStepOf starts says s w (work.Tidy x) (with_formers u formers) v o
  pub tidying : AreTidying (with_formers u formers) (with_session does s (tidying_of v))

-- ---- how the documents change

module _ (starts : Starts) (says : Says) (proper : StartsProper starts) (w : State) (kept : IsKept starts says w) (does : ℕ → Option Tidying) (tidies : AreTidying w does) (s : ℕ) where
  -- the session reads no more as one that hasn't begun
  abbrev gone : State
  gone = with_reader w s None

  gone_kept : IsKept starts says gone
  gone_kept = gone_whole starts says proper w kept s

  -- what a session reads has no part in how the documents change
  alone_from : (u : State) → ChangesAlone gone u → ChangesAlone w u
  alone_from u (inl plain) = inl plain
  alone_from u (inr (inl previous)) = inr (inl previous)
  alone_from u (inr (inr (inl c))) = inr (inr (inl (record { at = c.at; old = c.old; document = c.document; there = c.there; main = c.main; pruned = c.pruned })))
  alone_from u (inr (inr (inr c))) = inr (inr (inr (record { at = c.at; old = c.old; there = c.there; elsewhere = c.elsewhere; gone = c.gone; previous = c.previous; unwanted = c.unwanted })))

  changes_from : (u : State) → Changes gone u → Changes w u
  changes_from u (inl c) = inl (alone_from u c.0, c.1)
  changes_from u (inr c) = inr (record { at = c.at; old = c.old; document = c.document; entry = c.entry; there = c.there; main = c.main; prev = c.prev; new = c.new; grows = c.grows })

  changes_by : (u : State) → Makes gone s u → Changes gone u
  changes_by u (Still is) = subst (λ (t : State). Changes gone t) (sym is) (unchanged gone gone refl refl)
  changes_by u (Went k is other apart) = subst (λ (t : State). Changes gone t) (sym is) (unchanged gone (after_went gone s k) refl refl)
  changes_by u (Copied p k x is none new number order) = subst (λ (t : State). Changes gone t) (sym is) (copied_changes starts says gone gone_kept s p k x none new)
  changes_by u (Listed read pin p old e is may early) =
      subst (λ (t : State). Changes gone t) (sym is) (listed_changes starts says gone gone_kept s read pin p old e may (ap (w.formers p) may.number ∙ first_listed w.table w.formers tidies.numbered p old may.there))
  changes_by u (TakenBack p k is may behind) = subst (λ (t : State). Changes gone t) (sym is) (back_changes gone s p k may)
  changes_by u (Bound m t is may) = subst (λ (t : State). Changes gone t) (sym is) (unchanged gone (after_bound gone m t) refl refl)
  changes_by u (Pruned m t p old op is may) = subst (λ (t : State). Changes gone t) (sym is) (pruned_changes starts says gone gone_kept s m t p old op may)
  changes_by u (Removed m t p old is may) = subst (λ (t : State). Changes gone t) (sym is) (removed_changes starts says gone gone_kept s m t p old may)
  changes_by u (Unlisted p k is may behind) = subst (λ (t : State). Changes gone t) (sym is) (unlisted_changes gone s p k may)

  pub tidy_changes : (x : Tidying) (stepped : IsTidyStep starts says w does s x) → Changes w (told_of (after_tidied w s x) stepped.formers)
  tidy_changes x stepped = changes_from (told_of (after_tidied w s x) stepped.formers) (changes_by (told_of (after_tidied w s x) stepped.formers) stepped.makes)

-- ---- who tidies then

-- where fewer sessions tidy, what these rest on stands
fewer_tidy : (u : State) (does fewer : ℕ → Option Tidying) → ((q : ℕ) (z : Tidying) → fewer q ≡ Some z → does q ≡ Some z) → AreTidying u does → AreTidying u fewer
fewer_tidy u does fewer less all = record {
  numbered = all.numbered;
  own = all.own;
  order = all.order;
  bounds = all.bounds;
  each = λ q z at. all.each q z (less q z at);
  apart = λ a b other y z at its. all.apart a b other y z (less a y at) (less b z its);
}

-- one that has ended tidies no more
one_less : (does : ℕ → Option Tidying) (s : ℕ) (y : Tidying) (q : ℕ) (z : Tidying) → with_session does s None q ≡ Some z → with_session does s (Some y) q ≡ Some z
one_less does s y q z = by (q == s)
  where
    by : (b : Bool) → cond b None (does q) ≡ Some z → cond b (Some y) (does q) ≡ Some z
    by true h = absurd (false≢true (ap is_some h))
    by false h = h

-- ---- a step

module _ (starts : Starts) (says : Says) (proper : StartsProper starts) (w : State) (kept : IsKept starts says w) (does : ℕ → Option Tidying) (tidies : AreTidying w does) (table : IsTable w.table.documents) (s : ℕ) (x : Tidying) (is : does s ≡ Some x) (can : CanTidy w.clusters x) where
  abbrev next : Tidying
  next = tidied_in w x

  abbrev own : Past
  own = tidy_events s x next

  abbrev parts : AllParts
  parts = all_parts w.table w.memories []

  abbrev later : History
  later = after own (history_in w)

  stepped : IsTidyStep starts says w does s x
  stepped = tidying_steps starts says proper w kept does tidies table s x is can

  abbrev now : State
  now = told_of (after_tidied w s x) stepped.formers

  come : IsPresent later s
  come =
      let its = tidies.each s x is in
      record { login = more (is_login_of s) own w.past its.login; stays = events_stay s w.past x next ∙ its.stays }

  abbrev StepOf : State → Work → StepOut → Type 0
  StepOf u v o = IsTidyStepOf starts says s w does x u v o

  -- whatever it does then, and however it answers
  made_step : (v : Work) (o : StepOut) → May starts (scene now.table now.formers later) s v → Tells (history_in w) s (shown_tidying x) o own (shown_work v) → AreOfStep (history_in w) s (shown_tidying x) o own → IsStepOf starts says s w (work.Tidy x) now v o
  made_step v o may tells of_step = record {
    own = own;
    grown = refl;
    kept = stepped.kept;
    may = may;
    apart = λ q k. events_others s w.past x next q k;
    attached = sym (events_attached s x next w.past s);
    unstopped = λ k h. events_stopped s x next w.past k ∙ h;
    changes = tidy_changes starts says proper w kept does tidies s x stepped;
    numbers = λ low. stepped.lets.step.table.numbers;
    holds = stepped.lets.step.holds;
    tells = tells;
    of_step = of_step;
    as_due = events_due s x next;
  }

  goes_step : tidying_ask next ≢ ask.Done → StepOf (after_tidied w s x) (work.Tidy next) (answers.Went (kind_tidied x))
  goes_step busy = record {
    formers = stepped.formers;
    grow = stepped.grow;
    step = made_step (work.Tidy next) (answers.Went (kind_tidied x)) (come, goes_can w.clusters x next (told_to parts (tidying_ask x)) can.asks refl busy) (tidying_goes (history_in w) s parts x) (events_of_step s x next (history_in w));
    tidying = stepped.tidying;
  }

  ends_step : (e : TaskEnd) (told : Event) → TidiesTo s next e told → StepOf (after_tidied w s x) (work.Told told) (answers.Ready e)
  ends_step e told to =
      let ends = tidying_ends (history_in w) s parts x e told to in
      let tells = stepped.ends e told to in
      record {
        formers = stepped.formers;
        grow = stepped.grow;
        step = made_step (work.Told told) (answers.Ready e) (come, may_tell starts says later s told tells.0 tells.1) ends.tells ends.of_step;
        tidying = fewer_tidy now (with_session does s (Some next)) (with_session does s None) (one_less does s next) stepped.tidying;
      }

  -- memory is refused, and what tidied is gone
  refused_step : StepOf (with_reader w s None) work.Rest answers.Memory
  refused_step = record {
    formers = w.formers;
    grow = λ p k f h. h;
    step = record {
      own = [];
      grown = refl;
      kept = gone_whole starts says proper w kept s;
      may = tt;
      apart = λ q k. refl;
      attached = refl;
      unstopped = λ k h. h;
      changes = unchanged w (with_reader w s None) refl refl;
      numbers = numbers_stay w.table;
      holds = holds_still w;
      tells = tidying_refused (history_in w) s x;
      of_step = refl;
      as_due = refl;
    };
    tidying = ends_tidying starts says proper w kept does tidies s;
  }

  -- to the same state, with the same work and the same answer
  at_those : (t u : State) (y v : Work) (o : StepOut) → u ≡ t → v ≡ y → StepOf t y o → StepOf u v o
  at_those t u y v o same is f = subst (λ (z : State). StepOf z v o) (sym same) (subst (λ (z : Work). StepOf t z o) (sym is) f)

  pub tidies_step : (u : State) (v : Work) (o : StepOut) → MakesTidying s w x u v o → StepOf u v o
  tidies_step u v answers.Memory m = at_those (with_reader w s None) u work.Rest v answers.Memory m.0 m.1 refused_step
  tidies_step u v (answers.Went k) m =
      at_those (after_tidied w s x) u (work.Tidy next) v (answers.Went k) m.0 (m.2 ∙ ap work_left m.3.1)
      (subst (λ (z : StepKind). StepOf (after_tidied w s x) (work.Tidy next) (answers.Went z)) (sym m.3.0) (goes_step m.3.2))
  tidies_step u v (answers.Ready e) m = at_those (after_tidied w s x) u (work.Told m.3.0) v (answers.Ready e) m.0 (m.2 ∙ ap work_left m.3.2) (ends_step e m.3.0 m.3.1)
  tidies_step u v _ m = absurd m.3
