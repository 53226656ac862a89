-- How a split or a collection has ended may be told at a world, and at what a pass has seen of it.
use mathlib.Core.Bool.{false≢true}
use Rattle.std.proofs.Common.{◌≡◌, ℕ, Bool, true, false, ◌&&◌, Option, Some, None, ◌∷◌, ◌++◌, refl, ap, ◌∙◌}
use Rattle.std.specs.Prelude.{◌==◌, slice_get}
use Rattle.std.specs.List.{list_all, list_any}
use Rattle.std.specs.Option.{option_map_or, unwrap_or}
use Rattle.std.proofs.lemmas.List.Sums.{AllPass-from_list_all, list_all-from_AllPass}
use Rattle.basics.proofs.Bools.{first_of_both, second_of_both}
use Rattle.oak_machine.specs.declared.event.Event.{Event}
use Rattle.oak_machine.specs.declared.event.Event.TheVariants as event
use Rattle.oak_machine.specs.History.{History, Past}
use Rattle.oak_machine.specs.Laws.{Says, Starts}
use Rattle.oak_machine.specs.Runs.{MayFollow, is_bound, is_skip, is_split_end, is_task_end}
use Rattle.oak_machine.specs.Sessions.{has_login, since}
use Rattle.oak_step.specs.declared.work.Work.{Work}
use Rattle.oak_step.specs.declared.work.Work.TheVariants as work
use Rattle.oak_world.specs.Ends.{MayTell}
use Rattle.oak_world.specs.Worlds.{ActorState, WorldOf, idle, live, told_first, work_in}
use Rattle.oak_world.proofs.Ends.{end_others}
use Rattle.jr_shared.specs.Ends.{may_end, may_tell}
use Rattle.jr_shared.specs.Meanings.{own_events}
use Rattle.jr_shared.proofs.Shapes.{own_kept}

both : (a b : Bool) → a ≡ true → b ≡ true → (a && b) ≡ true
both true b p q = q
both false b p q = absurd (false≢true p)

-- ---- one event

tell_end : (h : History) (s : ℕ) (e : Event) → MayTell h s e → may_end h.past s e ≡ true
tell_end h s (event.Split t path o) m = both (t == s) (has_login h.past t && is_split_end o) m.own (both (has_login h.past t) (is_split_end o) m.follows.0 m.follows.1)
tell_end h s (event.Collected t c) m =
    let skips : list_all (λ skip. is_skip skip.1 skip.2) c.skipped ≡ true = list_all-from_AllPass (λ skip. is_skip skip.1 skip.2) c.skipped m.follows.skips in
    both (t == s) (has_login h.past t && (list_any is_bound (since h.past t) && list_all (λ skip. is_skip skip.1 skip.2) c.skipped)) m.own
    (both (has_login h.past t) (list_any is_bound (since h.past t) && list_all (λ skip. is_skip skip.1 skip.2) c.skipped) m.follows.login
    (both (list_any is_bound (since h.past t)) (list_all (λ skip. is_skip skip.1 skip.2) c.skipped) m.follows.bound skips))
tell_end h s _ m = absurd (false≢true m.own)

pub end_own : (past : Past) (s : ℕ) (e : Event) → may_end past s e ≡ true → is_task_end s e ≡ true
end_own past s (event.Split t path o) k = first_of_both (t == s) (has_login past t && is_split_end o) k
end_own past s (event.Collected t c) k = first_of_both (t == s) (has_login past t && (list_any is_bound (since past t) && list_all (λ skip. is_skip skip.1 skip.2) c.skipped)) k
end_own past s _ k = absurd (false≢true k)

pub end_follows : (starts : Starts) (says : Says) (h : History) (s : ℕ) (e : Event) → may_end h.past s e ≡ true → MayFollow starts says h e
end_follows starts says h s (event.Split t path o) k =
    let rest = second_of_both (t == s) (has_login h.past t && is_split_end o) k in
    (first_of_both (has_login h.past t) (is_split_end o) rest, second_of_both (has_login h.past t) (is_split_end o) rest)
end_follows starts says h s (event.Collected t c) k =
    let rest = second_of_both (t == s) (has_login h.past t && (list_any is_bound (since h.past t) && list_all (λ skip. is_skip skip.1 skip.2) c.skipped)) k in
    let more = second_of_both (has_login h.past t) (list_any is_bound (since h.past t) && list_all (λ skip. is_skip skip.1 skip.2) c.skipped) rest in
    record {
      login = first_of_both (has_login h.past t) (list_any is_bound (since h.past t) && list_all (λ skip. is_skip skip.1 skip.2) c.skipped) rest;
      bound = first_of_both (list_any is_bound (since h.past t)) (list_all (λ skip. is_skip skip.1 skip.2) c.skipped) more;
      skips = AllPass-from_list_all (λ skip. is_skip skip.1 skip.2) c.skipped (second_of_both (list_any is_bound (since h.past t)) (list_all (λ skip. is_skip skip.1 skip.2) c.skipped) more);
    }
end_follows starts says h s _ k = absurd (false≢true k)

pub told_apart : (past : Past) (s q : ℕ) (v : Work) → ((e : Event) → v ≡ work.Told e → is_task_end s e ≡ true) → (q == s) ≡ false → own_events (told_first v ++ past) q ≡ own_events past q
told_apart past s q (work.Told e) own apart = own_kept past q e (end_others s (e ∷ past) q apart e (own e refl))
told_apart past s q _ own apart = refl

-- ---- at a world

work_tells : (h : History) (s : ℕ) (v : Work) → ((e : Event) → v ≡ work.Told e → MayTell h s e) → may_tell h.past s v ≡ true
work_tells h s (work.Told e) told = tell_end h s e (told e refl)
work_tells h s _ told = refl

-- what a session that has a seat is to tell may be told
pub seat_tells : {L : Type 0} (w : WorldOf L) → ((s : ℕ) (e : Event) → work_in w.actors s ≡ work.Told e → MayTell (live w.history) s e) → (q : ℕ) → option_map_or (λ a. may_tell w.history.past q a.work) (slice_get w.actors q) true ≡ true
seat_tells w told q = by (slice_get w.actors q) refl
  where
    by : (o : Option ActorState) → slice_get w.actors q ≡ o → option_map_or (λ a. may_tell w.history.past q a.work) o true ≡ true
    by None is = refl
    by (Some a) is = work_tells (live w.history) q a.work (λ e at. told q e (ap (λ (o : Option ActorState). (unwrap_or o idle).work) is ∙ at))

-- and so what it does tells
pub work_told : (past : Past) (q : ℕ) (o : Option ActorState) → option_map_or (λ a. may_tell past q a.work) o true ≡ true → may_tell past q (unwrap_or o idle).work ≡ true
work_told past q None h = refl
work_told past q (Some a) h = h
