-- What a step of a session adds is asked for, where its next command asks for all that it may add.
use mathlib.Core.Bool.{false≢true}
use Rattle.std.proofs.Common.{◌≡◌, ◌⊎◌, inl, inr, ℕ, ◌<◌, Bool, true, false, ◌&&◌, Option, Some, None, List, [], ◌∷◌, ◌++◌, length, is_some, refl, sym, ap, ◌∙◌, subst}
use Rattle.std.specs.Prelude.{◌==◌, reverse, slice_get, slice_set}
use Rattle.std.specs.List.{list_any}
use Rattle.std.specs.Option.{option_map_or}
use Rattle.std.proofs.lemmas.Bool.{and_parts, or_left}
use Rattle.jr_path.specs.Lists.{Text}
use Rattle.jr_path.specs.declared.path.Path.{Path}
use Rattle.jr_rev.specs.declared.revision.Revision.{Revision}
use Rattle.jr_rev.specs.declared.vector.Pin.{Pin}
use Rattle.jr_rev.specs.declared.vector.RevVec.{RevVec}
use Rattle.oak_machine.specs.declared.event.Draw.{Draw}
use Rattle.oak_machine.specs.declared.event.Event.{Event}
use Rattle.oak_machine.specs.declared.event.Event.TheVariants as event
use Rattle.oak_machine.specs.declared.event.StepKind.{StepKind}
use Rattle.oak_machine.specs.declared.event.StepKind.TheVariants as kind
use Rattle.oak_machine.specs.Asked.{AreAskedIn, IsAsked, IsAskedFor, is_made_by}
use Rattle.oak_machine.specs.Commits.{draw_of}
use Rattle.oak_machine.specs.History.{History, Past}
use Rattle.oak_machine.specs.Laws.{Asks, Says, Starts, StartsProper, StartsWrite, after, is_revision_of}
use Rattle.oak_machine.specs.Runs.{IsRunOf, StartsLast, is_task_end}
use Rattle.oak_machine.specs.Sessions.{is_stopped, next_index}
use Rattle.oak_machine.specs.Steps.{is_appended_by, is_kind, moves_head, is_on, kinds_for, leaves_went, where_test}
use Rattle.core_heads.proofs.Passing.{next_stays}
use Rattle.core_world.proofs.Flights.{same_number}
use Rattle.core_world.proofs.Logged.{IsDrawnBy, drawn_by}
use Rattle.oak_port.specs.declared.task.StepOut.{StepOut}
use Rattle.oak_port.specs.declared.task.StepOut.TheVariants as out
use Rattle.oak_port.specs.declared.task.Task.{Task}
use Rattle.oak_port.specs.declared.task.Task.TheVariants as task
use Rattle.oak_port.specs.declared.task.TaskEnd.TheVariants as end
use Rattle.oak_port.specs.Ports.{AreOfStep, Awaiting, BoundsOn, Collecting, CollectsOn, Deciding, Detaching, Idle, IsAskedOf, IsFinish, Learning, Makes, MayAppend, Passing, Publishing, SplitsOn, Starting, Sweeping, SweepsOn, Telling, Undoing, Work as Shows, Writing, WritesOn, last_kind}
use Rattle.oak_step.specs.declared.work.Work.{Work}
use Rattle.oak_step.specs.declared.work.Work.TheVariants as work
use Rattle.oak_step.specs.Works.{Begins}
use Rattle.oak_world.specs.Ends.{MayTell}
use Rattle.oak_world.specs.Kept.{IsAskedWorld, IsWorld}
use Rattle.oak_world.specs.Seen.{shown_work}
use Rattle.oak_world.specs.Steps.{StepsIn}
use Rattle.oak_world.specs.Worlds.{ActorState, WorldOf, actor_in, live, said_in, state_of, told_first, with_formers, with_reply, with_work, work_in}
use Rattle.oak_world.proofs.Ends.{end_next}
use Rattle.oak_world.proofs.Keeping.{begins_shown, does_now, grown, others_are, seat, set_is, step_is, steps}
use Rattle.oak_world.proofs.StepsOf.{IsStepOf, apart_one, flipped}

-- ---- by what is told of a step

abbrev is_said : Event → Bool
is_said (event.Said s i text) = true
is_said _ = false

-- what a step adds: nothing, or an event that may be appended and is no reply, or the end of a
-- revision and the head that it moved, which both may be
abbrev IsToAppend : Shows → Past → Type 0
IsToAppend work own =
    (own ≡ [])
    ⊎ ((e : Event) × (own ≡ e ∷ []) × MayAppend work e × (is_said e ≡ false))
    ⊎ ((r : Revision) × (k : ℕ) × (v : RevVec) × (own ≡ event.Head k v ∷ event.End r ∷ []) × MayAppend work (event.End r) × MayAppend work (event.Head k v))

-- what may be appended now might have been before
abbrev pub IsLess : Shows → Shows → Type 0
IsLess work now = (e : Event) → MayAppend now e → MayAppend work e

less_by : (work now next : Shows) → now ≡ next → IsLess work next → IsLess work now
less_by work now next is less = subst (λ (x : Shows). IsLess work x) (sym is) less

no_more : (work now : Shows) → now ≡ Idle → IsLess work now
no_more work now is = less_by work now Idle is (λ e none. absurd none)

finishes : (work : Shows) (r : Revision) (own : Past) → MayAppend work (event.End r) → ((k : ℕ) (v : RevVec) → MayAppend work (event.Head k v)) → IsFinish r own → IsToAppend work own
finishes work r own ends moves (inl is) = inr (inl (event.End r, is, ends, refl))
finishes work r own ends moves (inr m) = inr (inr (r, m.0, m.1, m.2, ends, moves m.0 m.1))

writes : (s : ℕ) (r : Revision) (k : StepKind) (own : Past) (now : Shows) → WritesOn s r k own now → IsToAppend (Writing r) own
writes s r k own now (inl m) = inr (inl (event.Went s kind.Write, m.1, refl, refl))
writes s r k own now (inr (inl m)) = inl m.1
writes s r k own now (inr (inr (inl m))) = inr (inl (event.Went s kind.Mark, m.1, refl, refl))
writes s r k own now (inr (inr (inr (inl m)))) = inr (inl (event.Commit r, m.1, refl, refl))
writes s r k own now (inr (inr (inr (inr m)))) = inr (inl (event.Refuse r m.0 m.1, m.3, refl, refl))

writes_less : (s : ℕ) (r : Revision) (k : StepKind) (own : Past) (now : Shows) → WritesOn s r k own now → IsLess (Writing r) now
writes_less s r k own now (inl (a, b, inl is)) = less_by (Writing r) now _ is (λ e may. may)
writes_less s r k own now (inl (a, b, inr is)) = less_by (Writing r) now _ is (λ e may. may)
writes_less s r k own now (inr (inl (a, b, inl is))) = less_by (Writing r) now _ is (λ e may. may)
writes_less s r k own now (inr (inl (a, b, inr is))) = less_by (Writing r) now _ is (λ e may. may)
writes_less s r k own now (inr (inr (inl m))) = less_by (Writing r) now _ m.2 (λ e may. may)
writes_less s r k own now (inr (inr (inr (inl m)))) = less_by (Writing r) now _ m.2 (λ e may. may)
writes_less s r k own now (inr (inr (inr (inr m)))) = less_by (Writing r) now _ m.4 (λ e may. may)

passes : (h : History) (s : ℕ) (r : Revision) (k : StepKind) (own : Past) (now : Shows) → SweepsOn h s r k own now → IsToAppend (Passing r) own × IsLess (Passing r) now
passes h s r k own now (is, inl m) = (inr (inl (event.Went s kind.Sweep, m.0, tt, refl)), less_by (Passing r) now _ m.1 (λ e may. may))
passes h s r k own now (is, inr m) = (inr (inl (event.Sweep m.0 r, m.2, tt, refl)), less_by (Passing r) now _ m.3 (λ e may. may))

-- a split or a collection that has ended may append how
told_less : (work now : Shows) (e : Event) → now ≡ Telling e → MayAppend work e → IsLess work now
told_less work now e is may = less_by work now (Telling e) is (λ f same. subst (λ (x : Event). MayAppend work x) (sym same) may)

splits_add : (s : ℕ) (p : Path) (k : StepKind) (own : Past) → SplitsOn s k own → IsToAppend (Starting (task.Split p)) own
splits_add s p k own (inl m) = inl m.1
splits_add s p k own (inr m) = inr (inl (event.Went s kind.Split, m.1, tt, refl))

bounds_add : (s : ℕ) (own : Past) (now : Shows) → BoundsOn s own now → IsToAppend (Starting task.Collect) own × IsLess (Starting task.Collect) now
bounds_add s own now (inl m) = (inr (inl (event.Went s kind.Bound, m.0, tt, refl)), less_by (Starting task.Collect) now _ m.1 (λ e may. may))
bounds_add s own now (inr m) = (inr (inl (event.Bound m.0 m.1, m.2, tt, refl)), less_by (Starting task.Collect) now _ m.3 (λ e may. may))

collects_add : (s : ℕ) (k : StepKind) (own : Past) → CollectsOn s k own → IsToAppend Collecting own
collects_add s k own (inl m) = inl m.1
collects_add s k own (inr m) = inr (inl (event.Went s kind.Collect, m.1, tt, refl))

-- a step adds what it may append, and may append no more then
adds : (h : History) (s : ℕ) (work : Shows) (o : StepOut) (own : Past) (now : Shows) → Makes h s work o own now → IsToAppend work own × IsLess work now
adds h s (Starting task.Login) (out.Ready (end.Pinned pin)) own now m = (inr (inl (event.Login s pin.base, m.0, tt, refl)), no_more (Starting task.Login) now m.1)
adds h s (Starting task.Refresh) (out.Ready (end.Pinned pin)) own now m = (inr (inl (event.Refresh s pin.base, m.0, tt, refl)), no_more (Starting task.Refresh) now m.1)
adds h s (Starting task.End) (out.Ready end.Ended) own now m = (inr (inl (event.Went s kind.End, m.0, tt, refl)), no_more (Starting task.End) now m.1)
adds h s (Starting (task.Load p)) (out.Went k) own now m = (inl m.1, less_by (Starting (task.Load p)) now _ m.2 (λ e may. may))
adds h s (Starting (task.Load p)) (out.Ready (end.Node found)) own now m = (inl m.1, no_more (Starting (task.Load p)) now m.2)
adds h s (Starting (task.List p)) (out.Went k) own now m = (inl m.1, less_by (Starting (task.List p)) now _ m.2 (λ e may. may))
adds h s (Starting (task.List p)) (out.Ready (end.Children names)) own now m = (inl m.1, no_more (Starting (task.List p)) now m.2)
adds h s (Starting (task.Commit edit marks)) (out.Went k) own now m = (inr (inl (event.Draw m.0, m.3, refl, refl)), less_by (Starting (task.Commit edit marks)) now _ m.4 (λ e may. may))
adds h s (Starting task.BackWrite) (out.Went k) own now m = (inr (inl (event.Went s kind.Back, m.3, tt, refl)), less_by (Starting task.BackWrite) now _ m.4 (λ e may. may))
adds h s (Starting task.BackRead) (out.Went k) own now m = (inr (inl (event.Went s kind.Back, m.3, tt, refl)), less_by (Starting task.BackRead) now _ m.4 (λ e may. may))
adds h s (Starting task.Sweep) (out.Went k) own now m = (inr (inl (event.Went s kind.Sweep, m.3, tt, refl)), less_by (Starting task.Sweep) now _ m.4 (λ e may. may))
adds h s (Starting (task.Checkpoint i)) (out.Ready (end.Set None)) own now m = (inr (inl (event.Checkpoint i m.0, m.2, refl, refl)), no_more (Starting (task.Checkpoint i)) now m.3)
adds h s (Starting (task.Release i)) (out.Ready (end.Set None)) own now m = (inr (inl (event.Release i, m.0, refl, refl)), no_more (Starting (task.Release i)) now m.1)
adds h s (Starting (task.Release i)) (out.Ready end.NoCheckpoint) own now m = (inr (inl (event.Went s kind.Settings, m.1, tt, refl)), no_more (Starting (task.Release i)) now m.2)
adds h s (Starting (task.Attach i)) (out.Ready (end.Set (Some pin))) own now m = (inr (inl (event.Attach s i, m.1, refl, refl)), no_more (Starting (task.Attach i)) now m.2)
adds h s (Starting (task.Attach i)) (out.Ready end.NoCheckpoint) own now m = (inr (inl (event.Went s kind.Settings, m.1, tt, refl)), no_more (Starting (task.Attach i)) now m.2)
adds h s (Starting task.Detach) (out.Went k) own now m = (inr (inl (event.Refresh s m.0, m.2, tt, refl)), less_by (Starting task.Detach) now _ m.3 (λ e may. may))
adds h s (Starting (task.Changes since)) (out.Went k) own now m = (inl m.1, less_by (Starting (task.Changes since)) now _ m.2 (λ e may. may))
adds h s (Starting (task.Changes since)) (out.Ready (end.Changes found)) own now m = (inl m.3, no_more (Starting (task.Changes since)) now m.4)
adds h s (Starting task.Observe) (out.Ready (end.Pinned pin)) own now m = (inr (inl (event.Went s kind.Pin, m.1, tt, refl)), no_more (Starting task.Observe) now m.2)
adds h s (Starting t) out.Memory own now m = (inl m.0, no_more (Starting t) now m.1)
adds h s (Publishing r) (out.Went k) own now m = (inr (inl (event.Went s kind.Back, m.1, tt, refl)), less_by (Publishing r) now _ m.2 (λ e may. may))
adds h s (Publishing r) (out.Ready (end.Published o)) own now m = (inr (inl (event.Out m.0 r, m.3, tt, refl)), no_more (Publishing r) now m.4)
adds h s (Publishing r) out.Memory own now m = (inl m.0, no_more (Publishing r) now m.1)
adds h s (Learning u) (out.Ready (end.Learnt v)) own now m = (inr (inl (event.In m.0 v, m.3, tt, refl)), no_more (Learning u) now m.4)
adds h s (Learning u) out.Memory own now m = (inl m.0, no_more (Learning u) now m.1)
adds h s (Passing r) (out.Went k) own now m = passes h s r k own now m
adds h s (Passing r) out.Memory own now m = (inl m.0, no_more (Passing r) now m.1)
adds h s (Sweeping r) (out.Ready (end.Swept o)) own now m = (inr (inl (event.Went s kind.Learn, m.1, tt, refl)), no_more (Sweeping r) now m.2)
adds h s (Sweeping r) out.Memory own now m = (inl m.0, no_more (Sweeping r) now m.1)
adds h s (Starting (task.Split p)) (out.Went k) own now m = (splits_add s p k own m.0, less_by (Starting (task.Split p)) now _ m.1 (λ e may. may))
adds h s (Starting (task.Split p)) (out.Ready (end.Split f)) own now m = (splits_add s p m.0 own m.1, told_less (Starting (task.Split p)) now (event.Split s p f) m.2 refl)
adds h s (Starting task.Collect) (out.Went k) own now m = bounds_add s own now m.1
adds h s Collecting (out.Went k) own now m = (collects_add s k own m.0, less_by Collecting now _ m.1 (λ e may. may))
adds h s Collecting (out.Ready (end.Collected c)) own now m = (inr (inl (event.Went s kind.Collect, m.0, tt, refl)), told_less Collecting now (event.Collected s c) m.1 tt)
adds h s Collecting out.Memory own now m = (inl m.0, no_more Collecting now m.1)
adds h s (Detaching v) (out.Ready (end.Pinned pin)) own now m = (inr (inl (event.Detach s, m.1, tt, refl)), no_more (Detaching v) now m.2)
adds h s (Detaching v) out.Memory own now m = (inl m.0, no_more (Detaching v) now m.1)
adds h s (Writing r) (out.Went k) own now m = (writes s r k own now m, writes_less s r k own now m)
adds h s (Writing r) out.Memory own now m = (inl m.0, less_by (Writing r) now _ m.1 (λ e may. may))
adds h s (Undoing r e) (out.Went k) own now m = (inr (inl (event.Went s kind.Undo, m.1, refl, refl)), less_by (Undoing r e) now _ m.2 (λ e may. may))
adds h s (Undoing r e) (out.Ready (end.Commit f)) own now m = (finishes (Undoing r e) r own refl (λ k v. refl) m.1, no_more (Undoing r e) now m.2)
adds h s (Deciding r) (out.Went k) own now m = (finishes (Deciding r) r own refl (λ k v. refl) m.1, less_by (Deciding r) now _ m.2 (λ e may. may))
adds h s (Awaiting r) (out.Wait q) own now m = (inl m.0, less_by (Awaiting r) now _ m.1 (λ e may. may))
adds h s (Awaiting r) (out.Ready (end.Commit f)) own now m = (inr (inl (event.Refresh s m.2, m.4, refl, refl)), no_more (Awaiting r) now m.5)
adds h s work o own now m = absurd m

-- ---- by the kind of a step

pub tested : (k : StepKind) (b : Bool) (ks : List StepKind) → list_any (is_kind k) (where_test b ks) ≡ true → b ≡ true
tested k true ks h = refl
tested k false ks h = absurd (false≢true h)

-- a kind is appended by events that are those of the kind
pub of_kind : (h : History) (s : ℕ) (k : StepKind) (e : Event) (es : List Event) → is_appended_by h s k (e ∷ es) ≡ true → list_any (is_kind k) (kinds_for h s (e ∷ es)) ≡ true
of_kind h s kind.Read e es t = t
of_kind h s _ e es t = t

-- a step that adds has a kind
kind_of : (h : History) (s : ℕ) (work : Shows) (o : StepOut) (own : Past) → AreOfStep h s work o own → (own ≡ []) ⊎ ((k : StepKind) × (is_appended_by h s k (reverse own) ≡ true))
kind_of h s work (out.Went k) own t = inr (k, t)
kind_of h s work (out.Ready e) own t = inr (last_kind work own, t)
kind_of h s work _ own t = inl t

-- an event of a kind is one that a step of the session may append
made_by : (h : History) (s : ℕ) (k : StepKind) (e : Event) → list_any (is_kind k) (kinds_for h s (e ∷ [])) ≡ true → is_made_by h s e ≡ true
made_by h s k (event.Login t v) own = tested k _ _ own
made_by h s k (event.Refresh t v) own = tested k _ _ own
made_by h s k (event.Draw d) own = tested k _ _ own
made_by h s k (event.Commit r) own = tested k _ _ own
made_by h s k (event.Refuse r item o) own = tested k _ _ own
made_by h s k (event.End r) own = or_left _ _ (and_parts (is_revision_of h.past s r) _ (tested k _ _ own)).0
made_by h s k (event.Head c v) own = absurd (false≢true own)
made_by h s k (event.Out c r) own = or_left (is_on h s c) (is_stopped h.past c) (tested k (is_on h s c) (kind.Back ∷ []) own)
made_by h s k (event.In c v) own = tested k _ _ own
made_by h s k (event.Sweep c r) own = or_left (is_on h s c) (is_stopped h.past c) (tested k (is_on h s c) (kind.Sweep ∷ []) own)
made_by h s k (event.Bound m t) own = refl
made_by h s k (event.Checkpoint id v) own = refl
made_by h s k (event.Attach t id) own = tested k _ _ own
made_by h s k (event.Detach t) own = tested k _ _ own
made_by h s k (event.Release id) own = refl
made_by h s k (event.Split t path e) own = absurd (false≢true own)
made_by h s k (event.Collected t c) own = absurd (false≢true own)
made_by h s k (event.Went t x) own = (and_parts (t == s) (leaves_went x) (tested k _ _ own)).0
made_by h s k (event.Said t i text) own = tested k _ _ own
made_by h s k (event.Stop c) own = refl
made_by h s k (event.Recover c) own = refl

-- the session of a revision is of its cluster node
revision_on : (starts : Starts) (says : Says) (clusters : ℕ) (sessions : List ℕ) (past : Past) → IsRunOf starts says clusters sessions None past → (s : ℕ) (r : Revision) (k : ℕ) → is_revision_of past s r ≡ true → (r.cluster == k) ≡ true → option_map_or (λ m. m == k) (slice_get sessions s) false ≡ true
revision_on starts says clusters sessions past run s r k theirs near = by (draw_of past r) refl theirs
  where
    by : (o : Option Draw) → draw_of past r ≡ o → option_map_or (λ d. d.session == s) o false ≡ true → option_map_or (λ m. m == k) (slice_get sessions s) false ≡ true
    by None is h = absurd (false≢true h)
    by (Some d) is h =
        let its : IsDrawnBy sessions past r d = drawn_by starts says clusters sessions None past r d run is in
        ap (λ (n : ℕ). option_map_or (λ m. m == k) (slice_get sessions n) false) (sym (same_number d.session s h))
        ∙ (ap (λ (o : Option ℕ). option_map_or (λ m. m == k) o false) its.node
        ∙ (ap (λ (q : Revision). q.cluster == k) its.named ∙ near))

-- ---- the histories

-- what was asked for, whatever is added
pub still_asked : (asks : Asks) (h : History) (now past : Past) → AreAskedIn asks h past → AreAskedIn asks (record h { past = now }) past
still_asked asks h now [] asked = tt
still_asked asks h now (e ∷ past) asked = (asked.0, still_asked asks h now past asked.1)

asked_for : (asks : Asks) (h : History) (e : Event) → IsAskedFor asks h e → IsAsked asks h e
asked_for asks h (event.Said s i text) asked = tt
asked_for asks h _ asked = asked

-- an event that is no reply leaves the index of each session's next reply
same_next : (q : ℕ) (e : Event) (past : Past) → is_said e ≡ false → next_index (e ∷ past) q ≡ next_index past q
same_next q (event.Said s i text) past h = absurd (false≢true (sym h))
same_next q _ past h = refl

-- after a step all is asked for, each session's next command is the same, and no more may be
-- appended than before
pub record IsAskedStep (asks : Asks) (h : History) (own : Past) (work now : Shows) : Type 0 where
  pub made : AreAskedIn asks (after own h) (own ++ h.past)
  pub next : (q : ℕ) → next_index (own ++ h.past) q ≡ next_index h.past q
  pub less : IsLess work now

module _ (asks : Asks) (starts : Starts) (says : Says) (clusters : ℕ) (sessions : List ℕ) (past : Past) (run : IsRunOf starts says clusters sessions None past) (s : ℕ) (work : Shows)
    (asked : AreAskedIn asks (record { clusters = clusters; sessions = sessions; begin = None; past = past }) past) (coming : (e : Event) → MayAppend work e → asks s (next_index past s) e) where
  abbrev h : History
  h = record { clusters = clusters; sessions = sessions; begin = None; past = past }

  abbrev Keeps : Past → Type 0
  Keeps own = AreAskedIn asks (after own h) (own ++ past) × ((q : ℕ) → next_index (own ++ past) q ≡ next_index past q)

  none_kept : Keeps []
  none_kept = (asked, λ q. refl)

  one_kept : (k : StepKind) (e : Event) → is_appended_by h s k (e ∷ []) ≡ true → MayAppend work e → is_said e ≡ false → Keeps (e ∷ [])
  one_kept k e appended may plain = (
    (asked_for asks h e (record { session = s; made = made_by h s k e (of_kind h s k e [] appended); asked = coming e may }), still_asked asks h (e ∷ past) past asked),
    λ q. same_next q e past plain,
  )

  two_kept : (k : StepKind) (r : Revision) (c : ℕ) (v : RevVec) → is_appended_by h s k (event.End r ∷ event.Head c v ∷ []) ≡ true → MayAppend work (event.End r) → MayAppend work (event.Head c v) → Keeps (event.Head c v ∷ event.End r ∷ [])
  two_kept k r c v appended ends moves =
      let all = and_parts (is_revision_of past s r && moves_head h r) (r.cluster == c) (tested k _ _ (of_kind h s k (event.End r) (event.Head c v ∷ []) appended)) in
      let theirs : is_revision_of past s r ≡ true = (and_parts (is_revision_of past s r) (moves_head h r) all.0).0 in (
        (
          record { session = s; made = revision_on starts says clusters sessions past run s r c theirs all.1; asked = coming (event.Head c v) moves },
          (record { session = s; made = or_left _ _ theirs; asked = coming (event.End r) ends }, still_asked asks h (event.Head c v ∷ event.End r ∷ past) past asked),
        ),
        λ q. refl,
      )

  kept_by : (k : StepKind) (own : Past) → is_appended_by h s k (reverse own) ≡ true → IsToAppend work own → Keeps own
  kept_by k own appended (inl is) = subst Keeps (sym is) none_kept
  kept_by k own appended (inr (inl m)) = subst Keeps (sym m.1) (one_kept k m.0 (subst (λ (xs : Past). is_appended_by h s k (reverse xs) ≡ true) m.1 appended) m.2 m.3)
  kept_by k own appended (inr (inr m)) = subst Keeps (sym m.3) (two_kept k m.0 m.1 m.2 (subst (λ (xs : Past). is_appended_by h s k (reverse xs) ≡ true) m.3 appended) m.4 m.5)

  pub step_asked : (o : StepOut) (own : Past) (now : Shows) → Makes h s work o own now → AreOfStep h s work o own → IsAskedStep asks h own work now
  step_asked o own now makes of_step =
      let added = adds h s work o own now makes in
      let kept = by (kind_of h s work o own of_step) added.0 in
      record { made = kept.0; next = kept.1; less = added.1 }
    where
      by : (own ≡ []) ⊎ ((k : StepKind) × (is_appended_by h s k (reverse own) ≡ true)) → IsToAppend work own → Keeps own
      by (inl is) may = subst Keeps (sym is) none_kept
      by (inr m) may = kept_by m.0 own m.1 may

-- ---- a world after each call for one of its sessions

module _ (asks : Asks) {L : Type 0} (w : WorldOf L) (asked : IsAskedWorld asks w) (s : ℕ) (seated : s < length w.actors) where
  -- a session does something else, and no event is added
  module _ (a : ActorState) where
    abbrev now : List ActorState
    now = slice_set w.actors s a

    set_asked : ((e : Event) → MayAppend (shown_work a.work) e → asks s (next_index w.history.past s) e) → IsAskedWorld asks (record w { actors = now })
    set_asked its = record { made = asked.made; coming = λ q. by q (q == s) refl }
      where
        by : (q : ℕ) (b : Bool) → (q == s) ≡ b → (e : Event) → MayAppend (shown_work (work_in now q)) e → asks q (next_index w.history.past q) e
        by q true same e may =
            let n : q ≡ s = same_number q s same in
            subst (λ (i : ℕ). asks i (next_index w.history.past i) e) (sym n)
            (its e (subst (λ (x : ActorState). MayAppend (shown_work x.work) e) (set_is w s seated now a refl) (subst (λ (i : ℕ). MayAppend (shown_work (work_in now i)) e) n may)))
        by q false apart e may = asked.coming q e (subst (λ (x : ActorState). MayAppend (shown_work x.work) e) (others_are w s seated now a refl q apart) may)

  pub reply_asked : (room : Option ℕ) → IsAskedWorld asks (with_reply w s room)
  reply_asked room = set_asked (record (actor_in w.actors s) { reply = room }) (asked.coming s)

  pub start_asked : (n : ℕ) (pin : Option Pin) (t : Task) (v : Work) → Begins n pin t v → IsAskedOf asks (live w.history) s t → IsAskedWorld asks (with_work w s v)
  start_asked n pin t v begins so = set_asked (record (actor_in w.actors s) { work = v; began = length w.history.past }) (λ e may. so e (subst (λ (x : Shows). MayAppend x e) (begins_shown n pin t v begins) may))

  -- a reply is said, and before it how the session's task ended
  module _ (may : (e : Event) → work_in w.actors s ≡ work.Told e → MayTell (live w.history) s e) (i : ℕ) (text : Text) where
    abbrev said : WorldOf L
    said = said_in w s i text

    abbrev quiet : ActorState
    quiet = record (actor_in w.actors s) { work = work.Rest; reply = None }

    -- the events so far, once that is told
    abbrev told : Work → Past
    told v = told_first v ++ w.history.past

    -- how its task ended its next command asks for
    end_made : (e : Event) → is_task_end s e ≡ true → is_made_by (live w.history) s e ≡ true
    end_made (event.Split t path o) own = own
    end_made (event.Collected t c) own = own
    end_made _ own = absurd (false≢true own)

    first_made : (v : Work) → work_in w.actors s ≡ v → AreAskedIn asks (record (live w.history) { past = told v }) (told v)
    first_made (work.Told e) at = (
      asked_for asks (live w.history) e (record { session = s; made = end_made e (may e at).own; asked = asked.coming s e (subst (λ (v : Work). MayAppend (shown_work v) e) (sym at) refl) }),
      still_asked asks (live w.history) (e ∷ w.history.past) w.history.past asked.made,
    )
    first_made _ at = asked.made

    made_said : AreAskedIn asks (live said.history) said.history.past
    made_said = (tt, still_asked asks (record (live w.history) { past = told (work_in w.actors s) }) said.history.past (told (work_in w.actors s)) (first_made (work_in w.actors s) refl))

    next_said : (q : ℕ) → (q == s) ≡ false → next_index said.history.past q ≡ next_index w.history.past q
    next_said q apart =
        next_stays said.history.past (event.Said s i text ∷ []) (told (work_in w.actors s)) q (apart_one (told (work_in w.actors s)) s (event.Said s i text) (λ p h. flipped p s h) q apart)
        ∙ by (work_in w.actors s) may
      where
        by : (v : Work) → ((e : Event) → v ≡ work.Told e → MayTell (live w.history) s e) → next_index (told v) q ≡ next_index w.history.past q
        by (work.Told e) tells = end_next s w.history.past q e (tells e refl).own
        by _ tells = refl

    pub said_asked : IsAskedWorld asks said
    said_asked = record { made = made_said; coming = λ q. by q (q == s) refl }
      where
        by : (q : ℕ) (b : Bool) → (q == s) ≡ b → (e : Event) → MayAppend (shown_work (work_in said.actors q)) e → asks q (next_index said.history.past q) e
        by q true same e may = absurd (subst (λ (x : Work). MayAppend (shown_work x) e) (ap (work_in said.actors) (same_number q s same) ∙ ap (λ (x : ActorState). x.work) (set_is w s seated said.actors quiet refl)) may)
        by q false apart e may = subst (λ (n : ℕ). asks q n e) (sym (next_said q apart)) (asked.coming q e (subst (λ (x : ActorState). MayAppend (shown_work x.work) e) (others_are w s seated said.actors quiet refl q apart) may))

-- a step is made
module _ (starts : Starts) (says : Says) (proper : StartsProper starts) (writes : StartsWrite starts) (last : StartsLast starts says) {L : Type 0} (w : WorldOf L) (is : IsWorld starts says w) (s : ℕ) (there : is_some (slice_get w.history.sessions s) ≡ true) (u : WorldOf L) (o : StepOut) (m : StepsIn w s u o)
    (asks : Asks) (asked : IsAskedWorld asks w) where
  abbrev step : IsStepOf starts says s (with_formers (state_of w) is.formers) (work_in w.actors s) (with_formers (state_of u) (steps starts says proper writes last w is s there u o m).formers) m.does o
  step = step_is starts says proper writes last w is s there u o m

  abbrev grows : live u.history ≡ after step.own (live w.history)
  grows = grown starts says proper writes last w is s there u o m

  stepped : IsAskedStep asks (live w.history) step.own (shown_work (work_in w.actors s)) (shown_work m.does)
  stepped = step_asked asks starts says w.history.clusters w.history.sessions w.history.past is.kept.sessions.run s (shown_work (work_in w.actors s)) asked.made (asked.coming s) o step.own (shown_work m.does) step.tells step.of_step

  next : (q : ℕ) → next_index u.history.past q ≡ next_index w.history.past q
  next q = ap (λ (h : History). next_index h.past q) grows ∙ stepped.next q

  pub step_keeps_asked : IsAskedWorld asks u
  step_keeps_asked = record { made = subst (λ (h : History). AreAskedIn asks h h.past) (sym grows) stepped.made; coming = λ q. by q (q == s) refl }
    where
      by : (q : ℕ) (b : Bool) → (q == s) ≡ b → (e : Event) → MayAppend (shown_work (work_in u.actors q)) e → asks q (next_index u.history.past q) e
      by q true same e may =
          let n : q ≡ s = same_number q s same in
          subst (λ (i : ℕ). asks q i e) (sym (next q))
          (subst (λ (i : ℕ). asks i (next_index w.history.past i) e) (sym n)
          (asked.coming s e (stepped.less e (subst (λ (x : Work). MayAppend (shown_work x) e) (ap (work_in u.actors) n ∙ does_now starts says proper writes last w is s there u o m) may))))
      by q false apart e may =
          subst (λ (i : ℕ). asks q i e) (sym (next q))
          (asked.coming q e (subst (λ (x : ActorState). MayAppend (shown_work x.work) e) (others_are w s (seat starts says proper writes last w is s there) u.actors _ m.actors q apart) may))
