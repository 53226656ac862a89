-- What a pass of a world knows, and what a call of the world under one hold of the lock makes of
-- both.
use Rattle.std.specs.Prelude.{◌≡◌, ◌≢◌, ◌↔◌, ◌⊎◌, ◌<◌, ◌==◌, ℕ, ◌++◌, Bool, true, List, [], length, map, is_some, reverse, IfOk, IfSome, IsFalse, IsSome, IsTrue, OnErr, OnOk, Option, Some, Result}
use Rattle.std.specs.Borrow.{GName}
use Rattle.std.specs.List.{range_with_len}
use Rattle.std.specs.Map.{lookup}
use Rattle.std.specs.Option.{option_and_then, option_map, option_map_or, unwrap_or}
use Rattle.std.specs.declared.alloc.AllocError.{AllocError}
use mathlib.Core.List.{IsPrefix}
use Rattle.oak_machine.specs.declared.event.Event.{Event}
use Rattle.oak_machine.specs.declared.law.Law.{Ghosts}
use Rattle.jr_path.specs.declared.path.Path.{Path}
use Rattle.jr_rev.specs.declared.vector.Pin.{Pin}
use Rattle.jr_rev.specs.declared.vector.RevVec.{RevVec}
use Rattle.oak_machine.specs.declared.event.StepKind.{StepKind}
use Rattle.oak_machine.specs.Asked.{AreAsked}
use Rattle.oak_machine.specs.History.{Past}
use Rattle.oak_machine.specs.Sessions.{base_of, has_left}
use Rattle.core_keep.specs.Formers.{Formers}
use Rattle.core_world.specs.Kept.{IsKept}
use Rattle.core_world.specs.States.{actor_pin}
use Rattle.oak_port.specs.declared.task.StepOut.{StepOut}
use Rattle.oak_port.specs.declared.task.Task.{Task}
use Rattle.oak_port.specs.Ports.{IsWait, Steps, TellsChanges}
use Rattle.oak_step.specs.declared.work.Work.{Work}
use Rattle.oak_step.specs.declared.work.Work.TheVariants as work
use Rattle.oak_world.specs.Changes.{changes_known}
use Rattle.oak_world.specs.Ends.{MayTell}
use Rattle.oak_world.specs.Left.{left_in}
use Rattle.oak_world.specs.Seen.{shown_at}
use Rattle.oak_step.specs.Works.{Begins, kind_due}
use Rattle.oak_world.specs.Steps.{StepsIn}
use Rattle.oak_world.specs.Worlds.{ActorState, IsAtRest, WorldOf, idle, live, state_of, with_formers, with_reply, with_work, work_in}
use Rattle.seat_lock.specs.declared.rule.Round.TheVariants as round
use Rattle.seat_lock.specs.declared.rule.View.{View}
use Rattle.seat_lock.specs.Views.{OwnsPart, new_places}
use Rattle.jr_shared.specs.declared.locked.LockedWorld.{LockedWorld}
use Rattle.jr_shared.specs.declared.locked.WorldFrame.{WorldFrame}
use Rattle.jr_shared.specs.Ends.{may_tell}
use Rattle.jr_shared.specs.Meanings.{Owned, frame_of, journal_of, own_events, owned_of, steady_of}

-- of a session just those events are known that are among these; and how its split or collection
-- has ended, where that is to be told, may follow these
abbrev pub IsToldOf : Past → ℕ → Owned → Type 0
IsToldOf past s part = (part.events ≡ own_events past s)
    × IsTrue (option_map_or (λ a. may_tell past s a.work) part.seat true)

-- what a pass of a shared world knows
abbrev pub PassKnown : Type 0 → Type 0
PassKnown L = View (LockedWorld L) Event Owned (WorldFrame L) (WorldOf L)

module _ {L : Type 0} where
  -- what a session of the pass owns, as the pass last left it
  abbrev pub owned_by : PassKnown L → ℕ → Option Owned
  owned_by v s = lookup (λ a. a == s) v.parts

  -- what session s does, and what is kept for it, where it is one of the world's
  abbrev pub seat_by : PassKnown L → ℕ → Option ActorState
  seat_by v s = option_and_then (λ part. part.seat) (owned_by v s)

  -- what session s does, and what is kept for it; for one that the pass doesn't know, what a
  -- session has that does nothing
  abbrev pub actor_by : PassKnown L → ℕ → ActorState
  actor_by v s = unwrap_or (seat_by v s) idle

  -- the pass has that session, which is one of the world's
  abbrev pub has_seat : PassKnown L → ℕ → Bool
  has_seat v s = is_some (seat_by v s)

  -- what the first pass of a world knows: it has each session and all the weight, and has seen the
  -- whole journal
  abbrev pub first_known : WorldOf L → PassKnown L
  first_known w = record {
    round = round.Idle;
    weight = 1024;
    frame = Some (frame_of w);
    steady = Some (steady_of w);
    seen = journal_of w;
    earlier = [];
    places = [];
    parts = map (λ s. (s, owned_of w s)) (range_with_len 0 (length w.history.sessions));
  }

  -- what a pass knows that got one world and gave back another: it has seen all of its journal, has
  -- the places of the events that were added meanwhile, and has for each of its sessions what that
  -- owns of the world
  abbrev pub known_after : WorldOf L → WorldOf L → PassKnown L → PassKnown L
  known_after got left v = record v {
    round = round.Idle;
    steady = Some (steady_of left);
    seen = journal_of left;
    places = v.places ++ new_places (journal_of got) (journal_of left);
    parts = map (λ y. (y.0, owned_of left y.0)) v.parts;
  }

  -- between two worlds only session s acted: events were added; the law, the cluster nodes and the
  -- sessions stay, and so does what another session owns; and the documents and the memories stay,
  -- if no event was added
  pub record OneActed (s : ℕ) (old new : WorldOf L) : Type 0 where
    pub longer : IsPrefix (journal_of old) (journal_of new)
    pub frame_is : frame_of new ≡ frame_of old
    pub others : (q : ℕ) → q ≢ s → owned_of new q ≡ owned_of old q
    pub steady_is : journal_of new ≡ journal_of old → steady_of new ≡ steady_of old

  -- what every world is: its state is one that every step keeps, each of its sessions has a seat,
  -- each event was made for a command that asks for it, and how a split or a collection has ended,
  -- where that is to be told, may be told
  pub record IsWhole (law : Ghosts L) (w : WorldOf L) : Type 0 where
    pub kept : (formers : Formers)
        × IsKept (law.may_start w.law) (law.may_say w.law) (with_formers (state_of w) formers)
    pub seats : length w.actors ≡ length w.history.sessions
    pub asked : AreAsked (law.asks w.law) (live w.history)
    pub told : (s : ℕ) (e : Event) → work_in w.actors s ≡ work.Told e
        → MayTell (live w.history) s e

  -- of each of its sessions the pass knows just the events that it has seen of it; and how that
  -- session's split or collection has ended, where that is to be told, may follow all it has seen
  abbrev pub IsTold : PassKnown L → Type 0
  IsTold v = (s : ℕ) → IfSome (owned_by v s) (IsToldOf (reverse v.seen) s)

  -- a pass that knew this got this world: it is whole, it goes on from what the pass had seen, and
  -- the pass's sessions own what they did when the pass last had it; and the documents and the
  -- memories are as they were then, if no event was added since
  pub record IsGot (law : Ghosts L) (old : PassKnown L) (got : WorldOf L) : Type 0 where
    pub whole : IsWhole law got
    pub frame_is : old.frame ≡ Some (frame_of got)
    pub seen : IsPrefix old.seen (journal_of got)
    pub parts : (s : ℕ) (part : Owned) → OwnsPart old s part → owned_of got s ≡ part
    pub steady_is : old.seen ≡ journal_of got → old.steady ≡ Some (steady_of got)

  -- under one hold of the lock one call of the world was made for session s
  pub record OneHold (law : Ghosts L) (old new : PassKnown L) (s : ℕ)
      (made : WorldOf L → WorldOf L → Type 0) : Type 0 where
    -- the world that was got, and the world that was given back, which is whole
    pub got : WorldOf L
    pub left : WorldOf L
    pub got_is : IsGot law old got
    pub left_whole : IsWhole law left
    -- the call, by which session s alone acted
    pub made_is : made got left
    pub alone : OneActed s got left
    -- what the pass knows then
    pub known : new ≡ known_after got left old

  -- ---- the calls of a world

  -- session s is told a task; where memory is refused nothing changes
  pub record Begun (w : WorldOf L) (s : ℕ) (t : Task) (r : Result Unit AllocError)
      (u : WorldOf L) : Type 0 where
    pub ok : OnOk r ((v : Work) × Begins w.history.clusters (actor_pin (state_of w) s) t v
        × (u ≡ with_work w s v))
    pub err : OnErr r (u ≡ w)

  -- session s makes a step, of which a port tells what it may tell, and which lowers the number of
  -- steps that are left of its task, or it waits
  pub record Stepped (law : Ghosts L) (w : WorldOf L) (s : ℕ) (o : StepOut)
      (u : WorldOf L) : Type 0 where
    pub made : StepsIn w s u o
    pub told : (name : GName)
        → Steps (law.may_start w.law) (law.may_say w.law) (shown_at name w s) (shown_at name u s) o
    pub lowers : IsWait o ⊎ (left_in u s < left_in w s)

  -- the kind of the session's next step was told, and the world is as it was; where no step is
  -- left, nothing is left to be done but to tell how a task ended
  pub record DueIs (w : WorldOf L) (s : ℕ) (r : Option StepKind) (u : WorldOf L) : Type 0 where
    pub same : u ≡ w
    pub due : r ≡ kind_due (work_in w.actors s)
    pub busy : IsSome r ↔ (IsAtRest (work_in w.actors s) → ⊥)
    pub over : left_in w s ≡ 0 → IsAtRest (work_in w.actors s)

  -- the pin at which the session reads was told, and the world is as it was
  pub record PinIs (w : WorldOf L) (s : ℕ) (r : Option Pin) (u : WorldOf L) : Type 0 where
    pub same : u ≡ w
    pub pin : r ≡ actor_pin (state_of w) s
    pub base : IsFalse (has_left w.history.past s)
        → option_map (λ pin. pin.base) r ≡ base_of w.history.past s

  -- what changed between a vector and the session's base was told, where that is known, and the
  -- world is as it was
  pub record ChangesAre (w : WorldOf L) (s : ℕ) (since : RevVec)
      (r : Result (Option (List Path)) AllocError) (u : WorldOf L) : Type 0 where
    pub same : u ≡ w
    pub known : IfOk r (λ told. told ≡ changes_known (state_of w) s since)
    pub told : IfOk r (λ told. IfSome told (TellsChanges (live w.history) s since))

  -- a number of bytes, and a place of the journal, are kept for its next reply; where memory is
  -- refused nothing changes
  pub record Reserved (w : WorldOf L) (s bytes : ℕ) (r : Result Unit AllocError)
      (u : WorldOf L) : Type 0 where
    pub ok : OnOk r (u ≡ with_reply w s (Some bytes))
    pub err : OnErr r (u ≡ w)

  -- each world of the pass has this law
  abbrev pub HasLaw : PassKnown L → L → Type 0
  HasLaw v law = (f : WorldFrame L) × (v.frame ≡ Some f) × (f.law ≡ law)
