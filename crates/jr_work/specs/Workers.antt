-- What passes of the world of a script know while workers run it.
use Rattle.std.specs.Prelude.{◌≡◌, ◌≢◌, ◌<◌, ◌≤◌, ◌+◌, ◌%◌, ℕ, List, [], length, map, slice_get, Some, IfOk, IsTrue, Result}
use Rattle.std.specs.declared.alloc.AllocError.{AllocError}
use Rattle.oak_machine.specs.declared.event.Event.{Event}
use Rattle.oak_machine.specs.Runs.{IsRun}
use Rattle.oak_machine.specs.Sessions.{has_left}
use Rattle.oak_port.specs.Ports.{Shown}
use Rattle.oak_world.specs.Worlds.{WorldOf, idle, live}
use Rattle.jcr_law.specs.declared.law.JcrLaw.{JcrLaw}
use Rattle.jcr_law.specs.Lasting.{says_of, starts_of}
use Rattle.jcr_run.specs.declared.run.SessionRun.{SessionRun}
use Rattle.jcr_run.specs.Standing.{Stands}
use Rattle.jr_script.specs.Bounds.{IsWithin}
use Rattle.jr_script.specs.declared.script.Script.{Script}
use Rattle.jr_types.specs.declared.TypeDef.{TypeDef}
use Rattle.seat_lock.specs.declared.counted.Counted.{Ghosts}
use Rattle.seat_lock.specs.declared.lock.SeatLock.{SeatLock}
use Rattle.seat_lock.specs.declared.pass.Pass.{Pass}
use Rattle.seat_lock.specs.declared.rule.Round.TheVariants as round
use Rattle.seat_lock.specs.Passes.{IsOf, view_of}
use Rattle.seat_lock.specs.Views.{OwnsPart}
use Rattle.jr_shared.specs.declared.locked.LockedWorld.{LockedWorld}
use Rattle.jr_shared.specs.declared.locked.WorldFrame.{WorldFrame}
use Rattle.jr_shared.specs.Holds.{IsTold, PassKnown, owned_by}
use Rattle.jr_shared.specs.Meanings.{Owned}
use Rattle.jr_shared.specs.Seen.{history_by}
use Rattle.jr_work.specs.declared.worker.Job.{Job}
use Rattle.jr_work.specs.Hands.{AreInHandOf}
use Rattle.jr_stage.specs.Places.{is_over}
use Rattle.jr_stage.specs.Runs.{AnswersScript}
use Rattle.jr_stage.specs.Stages.{law_of}

-- ---- a crew

-- the workers of a script, which keeps its bounds, share its node types, and know how many sessions
-- there are
pub record IsCrewOf (script : Script) (types : List TypeDef) (sessions : ℕ) : Type 0 where
  pub within : IsWithin script
  pub types_are : types ≡ script.types
  pub many : sessions ≡ length script.sessions

-- ---- a pass

-- what never changes of the world of a script: its law, its cluster nodes and its sessions
abbrev pub frame_for : Script → WorldFrame JcrLaw
frame_for script = record {
  law = law_of script;
  clusters = script.clusters;
  sessions = map (λ s. s.cluster) script.sessions;
}

-- a pass knows the world of the script
pub record KnowsScript (script : Script) (v : PassKnown JcrLaw) : Type 0 where
  -- no call by it is under way
  pub rest : v.round ≡ round.Idle
  pub frame : v.frame ≡ Some (frame_for script)
  -- of its sessions the pass knows just the events that it has seen, and how their splits and
  -- collections have ended, where that is to be told, may follow these
  pub told : IsTold v
  -- what the pass has seen is a run by the law of the script
  pub run : IsRun (starts_of (law_of script)) (says_of (law_of script)) (history_by v)

-- session s is one of the pass's, and has not begun
abbrev pub HasNotBegun : PassKnown JcrLaw → ℕ → Type 0
HasNotBegun v s = owned_by v s ≡ Some (record { seat = Some idle; events = [] })

-- the pass has session s, which has answered all its commands and has left
abbrev pub HasOver : Script → PassKnown JcrLaw → ℕ → Type 0
HasOver script v s =
    (part : Owned) × OwnsPart v s part × IsTrue (is_over script part.events s)

-- ---- a session

-- turns of a session were made, as the same session of the same world and through the same
-- reference; it stands where the history says
pub record HasGoneOn (law : JcrLaw) (old new : Shown) (run now : SessionRun) : Type 0 where
  pub session : now.session ≡ run.session
  pub commands : now.commands ≡ run.commands
  pub clusters : new.history.clusters ≡ old.history.clusters
  pub sessions : new.history.sessions ≡ old.history.sessions
  pub beside : new.beside ≡ old.beside
  pub stands : Stands law new now

-- and all its commands are answered, and it has left
pub record HasRunOut (law : JcrLaw) (old new : Shown) (run now : SessionRun) : Type 0 where
  pub on : HasGoneOn law old new run now
  pub all : now.index ≡ length now.commands
  pub left : IsTrue (has_left new.history.past new.session)

-- session s of a pass was run to its end; the pass's other sessions own what they owned
pub record HasRunOne (script : Script) (old new : PassKnown JcrLaw) (s : ℕ) : Type 0 where
  pub knows : KnowsScript script new
  pub weight : new.weight ≡ old.weight
  pub others : (t : ℕ) → t ≢ s → owned_by new t ≡ owned_by old t
  pub over : (part : Owned) × (owned_by new s ≡ Some part)
      × IsTrue (is_over script part.events s)

-- ---- a worker

-- a pass for a worker of so many: it has the worker's sessions, none of which has begun
pub record IsHandedOut (script : Script) (workers worker : ℕ) (v : PassKnown JcrLaw) : Type 0 where
  pub knows : KnowsScript script v
  pub weight : v.weight ≡ 1
  pub first : (s : ℕ) → s < length script.sessions → s % workers ≡ worker → HasNotBegun v s

-- the worker has run them, and each is over
pub record HasWorked (script : Script) (workers worker : ℕ) (v : PassKnown JcrLaw) : Type 0 where
  pub rest : v.round ≡ round.Idle
  pub weight : v.weight ≡ 1
  pub over : (s : ℕ) → s < length script.sessions → s % workers ≡ worker → HasOver script v s

-- a worker begins with a pass of the lock that is handed out to it, and the commands of its
-- sessions
abbrev pub IsJob : Script → ℕ
    → SeatLock (LockedWorld JcrLaw) Event Owned (WorldFrame JcrLaw) (WorldOf JcrLaw)
    → Job → Type 0
IsJob script workers lock job =
    IsOf lock job.pass × IsHandedOut script workers job.worker (view_of job.pass)
    × AreInHandOf script.sessions workers job.worker 0 job.hand

-- the workers are numbered from 0 on
abbrev pub AreInOrder : List Job → Type 0
AreInOrder jobs = (i : ℕ) (job : Job) → slice_get jobs i ≡ Some job → job.worker ≡ i

module _ {law : Ghosts (LockedWorld JcrLaw) Event Owned (WorldFrame JcrLaw) (WorldOf JcrLaw)} where
  -- a worker gives back its pass of the lock, where it didn't want memory
  abbrev pub IsGivenBack : Script → ℕ
      → SeatLock (LockedWorld JcrLaw) Event Owned (WorldFrame JcrLaw) (WorldOf JcrLaw)
      → ℕ
      → Result (Pass (LockedWorld JcrLaw) Event Owned (WorldFrame JcrLaw) (WorldOf JcrLaw) law)
      AllocError → Type 0
  IsGivenBack script workers lock worker pass =
      IfOk pass (λ pass. IsOf lock pass × HasWorked script workers worker (view_of pass))

  -- and so do all of them, in order
  abbrev pub AreGivenBack : Script → ℕ
      → SeatLock (LockedWorld JcrLaw) Event Owned (WorldFrame JcrLaw) (WorldOf JcrLaw)
      → List (Result
      (Pass (LockedWorld JcrLaw) Event Owned (WorldFrame JcrLaw) (WorldOf JcrLaw) law) AllocError)
      → Type 0
  AreGivenBack script workers lock passes =
      (i : ℕ)
      (pass : Result
      (Pass (LockedWorld JcrLaw) Event Owned (WorldFrame JcrLaw) (WorldOf JcrLaw) law) AllocError)
      → slice_get passes i ≡ Some pass → IsGivenBack script workers lock i pass

-- ---- the first pass

-- the first pass, before any step, once n of so many workers have their sessions
pub record HasHandedOut (script : Script) (workers n : ℕ) (v : PassKnown JcrLaw) : Type 0 where
  pub knows : KnowsScript script v
  pub unseen : v.seen ≡ []
  pub weight : v.weight + n ≡ 1024
  pub left : (s : ℕ) → s < length script.sessions → n ≤ s % workers → HasNotBegun v s

-- the first pass, once it has taken in those of all workers
pub record HasAll (script : Script) (v : PassKnown JcrLaw) : Type 0 where
  pub rest : v.round ≡ round.Idle
  pub frame : v.frame ≡ Some (frame_for script)
  pub weight : v.weight ≡ 1024
  pub over : (s : ℕ) → s < length script.sessions → HasOver script v s

-- the script was run to its end by workers, whatever its schedule: the world is of its law, and
-- what its journal tells answers the script
pub record HasRunByWorkers (script : Script) (w : WorldOf JcrLaw) : Type 0 where
  pub law : w.law ≡ law_of script
  pub answers : AnswersScript script (live w.history)
