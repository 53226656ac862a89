-- The world of a script with its sessions, and what their turns make of it.
use Rattle.std.specs.Prelude.{◌≡◌, ◌⊎◌, ◌<◌, ◌≤◌, ℕ, Bool, true, false, ◌&&◌, ◌==◌, ⊤, List, []}
use Rattle.std.specs.Prelude.{◌∷◌, ◌++◌, length, nat_le, slice_get, Option, None, Some, IsTrue}
use Rattle.std.specs.Prelude.{IsFalse}
use Rattle.std.specs.Borrow.{GName}
use Rattle.std.specs.List.{list_any}
use Rattle.std.specs.Option.{option_map_or}
use Rattle.jr_path.specs.Lists.{Text}
use Rattle.jr_rev.specs.declared.revision.Revision.{Revision}
use Rattle.oak_machine.specs.declared.event.Event.TheVariants as event
use Rattle.oak_machine.specs.declared.event.StepKind.{StepKind}
use Rattle.oak_machine.specs.History.{Past}
use Rattle.oak_machine.specs.Sessions.{is_reply_of}
use Rattle.oak_port.specs.Ports.{Awaiting, Work}
use Rattle.oak_world.specs.Left.{left_in}
use Rattle.oak_world.specs.Seen.{shown_at, shown_work}
use Rattle.oak_step.specs.Works.{kind_due}
use Rattle.oak_world.specs.Worlds.{WorldOf, live, work_in}
use Rattle.jcr_law.specs.declared.law.JcrLaw.{JcrLaw}
use Rattle.jcr_run.specs.declared.run.SessionRun.{SessionRun}
use Rattle.jcr_run.specs.declared.turn.Turn.{Turn}
use Rattle.jcr_run.specs.declared.turn.Turn.TheVariants as turn
use Rattle.jcr_run.specs.Nearing.{ComesNearer, DrawsNoOther, EndsSooner, HasNeared}
use Rattle.jcr_run.specs.Nearing.{WorksSooner, turns_left}
use Rattle.jcr_run.specs.Standing.{AreEnds, HasLooked, HasLookedBack, HasReadOn, IsTurned, Stands}
use Rattle.jcr_run.specs.Standing.{is_saving, is_working, may_read}
use Rattle.jr_script.specs.Bounds.{IsWithin}
use Rattle.jr_script.specs.declared.script.Entry.{Entry}
use Rattle.jr_script.specs.declared.script.Entry.TheVariants as entry
use Rattle.jr_script.specs.declared.script.Script.{Script}
use Rattle.jr_stage.specs.declared.flight.Flight.{Flight}
use Rattle.jr_stage.specs.declared.stage.Seat.{Seat}
use Rattle.jr_stage.specs.declared.stage.Stage.{Stage}
use Rattle.jr_stage.specs.Awaited.{DrawsNone, IsSeenBut, LeavesOtherSessions}
use Rattle.jr_stage.specs.Flights.{IsFlight, flight_with}
use Rattle.jr_stage.specs.Nearing.{IsAsNear, IsFurther, IsKeptBack, SavesOn, TurnsNearer}
use Rattle.jr_stage.specs.Nearing.{commits_at, left_at, saves_at, works_at}
use Rattle.jr_stage.specs.Parts.{Part, Rule}
use Rattle.jr_stage.specs.Schedules.{rules_of}
use Rattle.jr_stage.specs.Places.{history_at, is_over, is_waiting}
use Rattle.jr_stage.specs.SoFar.{IsCutSoFar, IsStepAt, IsUnderWay, is_last_due}

-- ---- the stage

-- the law of a script: its types, no session before it, and its sessions
abbrev pub law_of : Script → JcrLaw
law_of script = record { types = script.types; earlier = 0; sessions = script.sessions }

-- the events of a stage's world so far
abbrev pub past_of : Stage → Past
past_of stage = stage.world.history.past

-- the kind of the next step of each session
abbrev pub due_at : WorldOf JcrLaw → ℕ → Option StepKind
due_at w s = kind_due (work_in w.actors s)

-- the revision that a session awaits
abbrev pub awaited : Work → Option Revision
awaited (Awaiting r) = Some r
awaited _ = None

-- the seat is of session s, which stands where the history says; what is kept of its commit is what
-- the history tells; and the head sees each of its commits that has ended but the one that it
-- awaits
pub record IsSeated (script : Script) (w : WorldOf JcrLaw) (s : ℕ) (seat : Seat) : Type 0 where
  pub session : seat.run.session ≡ s
  pub stands : (n : GName) → Stands w.law (shown_at n w s) seat.run
  pub flight : IsFlight w.history.past s seat.flight
  pub seen : IsSeenBut script w.history.past s (awaited (shown_work (work_in w.actors s)))

-- the script keeps its bounds, the schedule is its own, and the world is of its law, cluster nodes
-- and sessions, each of which is seated
pub record IsStage (stage : Stage) : Type 0 where
  pub within : IsWithin stage.script.value
  pub schedule : stage.schedule ≡ stage.script.value.schedule
  pub law : stage.world.law ≡ law_of stage.script.value
  pub history : (live stage.world.history) ≡ history_at stage.script.value (past_of stage)
  pub seats : length stage.seats.items ≡ length stage.script.value.sessions
  pub each : (s : ℕ) (seat : Seat) → slice_get stage.seats.items s ≡ Some seat
      → IsSeated stage.script.value stage.world s seat

-- before any turn
pub record IsFirstStage (script : Script) (stage : Stage) : Type 0 where
  pub script_is : stage.script.value ≡ script
  pub stage_is : IsStage stage
  pub first : past_of stage ≡ []

-- ---- where an entry waits

-- a commit has come to where an entry waits for it
abbrev pub has_come_by : Flight → Option StepKind → Entry → Bool
has_come_by f due (entry.Draw s) = true
has_come_by f due (entry.Write s n) = nat_le n f.written
has_come_by f due (entry.Last s) = nat_le f.documents f.written && f.undecided && is_last_due due
has_come_by f due e = false

-- a seat has come to what an entry waits for
abbrev pub has_come : Stage → ℕ → Entry → Bool
has_come stage s e =
    option_map_or
    (λ seat. option_map_or (λ f. has_come_by f (due_at stage.world s) e) seat.flight false)
    (slice_get stage.seats.items s) false

-- where an entry is given, the commit of session s has come to where it waits for it
abbrev pub comes_to : Stage → ℕ → Option Entry → Bool
comes_to stage s until = option_map_or (has_come stage s) until false

-- ---- a turn

-- the events that a turn of s adds to a past, the newest first: a step, no reply among it; a reply,
-- directly behind how a split or a collection ended, where that is told with it; or none, where s
-- waits or all its commands are answered and it has left
abbrev pub Comes : Script → Past → ℕ → Option StepKind → Turn → Past → Type 0
Comes script past s due (turn.Stepped k) own =
    IsStepAt script past s due own × IsFalse (list_any (is_reply_of s) own)
Comes script past s due (turn.Said i) own =
    (text : Text) × (told : Past) × (own ≡ event.Said s i text ∷ told) × AreEnds s told
    × IsStepAt script past s due own
Comes script past s due (turn.Waiting q) own = (own ≡ []) × IsTrue (is_waiting script past s)
Comes script past s due turn.Ended own = (own ≡ []) × IsTrue (is_over script past s)
Comes script past s due turn.Read own = ⊥
Comes script past s due turn.Memory own = ⊥

-- a turn of session s was made that is no reading step, or none could be; what is due for the
-- others stays, a last write is due still where no step was made, and who had ended has; what the
-- others have in flight stays, and where s saves it draws no other, and saves still behind a step;
-- s has come nearer to its end, or is kept waiting
pub record HasCome (old new : Stage) (s : ℕ) (answer : Turn) : Type 0 where
  pub script : new.script.value ≡ old.script.value
  pub stage : IsStage new
  pub own : Past
  pub past : past_of new ≡ own ++ past_of old
  pub others : (t : ℕ) → (t == s) ≡ false → due_at new.world t ≡ due_at old.world t
  pub still : own ≡ [] → IsTrue (is_last_due (due_at old.world s))
      → IsTrue (is_last_due (due_at new.world s))
  pub over : (t : ℕ) → IsTrue (is_over old.script.value (past_of old) t)
      → IsTrue (is_over old.script.value (past_of new) t)
  pub came : Comes old.script.value (past_of old) s (due_at old.world s) answer own
  pub leaves : LeavesOtherSessions (past_of old) (past_of new) s
  pub draws : IsTrue (saves_at old s) → DrawsNone (past_of old) (past_of new) s
  pub saves : SavesOn old new s answer
  pub nears : TurnsNearer old new s answer
  pub kept : IsKeptBack (past_of old) s answer

-- what a turn of a session's own makes, in the world that it was shown through some reference
pub record IsTurnedIn (s : ℕ) (old new : WorldOf JcrLaw) (run now : SessionRun) (answer : Turn)
    : Type 0 where
  pub name : GName
  pub law : new.law ≡ old.law
  pub turned : IsTurned old.law (shown_at name old s) (shown_at name new s) run now answer
  pub draws : IsTrue (is_saving run.phase)
      → DrawsNoOther (shown_at name old s) (shown_at name new s)
  pub nears : ComesNearer
      (WorksSooner (left_in old s) (left_in new s) (shown_at name old s) run)
      (turns_left run) (turns_left now) answer

-- a reading step of session s, where one is due
abbrev pub MakesReading : GName → ℕ → WorldOf JcrLaw → WorldOf JcrLaw → SessionRun → SessionRun
    → Type 0
MakesReading n s old new run now =
    (new.law ≡ old.law) × HasLooked old.law (shown_at n old s) (shown_at n new s) run now

-- one that was made, in the world that the session was shown through some reference
pub record IsReadingIn (s : ℕ) (old new : WorldOf JcrLaw) (run now : SessionRun) : Type 0 where
  pub name : GName
  pub read : MakesReading name s old new run now
  pub reads : IsTrue (may_read run)
  pub nears : HasNeared (EndsSooner (left_in old s) (left_in new s) (shown_at name old s))
      old.law (shown_at name old s) run now

-- one that was made inside the session's commit: a look at a previous document
pub record IsLookIn (s : ℕ) (old new : WorldOf JcrLaw) (run now : SessionRun) : Type 0 where
  pub name : GName
  pub law : new.law ≡ old.law
  pub looks : HasLookedBack old.law (shown_at name old s) (shown_at name new s) run now
  pub nears : EndsSooner (left_in old s) (left_in new s) (shown_at name old s)

-- one of the session's split or collection, which it may begin or end
pub record IsTidyingIn (s : ℕ) (old new : WorldOf JcrLaw) (run now : SessionRun) : Type 0 where
  pub name : GName
  pub law : new.law ≡ old.law
  pub reads : HasReadOn old.law (shown_at name old s) (shown_at name new s) run now
  pub nears : IsTrue (is_working run.phase)
      → EndsSooner (left_in old s) (left_in new s) (shown_at name old s)

-- what a session's turn made of its world; nothing is known, where memory was refused
abbrev pub HasTurnedIn : ℕ → WorldOf JcrLaw → WorldOf JcrLaw → SessionRun → SessionRun → Turn
    → Type 0
HasTurnedIn s old new run now turn.Memory = ⊤
HasTurnedIn s old new run now turn.Read = IsReadingIn s old new run now
    ⊎ IsLookIn s old new run now ⊎ IsTidyingIn s old new run now
HasTurnedIn s old new run now answer = IsTurnedIn s old new run now answer

-- ---- reading steps

-- reading steps of session s were made, or none: the journal stays; what is due for the others
-- stays, and a last write that is due stays due; s commits as it did, and is nearer or as near; and
-- where it doesn't commit nothing comes to where an entry waits
pub record HasOnlyRead (old new : Stage) (s : ℕ) : Type 0 where
  pub script : new.script.value ≡ old.script.value
  pub stage : IsStage new
  pub past : past_of new ≡ past_of old
  pub others : (t : ℕ) → (t == s) ≡ false → due_at new.world t ≡ due_at old.world t
  pub last : IsTrue (is_last_due (due_at old.world s)) → IsTrue (is_last_due (due_at new.world s))
  pub saves : saves_at new s ≡ saves_at old s
  pub commits : commits_at new s ≡ commits_at old s
  pub near : IsFurther old new s ⊎ IsAsNear old new s
  pub comes : IsFalse (commits_at old s) → (e : Entry) → has_come new s e ≡ has_come old s e

-- a turn was made behind reading steps, or none, which brought the commit of s to where no entry
-- waits
pub record ComesBehind (old new : Stage) (s : ℕ) (answer : Turn) : Type 0 where
  pub mid : Stage
  pub reads : HasOnlyRead old mid s
  pub short : (until : Option Entry) → IsFalse (comes_to old s until)
      → IsFalse (comes_to mid s until)
  pub come : HasCome mid new s answer

-- reading steps of session s were made, with this behind them; or a turn was made, maybe behind
-- reading steps
abbrev pub ReadsOrComes : (nearer : Type 0) → (old new : Stage) → ℕ → Turn → Type 0
ReadsOrComes nearer old new s turn.Read = HasOnlyRead old new s × nearer
ReadsOrComes nearer old new s answer = ComesBehind old new s answer

-- a turn other than a reading step is made where no commit of s was under way
abbrev pub IsReadOrApart : Stage → ℕ → Turn → Type 0
IsReadOrApart old s turn.Read = ⊤
IsReadOrApart old s answer = IsFalse (commits_at old s)

-- a turn was made behind reading steps, or none, where the commit of session s had not come to
-- where the entry waits for it
pub record ComesShort (old new : Stage) (s : ℕ) (until : Option Entry) (answer : Turn)
    : Type 0 where
  pub mid : Stage
  pub reads : HasOnlyRead old mid s
  pub short : IsFalse (comes_to mid s until)
  pub come : HasCome mid new s answer

-- reading steps of s were made, with this behind them; or a turn was made, maybe behind reading
-- steps, where the commit of s had not come to where the entry waits for it
abbrev pub ReadsOrTurns : (behind : Type 0) → (old new : Stage) → ℕ → Option Entry → Turn → Type 0
ReadsOrTurns behind old new s until turn.Read = HasOnlyRead old new s × behind
ReadsOrTurns behind old new s until answer = ComesShort old new s until answer

-- reading steps of s were made that brought its commit to where the entry waits for it; or a turn
-- was made, maybe behind reading steps
abbrev pub TurnsTo : (old new : Stage) → ℕ → Option Entry → Turn → Type 0
TurnsTo old new s until answer =
    ReadsOrTurns (IsTrue (comes_to new s until)) old new s until answer

-- the commit of s has come to where the entry waits for it, or s is nearer to its next reply
abbrev pub IsComeOrFurther : (old new : Stage) → ℕ → Option Entry → Type 0
IsComeOrFurther old new s until = IsTrue (comes_to new s until) ⊎ IsFurther old new s

-- ---- what is kept of a commit

-- what is kept of a commit, by the event that the journal has last
abbrev pub flight_behind : Past → Option Flight → Option Flight
flight_behind [] o = o
flight_behind (e ∷ past) o = flight_with e o

-- what is kept of a commit behind a turn, which may be a step
abbrev pub flight_by : Turn → Past → Option Flight → Option Flight
flight_by (turn.Stepped k) past o = flight_behind past o
flight_by _ past o = o

-- ---- an entry

-- reading steps and counted steps of session s were made, one after another, the counted ones where
-- its commit had not come to where the entry waits for it
pub data AreSteps (s : ℕ) (until : Option Entry) (old : Stage) : Stage → Type 0 where
  no_step : AreSteps s until old old
  one_step : (mid new : Stage) (k : StepKind) → AreSteps s until old mid
      → IsFalse (comes_to mid s until) → HasCome mid new s (turn.Stepped k)
      → AreSteps s until old new
  some_reads : (mid new : Stage) → AreSteps s until old mid → HasOnlyRead mid new s
      → AreSteps s until old new

-- a turn was made behind such steps, at which s has no more left than before them
pub record EndsSteps (old new : Stage) (s : ℕ) (until : Option Entry) (answer : Turn)
    : Type 0 where
  pub mid : Stage
  pub steps : AreSteps s until old mid
  pub short : IsFalse (comes_to mid s until)
  pub less : left_at mid s ≤ left_at old s
  pub come : HasCome mid new s answer

-- turns of s were made while these were steps: steps alone, with this behind them; or at last
-- reading steps that brought its commit to where the entry waits for it; or others at last
abbrev pub StepsUntil : (nearer : Type 0) → (old new : Stage) → ℕ → Option Entry → Turn → Type 0
StepsUntil nearer old new s until (turn.Stepped k) = AreSteps s until old new × nearer
StepsUntil nearer old new s until turn.Read =
    AreSteps s until old new × IsTrue (comes_to new s until)
StepsUntil nearer old new s until answer = EndsSteps old new s until answer

-- s has less left; or its commit has come to where the entry waits for it
abbrev pub IsNearerOrCome : (old new : Stage) → ℕ → Option Entry → Type 0
IsNearerOrCome old new s until = (left_at new s < left_at old s) ⊎ IsTrue (comes_to new s until)

-- s has no more left; and its commit has come to where the entry waits for it, or s has less left
-- where a task of its next command was under way
abbrev pub IsEntryOver : (old new : Stage) → ℕ → Option Entry → Type 0
IsEntryOver old new s until = (left_at new s ≤ left_at old s)
    × (IsTrue (comes_to new s until) ⊎ (IsTrue (works_at old s) → left_at new s < left_at old s))

-- an entry that waits for a commit of session s
abbrev pub IsOfCommit : ℕ → Entry → Type 0
IsOfCommit s (entry.Draw t) = t ≡ s
IsOfCommit s (entry.Write t n) = t ≡ s
IsOfCommit s (entry.Last t) = t ≡ s
IsOfCommit s e = ⊥

-- a part under way by its rule: its events since the first stage, the newest first, behind whatever
-- parts the journal was cut into before
pub record IsUnder (first stage : Stage) (rule : Rule) (part : Past) : Type 0 where
  pub script : stage.script.value ≡ first.script.value
  pub stage_is : IsStage stage
  pub over : (t : ℕ) → IsTrue (is_over first.script.value (past_of first) t)
      → IsTrue (is_over first.script.value (past_of stage) t)
  pub whole : past_of stage ≡ part ++ past_of first
  pub way : IsUnderWay first.script.value rule (past_of first) part
  pub cut : (parts : List Part)
      → IsCutSoFar first.script.value (due_at first.world) parts [] (past_of first)
      → IsCutSoFar first.script.value (due_at stage.world) parts part (past_of stage)

-- turns were made that are a part by its rule, behind whatever parts the journal was cut into
-- before
pub record Closes (old new : Stage) (rule : Rule) : Type 0 where
  pub script : new.script.value ≡ old.script.value
  pub stage : IsStage new
  pub over : (t : ℕ) → IsTrue (is_over old.script.value (past_of old) t)
      → IsTrue (is_over old.script.value (past_of new) t)
  pub closes : (parts : List Part)
      → IsCutSoFar old.script.value (due_at old.world) parts [] (past_of old)
      → (p : Part) × (p.rule ≡ rule)
      × IsCutSoFar old.script.value (due_at new.world) (p ∷ parts) [] (past_of new)

-- turns were made that are parts by these rules, one after another, behind whatever parts the
-- journal was cut into before
pub record ClosesAll (old new : Stage) (rules : List Rule) : Type 0 where
  pub script : new.script.value ≡ old.script.value
  pub stage : IsStage new
  pub over : (t : ℕ) → IsTrue (is_over old.script.value (past_of old) t)
      → IsTrue (is_over old.script.value (past_of new) t)
  pub closes : (parts : List Part)
      → IsCutSoFar old.script.value (due_at old.world) parts [] (past_of old)
      → (added : List Part) × (rules_of added ≡ rules)
      × IsCutSoFar old.script.value (due_at new.world) (added ++ parts) [] (past_of new)

-- the first sessions have ended
abbrev pub HaveEnded : Stage → ℕ → Type 0
HaveEnded stage n = (t : ℕ) → t < n → IsTrue (is_over stage.script.value (past_of stage) t)
