-- How reading steps and turns bring a session of a stage nearer to its end.
use Rattle.std.specs.Prelude.{◌≡◌, ◌⊎◌, ◌<◌, ◌≤◌, ℕ, Bool, true, false, cond, ◌&&◌, ◌==◌, ⊤, is_some}
use Rattle.std.specs.Prelude.{slice_get, Option, IsTrue, IsFalse}
use Rattle.std.specs.Option.{option_map, option_map_or}
use Rattle.oak_machine.specs.History.{Past}
use Rattle.oak_world.specs.Left.{left_in}
use Rattle.oak_world.specs.Worlds.{live}
use Rattle.jcr_law.specs.State.{Call, call_of}
use Rattle.jcr_run.specs.Nearing.{stages_left, turns_left, unread_of}
use Rattle.jcr_run.specs.Standing.{is_committing, is_saving, is_working}
use Rattle.jcr_run.specs.declared.run.Phase.{Phase}
use Rattle.jcr_run.specs.declared.run.SessionRun.{SessionRun}
use Rattle.jcr_run.specs.declared.turn.Turn.{Turn}
use Rattle.jcr_run.specs.declared.turn.Turn.TheVariants as turn
use Rattle.jr_stage.specs.declared.stage.Stage.{Stage}
use Rattle.jr_stage.specs.Awaited.{KeepsWaiting}

-- ---- what is left

-- where session s stands
abbrev pub phase_at : Stage → ℕ → Option Phase
phase_at stage s = option_map (λ seat. seat.run.phase) (slice_get stage.seats.items s)

-- a commit or another task of the next command of session s is under way
abbrev pub works_at : Stage → ℕ → Bool
works_at stage s = option_map_or is_working (phase_at stage s) false

-- session s has drawn for its next command, and has not replied yet
abbrev pub saves_at : Stage → ℕ → Bool
saves_at stage s = option_map_or is_saving (phase_at stage s) false

-- a commit of session s is under way
abbrev pub commits_at : Stage → ℕ → Bool
commits_at stage s = option_map_or is_committing (phase_at stage s) false

-- how near session s is to its next reply, in stages
abbrev pub place_at : Stage → ℕ → ℕ
place_at stage s = option_map_or stages_left (phase_at stage s) 0

-- a node, or the names of the children of one, are being read for session s
abbrev pub reads_at : Stage → ℕ → Bool
reads_at stage s =
    option_map_or (λ seat. is_some seat.run.fetch) (slice_get stage.seats.items s) false

-- how many replies session s has not said yet, and how near the session is to the next one
abbrev pub left_at : Stage → ℕ → ℕ
left_at stage s = option_map_or (λ seat. turns_left seat.run) (slice_get stage.seats.items s) 0

-- how many steps are left of what is being done for session s
abbrev pub steps_at : Stage → ℕ → ℕ
steps_at stage s = left_in stage.world s

-- what the next command of session s is run with
abbrev pub next_call : Stage → ℕ → Option Call
next_call stage s =
    call_of stage.world.law (live stage.world.history).begin (live stage.world.history).past s

-- how much is still to be known before its next command
abbrev pub unknown_at : Stage → ℕ → ℕ
unknown_at stage s =
    option_map_or (λ seat. option_map_or (λ c. unread_of c seat.run) (next_call stage s) 0)
    (slice_get stage.seats.items s) 0

-- how much may still be read: inside a task of its next command the steps that are left of that,
-- and before it what is still to be known
abbrev pub unread_at : Stage → ℕ → ℕ
unread_at stage s = cond (works_at stage s) (steps_at stage s) (unknown_at stage s)

-- ---- how it gets less

-- s is nearer to its next reply
pub record IsFurther (old new : Stage) (s : ℕ) : Type 0 where
  pub left : left_at new s < left_at old s
  pub place : place_at new s < place_at old s

-- s is as near as it was, with a task under way or none as before, and no more steps are left of
-- that
pub record IsAsNear (old new : Stage) (s : ℕ) : Type 0 where
  pub left : left_at new s ≡ left_at old s
  pub place : place_at new s ≡ place_at old s
  pub works : works_at new s ≡ works_at old s
  pub steps : IsTrue (works_at old s) → steps_at new s ≤ steps_at old s

-- less may still be read for s; or what was being read is still being read, with as much beside,
-- and fewer steps of that are left
abbrev pub StaysNearer : (still : Bool) → (old new : Stage) → ℕ → Type 0
StaysNearer true old new s = (unread_at new s ≡ unread_at old s) × (steps_at new s < steps_at old s)
StaysNearer false old new s = unread_at new s < unread_at old s

-- what a reading step of s brings nearer: s itself, for which nothing is being read then; or what
-- may still be read
abbrev pub ReadsNearer : (old new : Stage) → ℕ → Type 0
ReadsNearer old new s = (IsFurther old new s × IsFalse (reads_at new s))
    ⊎ StaysNearer (reads_at old s && reads_at new s) old new s

-- s is nearer; or no more may still be read, and less where something was being read
abbrev pub ReadsThrough : (old new : Stage) → ℕ → Type 0
ReadsThrough old new s = IsFurther old new s ⊎ ((unread_at new s ≤ unread_at old s)
    × (IsTrue (reads_at old s) → unread_at new s < unread_at old s))

-- s is nearer, or less may still be read
abbrev pub ReadsLess : (old new : Stage) → ℕ → Type 0
ReadsLess old new s = IsFurther old new s ⊎ (unread_at new s < unread_at old s)

-- a task of the next command of s is under way as it was, and fewer steps of that are left
pub record IsSooner (old new : Stage) (s : ℕ) : Type 0 where
  pub before : IsTrue (works_at old s)
  pub now : IsTrue (works_at new s)
  pub left : left_at new s ≡ left_at old s
  pub steps : steps_at new s < steps_at old s

-- s is nearer; or its task is
abbrev pub StepsNearer : (old new : Stage) → ℕ → Type 0
StepsNearer old new s = IsFurther old new s ⊎ IsSooner old new s

-- what a turn of s brings nearer: a step, and a reply
abbrev pub TurnsNearer : (old new : Stage) → ℕ → Turn → Type 0
TurnsNearer old new s (turn.Stepped k) = StepsNearer old new s
TurnsNearer old new s (turn.Said i) = left_at new s < left_at old s
TurnsNearer old new s _ = ⊤

-- where s saves it does behind a step
abbrev pub SavesOn : (old new : Stage) → ℕ → Turn → Type 0
SavesOn old new s (turn.Stepped k) = IsTrue (saves_at old s) → IsTrue (saves_at new s)
SavesOn old new s _ = ⊤

-- ---- who is waited for

-- where s waits, a commit of another session keeps it waiting
abbrev pub IsKeptBack : Past → ℕ → Turn → Type 0
IsKeptBack past s (turn.Waiting q) = (t : ℕ) × IsFalse (t == s) × KeepsWaiting past t s
IsKeptBack past s _ = ⊤
