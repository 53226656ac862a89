-- How reading steps and turns bring a session nearer to its end.
use Rattle.std.specs.Prelude.{◌≡◌, ◌⊎◌, ◌<◌, ◌≤◌, ◌-◌, ◌+◌, ◌*◌, ◌&&◌, ℕ, Bool, true, false, ⊤, cond}
use Rattle.std.specs.Prelude.{length, slice_get, is_some, IsTrue}
use Rattle.std.specs.Option.{option_map_or}
use Rattle.oak_machine.specs.Laws.{is_revision_of}
use Rattle.oak_port.specs.Ports.{Shown}
use Rattle.jcr_law.specs.declared.law.JcrLaw.{JcrLaw}
use Rattle.jcr_law.specs.State.{Call}
use Rattle.jcr_held.specs.Unread.{unread}
use Rattle.jr_rev.specs.declared.revision.Revision.{Revision}
use Rattle.jcr_run.specs.Standing.{IsCalled, is_working, lacks_changes}
use Rattle.jcr_run.specs.declared.run.Phase.{Phase}
use Rattle.jcr_run.specs.declared.run.Phase.TheVariants as phase
use Rattle.jcr_run.specs.declared.run.SessionRun.{SessionRun}
use Rattle.jcr_run.specs.declared.turn.Turn.{Turn}
use Rattle.jcr_run.specs.declared.turn.Turn.TheVariants as turn

-- where nobody else steps the world, fewer of its steps are left of what is being done
abbrev pub EndsSooner : (before now : ℕ) → Shown → Type 0
EndsSooner before now p = IsTrue (is_some p.beside.seats) → now < before

-- ---- reading steps

-- of what may be asked for before the next command, run with c, how much is still to be known:
-- twice for each node and each list of children, and for what changed, and once more where none of
-- them is being read
abbrev pub unread_of : Call → SessionRun → ℕ
unread_of c run =
    2 * (option_map_or (λ m. unread c run.held m) (slice_get run.commands run.index) 0
    + cond (lacks_changes run) 1 0) + cond (is_some run.fetch) 0 1

-- less is to be known; or what was being read is still being read, with as much to be known, and
-- ends sooner
abbrev pub LessIsUnread : (sooner : Type 0) → (still : Bool) → (before now : ℕ) → Type 0
LessIsUnread sooner true before now = (now ≡ before) × sooner
LessIsUnread sooner false before now = now < before

-- what a reading step made of what is still to be known
abbrev pub HasNeared : (sooner : Type 0) → JcrLaw → Shown → (old new : SessionRun) → Type 0
HasNeared sooner law p old new = (c : Call) → IsCalled law p c
    → LessIsUnread sooner (is_some old.fetch && is_some new.fetch)
    (unread_of c old) (unread_of c new)

-- ---- turns

-- where a session stands: the nearer to its next reply, and behind its last one to its end, the
-- less
abbrev pub stages_left : Phase → ℕ
stages_left phase.Outside = 4
stages_left phase.Between = 3
stages_left (phase.Committing pledge) = 2
stages_left (phase.Committed e pledge) = 1
stages_left (phase.Moved v) = 1
stages_left phase.Detaching = 2
stages_left (phase.Working e) = 2
stages_left (phase.Told t) = 1
stages_left phase.Tidying = 2
stages_left (phase.Tidied t) = 1
stages_left phase.Over = 0

-- how many replies a session has not said yet, five times, and how near it is to the next one
abbrev pub turns_left : SessionRun → ℕ
turns_left run = 5 * (length run.commands - run.index) + stages_left run.phase

-- a number is less than it was; or it is what it was, and what is being done ends sooner
abbrev pub IsLess : (sooner : Type 0) → (before now : ℕ) → Type 0
IsLess sooner before now = (now < before) ⊎ ((now ≡ before) × sooner)

-- a commit or another task of its next command is under way, and ends sooner
abbrev pub WorksSooner : (before now : ℕ) → Shown → SessionRun → Type 0
WorksSooner before now p run = IsTrue (is_working run.phase) × EndsSooner before now p

-- a step leaves less; or as much, and what is being done ends sooner
abbrev pub StepsOn : (sooner : Type 0) → (before now : ℕ) → Turn → Type 0
StepsOn sooner before now (turn.Stepped k) = IsLess sooner before now
StepsOn sooner before now _ = ⊤

-- a step leaves less, or as much, and what is being done ends sooner; and a reply leaves less
abbrev pub ComesNearer : (sooner : Type 0) → (before now : ℕ) → Turn → Type 0
ComesNearer sooner before now (turn.Said i) = now < before
ComesNearer sooner before now t = StepsOn sooner before now t

-- a reading step brings nearer what the next command asks for, or it begins a split, and fewer
-- stages are left; inside a commit, a split or a collection it ends sooner, and no more stages are
-- left
abbrev pub BringsNearer : (works : Bool) → (sooner : Type 0) → JcrLaw → Shown
    → (old new : SessionRun) → Type 0
BringsNearer true sooner law p old new = sooner × (turns_left new ≤ turns_left old)
BringsNearer false sooner law p old new =
    HasNeared sooner law p old new ⊎ (turns_left new < turns_left old)

-- what a reading step brings nearer
abbrev pub ReadsOn : (sooner : Type 0) → JcrLaw → Shown → (old new : SessionRun) → Turn → Type 0
ReadsOn sooner law p old new turn.Read =
    BringsNearer (is_working old.phase) sooner law p old new
ReadsOn sooner law p old new _ = ⊤

-- a reading step that begins a split leaves fewer stages
abbrev pub BeginsNearer : (before now : ℕ) → Turn → Type 0
BeginsNearer before now turn.Read = now < before
BeginsNearer before now _ = ⊤

-- what session s has drawn it had drawn before
abbrev pub DrawsNoOther : Shown → Shown → Type 0
DrawsNoOther old new = (r : Revision) → IsTrue (is_revision_of new.history.past new.session r)
    → IsTrue (is_revision_of old.history.past old.session r)

-- a reply is said, or memory was refused for its place
abbrev pub IsReply : Turn → Type 0
IsReply (turn.Said i) = ⊤
IsReply turn.Memory = ⊤
IsReply _ = ⊥

-- behind a step the session stands where it stood
abbrev pub StaysBehindStep : SessionRun → SessionRun → Turn → Type 0
StaysBehindStep old new (turn.Stepped k) = new ≡ old
StaysBehindStep old new _ = ⊤

-- a step leaves less; or the session stands where it stood, and what is being done ends sooner
abbrev pub EndsOrStays : (sooner : Type 0) → (old new : SessionRun) → Turn → Type 0
EndsOrStays sooner old new (turn.Stepped k) =
    (turns_left new < turns_left old) ⊎ ((new ≡ old) × sooner)
EndsOrStays sooner old new _ = ⊤
