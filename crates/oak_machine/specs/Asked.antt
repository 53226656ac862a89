-- For which command of its session each event is made.
use Rattle.std.specs.Prelude.{ℕ, Bool, true, false, ◌||◌, [], ◌∷◌, IsTrue}
use Rattle.oak_machine.specs.declared.event.Event.{Event}
use Rattle.oak_machine.specs.declared.event.Event.TheVariants as event
use Rattle.oak_machine.specs.declared.event.StepKind.TheVariants as kind
use Rattle.oak_machine.specs.History.{History, Past}
use Rattle.oak_machine.specs.Laws.{Asks, is_event_of, is_revision_of}
use Rattle.oak_machine.specs.Sessions.{is_stopped, next_index}
use Rattle.oak_machine.specs.Steps.{is_on}

-- the events of a commit
abbrev pub is_of_commit : Event → Bool
is_of_commit (event.Draw d) = true
is_of_commit (event.Went s kind.Write) = true
is_of_commit (event.Went s kind.Mark) = true
is_of_commit (event.Commit r) = true
is_of_commit (event.Refuse r item o) = true
is_of_commit (event.Went s kind.Undo) = true
is_of_commit (event.End r) = true
is_of_commit (event.Head k v) = true
is_of_commit (event.Refresh s v) = true
is_of_commit _ = false

-- a step of session s may append the event: it tells of the session, or of its cluster node, or of
-- one that was stopped, or of neither
abbrev pub is_made_by : History → ℕ → Event → Bool
is_made_by h s (event.End r) = is_revision_of h.past s r || is_stopped h.past r.cluster
is_made_by h s (event.Head k v) = is_on h s k
is_made_by h s (event.Out k r) = is_on h s k || is_stopped h.past k
is_made_by h s (event.In k v) = is_on h s k
is_made_by h s (event.Sweep k r) = is_on h s k || is_stopped h.past k
is_made_by h s (event.Bound m t) = true
is_made_by h s (event.Checkpoint id v) = true
is_made_by h s (event.Release id) = true
is_made_by h s (event.Stop k) = true
is_made_by h s (event.Recover k) = true
is_made_by h s e = is_event_of h.past s e

-- a session makes the event, and its command that it hasn't answered yet asks for it
pub record IsAskedFor (asks : Asks) (h : History) (e : Event) : Type 0 where
  pub session : ℕ
  pub made : IsTrue (is_made_by h session e)
  pub asked : asks session (next_index h.past session) e

-- the event is asked for, unless it is a reply: of a reply a run itself says that it answers the
-- next command
abbrev pub IsAsked : Asks → History → Event → Type 0
IsAsked asks h (event.Said s i text) = Unit {0}
IsAsked asks h e = IsAskedFor asks h e

-- each event of a past is made for a command that asks for it, by the history behind it
abbrev pub AreAskedIn : Asks → History → Past → Type 0
AreAskedIn asks h [] = Unit {0}
AreAskedIn asks h (e ∷ past) = IsAsked asks (record h { past = past }) e × AreAskedIn asks h past

-- each event of a history is made for a command that asks for it
abbrev pub AreAsked : Asks → History → Type 0
AreAsked asks h = AreAskedIn asks h h.past
