-- Where a session stands between its turns, and what a turn makes of that.
use Rattle.std.specs.Prelude.{◌≡◌, ◌⊎◌, ◌≤◌, ◌+◌, ℕ, Bool, true, false, cond, ◌&&◌, ◌||◌, not, ⊤}
use Rattle.std.specs.Prelude.{List, [], ◌∷◌, length, max, slice_get, reverse, Option, None, Some}
use Rattle.std.specs.Prelude.{is_none, is_some, option_map, IfSome, IsTrue, IsFalse, string_bytes}
use Rattle.std.specs.List.{list_any}
use Rattle.std.specs.Option.{option_map_or}
use Rattle.std.specs.declared.alloc.Global.{Global}
use Rattle.std.specs.declared.string.String.{String}
use Rattle.jr_path.specs.Lists.{Text}
use Rattle.jr_rev.specs.declared.revision.Revision.{Revision}
use Rattle.jr_rev.specs.declared.vector.RevVec.{RevVec}
use Rattle.jr_rev.specs.Revisions.{is_at_most}
use Rattle.jr_rev.specs.Vectors.{sees}
use Rattle.jr_tree.specs.declared.edit.Edit.{Edit}
use Rattle.jr_tree.specs.declared.shared.CommitChanges.{CommitChanges}
use Rattle.jr_tree.specs.Edits.{IsProper, applied}
use Rattle.jr_tree.specs.Trees.{IsTree, Nodes}
use Rattle.jr_part.specs.declared.need.Need.TheVariants as need
use Rattle.oak_machine.specs.declared.event.Draw.{Draw}
use Rattle.oak_machine.specs.declared.event.Event.{Event}
use Rattle.oak_machine.specs.declared.event.Event.TheVariants as event
use Rattle.oak_machine.specs.declared.event.StepKind.{StepKind}
use Rattle.oak_machine.specs.declared.event.StepKind.TheVariants as kind
use Rattle.oak_machine.specs.Changed.{changes_between}
use Rattle.oak_machine.specs.History.{History, Past}
use Rattle.oak_machine.specs.Commits.{is_committed, is_ended, refusal_of, tree_at}
use Rattle.oak_machine.specs.Heads.{head_of, local, published}
use Rattle.oak_machine.specs.Laws.{after, is_revision_of}
use Rattle.oak_machine.specs.Runs.{AreNodes, IsRun, is_task_end}
use Rattle.oak_machine.specs.Sessions.{base_of, cursor_at, drawn_since, has_left, has_login}
use Rattle.oak_machine.specs.Sessions.{is_attached, is_drawing, next_index, refreshed_since, since}
use Rattle.oak_machine.specs.Steps.{is_appended_by, is_kind}
use Rattle.oak_port.specs.Ports.{Awaiting, Collecting, Deciding, Detaching, Grows, HasRoom}
use Rattle.oak_port.specs.Ports.{HoldsBack, Idle, IsSessionOn, Passing, Sweeping, Telling}
use Rattle.oak_port.specs.Ports.{Learning, Publishing, Shown, Starting, Undoing, Work, Writing}
use Rattle.oak_port.specs.Ports.{is_by_due, is_due}
use Rattle.oak_port.specs.declared.task.Task.TheVariants as task
use Rattle.oak_commit.specs.declared.outcome.CommitEnd.{CommitEnd}
use Rattle.oak_commit.specs.declared.outcome.CommitEnd.TheVariants as commit
use Rattle.jr_types.specs.declared.TypeDef.{TypeDef}
use Rattle.jr_items.specs.Refusals.{limit_refusal, no_checkpoint}
use Rattle.jcr_ref.specs.Drawn.{too_many_ids}
use Rattle.jcr_ref.specs.References.{ReferencesOk}
use Rattle.jcr_trans.specs.Answers.{ShowsText, ShowsVector}
use Rattle.jcr_trans.specs.Texts.{answer_text}
use Rattle.jcr_trans.specs.declared.command.Command.{Command}
use Rattle.jcr_trans.specs.declared.command.Command.TheVariants as command
use Rattle.jcr_view.specs.Rounds.{is_of_one_node}
use Rattle.jcr_law.specs.declared.law.JcrLaw.{JcrLaw}
use Rattle.jcr_law.specs.declared.state.Cursor.{Cursor}
use Rattle.jcr_law.specs.Built.{is_built, is_forbidden}
use Rattle.jcr_law.specs.Lasting.{says_of, starts_of}
use Rattle.jcr_law.specs.Law.{SaysBy, no_text}
use Rattle.jcr_law.specs.Makes.{commits, steps_of}
use Rattle.jcr_law.specs.Queries.{events_reply, events_since}
use Rattle.jcr_law.specs.Since.{before_turn, came, detached_among, draw_since, is_unmoved}
use Rattle.jcr_law.specs.Since.{is_unpinned}
use Rattle.jcr_law.specs.State.{Call, call_of, command_at, is_ok_text, next_id}
use Rattle.jcr_law.specs.Tasks.{is_sweep, knows_published}
use Rattle.jcr_law.specs.Calls.{call_after, call_moved}
use Rattle.jcr_call.specs.Comings.{IsAcceptedOf}
use Rattle.jcr_call.specs.declared.coming.Accepted.{Accepted}
use Rattle.jcr_held.specs.Accepts.{IsFilterOf}
use Rattle.jcr_held.specs.Begins.{IsNewHeld}
use Rattle.jcr_held.specs.Holds.{Holds, IsReady}
use Rattle.jcr_held.specs.Unread.{IsWanted}
use Rattle.jcr_held.specs.declared.held.Held.{Held}
use Rattle.core_calls.specs.Seeing.{SeesTrees, SeesTyped}
use Rattle.jcr_steps.specs.declared.limits.TheConstants.{COMMIT_REPLY_BYTES}
use Rattle.jcr_run.specs.declared.limits.TheConstants.{MOST_COMMANDS}
use Rattle.jcr_steps.specs.declared.limits.TheConstants.{VECTOR_REPLY_BYTES}
use Rattle.jcr_run.specs.declared.next.Due.{Due}
use Rattle.jcr_run.specs.declared.next.Due.TheVariants as due
use Rattle.jcr_run.specs.declared.run.Pledge.{Pledge}
use Rattle.jcr_steps.specs.declared.errand.Errand.{Errand}
use Rattle.jcr_steps.specs.declared.errand.Errand.TheVariants as errand
use Rattle.jcr_steps.specs.declared.errand.Told.{Told}
use Rattle.jcr_steps.specs.declared.errand.Told.TheVariants as told
use Rattle.jcr_steps.specs.declared.tidying.Tidied.{Tidied}
use Rattle.jcr_steps.specs.declared.tidying.Tidied.TheVariants as tidied
use Rattle.jcr_steps.specs.Kept.{HasPlace, IsEight, kept_for, kept_of, reply_of}
use Rattle.jcr_run.specs.declared.run.Fetch.{Fetch}
use Rattle.jcr_run.specs.declared.run.Fetch.TheVariants as fetch
use Rattle.jcr_run.specs.declared.run.Phase.{Phase}
use Rattle.jcr_run.specs.declared.run.Phase.TheVariants as phase
use Rattle.jcr_run.specs.declared.run.SessionRun.{SessionRun}
use Rattle.jcr_run.specs.declared.turn.Turn.{Turn}
use Rattle.jcr_run.specs.declared.turn.Turn.TheVariants as turn

-- ---- the next command

-- a session may run the command that is attached to a checkpoint, or isn't
abbrev pub is_allowed : (attached : Bool) → Command → Bool
is_allowed attached m = is_built m && not (is_forbidden attached m)

-- what is to be done for a command that the session may run
abbrev pub due_by : Command → Due
due_by command.Head = due.ShowBase
due_by (command.Refresh keep) = due.Refresh
due_by (command.Query text vars) = due.Query
due_by command.BackWrite = due.Errand
due_by command.BackRead = due.Errand
due_by command.Sweep = due.Errand
due_by command.Checkpoint = due.Errand
due_by (command.Release id) = due.Errand
due_by (command.Attach id) = due.Attach
due_by command.Detach = due.Detach
due_by (command.Observe p deep mask) = due.Observe
due_by command.Events = due.Events
due_by (command.Split p) = due.Split
due_by command.Collect = due.Collect
due_by m = cond (commits m) due.Commit due.See

-- what is to be done for a command; one that the session may not run is refused
abbrev pub due_to : (attached : Bool) → Command → Due
due_to attached m = cond (is_allowed attached m) (due_by m) due.Bar

-- what is to be done for the command of an index, or for none behind the last one
abbrev pub command_due : (attached : Bool) → List Command → ℕ → Due
command_due attached commands i =
    option_map_or (λ m. due_to attached m) (slice_get commands i) due.Leave

-- what is to be done for the session's next command
abbrev pub due_for : SessionRun → Due
due_for run = command_due run.attached run.commands run.index

-- what is to be done may ask for nodes of the tree at the base, for what is pending there, or for
-- what changed
abbrev pub reads_for : Due → Bool
reads_for due.Refresh = true
reads_for due.Query = true
reads_for due.Commit = true
reads_for due.See = true
reads_for due.Attach = true
reads_for due.Detach = true
reads_for due.Events = true
reads_for due.Split = true
reads_for _ = false

-- what is to be done moves the base, and its reply shows where it then stands
abbrev pub is_moving : Due → Bool
is_moving due.Refresh = true
is_moving due.Attach = true
is_moving due.Detach = true
is_moving _ = false

-- what is to be done is a task of the cluster node, of the settings or of the cursor, that keeps
-- for its reply what that needs
abbrev pub is_errand : Due → Bool
is_errand due.Errand = true
is_errand due.Observe = true
is_errand due.Events = true
is_errand _ = false

-- what is to be done has a reply that is told once its task has ended: so have the tasks of the
-- cluster node, of the settings and of the cursor, and an attach where there is no checkpoint
abbrev pub is_told_for : Due → Bool
is_told_for due.Attach = true
is_told_for d = is_errand d

-- what is to be done is a split or a collection
abbrev pub is_tidy : Due → Bool
is_tidy due.Split = true
is_tidy due.Collect = true
is_tidy _ = false

-- what is to be done shows the events since the cursor
abbrev pub is_events : Due → Bool
is_events due.Events = true
is_events _ = false

-- what is to be done attaches the session to a checkpoint
abbrev pub is_attaching : Due → Bool
is_attaching due.Attach = true
is_attaching _ = false

-- a session is between two commands
abbrev pub is_between : Phase → Bool
is_between phase.Between = true
is_between _ = false

-- a session is in a commit
abbrev pub is_committing : Phase → Bool
is_committing (phase.Committing pledge) = true
is_committing _ = false

-- a task of the cluster node or of the settings is under way
abbrev pub is_on_errand : Phase → Bool
is_on_errand (phase.Working errand) = true
is_on_errand _ = false

-- a task of the cluster node or of the settings has ended, and its command isn't answered yet
abbrev pub is_told : Phase → Bool
is_told (phase.Told told) = true
is_told _ = false

-- a detach is under way, whose base has moved
abbrev pub is_detaching : Phase → Bool
is_detaching phase.Detaching = true
is_detaching _ = false

-- a split or a collection is under way
abbrev pub is_tidying : Phase → Bool
is_tidying phase.Tidying = true
is_tidying _ = false

-- a split or a collection has ended, and its command isn't answered yet
abbrev pub is_tidied : Phase → Bool
is_tidied (phase.Tidied t) = true
is_tidied _ = false

-- a commit, a task of the cluster node or of the settings, a detach, a split or a collection is
-- under way
abbrev pub is_working : Phase → Bool
is_working f = is_committing f || is_on_errand f || is_detaching f || is_tidying f

-- the session is before a command for which it may have to read
abbrev pub may_read : SessionRun → Bool
may_read run = is_between run.phase && reads_for (due_for run)

-- for what is to be done it has to be read what changed: the session has a cursor, and that isn't
-- read yet
abbrev pub lacks_for : SessionRun → Due → Bool
lacks_for run d = is_events d && (is_some run.held.cursor && is_none run.changes)

-- for the next command it has to be read what changed
abbrev pub lacks_changes : SessionRun → Bool
lacks_changes run = lacks_for run (due_for run)

-- nothing lacks of what the command asks for: `events` asks for what changed, others for the tree
abbrev pub IsReadyFor : SessionRun → Command → Type 0
IsReadyFor run command.Events = IsFalse (is_some run.held.cursor && is_none run.changes)
IsReadyFor run m = IsReady run.held m

-- nothing lacks of what the next command asks for
abbrev pub IsReadyNext : SessionRun → Type 0
IsReadyNext run = (m : Command) → slice_get run.commands run.index ≡ Some m → IsReadyFor run m

-- nothing is being read, and nothing lacks of what the next command asks for
pub record IsPrepared (run : SessionRun) : Type 0 where
  pub done : run.fetch ≡ None
  pub ready : IsReadyNext run

-- ---- the session in its history

-- only events of others were added, none where nobody else steps the world
pub record IsBeside (law : JcrLaw) (old new : Shown) : Type 0 where
  pub others : Past
  pub grows : Grows (starts_of law) (says_of law) old.session old.history new.history others []
  pub session : new.session ≡ old.session
  pub beside : new.beside ≡ old.beside
  pub alone : IfSome old.beside.seats (λ seats. others ≡ [])

-- the cursor of what the next command of s is run with stands where the history has it
abbrev pub HasCursor : Past → ℕ → Call → Type 0
HasCursor past s c = IfSome c.state.cursor (λ x. cursor_at past s ≡ Some x.at)

-- where the cursor hasn't moved since the next command of s began, the history has it where what
-- that command is run with has it
abbrev pub KeepsCursor : JcrLaw → History → ℕ → Type 0
KeepsCursor law h s = (c : Call) → call_of law h.begin h.past s ≡ Some c
    → IsTrue (is_unpinned h.past s) → HasCursor h.past s c

-- the history is a run by the law, where sessions see trees that meet its types; in it the session
-- has logged in and hasn't left, and it was attached to a checkpoint when its next command began,
-- or wasn't
pub record IsIn (law : JcrLaw) (p : Shown) (attached : Bool) : Type 0 where
  pub nodes : AreNodes p.history.clusters p.history.sessions
  pub trees : SeesTrees law p.history.clusters p.history.sessions p.history.begin
  pub typed : SeesTyped law p.history.clusters p.history.sessions p.history.begin
  pub run : IsRun (starts_of law) (says_of law) p.history
  pub login : IsTrue (has_login p.history.past p.session)
  pub stays : IsFalse (has_left p.history.past p.session)
  pub began : is_attached (before_turn p.history.past p.session) p.session ≡ attached
  pub cursor : KeepsCursor law p.history p.session

-- what the next command of the session is run with
abbrev pub IsCalled : JcrLaw → Shown → Call → Type 0
IsCalled law p c = call_of law p.history.begin p.history.past p.session ≡ Some c

-- nothing was drawn for the next command of s, and nothing of s is in flight
pub record IsFresh (past : Past) (s : ℕ) : Type 0 where
  pub first : drawn_since past s ≡ None
  pub idle : IsFalse (is_drawing past s)

-- a node is being read, or the names of the children of one, or what changed since a vector, or
-- nothing
abbrev pub IsReading : Work → Option Fetch → Type 0
IsReading work None = work ≡ Idle
IsReading work (Some (fetch.Tree (need.Node p))) = work ≡ Starting (task.Load p)
IsReading work (Some (fetch.Tree (need.Children p))) = work ≡ Starting (task.List p)
IsReading work (Some (fetch.Changes v)) = work ≡ Starting (task.Changes v)
IsReading work (Some _) = ⊥

-- ---- a commit

-- on its base, which hasn't moved since its next command began, and no more has its cursor, the
-- session drew for that command, and this is all of it that is in flight
pub record HasDrawn (past : Past) (s : ℕ) (r : Revision) : Type 0 where
  pub unmoved : IsTrue (is_unmoved past s)
  pub unpinned : IsTrue (is_unpinned past s)
  pub made : Draw
  pub revision : made.revision ≡ r
  pub draw : draw_since past s ≡ Some made
  pub drawn : drawn_since past s ≡ Some r
  pub base : base_of past s ≡ Some made.base
  pub theirs : IsTrue (is_revision_of past s r)
  pub last : IsFalse (is_drawing (event.End r ∷ past) s)

-- how a commit that isn't made ends is what the history tells: a clash by its refusal
abbrev pub IsToldEnd : Past → Revision → CommitEnd → Type 0
IsToldEnd past r (commit.Clash item o) = refusal_of past r ≡ Some (item, o)
IsToldEnd past r commit.Memory = ⊤
IsToldEnd past r (commit.Committed q) = ⊥

-- the commit under way, by what is being done: it isn't made yet, or will not be, or is made
abbrev pub IsCommitting : Past → ℕ → Work → Type 0
IsCommitting past s (Writing r) = HasDrawn past s r × IsFalse (is_committed past r)
IsCommitting past s (Undoing r e) =
    HasDrawn past s r × IsFalse (is_committed past r) × IsToldEnd past r e
IsCommitting past s (Deciding r) = HasDrawn past s r × IsTrue (is_committed past r)
IsCommitting past s (Awaiting r) =
    HasDrawn past s r × IsTrue (is_committed past r) × IsTrue (is_ended past r)
IsCommitting past s _ = ⊥

-- the commit that has ended was not made, and neither the base nor the cursor has moved for it
pub record IsUnmade (past : Past) (s : ℕ) (r : Revision) : Type 0 where
  pub unmoved : IsTrue (is_unmoved past s)
  pub unpinned : IsTrue (is_unpinned past s)
  pub drawn : drawn_since past s ≡ Some r
  pub unmade : IsFalse (is_committed past r)
  pub idle : IsFalse (is_drawing past s)

-- the commit that has ended was refused for a clash
pub record IsClash (past : Past) (s : ℕ) (r : Revision) (e : CommitEnd) : Type 0 where
  pub unmade : IsUnmade past s r
  pub ended : IsTrue (is_ended past r)
  pub told : IsToldEnd past r e

-- the commit was made for a command that was run with c, and the base has moved to the head, where
-- the commit is seen; so the session is attached to no checkpoint
pub record IsMadeFor (law : JcrLaw) (h : History) (s : ℕ) (c : Call) (r : Revision) : Type 0 where
  pub unpinned : IsTrue (is_unpinned h.past s)
  pub detached : IsFalse (is_attached h.past s)
  pub made : Draw
  pub revision : made.revision ≡ r
  pub draw : draw_since h.past s ≡ Some made
  pub drawn : drawn_since h.past s ≡ Some r
  pub on : tree_at h.begin h.past made.base ≡ c.base
  pub ended : IsTrue (is_ended h.past r)
  pub committed : IsTrue (is_committed h.past r)
  pub base : RevVec
  pub tree : Nodes
  pub tree_is : IsTree tree
  pub moved : refreshed_since h.past s ≡ Some base
  pub seen : IsTrue (sees base r)
  pub idle : IsFalse (is_drawing h.past s)
  pub call : call_of law h.begin h.past s ≡ Some (call_moved c base tree)

-- how the commit for a command has ended that was run with c
abbrev pub HasCommitted : JcrLaw → Shown → Call → CommitEnd → Type 0
HasCommitted law p c (commit.Committed r) = IsMadeFor law p.history p.session c r
HasCommitted law p c (commit.Clash item o) =
    (r : Revision) × IsCalled law p c
    × IsClash p.history.past p.session r (commit.Clash item o)
HasCommitted law p c commit.Memory =
    (r : Revision) × IsCalled law p c × IsUnmade p.history.past p.session r

-- the place of the reply has room for each reply to the command
pub record IsPlace (room : Option ℕ) (accepted : Accepted) : Type 0 where
  pub told : HasRoom room COMMIT_REPLY_BYTES
  pub text : IfSome accepted.text (λ text. HasRoom room (length (string_bytes text)))

-- the bytes of the place of the reply to a commit, of which this text is kept or none: just what
-- the longer needs of that text and of one that tells a revision
abbrev pub commit_bytes : Option (String Global) → ℕ
commit_bytes (Some text) = max (length (string_bytes text)) COMMIT_REPLY_BYTES
commit_bytes None = COMMIT_REPLY_BYTES

-- what the session drew for its next command has this edit, on the base that is held
abbrev pub HasDrawnFor : Shown → SessionRun → Edit → Type 0
HasDrawnFor p run edit = (d : Draw) → draw_since p.history.past p.session ≡ Some d
    → (d.base ≡ run.held.who.base) × (d.edit ≡ edit)

-- the session commits for its next command, which is run with c, and keeps this for its reply
pub record IsFor (p : Shown) (run : SessionRun) (c : Call) (pledge : Pledge) : Type 0 where
  pub command : Command
  pub next : slice_get run.commands run.index ≡ Some command
  pub commits : due_for run ≡ due.Commit
  pub holds : Holds c run.held
  pub settled : run.held.is_kept ≡ false
  pub accepts : IsAcceptedOf c command pledge.accepted
  pub place : IsPlace p.room pledge.accepted
  pub proper : IsProper c.base pledge.edit.writes
  pub referring : ReferencesOk (applied None c.base pledge.edit.writes)
  pub drew : HasDrawnFor p run pledge.edit

-- ---- a task of the cluster node or of the settings

-- the revision is at least what was local to the session's cluster node when its next command began
abbrev pub IsAllLocal : History → ℕ → Revision → Type 0
IsAllLocal h s r = (k : ℕ) → IsSessionOn h s k
    → IsTrue (is_at_most (local h.begin (before_turn h.past s) k) r)

-- the vector has of each other cluster node at least what that had published then
abbrev pub IsAllPublished : History → ℕ → RevVec → Type 0
IsAllPublished h s v = (k : ℕ) → IsSessionOn h s k
    → IsTrue (knows_published h.clusters h.begin (before_turn h.past s) k v)

-- the revision is at least what the session's cluster node had published then
abbrev pub IsAllOut : History → ℕ → Revision → Type 0
IsAllOut h s r = (k : ℕ) → IsSessionOn h s k
    → IsTrue (is_at_most (published h.begin (before_turn h.past s) k) r)

-- since the next command of the session began, its cluster node has swept up to the revision
abbrev pub HasSwept : History → ℕ → Revision → Type 0
HasSwept h s r = (k : ℕ) × IsSessionOn h s k
    × IsTrue (came s (λ earlier e. is_sweep k r e) h.past)

-- what is being done for the command, which is run with c: its task was begun, or a background
-- write will publish all that was local when the command began, or a background read has read of
-- the root all that was published then, or a sweep goes up to all that its cluster node had
-- published then, and has told that or not
abbrev pub IsWorkFor : History → ℕ → Call → Command → Work → Type 0
IsWorkFor h s c command.BackWrite (Starting task.BackWrite) = ⊤
IsWorkFor h s c command.BackWrite (Publishing r) = IsAllLocal h s r
IsWorkFor h s c command.BackRead (Starting task.BackRead) = ⊤
IsWorkFor h s c command.BackRead (Learning v) = IsAllPublished h s v
IsWorkFor h s c command.Sweep (Starting task.Sweep) = ⊤
IsWorkFor h s c command.Sweep (Passing r) = IsAllOut h s r
IsWorkFor h s c command.Sweep (Sweeping r) = IsAllOut h s r × HasSwept h s r
IsWorkFor h s c command.Checkpoint (Starting (task.Checkpoint id)) =
    (id ≡ next_id c.who) × (too_many_ids (c.who.ids + 1) ≡ None)
IsWorkFor h s c (command.Release id) (Starting (task.Release i)) = i ≡ id
IsWorkFor h s c (command.Observe p deep mask) (Starting task.Observe) = limit_refusal p ≡ None
IsWorkFor h s c command.Events (Starting task.Observe) = ⊤
IsWorkFor h s c m work = ⊥

-- what is kept for the reply to the command: of a checkpoint the reply that shows its id, the
-- session's next one; of a release that there is no such checkpoint; of an observing its filter; of
-- `events` the reply that shows those since the cursor
abbrev pub IsKeptFor : History → Call → Command → Errand → Type 0
IsKeptFor h c command.BackWrite errand.Write = ⊤
IsKeptFor h c command.BackRead errand.Read = ⊤
IsKeptFor h c command.Sweep errand.Sweep = ⊤
IsKeptFor h c command.Checkpoint (errand.Checkpoint reply) =
    string_bytes reply ≡ answer_text (ShowsText (next_id c.who))
IsKeptFor h c (command.Release id) (errand.Release reply) =
    string_bytes reply ≡ no_text (no_checkpoint id)
IsKeptFor h c (command.Observe p deep mask) (errand.Observe filter) =
    IsFilterOf (command.Observe p deep mask) filter
IsKeptFor h c command.Events (errand.Events reply) =
    string_bytes reply ≡ events_reply (events_since h.begin h.past c.who.base c.state.cursor)
IsKeptFor h c m e = ⊥

-- an `observe` is accepted with its filter, and no other command with one
abbrev pub IsToldFor : Command → Told → Type 0
IsToldFor (command.Observe p deep mask) (told.Observed filter) =
    IsFilterOf (command.Observe p deep mask) filter
IsToldFor (command.Observe p deep mask) _ = ⊥
IsToldFor m (told.Observed filter) = ⊥
IsToldFor m _ = ⊤

-- ---- where it stands

-- what is held is what a session of the law holds when it begins
pub record HoldsNone (session earlier : ℕ) (types : List TypeDef) (held : Held) : Type 0 where
  pub nothing : IsNewHeld held
  pub session_is : held.who.session ≡ session
  pub earlier_is : held.who.earlier ≡ earlier
  pub types_are : held.types ≡ types

-- the session has not logged in, has answered nothing, and is attached to no checkpoint
pub record IsOutside (law : JcrLaw) (p : Shown) (run : SessionRun) : Type 0 where
  pub idle : p.work ≡ Idle
  pub first : run.index ≡ 0
  pub out : IsFalse (has_login p.history.past p.session)
  pub unread : run.fetch ≡ None
  pub unlisted : run.changes ≡ None
  pub holds : HoldsNone run.session law.earlier law.types run.held
  pub still : IsFalse (is_drawing p.history.past p.session)
  pub detached : IsFalse run.attached

-- what is being read of the tree is among what the command may ask for, and isn't known
abbrev pub IsWantedBy : Call → Held → Command → Fetch → Type 0
IsWantedBy c held m (fetch.Tree n) = IsWanted c held m n
IsWantedBy c held m (fetch.Changes v) = ⊤

-- what is being read is among what the next command may ask for, and isn't known
abbrev pub IsWantedNext : Call → SessionRun → Type 0
IsWantedNext c run = (m : Command) → slice_get run.commands run.index ≡ Some m
    → IfSome run.fetch (IsWantedBy c run.held m)

-- a node, or the children of one, or what changed
abbrev pub IsOneFetch : Fetch → Type 0
IsOneFetch (fetch.Tree n) = IsTrue (is_of_one_node n)
IsOneFetch (fetch.Changes v) = ⊤

-- the tree is read for other commands than `events`; for that one, what changed since the cursor,
-- where that lacks
abbrev pub IsFetchFor : SessionRun → Option Fetch → Type 0
IsFetchFor run None = ⊤
IsFetchFor run (Some (fetch.Tree n)) = IsFalse (is_events (due_for run))
IsFetchFor run (Some (fetch.Changes v)) = IsTrue (lacks_changes run)
    × (option_map {T = Cursor} (λ x. x.at) run.held.cursor ≡ Some v)

-- the commits are those which the base of a command sees and its cursor doesn't
abbrev pub AreSince : History → Call → Option (List CommitChanges) → Type 0
AreSince h c None = ⊤
AreSince h c (Some commits) = (x : Cursor) × (c.state.cursor ≡ Some x)
    × (commits ≡ changes_between h.begin h.past x.at c.who.base)

-- the session is between two commands, neither its base nor its cursor has moved since the next one
-- began, and what it holds is what that one is run with; what is being read is for that one, and
-- what is read of the changes is all since the cursor
pub record IsBetweenCommands (law : JcrLaw) (p : Shown) (run : SessionRun) : Type 0 where
  pub unmoved : IsTrue (is_unmoved p.history.past p.session)
  pub unpinned : IsTrue (is_unpinned p.history.past p.session)
  pub call : Call
  pub is : IsCalled law p call
  pub holds : Holds call run.held
  pub fresh : IsFresh p.history.past p.session
  pub reads : IsReading p.work run.fetch
  pub due : IsTrue (is_some run.fetch) → IsTrue (reads_for (due_for run))
  pub for : IsFetchFor run run.fetch
  pub wanted : IsWantedNext call run
  pub changes : AreSince p.history call run.changes

-- the session's next command is m, which is run with c, and for which nothing is being read and
-- nothing was drawn
pub record IsOnCommand (law : JcrLaw) (p : Shown) (run : SessionRun) (m : Command) (c : Call)
    : Type 0 where
  pub unread : run.fetch ≡ None
  pub next : slice_get run.commands run.index ≡ Some m
  pub is : IsCalled law p c
  pub holds : Holds c run.held
  pub fresh : IsFresh p.history.past p.session

-- the session's base moved to v, of eight entries, for its next command, which shows that: the law
-- lets that be said, there is a place for it, and by where the base is the session is attached or
-- isn't
pub record IsBaseMoved (law : JcrLaw) (p : Shown) (run : SessionRun) (v : RevVec) : Type 0 where
  pub idle : p.work ≡ Idle
  pub command : Command
  pub call : Call
  pub for : IsOnCommand law p run command call
  pub moves : IsTrue (is_moving (due_for run))
  pub unpinned : IsTrue (is_unpinned p.history.past p.session)
  pub stands : is_attached p.history.past p.session ≡ is_attaching (due_for run)
  pub says : SaysBy law p.history p.session run.index (answer_text (ShowsVector v))
  pub eight : length v ≡ 8
  pub place : HasRoom p.room VECTOR_REPLY_BYTES

-- the session's base moved to v, of eight entries, for a detach whose second step isn't made, and
-- for whose reply there is a place; what is held is what the detach was run with at the checkpoint
pub record IsHalfDetached (law : JcrLaw) (p : Shown) (run : SessionRun) (v : RevVec)
    : Type 0 where
  pub unread : run.fetch ≡ None
  pub command : Command
  pub next : slice_get run.commands run.index ≡ Some command
  pub detaches : due_for run ≡ due.Detach
  pub fresh : IsFresh p.history.past p.session
  pub call : Call
  pub holds : Holds call run.held
  pub settled : run.held.is_kept ≡ false
  pub tree : Nodes
  pub tree_is : IsTree tree
  pub is : IsCalled law p (call_moved call v tree)
  pub unpinned : IsTrue (is_unpinned p.history.past p.session)
  pub stands : IsFalse (is_attached p.history.past p.session)
  pub moved : refreshed_since p.history.past p.session ≡ Some v
  pub whole : detached_among (since p.history.past p.session) p.session ≡ None
  pub eight : length v ≡ 8
  pub place : HasRoom p.room VECTOR_REPLY_BYTES

-- the second step of a detach is to be made, for which the session's base has moved
pub record IsDetaching (law : JcrLaw) (p : Shown) (run : SessionRun) : Type 0 where
  pub vector : RevVec
  pub works : p.work ≡ Detaching vector
  pub half : IsHalfDetached law p run vector

-- the session commits for its next command
pub record IsInCommit (law : JcrLaw) (p : Shown) (run : SessionRun) (pledge : Pledge) : Type 0 where
  pub unread : run.fetch ≡ None
  pub call : Call
  pub is : IsCalled law p call
  pub for : IsFor p run call pledge
  pub commits : IsCommitting p.history.past p.session p.work

-- the commit for the session's next command has ended so
pub record IsAtEnd (law : JcrLaw) (p : Shown) (run : SessionRun) (e : CommitEnd) (pledge : Pledge)
    : Type 0 where
  pub idle : p.work ≡ Idle
  pub unread : run.fetch ≡ None
  pub call : Call
  pub for : IsFor p run call pledge
  pub ended : HasCommitted law p call e

-- the task of a command of the cluster node, of the settings or of the cursor is under way, and
-- this is kept of it for the reply, which has a place; neither the base nor the cursor has moved
-- since the command began
pub record IsOnErrand (law : JcrLaw) (p : Shown) (run : SessionRun) (e : Errand) : Type 0 where
  pub command : Command
  pub call : Call
  pub for : IsOnCommand law p run command call
  pub errands : IsTrue (is_errand (due_for run))
  pub unmoved : IsTrue (is_unmoved p.history.past p.session)
  pub unpinned : IsTrue (is_unpinned p.history.past p.session)
  pub works : IsWorkFor p.history p.session call command p.work
  pub kept : IsKeptFor p.history call command e
  pub place : HasPlace p.room (kept_for e)

-- the task of a command of the cluster node, of the settings or of the cursor has ended so, or
-- there was no checkpoint to attach to: the base hasn't moved, the law lets the reply be said,
-- which has a place, and behind that reply the cursor stands where the history has it
pub record IsErrandTold (law : JcrLaw) (p : Shown) (run : SessionRun) (t : Told) : Type 0 where
  pub idle : p.work ≡ Idle
  pub command : Command
  pub call : Call
  pub for : IsOnCommand law p run command call
  pub tells : IsTrue (is_told_for (due_for run))
  pub unmoved : IsTrue (is_unmoved p.history.past p.session)
  pub says : SaysBy law p.history p.session run.index (reply_of t)
  pub by : IsToldFor command t
  pub cursor : HasCursor p.history.past p.session
      (call_after (is_ok_text (reply_of t)) false call command)
  pub place : HasPlace p.room (kept_of t)
  pub eight : IsEight t

-- what is being done for a split or a collection
abbrev pub IsTidyWork : Command → Work → Type 0
IsTidyWork (command.Split p) (Starting (task.Split q)) = q ≡ p
IsTidyWork command.Collect (Starting task.Collect) = ⊤
IsTidyWork command.Collect Collecting = ⊤
IsTidyWork m work = ⊥

-- the split or the collection of a command is under way, and want of memory has a place as its
-- reply; neither the base nor the cursor has moved since the command began
pub record IsInTidying (law : JcrLaw) (p : Shown) (run : SessionRun) : Type 0 where
  pub command : Command
  pub call : Call
  pub for : IsOnCommand law p run command call
  pub tidies : IsTrue (is_tidy (due_for run))
  pub unmoved : IsTrue (is_unmoved p.history.past p.session)
  pub unpinned : IsTrue (is_unpinned p.history.past p.session)
  pub works : IsTidyWork command p.work
  pub place : HasRoom p.room COMMIT_REPLY_BYTES

-- of a split or a collection of session s that has ended so it is left to tell that
abbrev pub IsEndFor : ℕ → Command → Tidied → Work → Type 0
IsEndFor s (command.Split p) (tidied.Split e) work = work ≡ Telling (event.Split s p e)
IsEndFor s command.Collect (tidied.Collected c) work = work ≡ Telling (event.Collected s c)
IsEndFor s m t work = ⊥

-- the split or the collection of a command has ended so, which is told with the reply, and want of
-- memory has a place as that; neither the base nor the cursor has moved since the command began
pub record IsTidyTold (law : JcrLaw) (p : Shown) (run : SessionRun) (t : Tidied) : Type 0 where
  pub command : Command
  pub call : Call
  pub for : IsOnCommand law p run command call
  pub tidies : IsTrue (is_tidy (due_for run))
  pub unmoved : IsTrue (is_unmoved p.history.past p.session)
  pub unpinned : IsTrue (is_unpinned p.history.past p.session)
  pub works : IsEndFor p.session command t p.work
  pub place : HasRoom p.room COMMIT_REPLY_BYTES

-- the session has answered all its commands, and has left
pub record IsGone (p : Shown) (run : SessionRun) : Type 0 where
  pub idle : p.work ≡ Idle
  pub left : IsTrue (has_left p.history.past p.session)
  pub all : run.index ≡ length run.commands
  pub still : IsFalse (is_drawing p.history.past p.session)

-- what holds of a session in a phase
abbrev pub StandsAt : JcrLaw → Shown → SessionRun → Phase → Type 0
StandsAt law p run phase.Outside = IsOutside law p run
StandsAt law p run phase.Between = IsIn law p run.attached × IsBetweenCommands law p run
StandsAt law p run (phase.Moved v) = IsIn law p run.attached × IsBaseMoved law p run v
StandsAt law p run phase.Detaching = IsIn law p run.attached × IsDetaching law p run
StandsAt law p run (phase.Committing pledge) =
    IsIn law p run.attached × IsInCommit law p run pledge
StandsAt law p run (phase.Committed e pledge) =
    IsIn law p run.attached × IsAtEnd law p run e pledge
StandsAt law p run (phase.Working e) = IsIn law p run.attached × IsOnErrand law p run e
StandsAt law p run (phase.Told t) = IsIn law p run.attached × IsErrandTold law p run t
StandsAt law p run phase.Tidying = IsIn law p run.attached × IsInTidying law p run
StandsAt law p run (phase.Tidied t) = IsIn law p run.attached × IsTidyTold law p run t
StandsAt law p run phase.Over = IsGone p run

-- the port is the session's; its history is a run by the law, where sessions see trees that meet
-- its types, and the law has the session's commands; the session's replies are those of the
-- history, and it stands where these say
pub record Stands (law : JcrLaw) (p : Shown) (run : SessionRun) : Type 0 where
  pub nodes : AreNodes p.history.clusters p.history.sessions
  pub trees : SeesTrees law p.history.clusters p.history.sessions p.history.begin
  pub typed : SeesTyped law p.history.clusters p.history.sessions p.history.begin
  pub run_is : IsRun (starts_of law) (says_of law) p.history
  pub session : p.session ≡ run.session
  pub few : length run.commands ≤ MOST_COMMANDS
  pub commands : (i : ℕ) → command_at law run.session i ≡ slice_get run.commands i
  pub index : run.index ≡ next_index p.history.past run.session
  pub within : run.index ≤ length run.commands
  pub at : StandsAt law p run run.phase

-- the command is answered with where it moved the base to
abbrev pub is_move : Command → Bool
is_move (command.Refresh keep) = true
is_move (command.Attach id) = true
is_move command.Detach = true
is_move _ = false

-- the next command of session s moves the base: it is a refresh, an attach or a detach, or what was
-- drawn for it is committed
abbrev pub MovesBase : JcrLaw → History → ℕ → Type 0
MovesBase law h s =
    ((m : Command) × (command_at law s (next_index h.past s) ≡ Some m) × IsTrue (is_move m))
    ⊎ ((r : Revision) × (drawn_since h.past s ≡ Some r) × IsTrue (is_committed h.past r))

-- ---- in which order

-- how many stages of a commit, of a background read, of a sweep or of a collection are behind, by
-- what is being done; of anything else none is
abbrev pub stage_of : Work → ℕ
stage_of (Learning v) = 1
stage_of (Sweeping r) = 1
stage_of Collecting = 1
stage_of (Writing r) = 1
stage_of (Undoing r e) = 3
stage_of (Deciding r) = 4
stage_of (Awaiting r) = 5
stage_of _ = 0

-- how many stages of its next command are behind a session, at the least: once the base has moved
-- its own, and once the commit or the task has ended all but the reply
abbrev pub stage_at : Phase → Work → ℕ
stage_at (phase.Moved v) work = 1
stage_at phase.Detaching work = 1
stage_at (phase.Told (told.Learnt v)) work = 2
stage_at (phase.Told (told.Swept r)) work = 2
stage_at (phase.Told t) work = 1
stage_at (phase.Committed e pledge) work = 6
stage_at (phase.Tidied (tidied.Split e)) work = 1
stage_at (phase.Tidied (tidied.Collected c)) work = 2
stage_at f work = stage_of work

-- the kind is of one of the stages, from this place on until that one
pub record IsOfStage (stages : List (List StepKind)) (from until : ℕ) (k : StepKind) : Type 0 where
  pub place : ℕ
  pub kinds : List StepKind
  pub there : slice_get stages place ≡ Some kinds
  pub among : IsTrue (list_any (is_kind k) kinds)
  pub behind : from ≤ place
  pub before : place ≤ until

-- the kind is of one of the stages of a command, from this place on until that one; where no
-- command is left, the session leaves
abbrev pub IsOfCommand : Option Command → (from until : ℕ) → StepKind → Type 0
IsOfCommand None from until k = k ≡ kind.End
IsOfCommand (Some m) from until k = IsOfStage (steps_of m) from until k

-- the kind of a counted step of session s: it logs in first, and then each step is of a stage of
-- its next command, from this place on until that one
pub record IsInTurn (law : JcrLaw) (h : History) (s : ℕ) (from until : ℕ) (k : StepKind)
    : Type 0 where
  pub outside : IsFalse (has_login h.past s) → k ≡ kind.Login
  pub inside : IsTrue (has_login h.past s)
      → IsOfCommand (command_at law s (next_index h.past s)) from until k

-- the counted steps of a command are made in the order of its stages: each is of a stage that isn't
-- behind, and once it is made no stage before its own is left
abbrev pub AreInStageOrder : JcrLaw → (old new : Shown) → (run now : SessionRun) → Turn → Type 0
AreInStageOrder law old new run now (turn.Stepped k) = IsInTurn law old.history old.session
    (stage_at run.phase old.work) (stage_at now.phase new.work) k
AreInStageOrder law old new run now _ = ⊤

-- ---- what a turn makes

-- an event of a step that is neither a reading step nor a reply
abbrev pub is_step_event : Event → Bool
is_step_event (event.Login t v) = true
is_step_event (event.Refresh t v) = true
is_step_event (event.Draw d) = true
is_step_event (event.Commit r) = true
is_step_event (event.Refuse r item o) = true
is_step_event (event.End r) = true
is_step_event (event.Went t k) = true
is_step_event (event.Out k r) = true
is_step_event (event.In k v) = true
is_step_event (event.Sweep k r) = true
is_step_event (event.Bound m t) = true
is_step_event (event.Checkpoint id v) = true
is_step_event (event.Release id) = true
is_step_event (event.Attach t id) = true
is_step_event (event.Detach t) = true
is_step_event _ = false

-- one event of a step, or the end of a revision with the head that moves then
abbrev pub IsOneStep : Past → Type 0
IsOneStep own = ((e : Event) × (own ≡ e ∷ []) × IsTrue (is_step_event e))
    ⊎ ((k : ℕ) × (v : RevVec) × (r : Revision) × (own ≡ event.Head k v ∷ event.End r ∷ []))

-- how a split or a collection of s ended, or nothing
abbrev pub AreEnds : ℕ → Past → Type 0
AreEnds s [] = ⊤
AreEnds s (e ∷ []) = IsTrue (is_task_end s e)
AreEnds s _ = ⊥

-- the events that a turn adds, the newest first: those of one counted step of its kind, or the next
-- reply, directly behind how a split or a collection ended, where that is told with it, or none
abbrev pub Tells : History → ℕ → ℕ → Turn → Past → Type 0
Tells h s i (turn.Stepped k) own = IsTrue (is_appended_by h s k (reverse own)) × IsOneStep own
Tells h s i (turn.Said j) own = (j ≡ i) × (text : Text) × (ended : Past)
    × AreEnds s ended × (own ≡ event.Said s i text ∷ ended)
Tells h s i (turn.Waiting q) own = own ≡ []
Tells h s i turn.Ended own = own ≡ []
Tells h s i turn.Read own = ⊥
Tells h s i turn.Memory own = ⊥

-- what was committed is seen by the head, where the session waits for that
abbrev pub IsSeenFor : History → Work → Type 0
IsSeenFor h (Awaiting r) = IsTrue (sees (head_of h.clusters h.begin h.past r.cluster) r)
IsSeenFor h _ = ⊤

-- a committed revision that ends is then waited for
abbrev pub HasAwaited : Past → Past → Work → Type 0
HasAwaited past (event.End r ∷ []) work = IsTrue (is_committed past r) → work ≡ Awaiting r
HasAwaited past (event.Head k v ∷ event.End r ∷ []) work =
    IsTrue (is_committed past r) → work ≡ Awaiting r
HasAwaited past _ work = ⊤

-- the work is that a revision is written
abbrev pub is_revision_written : Work → Bool
is_revision_written (Writing r) = true
is_revision_written _ = false

-- a counted step of a session that has not left: a write, a mark or a last write where it is due,
-- and none where nothing is being written
pub record IsStep (h : History) (old new : Shown) (own : Past) : Type 0 where
  pub stays : IsFalse (has_left h.past old.session)
  pub seen : IsSeenFor h old.work
  pub as_due : IsTrue (is_by_due old.due own)
  pub quiet : IsFalse (is_revision_written old.work) → IsTrue (is_by_due None own)
  pub ended : HasAwaited h.past own new.work

-- the session committed r, which the head doesn't see yet
pub record IsUnseen (h : History) (s : ℕ) (r : Revision) : Type 0 where
  pub theirs : IsTrue (is_revision_of h.past s r)
  pub committed : IsTrue (is_committed h.past r)
  pub ended : IsTrue (is_ended h.past r)
  pub unseen : IsFalse (sees (head_of h.clusters h.begin h.past r.cluster) r)

-- when a turn is of each kind
abbrev pub IsMade : History → Shown → Shown → SessionRun → Past → Turn → Type 0
IsMade h old new now own (turn.Stepped k) = IsStep h old new own
IsMade h old new now own (turn.Said j) = IsStep h old new own
IsMade h old new now own (turn.Waiting q) = (r : Revision) × (old.work ≡ Awaiting r)
    × (new.work ≡ Awaiting r) × IsUnseen h old.session r × HoldsBack h.past q r
IsMade h old new now own turn.Ended = (new ≡ old) × IsTrue (has_left h.past old.session)
    × (now.index ≡ length now.commands)
IsMade h old new now own turn.Read = ⊥
IsMade h old new now own turn.Memory = ⊥

-- events of others were added, none where nobody else steps the world, and then those of the turn,
-- which is in its order; the session stands where the history says
pub record IsTurned (law : JcrLaw) (old new : Shown) (run now : SessionRun) (answer : Turn)
    : Type 0 where
  pub others : Past
  pub own : Past
  pub grows : Grows (starts_of law) (says_of law) old.session old.history new.history others own
  pub beside : new.beside ≡ old.beside
  pub alone : IfSome old.beside.seats (λ seats. others ≡ [])
  pub tells : Tells (after others old.history) old.session run.index answer own
  pub made : IsMade (after others old.history) old new now own answer
  pub in_order : AreInStageOrder law old new run now answer
  pub same : (now.session ≡ run.session) × (now.commands ≡ run.commands)
  pub stands : Stands law new now

-- commands, replies and phase stay, and whether it is attached
pub record IsSame (old new : SessionRun) : Type 0 where
  pub session : new.session ≡ old.session
  pub commands : new.commands ≡ old.commands
  pub index : new.index ≡ old.index
  pub phase : new.phase ≡ old.phase
  pub attached : new.attached ≡ old.attached

-- a reading step or none: the session stands where it stood, with what is read by now; none is made
-- where none can be due
pub record HasLooked (law : JcrLaw) (old new : Shown) (run now : SessionRun) : Type 0 where
  pub stands : Stands law new now
  pub same : IsSame run now
  pub beside : IsBeside law old new
  pub still : IsFalse (may_read run) → (new ≡ old) × (now ≡ run)

-- memory was refused, and the run ends; or the turn was made, which is no reading step
abbrev pub HasCounted : JcrLaw → Shown → Shown → SessionRun → SessionRun → Turn → Type 0
HasCounted law old new run now turn.Memory = ⊤
HasCounted law old new run now answer = IsTurned law old new run now answer

-- a reading step inside the session's commit: a previous document of one that it wrote was looked
-- at, where that was due; the session stands in its commit
pub record HasLookedBack (law : JcrLaw) (old new : Shown) (run now : SessionRun) : Type 0 where
  pub commits : IsTrue (is_committing run.phase)
  pub writes : IsTrue (is_revision_written old.work)
  pub due : IsTrue (is_due kind.Read old.due)
  pub stands : Stands law new now
  pub same : now ≡ run
  pub beside : IsBeside law old new

-- a reading step of a split or a collection, which it may begin or end: commands and replies stay,
-- and whether the session is attached
pub record HasReadOn (law : JcrLaw) (old new : Shown) (run now : SessionRun) : Type 0 where
  pub before : IsTrue (is_between run.phase || is_tidying run.phase)
  pub behind : IsTrue (is_tidying now.phase || is_tidied now.phase)
  pub stands : Stands law new now
  pub same : IsSame (record run { phase = now.phase }) now
  pub beside : IsBeside law old new

-- a reading step was made, before a command that reads, inside a commit, or of a split or a
-- collection; or memory was refused, or another turn was made
abbrev pub HasTurned : JcrLaw → Shown → Shown → SessionRun → SessionRun → Turn → Type 0
HasTurned law old new run now turn.Read =
    (HasLooked law old new run now × IsTrue (may_read run))
    ⊎ HasLookedBack law old new run now
    ⊎ HasReadOn law old new run now
HasTurned law old new run now answer = HasCounted law old new run now answer

-- from the draw of its commit until its reply
abbrev pub is_saving : Phase → Bool
is_saving (phase.Committing pledge) = true
is_saving (phase.Committed e pledge) = true
is_saving _ = false

-- the base moved for a command that isn't answered yet, whose reply shows that
abbrev pub base_has_moved : Phase → Bool
base_has_moved (phase.Moved v) = true
base_has_moved phase.Detaching = true
base_has_moved _ = false

-- a task of the cluster node or of the settings, a split or a collection was begun for a command
-- that isn't answered yet
abbrev pub has_begun : Phase → Bool
has_begun f = is_on_errand f || is_told f || is_tidying f || is_tidied f

-- a turn doesn't answer that memory was refused
abbrev pub IsGranted : Turn → Type 0
IsGranted turn.Memory = ⊥
IsGranted _ = ⊤

-- a session that has not logged in, with these commands, before which there were so many sessions
pub record IsNew (session earlier : ℕ) (commands : List Command) (types : List TypeDef)
    (run : SessionRun) : Type 0 where
  pub session_is : run.session ≡ session
  pub commands_are : run.commands ≡ commands
  pub first : run.index ≡ 0
  pub outside : run.phase ≡ phase.Outside
  pub unread : run.fetch ≡ None
  pub unlisted : run.changes ≡ None
  pub holds : HoldsNone session earlier types run.held
  pub detached : IsFalse run.attached

-- what comes of whether a reading step was made: where none was, nothing was shown anew, and the
-- session has all that its next command asks for
pub record HasMadeReading (old new : Shown) (run now : SessionRun) (made : Bool) : Type 0 where
  pub none : IsFalse made → new ≡ old
  pub prepared : IsFalse made → IsTrue (may_read run) → IsPrepared now
  pub due : IsTrue made → IsTrue (may_read run)

-- memory was refused for reading: nothing is being read, before a command that reads
pub record IsRefused (p : Shown) (run : SessionRun) : Type 0 where
  pub idle : p.work ≡ Idle
  pub unread : run.fetch ≡ None
  pub reads : IsTrue (may_read run)

-- the session's commit has ended
abbrev pub HasCommitEnded : Phase → Type 0
HasCommitEnded (phase.Committed e pledge) = ⊤
HasCommitEnded _ = ⊥
