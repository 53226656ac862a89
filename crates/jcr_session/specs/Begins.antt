-- What a session begins for its next command, and what it finds once that has ended.
use Rattle.std.specs.Prelude.{◌≡◌, ◌≢◌, ◌≤◌, ◌+◌, ℕ, false, true, [], length, slice_get}
use Rattle.std.specs.Prelude.{None, Some, IsTrue, string_bytes}
use Rattle.std.specs.Prelude.{Ok}
use Rattle.jr_path.specs.declared.path.Item.{Item}
use Rattle.jr_path.specs.Lists.{Text}
use Rattle.jr_rev.specs.declared.revision.Revision.{Revision}
use Rattle.jr_rev.specs.declared.vector.RevVec.{RevVec}
use Rattle.jr_tree.specs.declared.edit.Edit.{Edit}
use Rattle.jr_tree.specs.declared.shared.Refusal.{Refusal}
use Rattle.jr_tree.specs.Edits.{IsProper, applied}
use Rattle.jr_tree.specs.Trees.{IsTree, Nodes}
use Rattle.oak_commit.specs.declared.outcome.CommitEnd.TheVariants as commit
use Rattle.oak_machine.specs.History.{History}
use Rattle.oak_machine.specs.Sessions.{drawn_since, next_index}
use Rattle.oak_port.specs.Ports.{HasRoom, Idle, Shown}
use Rattle.oak_port.specs.declared.task.Task.{Task}
use Rattle.oak_port.specs.declared.task.Task.TheVariants as task
use Rattle.jcr_plan.specs.declared.plans.Plan.{Plan}
use Rattle.jcr_plan.specs.Plans.{PlanOk}
use Rattle.jr_items.specs.Refusals.{limit_refusal, no_checkpoint}
use Rattle.jcr_ref.specs.Drawn.{too_many_ids}
use Rattle.jcr_ref.specs.References.{ReferencesOk}
use Rattle.jcr_trans.specs.Answers.{Done}
use Rattle.jcr_trans.specs.Texts.{answer_text}
use Rattle.jcr_trans.specs.declared.command.Command.{Command}
use Rattle.jcr_trans.specs.declared.command.Command.TheVariants as command
use Rattle.jcr_observe.specs.declared.event.Filter.{Filter}
use Rattle.jcr_law.specs.declared.law.JcrLaw.{JcrLaw}
use Rattle.jcr_law.specs.Commits.{edit_due}
use Rattle.jcr_law.specs.Law.{IsUnmoved, IsUnpinned, SaysBy, no_text}
use Rattle.jcr_law.specs.Queries.{events_reply}
use Rattle.jcr_law.specs.State.{Call, command_at, next_id}
use Rattle.jcr_law.specs.Calls.{call_after}
use Rattle.jcr_call.specs.Comings.{IsAcceptedOf}
use Rattle.jcr_held.specs.Accepts.{IsFilterOf}
use Rattle.jcr_held.specs.Holds.{Holds}
use Rattle.jr_rev.specs.Alone.{IsNextAlone}
use Rattle.jcr_run.specs.declared.run.Pledge.{Pledge}
use Rattle.jcr_steps.specs.declared.errand.Errand.{Errand}
use Rattle.jcr_steps.specs.declared.errand.Told.{Told}
use Rattle.jcr_steps.specs.declared.errand.Told.TheVariants as told
use Rattle.jcr_session.specs.declared.errand.Start.{Start}
use Rattle.jcr_session.specs.declared.errand.Start.TheVariants as start
use Rattle.jcr_steps.specs.declared.limits.TheConstants.{COMMIT_REPLY_BYTES}
use Rattle.jcr_run.specs.declared.limits.TheConstants.{MOST_COMMANDS}
use Rattle.jcr_session.specs.declared.moves.Target.{Target}
use Rattle.jcr_run.specs.declared.next.Due.TheVariants as due
use Rattle.jcr_run.specs.declared.run.Phase.TheVariants as phase
use Rattle.jcr_run.specs.declared.run.SessionRun.{SessionRun}
use Rattle.jcr_steps.specs.Kept.{HasPlace}
use Rattle.jcr_run.specs.Standing.{AreSince, HasCursor, IsClash, IsHalfDetached, IsIn}
use Rattle.jcr_run.specs.Standing.{IsKeptFor, IsPlace, due_for, is_errand}
use Rattle.jcr_steps.specs.Kept.{kept_for, reply_of}
use Rattle.jcr_run.specs.Asked.{IsAsked, MaySettle, has_drawn, history_told}

-- ---- a move of the base

-- the checkpoint that is asked for, and the reply where there is none of that identifier
pub record IsTargetOf (id : Text) (t : Target) : Type 0 where
  pub named : t.id ≡ id
  pub told : string_bytes t.missing ≡ no_text (no_checkpoint id)

-- the next command attaches to a checkpoint: that which is asked for, and the reply where there is
-- none of that identifier
pub record IsTargetNext (run : SessionRun) (t : Target) : Type 0 where
  pub id : Text
  pub next : slice_get run.commands run.index ≡ Some (command.Attach id)
  pub target : IsTargetOf id t

-- memory was refused for the second step of a detach, whose base has moved
pub record MayStayHalf (law : JcrLaw) (p : Shown) (run : SessionRun) : Type 0 where
  pub inside : IsIn law p run.attached
  pub session : p.session ≡ run.session
  pub few : length run.commands ≤ MOST_COMMANDS
  pub commands : (i : ℕ) → command_at law run.session i ≡ slice_get run.commands i
  pub index : run.index ≡ next_index p.history.past run.session
  pub idle : p.work ≡ Idle
  pub vector : RevVec
  pub half : IsHalfDetached law p run vector

-- ---- a commit

-- the plan is that of the next command, for which nothing was drawn yet and the base hasn't moved,
-- and its reply has a place
pub record MayDrawFor (law : JcrLaw) (p : Shown) (run : SessionRun) (plan : Plan) : Type 0 where
  pub command : Command
  pub call : Call
  pub asked : IsAsked law p run command call
  pub idle : p.work ≡ Idle
  pub first : drawn_since p.history.past p.session ≡ None
  pub unmoved : IsUnmoved p.history p.session
  pub unpinned : IsUnpinned p.history p.session
  pub commits : due_for run ≡ due.Commit
  pub holds : Holds call run.held
  pub settled : run.held.is_kept ≡ false
  pub pledge : Pledge
  pub phase_is : run.phase ≡ phase.Committing pledge
  pub accepts : IsAcceptedOf call command pledge.accepted
  pub place : IsPlace p.room pledge.accepted
  pub edit_is : pledge.edit ≡ plan.edit
  pub due : edit_due call command ≡ Some (Ok plan.edit.writes)
  pub some : plan.edit.writes ≢ []
  pub ok : PlanOk call.types call.base call.state.tokens plan.edit.writes plan.marks

-- behind a commit by r of the edit on the base of c, with which each REFERENCE names a node, t is
-- the tree at v: that base with the edit, where no other commit lies between
pub record SeesCommit (c : Call) (edit : Edit) (r : Revision) (v : RevVec) (t : Nodes)
    : Type 0 where
  pub proper : IsProper c.base edit.writes
  pub referring : ReferencesOk (applied None c.base edit.writes)
  pub tree_is : IsTree t
  pub alone : IsNextAlone c.who.base v r → t ≡ applied (Some r) c.base edit.writes

-- the commit for the next command was refused for a clash of the item with o
pub record HasClashed (law : JcrLaw) (p : Shown) (run : SessionRun) (item : Item) (o : Revision)
    : Type 0 where
  pub command : Command
  pub call : Call
  pub asked : IsAsked law p run command call
  pub idle : p.work ≡ Idle
  pub revision : Revision
  pub clash : IsClash p.history.past p.session revision (commit.Clash item o)
  pub commits : due_for run ≡ due.Commit
  pub holds : Holds call run.held
  pub room : HasRoom p.room COMMIT_REPLY_BYTES

-- ---- a task of the cluster node, of the settings or of the cursor

-- the cursor of the next command, which observes with this filter, is pinned: its reply may be said
-- now, for which nothing was drawn and the base hasn't moved, before what the session holds is
-- brought up to it
pub record MayObserve (law : JcrLaw) (p : Shown) (run : SessionRun) (filter : Filter) : Type 0 where
  pub command : Command
  pub call : Call
  pub asked : IsAsked law p run command call
  pub says : SaysBy law (history_told p) p.session run.index (answer_text Done)
  pub first : has_drawn p ≡ false
  pub unmoved : IsUnmoved p.history p.session
  pub cursor : HasCursor p.history.past p.session (call_after true false call command)
  pub filter_is : IsFilterOf command filter
  pub holds : Holds call run.held

-- how the task of the next command has ended may be told now
abbrev pub MayAnswerTold : JcrLaw → Shown → SessionRun → Told → Type 0
MayAnswerTold law p run (told.Observed filter) = MayObserve law p run filter
MayAnswerTold law p run t = MaySettle law p run (reply_of t)

-- the task that the command asks for, which is run with c: a checkpoint's is under the session's
-- next identifier, which it has; the cursor of an observing has a path within the limits
abbrev pub IsTaskFor : Call → Command → Task → Type 0
IsTaskFor c command.BackWrite t = t ≡ task.BackWrite
IsTaskFor c command.BackRead t = t ≡ task.BackRead
IsTaskFor c command.Sweep t = t ≡ task.Sweep
IsTaskFor c command.Checkpoint t =
    (t ≡ task.Checkpoint (next_id c.who)) × (too_many_ids (c.who.ids + 1) ≡ None)
IsTaskFor c (command.Release id) t = t ≡ task.Release id
IsTaskFor c (command.Observe p deep mask) t = (t ≡ task.Observe) × (limit_refusal p ≡ None)
IsTaskFor c command.Events t = t ≡ task.Observe
IsTaskFor c m t = ⊥

-- the reply of a command for which no task begins: of a checkpoint where the session has drawn all
-- its identifiers, of an observing of a path beyond the limits, of `events` without a cursor
abbrev pub IsSaidAtOnce : Call → Command → Text → Type 0
IsSaidAtOnce c command.Checkpoint text = (r : Refusal)
    × (too_many_ids (c.who.ids + 1) ≡ Some r) × (text ≡ no_text r)
IsSaidAtOnce c (command.Observe p deep mask) text = (r : Refusal)
    × (limit_refusal p ≡ Some r) × (text ≡ no_text r)
IsSaidAtOnce c command.Events text = (c.state.cursor ≡ None) × (text ≡ events_reply [])
IsSaidAtOnce c m text = ⊥

-- what the task of a command begins with, run with c; or the reply where none begins
abbrev pub StartsWith : History → Call → Command → Start → Type 0
StartsWith h c m (start.Begun t e) = IsTaskFor c m t × IsKeptFor h c m e
StartsWith h c m (start.Said text) = IsSaidAtOnce c m (string_bytes text)

-- what the task of the next command begins with, or the reply where none begins, where what is read
-- of the changes is all since the cursor
abbrev pub StartsNext : SessionRun → Start → Type 0
StartsNext run begins = (h : History) (m : Command) (c : Call)
    → slice_get run.commands run.index ≡ Some m
    → Holds c run.held → AreSince h c run.changes → StartsWith h c m begins

-- the task is that of the next command, for which nothing was drawn yet and neither the base nor
-- the cursor has moved, and this is kept of it for its reply, which has a place
pub record MaySetOut (law : JcrLaw) (p : Shown) (run : SessionRun) (t : Task) (e : Errand)
    : Type 0 where
  pub command : Command
  pub call : Call
  pub asked : IsAsked law p run command call
  pub idle : p.work ≡ Idle
  pub between : run.phase ≡ phase.Between
  pub first : drawn_since p.history.past p.session ≡ None
  pub unmoved : IsUnmoved p.history p.session
  pub unpinned : IsUnpinned p.history p.session
  pub errands : IsTrue (is_errand (due_for run))
  pub holds : Holds call run.held
  pub task_is : IsTaskFor call command t
  pub kept : IsKeptFor p.history call command e
  pub place : HasPlace p.room (kept_for e)
