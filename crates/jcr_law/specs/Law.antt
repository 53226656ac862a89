-- The law of the product: which edits may start, and which texts may be said.
use Rattle.std.specs.Prelude.{◌≡◌, ◌≢◌, ℕ, ◌+◌, Bool, false, List, [], ◌∷◌, slice_get, Contains, Option, None, Some, IsTrue, IsFalse, Ok, Err}
use Rattle.std.specs.Option.{option_map_or}
use Rattle.jr_path.specs.declared.path.Item.{Item}
use Rattle.jr_path.specs.declared.path.Path.{Path}
use Rattle.jr_path.specs.declared.name.Name.{Name}
use Rattle.jr_path.specs.Lists.{Text}
use Rattle.jr_rev.specs.declared.revision.Revision.{Revision}
use Rattle.jr_rev.specs.declared.vector.RevVec.{RevVec}
use Rattle.jr_rev.specs.Revisions.{is_at_most}
use Rattle.jr_rev.specs.Vectors.{sees}
use Rattle.jr_value.specs.declared.value.Value.{Value}
use Rattle.jr_tree.specs.declared.edit.Edit.{Edit}
use Rattle.jr_tree.specs.declared.edit.Write.{Write}
use Rattle.jr_tree.specs.declared.shared.Refusal.{Refusal}
use Rattle.jr_items.specs.Refusals.{clash_refusal, limit_refusal, no_checkpoint, out_of_memory, unsupported}
use Rattle.oak_clash.specs.declared.mark.MarkAt.{MarkAt}
use Rattle.oak_doc.specs.declared.asks.Collected.{Collected}
use Rattle.oak_doc.specs.declared.asks.SplitEnd.{SplitEnd}
use Rattle.oak_machine.specs.declared.event.Draw.{Draw}
use Rattle.oak_machine.specs.declared.event.Event.TheVariants as event
use Rattle.oak_machine.specs.Commits.{is_committed, is_ended, refusal_of, tree_at}
use Rattle.oak_machine.specs.Heads.{local, published}
use Rattle.oak_machine.specs.History.{History, Past}
use Rattle.oak_machine.specs.Sessions.{base_of, drawn_since, is_attached, is_drawing, is_stopped, next_index, refreshed_since, since}
use Rattle.jcr_plan.specs.Plans.{PlanOk}
use Rattle.jcr_ref.specs.Drawn.{too_many_ids}
use Rattle.jcr_trans.specs.Answers.{Answer, Done, ShowsNothing, ShowsRevision, ShowsText, ShowsVector}
use Rattle.jcr_trans.specs.Commands.{word_of}
use Rattle.jcr_trans.specs.Texts.{answer_text, ok_text}
use Rattle.jcr_trans.specs.declared.command.Command.{Command}
use Rattle.jcr_trans.specs.declared.command.Command.TheVariants as command
use Rattle.jcr_view.specs.Outcomes.{eval, is_viewed}
use Rattle.jcr_read.specs.Reading.{refused}
use Rattle.jcr_law.specs.declared.law.JcrLaw.{JcrLaw}
use Rattle.jcr_law.specs.Built.{Asked, Allowed, Unsupported, asked}
use Rattle.jcr_law.specs.Commits.{committed_answer, edit_due, refusal_of_due, unwritten_answer}
use Rattle.jcr_law.specs.Queries.{QueryAnswers, events_reply, events_since}
use Rattle.jcr_law.specs.Since.{before_turn, came, detached_among, draw_since, is_pinning, is_unmoved, is_unpinned, stop_position}
use Rattle.jcr_law.specs.State.{Call, call_of, command_at, next_id, session_state}
use Rattle.jcr_law.specs.Tasks.{collected_data, finds_stopped, is_out, is_recovering, is_sweep, knows_published, misses, split_data, split_refusal, stopped_at}

-- the next command of s is that one, and is run so
pub record IsNext (law : JcrLaw) (h : History) (s : ℕ) (m : Command) (c : Call) : Type 0 where
  pub next : command_at law s (next_index h.past s) ≡ Some m
  pub call : call_of law h.begin h.past s ≡ Some c

-- a command as s asks for it, by whether it was attached when the command began
abbrev pub asked_by : History → ℕ → Command → Asked
asked_by h s m = asked (is_attached (before_turn h.past s) s) m

-- the base of s hasn't moved since its next command began
abbrev pub IsUnmoved : History → ℕ → Type 0
IsUnmoved h s = IsTrue (is_unmoved h.past s)

-- nor has its cursor
abbrev pub IsUnpinned : History → ℕ → Type 0
IsUnpinned h s = IsTrue (is_unpinned h.past s)

-- the edit is due for the next command of s, which it may run; nothing was drawn for it yet, and
-- the base hasn't moved; the edit has a write, and is a plan on the tree at the base for the tokens
-- of s
pub record MayStart (law : JcrLaw) (h : History) (s : ℕ) (edit : Edit) (marks : List MarkAt)
    : Type 0 where
  pub command : Command
  pub call : Call
  pub next : IsNext law h s command call
  pub allowed : asked_by h s command ≡ Allowed command
  pub first : drawn_since h.past s ≡ None
  pub unmoved : IsUnmoved h s
  pub due : edit_due call command ≡ Some (Ok edit.writes)
  pub some : edit.writes ≢ []
  pub plan : PlanOk call.types call.base call.state.tokens edit.writes marks

-- a refusal as a reply
abbrev pub no_text : Refusal → List ℕ
no_text r = answer_text (refused r)

-- the text that refuses a command which isn't built, or which lacks what it needs
abbrev pub no_support : Command → List ℕ
no_support m = no_text (unsupported (word_of m))

-- the causes of a reply of s to a command; but where the command moves the base, or the cluster
-- node was stopped, the base hasn't moved since the command began
pub data MaySay (law : JcrLaw) (h : History) (s : ℕ) : Asked → List ℕ → Type 0 where
  -- a command that isn't built, or that the session may not run, is refused
  barred : (m : Command) → IsUnmoved h s → MaySay law h s (Unsupported m) (no_support m)
  -- the cluster node of s was stopped at that position of the journal
  stopped : (a : Asked) (k position : ℕ) → slice_get h.sessions s ≡ Some k
      → stop_position h.past k ≡ Some position → MaySay law h s a (no_text (stopped_at position))
  -- want of memory, where nothing was committed for the command, nothing of s is in flight, and its
  -- cursor hasn't moved
  memory : (a : Asked) → IsFalse (is_drawing h.past s)
      → IsFalse (option_map_or (is_committed h.past) (drawn_since h.past s) false)
      → IsUnmoved h s → IsUnpinned h s → MaySay law h s a (no_text out_of_memory)
  -- want of memory of a `detach`, behind the move of its base
  half_detached : (v : RevVec) → IsFalse (is_drawing h.past s)
      → refreshed_since h.past s ≡ Some v → detached_among (since h.past s) s ≡ None
      → MaySay law h s (Allowed command.Detach) (no_text out_of_memory)
  -- a command of the view answers by the view
  viewed : (m : Command) (c : Call) → IsTrue (is_viewed m) → call_of law h.begin h.past s ≡ Some c
      → IsUnmoved h s → MaySay law h s (Allowed m)
      (answer_text (eval c.types c.who c.base c.state.view m).answer)
  -- `head` shows the base
  head : (v : RevVec) → base_of h.past s ≡ Some v
      → IsUnmoved h s → MaySay law h s (Allowed command.Head) (answer_text (ShowsVector v))
  -- a query answers by the tree at the base
  queried : (text : Text) (vars : List (Name × Value)) (c : Call) (reply : List ℕ)
      → call_of law h.begin h.past s ≡ Some c → QueryAnswers c text vars reply
      → IsUnmoved h s → MaySay law h s (Allowed (command.Query text vars)) reply
  -- a refresh shows the base to which it moved
  refreshed : (keep : Bool) (v : RevVec) → refreshed_since h.past s ≡ Some v
      → MaySay law h s (Allowed (command.Refresh keep)) (answer_text (ShowsVector v))
  -- the edit of a command that commits is refused before a commit, by the command or by its plan
  refused_edit : (m : Command) (c : Call) (due : _) (r : Refusal) → drawn_since h.past s ≡ None
      → call_of law h.begin h.past s ≡ Some c → edit_due c m ≡ Some due
      → refusal_of_due c due ≡ Some r → IsUnmoved h s → MaySay law h s (Allowed m) (no_text r)
  -- there is nothing to write
  unwritten : (m : Command) (c : Call) → drawn_since h.past s ≡ None
      → call_of law h.begin h.past s ≡ Some c → edit_due c m ≡ Some (Ok [])
      → IsUnmoved h s → MaySay law h s (Allowed m) (answer_text (unwritten_answer c m))
  -- the edit is committed, drawn at the base at which the command began, and the base sees it
  committed : (m : Command) (c : Call) (d : Draw) (v : RevVec) → draw_since h.past s ≡ Some d
      → base_of (before_turn h.past s) s ≡ Some d.base
      → IsTrue (is_ended h.past d.revision) → IsTrue (is_committed h.past d.revision)
      → refreshed_since h.past s ≡ Some v → IsTrue (sees v d.revision)
      → call_of law h.begin h.past s ≡ Some c → MaySay law h s (Allowed m)
      (answer_text (committed_answer c (tree_at h.begin h.past d.base) d.revision m))
  -- the commit was refused for a clash
  clashed : (m : Command) (r o : Revision) (item : Item) → drawn_since h.past s ≡ Some r
      → IsTrue (is_ended h.past r) → refusal_of h.past r ≡ Some (item, o)
      → IsUnmoved h s → MaySay law h s (Allowed m) (no_text (clash_refusal item o))
  -- a cursor is set, once it is pinned, on a path within the limits
  observing : (p : Path) (deep : Bool) (mask : ℕ) → limit_refusal p ≡ None
      → IsTrue (came s (λ earlier e. is_pinning s e) h.past)
      → IsUnmoved h s → MaySay law h s (Allowed (command.Observe p deep mask)) (answer_text Done)
  -- a path beyond the limits can't be observed
  unobserved : (p : Path) (deep : Bool) (mask : ℕ) (r : Refusal) → limit_refusal p ≡ Some r
      → IsUnmoved h s → MaySay law h s (Allowed (command.Observe p deep mask)) (no_text r)
  -- without a cursor there are no events
  uncursored : (c : Call) → call_of law h.begin h.past s ≡ Some c → c.state.cursor ≡ None
      → IsUnmoved h s → MaySay law h s (Allowed command.Events) (events_reply [])
  -- the events since the cursor, once it is pinned anew
  observed : (c : Call) → call_of law h.begin h.past s ≡ Some c
      → IsTrue (came s (λ earlier e. is_pinning s e) h.past)
      → IsUnmoved h s → MaySay law h s (Allowed command.Events)
      (events_reply (events_since h.begin h.past c.who.base c.state.cursor))
  -- the cluster node published at least what was its own when the command began
  told : (k : ℕ) (r : Revision) → slice_get h.sessions s ≡ Some k
      → IsTrue (came s (λ earlier e. is_out k r e) h.past)
      → IsTrue (is_at_most (local h.begin (before_turn h.past s) k) r)
      → IsUnmoved h s → MaySay law h s (Allowed command.BackWrite) (answer_text (ShowsRevision r))
  -- the cluster node learned at least what the others had published when the command began
  learned : (k : ℕ) (v : RevVec) → slice_get h.sessions s ≡ Some k
      → Contains (since h.past s) (event.In k v)
      → IsTrue (knows_published h.clusters h.begin (before_turn h.past s) k v)
      → IsUnmoved h s → MaySay law h s (Allowed command.BackRead) (answer_text (ShowsVector v))
  -- the cluster node swept at least up to what it had published when the command began
  swept : (k : ℕ) (r : Revision) → slice_get h.sessions s ≡ Some k
      → IsTrue (came s (λ earlier e. is_sweep k r e) h.past)
      → IsTrue (is_at_most (published h.begin (before_turn h.past s) k) r)
      → IsUnmoved h s → MaySay law h s (Allowed command.Sweep) (answer_text (ShowsRevision r))
  -- a checkpoint of the base is made under the session's next identifier
  kept : (c : Call) → call_of law h.begin h.past s ≡ Some c
      → Contains (since h.past s) (event.Checkpoint (next_id c.who) c.who.base)
      → IsUnmoved h s
      → MaySay law h s (Allowed command.Checkpoint) (answer_text (ShowsText (next_id c.who)))
  -- the session has drawn all its identifiers
  uncounted : (c : Call) (r : Refusal) → call_of law h.begin h.past s ≡ Some c
      → too_many_ids (c.who.ids + 1) ≡ Some r
      → IsUnmoved h s → MaySay law h s (Allowed command.Checkpoint) (no_text r)
  -- the session is attached to a checkpoint, and its base is there
  attached : (id : Text) (v : RevVec) → Contains (since h.past s) (event.Attach s id)
      → base_of h.past s ≡ Some v
      → MaySay law h s (Allowed (command.Attach id)) (answer_text (ShowsVector v))
  -- the checkpoint is released
  released : (id : Text) → Contains (since h.past s) (event.Release id)
      → IsUnmoved h s → MaySay law h s (Allowed (command.Release id)) (answer_text Done)
  -- there was no checkpoint of that id when the settings were looked at
  unattached : (id : Text) → IsTrue (came s (misses s id) h.past)
      → IsUnmoved h s → MaySay law h s (Allowed (command.Attach id)) (no_text (no_checkpoint id))
  unreleased : (id : Text) → IsTrue (came s (misses s id) h.past)
      → IsUnmoved h s → MaySay law h s (Allowed (command.Release id)) (no_text (no_checkpoint id))
  -- the session left its checkpoint for the head
  detached : (v : RevVec) → detached_among (since h.past s) s ≡ Some v
      → MaySay law h s (Allowed command.Detach) (answer_text (ShowsVector v))
  -- a split ended so
  split : (p : Path) (e : SplitEnd) → Contains (since h.past s) (event.Split s p e)
      → IsUnmoved h s → MaySay law h s (Allowed (command.Split p)) (ok_text (split_data e))
  -- the document can't be split
  unsplit : (p : Path) (c : Call) (r : Refusal) → call_of law h.begin h.past s ≡ Some c
      → split_refusal c.base p ≡ Some r → IsUnmoved h s
      → MaySay law h s (Allowed (command.Split p)) (no_text r)
  -- a collection did so
  collected : (x : Collected) → Contains (since h.past s) (event.Collected s x)
      → IsUnmoved h s → MaySay law h s (Allowed command.Collect) (ok_text (collected_data x))
  -- the cluster node is stopped
  stopping : (k : ℕ) → IsTrue (is_stopped (since h.past s) k)
      → IsUnmoved h s → MaySay law h s (Allowed (command.Stop (Some k))) (answer_text Done)
  -- a session can't stop its own cluster node
  unstopped : (k : ℕ) → slice_get h.sessions s ≡ Some k
      → IsUnmoved h s
      → MaySay law h s (Allowed (command.Stop (Some k))) (no_support (command.Stop (Some k)))
  -- nor one that is stopped already
  restopped : (k : ℕ) → IsTrue (came s (finds_stopped s k) h.past)
      → IsUnmoved h s
      → MaySay law h s (Allowed (command.Stop (Some k))) (no_support (command.Stop (Some k)))
  -- the cluster node is recovered, and what it left is published
  recovered : (k : ℕ) (r : Revision) → IsTrue (came s (is_recovering k r) h.past)
      → IsUnmoved h s
      → MaySay law h s (Allowed (command.Recover (Some k))) (answer_text (ShowsRevision r))
  -- one that isn't stopped can't be recovered
  unrecovered : (k : ℕ) → IsFalse (is_stopped (before_turn h.past s) k)
      → IsUnmoved h s
      → MaySay law h s (Allowed (command.Recover (Some k))) (no_support (command.Recover (Some k)))

-- the text is a reply that the command of that index may have
abbrev pub SaysBy : JcrLaw → History → ℕ → ℕ → Text → Type 0
SaysBy law h s i text =
    (m : Command) × (command_at law s i ≡ Some m) × MaySay law h s (asked_by h s m) text
