-- The causes of a reply by the commands of the cluster, by queries and by those of observation, for
-- which the base stays.
use Rattle.std.specs.Prelude.{◌≡◌, ◌⊎◌, ℕ, ◌+◌, List, [], slice_get, Contains, None, Some, IsTrue, IsFalse}
use Rattle.jr_path.specs.declared.name.Name.{Name}
use Rattle.jr_path.specs.declared.path.Path.{Path}
use Rattle.jr_path.specs.Lists.{Text}
use Rattle.jr_rev.specs.declared.revision.Revision.{Revision}
use Rattle.jr_rev.specs.declared.vector.RevVec.{RevVec}
use Rattle.jr_rev.specs.Revisions.{is_at_most}
use Rattle.jr_value.specs.declared.value.Value.{Value}
use Rattle.jr_tree.specs.declared.shared.Refusal.{Refusal}
use Rattle.jr_items.specs.Refusals.{limit_refusal, no_checkpoint}
use Rattle.oak_doc.specs.declared.asks.Collected.{Collected}
use Rattle.oak_doc.specs.declared.asks.SplitEnd.{SplitEnd}
use Rattle.oak_machine.specs.declared.event.Event.TheVariants as event
use Rattle.oak_machine.specs.Heads.{local, published}
use Rattle.oak_machine.specs.History.{History}
use Rattle.oak_machine.specs.Sessions.{is_stopped, since}
use Rattle.jcr_ref.specs.Drawn.{too_many_ids}
use Rattle.jcr_trans.specs.Answers.{Done, ShowsRevision, ShowsText, ShowsVector}
use Rattle.jcr_trans.specs.Texts.{answer_text, ok_text}
use Rattle.jcr_trans.specs.declared.command.Command.{Command}
use Rattle.jcr_trans.specs.declared.command.Command.TheVariants as command
use Rattle.jcr_law.specs.declared.law.JcrLaw.{JcrLaw}
use Rattle.jcr_law.specs.Law.{no_support, no_text}
use Rattle.jcr_law.specs.Queries.{QueryAnswers, events_reply, events_since}
use Rattle.jcr_law.specs.Since.{before_turn, came, is_pinning}
use Rattle.jcr_law.specs.State.{Call, call_of, next_id}
use Rattle.jcr_law.specs.Tasks.{collected_data, finds_stopped, is_out, is_recovering, is_sweep, knows_published, misses, split_data, split_refusal}

-- the text shows a revision up to which the cluster node of s published, and which is at least what
-- was its own when the command began
abbrev pub OutCause : History → ℕ → List ℕ → Type 0
OutCause h s text = (k : ℕ) × (r : Revision) × (slice_get h.sessions s ≡ Some k)
    × IsTrue (came s (λ earlier e. is_out k r e) h.past)
    × IsTrue (is_at_most (local h.begin (before_turn h.past s) k) r)
    × (text ≡ answer_text (ShowsRevision r))

-- the text shows a vector that the cluster node of s learned, with at least what the others had
-- published when the command began
abbrev pub InCause : History → ℕ → List ℕ → Type 0
InCause h s text = (k : ℕ) × (v : RevVec) × (slice_get h.sessions s ≡ Some k)
    × Contains (since h.past s) (event.In k v)
    × IsTrue (knows_published h.clusters h.begin (before_turn h.past s) k v)
    × (text ≡ answer_text (ShowsVector v))

-- the text shows a revision up to which the cluster node of s swept, and which is at least what it
-- had published when the command began
abbrev pub SweepCause : History → ℕ → List ℕ → Type 0
SweepCause h s text = (k : ℕ) × (r : Revision) × (slice_get h.sessions s ≡ Some k)
    × IsTrue (came s (λ earlier e. is_sweep k r e) h.past)
    × IsTrue (is_at_most (published h.begin (before_turn h.past s) k) r)
    × (text ≡ answer_text (ShowsRevision r))

-- the text shows the next identifier of s, under which a checkpoint of its base is made; or s has
-- drawn all its identifiers
abbrev pub CheckpointCause : JcrLaw → History → ℕ → List ℕ → Type 0
CheckpointCause law h s text =
    ((c : Call) × (call_of law h.begin h.past s ≡ Some c)
    × Contains (since h.past s) (event.Checkpoint (next_id c.who) c.who.base)
    × (text ≡ answer_text (ShowsText (next_id c.who))))
    ⊎ ((c : Call) × (r : Refusal) × (call_of law h.begin h.past s ≡ Some c)
    × (too_many_ids (c.who.ids + 1) ≡ Some r) × (text ≡ no_text r))

-- there was no checkpoint of that id when the settings were looked at
abbrev pub MissCause : History → ℕ → Text → List ℕ → Type 0
MissCause h s id text =
    IsTrue (came s (misses s id) h.past) × (text ≡ no_text (no_checkpoint id))

-- the checkpoint is released; or there was no such checkpoint
abbrev pub ReleaseCause : History → ℕ → Text → List ℕ → Type 0
ReleaseCause h s id text =
    (Contains (since h.past s) (event.Release id) × (text ≡ answer_text Done))
    ⊎ MissCause h s id text

-- the text shows how a split of the document ended; or the document can't be split
abbrev pub SplitCause : JcrLaw → History → ℕ → Path → List ℕ → Type 0
SplitCause law h s p text =
    ((e : SplitEnd) × Contains (since h.past s) (event.Split s p e)
    × (text ≡ ok_text (split_data e)))
    ⊎ ((c : Call) × (r : Refusal) × (call_of law h.begin h.past s ≡ Some c)
    × (split_refusal c.base p ≡ Some r) × (text ≡ no_text r))

-- the text shows what a collection did
abbrev pub CollectCause : History → ℕ → List ℕ → Type 0
CollectCause h s text = (x : Collected) × Contains (since h.past s) (event.Collected s x)
    × (text ≡ ok_text (collected_data x))

-- the cluster node is stopped; or it is that of s, or was stopped already
abbrev pub StopCause : History → ℕ → ℕ → List ℕ → Type 0
StopCause h s k text =
    (IsTrue (is_stopped (since h.past s) k) × (text ≡ answer_text Done))
    ⊎ ((slice_get h.sessions s ≡ Some k) × (text ≡ no_support (command.Stop (Some k))))
    ⊎ (IsTrue (came s (finds_stopped s k) h.past) × (text ≡ no_support (command.Stop (Some k))))

-- the text shows what the cluster node left, which is recovered; or the cluster node wasn't stopped
abbrev pub RecoverCause : History → ℕ → ℕ → List ℕ → Type 0
RecoverCause h s k text =
    ((r : Revision) × IsTrue (came s (is_recovering k r) h.past)
    × (text ≡ answer_text (ShowsRevision r)))
    ⊎ (IsFalse (is_stopped (before_turn h.past s) k)
    × (text ≡ no_support (command.Recover (Some k))))

-- a cursor is set, once it is pinned, on a path within the limits; or the path is beyond them
abbrev pub ObserveCause : History → ℕ → Path → List ℕ → Type 0
ObserveCause h s p text =
    ((limit_refusal p ≡ None) × IsTrue (came s (λ earlier e. is_pinning s e) h.past)
    × (text ≡ answer_text Done))
    ⊎ ((r : Refusal) × (limit_refusal p ≡ Some r) × (text ≡ no_text r))

-- there are no events without a cursor; or the text shows those since the cursor, once it is pinned
-- anew
abbrev pub EventsCause : JcrLaw → History → ℕ → List ℕ → Type 0
EventsCause law h s text =
    ((c : Call) × (call_of law h.begin h.past s ≡ Some c) × (c.state.cursor ≡ None)
    × (text ≡ events_reply []))
    ⊎ ((c : Call) × (call_of law h.begin h.past s ≡ Some c)
    × IsTrue (came s (λ earlier e. is_pinning s e) h.past)
    × (text ≡ events_reply (events_since h.begin h.past c.who.base c.state.cursor)))

-- the text is what the query answers by the tree at the base
abbrev pub QueryCause : JcrLaw → History → ℕ → Text → List (Name × Value) → List ℕ → Type 0
QueryCause law h s query vars text = (c : Call) × (reply : List ℕ)
    × (call_of law h.begin h.past s ≡ Some c) × QueryAnswers c query vars reply × (text ≡ reply)

-- the causes of a reply to such a command, beside those that every command has
abbrev pub TaskCause : JcrLaw → History → ℕ → Command → List ℕ → Type 0
TaskCause law h s command.BackWrite text = OutCause h s text
TaskCause law h s command.BackRead text = InCause h s text
TaskCause law h s command.Sweep text = SweepCause h s text
TaskCause law h s command.Checkpoint text = CheckpointCause law h s text
TaskCause law h s (command.Attach id) text = MissCause h s id text
TaskCause law h s (command.Release id) text = ReleaseCause h s id text
TaskCause law h s (command.Split p) text = SplitCause law h s p text
TaskCause law h s command.Collect text = CollectCause h s text
TaskCause law h s (command.Stop (Some k)) text = StopCause h s k text
TaskCause law h s (command.Recover (Some k)) text = RecoverCause h s k text
TaskCause law h s (command.Observe p deep mask) text = ObserveCause h s p text
TaskCause law h s command.Events text = EventsCause law h s text
TaskCause law h s (command.Query query vars) text = QueryCause law h s query vars text
TaskCause law h s _ text = ⊥
