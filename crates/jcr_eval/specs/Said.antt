-- Whether a text is a reply to each command of the cluster and of observation, as a test.
use Rattle.std.specs.Prelude.{ℕ, ◌+◌, Bool, false, not, ◌&&◌, ◌||◌, ◌==◌, List, bytes_eq, slice_get, Option, Some, is_none}
use Rattle.std.specs.Option.{option_map_or}
use Rattle.jr_path.specs.declared.path.Path.{Path}
use Rattle.jr_path.specs.Lists.{Text}
use Rattle.jr_rev.specs.declared.vector.RevVec.{RevVec}
use Rattle.jr_tree.specs.declared.shared.Who.{Who}
use Rattle.jr_tree.specs.Trees.{Nodes}
use Rattle.jr_items.specs.Refusals.{limit_refusal, no_checkpoint}
use Rattle.oak_machine.specs.Heads.{local, published}
use Rattle.oak_machine.specs.History.{History, Past}
use Rattle.oak_machine.specs.Sessions.{is_stop_of, is_stopped}
use Rattle.jcr_ref.specs.Drawn.{too_many_ids}
use Rattle.jcr_trans.specs.Answers.{Done, ShowsText}
use Rattle.jcr_trans.specs.declared.command.Command.{Command}
use Rattle.jcr_trans.specs.declared.command.Command.TheVariants as command
use Rattle.jcr_law.specs.declared.law.JcrLaw.{JcrLaw}
use Rattle.jcr_law.specs.declared.state.Cursor.{Cursor}
use Rattle.jcr_law.specs.Law.{no_support}
use Rattle.jcr_law.specs.Queries.{events_reply, events_since}
use Rattle.jcr_law.specs.Since.{before_turn, came, is_pinning}
use Rattle.jcr_law.specs.State.{call_of, next_id}
use Rattle.jcr_law.specs.Tasks.{finds_stopped, misses, split_refusal}
use Rattle.jcr_past.specs.Shown.{is_answer, is_refusal, keeps, releases, shows_collection, shows_in, shows_out, shows_recovery, shows_split, shows_sweep}

-- cluster node k of s published what is shown, and at least what was its own when the command began
abbrev pub has_out : History → (s : ℕ) → List ℕ → (k : ℕ) → Bool
has_out h s text k =
    came s (λ earlier e. shows_out k (local h.begin (before_turn h.past s) k) text e) h.past

-- the text is a reply to `backWrite`
abbrev pub says_out : History → ℕ → List ℕ → Bool
says_out h s text = option_map_or (has_out h s text) (slice_get h.sessions s) false

-- cluster node k of s learned what is shown, with what the others had published when the command
-- began
abbrev pub has_in : History → (s : ℕ) → List ℕ → (k : ℕ) → Bool
has_in h s text k =
    came s (λ earlier e. shows_in h.clusters h.begin (before_turn h.past s) k text e) h.past

-- the text is a reply to `backRead`
abbrev pub says_in : History → ℕ → List ℕ → Bool
says_in h s text = option_map_or (has_in h s text) (slice_get h.sessions s) false

-- cluster node k of s swept up to what is shown, and at least what it had published when the
-- command began
abbrev pub has_sweep : History → (s : ℕ) → List ℕ → (k : ℕ) → Bool
has_sweep h s text k =
    came s (λ earlier e. shows_sweep k (published h.begin (before_turn h.past s) k) text e) h.past

-- the text is a reply to `sweep`
abbrev pub says_sweep : History → ℕ → List ℕ → Bool
says_sweep h s text = option_map_or (has_sweep h s text) (slice_get h.sessions s) false

-- a checkpoint was made at a vector under an id, which is shown
abbrev pub shows_kept : Past → ℕ → List ℕ → Text → RevVec → Bool
shows_kept past s text id v =
    came s (λ earlier e. keeps id v e) past && is_answer text (ShowsText id)

-- a checkpoint was made at the base under the next identifier of s, which is shown
abbrev pub shows_checkpoint : Past → ℕ → List ℕ → Who → Bool
shows_checkpoint past s text who = shows_kept past s text (next_id who) who.base

-- the text refuses one identifier more
abbrev pub refuses_id : List ℕ → Who → Bool
refuses_id text who = option_map_or (is_refusal text) (too_many_ids (who.ids + 1)) false

-- the text is a reply to `checkpoint`
abbrev pub says_checkpoint : JcrLaw → History → ℕ → List ℕ → Bool
says_checkpoint law h s text = option_map_or
    (λ c. shows_checkpoint h.past s text c.who || refuses_id text c.who)
    (call_of law h.begin h.past s) false

-- a step on the settings found no checkpoint of that id, which is told
abbrev pub refuses_checkpoint : History → ℕ → Text → List ℕ → Bool
refuses_checkpoint h s id text =
    came s (misses s id) h.past && is_refusal text (no_checkpoint id)

-- the text is a reply to `release` of that id
abbrev pub says_release : History → ℕ → Text → List ℕ → Bool
says_release h s id text =
    (came s (λ earlier e. releases id e) h.past && is_answer text Done)
    || refuses_checkpoint h s id text

-- the text says why the document can't be split
abbrev pub refuses_split : Path → List ℕ → Nodes → Bool
refuses_split p text t = option_map_or (is_refusal text) (split_refusal t p) false

-- the text is a reply to `split` of that path
abbrev pub says_split : JcrLaw → History → ℕ → Path → List ℕ → Bool
says_split law h s p text = came s (λ earlier e. shows_split s p text e) h.past
    || option_map_or (λ c. refuses_split p text c.base) (call_of law h.begin h.past s) false

-- the text is a reply to `collect`
abbrev pub says_collect : History → ℕ → List ℕ → Bool
says_collect h s text = came s (λ earlier e. shows_collection s text e) h.past

-- cluster node k is that of s
abbrev pub is_own_node : History → ℕ → (k : ℕ) → Bool
is_own_node h s k = option_map_or (λ m. m == k) (slice_get h.sessions s) false

-- the text is that the command lacks what it needs
abbrev pub is_unsupported : List ℕ → Command → Bool
is_unsupported text m = bytes_eq text (no_support m)

-- the text is a reply to `stop` of cluster node k
abbrev pub says_stop : History → ℕ → (k : ℕ) → List ℕ → Bool
says_stop h s k text = (came s (λ earlier e. is_stop_of k e) h.past && is_answer text Done)
    || ((is_own_node h s k || came s (finds_stopped s k) h.past)
    && is_unsupported text (command.Stop (Some k)))

-- the text is a reply to `recover` of cluster node k
abbrev pub says_recover : History → ℕ → (k : ℕ) → List ℕ → Bool
says_recover h s k text = came s (shows_recovery k text) h.past
    || (not (is_stopped (before_turn h.past s) k)
    && is_unsupported text (command.Recover (Some k)))

-- the text is a reply to `observe` of that path
abbrev pub says_observe : History → ℕ → Path → List ℕ → Bool
says_observe h s p text = option_map_or (is_refusal text) (limit_refusal p)
    (came s (λ earlier e. is_pinning s e) h.past && is_answer text Done)

-- the text shows the events since a cursor, with a pin moved if there is one
abbrev pub shows_events : History → ℕ → List ℕ → RevVec → Option Cursor → Bool
shows_events h s text base cursor =
    (is_none cursor || came s (λ earlier e. is_pinning s e) h.past)
    && bytes_eq text (events_reply (events_since h.begin h.past base cursor))

-- the text is a reply to `events`
abbrev pub says_events : JcrLaw → History → ℕ → List ℕ → Bool
says_events law h s text = option_map_or
    (λ c. shows_events h s text c.who.base c.state.cursor) (call_of law h.begin h.past s) false
