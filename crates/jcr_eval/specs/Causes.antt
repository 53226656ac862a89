-- The causes of a reply by commands: those that every command may have, those by which the base
-- moves, and those for which it stays. Where they give one reply at most, it is named: a text is
-- said for them where it is that reply.
use Rattle.std.specs.Prelude.{◌≡◌, ◌⊎◌, ℕ, Bool, false, cond, not, ◌&&◌, List, slice_get, Option, None, Some, is_none, option_and_then, option_map, IsTrue}
use Rattle.std.specs.Option.{option_map_or}
use Rattle.jr_rev.specs.Vectors.{sees}
use Rattle.jr_items.specs.Refusals.{clash_refusal, out_of_memory}
use Rattle.oak_machine.specs.declared.event.Draw.{Draw}
use Rattle.oak_machine.specs.Commits.{is_committed, is_ended, refusal_of, tree_at}
use Rattle.oak_machine.specs.History.{History}
use Rattle.oak_machine.specs.Sessions.{base_of, drawn_since, is_drawing, refreshed_since}
use Rattle.jcr_trans.specs.Texts.{answer_text}
use Rattle.jcr_trans.specs.declared.command.Command.{Command}
use Rattle.jcr_trans.specs.declared.command.Command.TheVariants as command
use Rattle.jcr_view.specs.Outcomes.{eval, is_viewed}
use Rattle.jcr_law.specs.declared.law.JcrLaw.{JcrLaw}
use Rattle.jcr_law.specs.Built.{Asked, Allowed, Unsupported}
use Rattle.jcr_law.specs.Commits.{committed_answer, edit_due}
use Rattle.jcr_law.specs.Law.{IsUnmoved, no_support, no_text}
use Rattle.jcr_law.specs.Since.{before_turn, draw_since, is_unmoved, is_unpinned, stop_position}
use Rattle.jcr_law.specs.State.{Call, call_of}
use Rattle.jcr_law.specs.Tasks.{stopped_at}
use Rattle.jcr_call.specs.Comings.{reply_to_due}
use Rattle.jcr_past.specs.Shown.{same_vector}
use Rattle.jcr_eval.specs.Moves.{MoveCause, vector_reply}
use Rattle.jcr_eval.specs.TaskCauses.{TaskCause}

-- the reply where the cluster node of s was stopped
abbrev pub stopped_reply : History → ℕ → Option (List ℕ)
stopped_reply h s = option_map (λ at. no_text (stopped_at at))
    (option_and_then (stop_position h.past) (slice_get h.sessions s))

-- nothing of s is in flight, and nothing was committed for its command
abbrev pub has_committed_nothing : History → ℕ → Bool
has_committed_nothing h s = not (is_drawing h.past s)
    && not (option_map_or (is_committed h.past) (drawn_since h.past s) false)

-- neither the base of s nor its cursor has moved, and nothing was committed for its command
abbrev pub may_want_memory : History → ℕ → Bool
may_want_memory h s =
    (is_unmoved h.past s && is_unpinned h.past s) && has_committed_nothing h s

-- the reply where memory was wanted
abbrev pub memory_reply : History → ℕ → Option (List ℕ)
memory_reply h s = cond (may_want_memory h s) (Some (no_text out_of_memory)) None

-- the cluster node of s was stopped, or memory was wanted before the base or the cursor moved
abbrev pub AnyCause : History → ℕ → List ℕ → Type 0
AnyCause h s text = (stopped_reply h s ≡ Some text) ⊎ (memory_reply h s ≡ Some text)

-- the answer of a command of the view
abbrev pub ViewCause : JcrLaw → History → ℕ → Command → List ℕ → Type 0
ViewCause law h s m text = (c : Call) × (call_of law h.begin h.past s ≡ Some c)
    × (text ≡ answer_text (eval c.types c.who c.base c.state.view m).answer)

-- the reply to a command that commits, where nothing is committed for it
abbrev pub uncommitted_reply : Call → Command → Option (List ℕ)
uncommitted_reply c m = option_and_then (reply_to_due c m) (edit_due c m)

-- the reply to the next command of s, where nothing was drawn for it and nothing is committed
abbrev pub due_reply : JcrLaw → History → ℕ → Command → Option (List ℕ)
due_reply law h s m = cond (is_none (drawn_since h.past s))
    (option_and_then (λ c. uncommitted_reply c m) (call_of law h.begin h.past s)) None

-- a draw was made at the base at which the command of s began
abbrev pub is_begun_there : History → ℕ → Draw → Bool
is_begun_there h s d =
    option_map_or (λ v. same_vector v d.base) (base_of (before_turn h.past s) s) false

-- a draw at the base at which the command of s began has ended, is committed, and the base of s
-- moved to a vector that sees it
abbrev pub is_seen_commit : History → ℕ → Draw → Bool
is_seen_commit h s d = is_begun_there h s d
    && ((is_ended h.past d.revision && is_committed h.past d.revision)
    && option_map_or (λ v. sees v d.revision) (refreshed_since h.past s) false)

-- the reply to a command by a draw for it that is committed
abbrev pub reply_to_draw : JcrLaw → History → ℕ → Command → Draw → Option (List ℕ)
reply_to_draw law h s m d = cond (is_seen_commit h s d) (option_map
    (λ c. answer_text (committed_answer c (tree_at h.begin h.past d.base) d.revision m))
    (call_of law h.begin h.past s)) None

-- the reply where the edit is committed
abbrev pub committed_reply : JcrLaw → History → ℕ → Command → Option (List ℕ)
committed_reply law h s m = option_and_then (reply_to_draw law h s m) (draw_since h.past s)

-- the reply where the commit was refused for a clash
abbrev pub clash_reply : History → ℕ → Option (List ℕ)
clash_reply h s = option_and_then (λ r. cond (is_ended h.past r)
    (option_map (λ x. no_text (clash_refusal x.0 x.1)) (refusal_of h.past r)) None)
    (drawn_since h.past s)

-- a command that commits isn't committed, or was refused for a clash
abbrev pub UncommittedCause : JcrLaw → History → ℕ → Command → List ℕ → Type 0
UncommittedCause law h s m text = (due_reply law h s m ≡ Some text) ⊎ (clash_reply h s ≡ Some text)

-- what a command is answered with beside the view and its commit, and before the base moves: `head`
-- with the base, the commands of the cluster, queries and observation as they say
abbrev pub OwnCause : JcrLaw → History → ℕ → Command → List ℕ → Type 0
OwnCause law h s command.Head text = option_map vector_reply (base_of h.past s) ≡ Some text
OwnCause law h s m text = TaskCause law h s m text

-- the causes by which the base moves
abbrev pub MovedCause : JcrLaw → History → ℕ → Command → List ℕ → Type 0
MovedCause law h s m text = (committed_reply law h s m ≡ Some text) ⊎ MoveCause h s m text

-- the causes for which the base stays
abbrev pub StillCause : JcrLaw → History → ℕ → Command → List ℕ → Type 0
StillCause law h s m text = (IsTrue (is_viewed m) × ViewCause law h s m text)
    ⊎ UncommittedCause law h s m text
    ⊎ OwnCause law h s m text

-- the causes of a reply to a command that s may run, beside those that every command has
abbrev pub AllowedCause : JcrLaw → History → ℕ → Command → List ℕ → Type 0
AllowedCause law h s m text = MovedCause law h s m text
    ⊎ (IsUnmoved h s × StillCause law h s m text)

-- the causes of a reply to a command as s asks for it
abbrev pub AskedCause : JcrLaw → History → ℕ → Asked → List ℕ → Type 0
AskedCause law h s (Allowed m) text = AnyCause h s text ⊎ AllowedCause law h s m text
AskedCause law h s (Unsupported m) text = AnyCause h s text
    ⊎ (IsUnmoved h s × (text ≡ no_support m))
