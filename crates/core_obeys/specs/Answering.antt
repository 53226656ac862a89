-- Replies: each has its cause, and what is a plan and clashes with nothing is accepted.
use Rattle.std.specs.Prelude.{◌≡◌, ◌≢◌, ◌⊎◌, ℕ, Bool, false, List, [], ◌∷◌, ◌++◌, slice_get, Contains, None, Some, IsFalse, IsSome, IsTrue, Ok, Err}
use Rattle.std.specs.Option.{option_map_or}
use Rattle.jr_path.specs.declared.path.Item.{Item}
use Rattle.jr_path.specs.Lists.{Text}
use Rattle.jr_rev.specs.declared.revision.Revision.{Revision}
use Rattle.jr_rev.specs.declared.vector.RevVec.{RevVec}
use Rattle.jr_rev.specs.Vectors.{sees}
use Rattle.jr_tree.specs.declared.edit.Edit.{Edit}
use Rattle.jr_tree.specs.declared.edit.Write.{Write}
use Rattle.jr_tree.specs.declared.shared.Refusal.{Refusal}
use Rattle.jr_items.specs.Refusals.{clash_refusal, out_of_memory}
use Rattle.oak_clash.specs.declared.mark.MarkAt.{MarkAt}
use Rattle.oak_machine.specs.declared.event.Draw.{Draw}
use Rattle.oak_machine.specs.declared.event.Event.TheVariants as event
use Rattle.oak_machine.specs.Commits.{is_committed, refusal_of, tree_at}
use Rattle.oak_machine.specs.History.{History, Past}
use Rattle.oak_machine.specs.Sessions.{base_of, drawn_since, next_index, refreshed_since, since}
use Rattle.core_clash.specs.Sound.{Cause}
use Rattle.jcr_trans.specs.Answers.{ShowsVector}
use Rattle.jcr_trans.specs.Texts.{answer_text}
use Rattle.jcr_trans.specs.declared.command.Command.{Command}
use Rattle.jcr_trans.specs.declared.command.Command.TheVariants as command
use Rattle.jcr_law.specs.declared.law.JcrLaw.{JcrLaw}
use Rattle.jcr_law.specs.Built.{Allowed}
use Rattle.jcr_law.specs.Commits.{committed_answer, edit_due, unwritten_answer}
use Rattle.jcr_law.specs.Law.{IsUnmoved, MaySay, MayStart, asked_by, no_text}
use Rattle.jcr_law.specs.Since.{before_turn, detached_among, draw_since, stop_position}
use Rattle.jcr_law.specs.State.{Call, call_of, command_at}
use Rattle.jcr_law.specs.Tasks.{stopped_at}
use Rattle.core_obeys.specs.NoPlans.{NoPlan}
use Rattle.core_clash.specs.Unclashing.{IsUnclashing}

-- each refusal of a commit names another draw
abbrev pub NameOthers : Past → Type 0
NameOthers past = (r : Revision) (item : Item) (o : Revision)
    → refusal_of past r ≡ Some (item, o) → r ≢ o

-- the text is 16, where nothing was committed for the command of s, or 14 with the place of the
-- stop in the journal, where the cluster node of s was stopped
pub data IsHindered (h : History) (s : ℕ) : List ℕ → Type 0 where
  lacking : IsFalse (option_map_or (is_committed h.past) (drawn_since h.past s) false)
      → IsHindered h s (no_text out_of_memory)
  halted : (k position : ℕ) → slice_get h.sessions s ≡ Some k
      → stop_position h.past k ≡ Some position → IsHindered h s (no_text (stopped_at position))

-- the draw d was committed, and the text accepts the command m for which it was made
pub record Accepts (law : JcrLaw) (h : History) (m : Command) (d : Draw) (text : List ℕ)
    : Type 0 where
  pub made : IsTrue (is_committed h.past d.revision)
  pub call : Call
  pub called : call_of law h.begin h.past d.session ≡ Some call
  pub accepted : text
      ≡ answer_text (committed_answer call (tree_at h.begin h.past d.base) d.revision m)

-- the text answers the command m for which d was drawn
pub data AnswersDraw (law : JcrLaw) (h : History) (m : Command) (d : Draw)
    : List ℕ → Type 0 where
  accepting : (text : List ℕ) → Accepts law h m d text → AnswersDraw law h m d text
  -- 10: another commit, made or under way, clashes in the item; the base of the draw doesn't see it
  clashing : (item : Item) (o : Revision) → Cause h.past d.revision item o
      → AnswersDraw law h m d (no_text (clash_refusal item o))
  hindered : (text : List ℕ) → IsHindered h d.session text → AnswersDraw law h m d text

-- the text answers the command m of s, which commits, and for which nothing was drawn
pub data AnswersEdit (h : History) (s : ℕ) (m : Command) (c : Call)
    : List ℕ → Type 0 where
  -- the command refuses
  refusing : (r : Refusal) → edit_due c m ≡ Some (Err r) → AnswersEdit h s m c (no_text r)
  -- the command's edit is no plan
  unplanned : (ws : List Write) (r : Refusal) → edit_due c m ≡ Some (Ok ws)
      → NoPlan c.types c.base c.state.tokens ws r → AnswersEdit h s m c (no_text r)
  -- there is nothing to write
  unwriting : edit_due c m ≡ Some (Ok [])
      → AnswersEdit h s m c (answer_text (unwritten_answer c m))
  undone : (text : List ℕ) → IsHindered h s text → AnswersEdit h s m c text

-- the base of s moved for the command that the text answers, and the text tells of that; or the
-- cluster node of s was stopped
pub data MovedFor (law : JcrLaw) (h : History) (s : ℕ) : Command → List ℕ → Type 0 where
  -- a refresh shows the base to which it moved
  refreshing : (keep : Bool) (v : RevVec) → refreshed_since h.past s ≡ Some v
      → MovedFor law h s (command.Refresh keep) (answer_text (ShowsVector v))
  -- a commit was drawn at the base at which the command began, is made and accepted, and the base
  -- moved to see it
  committing : (m : Command) (d : Draw) (v : RevVec) (text : List ℕ)
      → draw_since h.past s ≡ Some d → base_of (before_turn h.past s) s ≡ Some d.base
      → refreshed_since h.past s ≡ Some v → IsTrue (sees v d.revision)
      → Accepts law h m d text → MovedFor law h s m text
  -- the session is attached to a checkpoint, and its base is there
  attaching : (id : Text) (v : RevVec) → Contains (since h.past s) (event.Attach s id)
      → base_of h.past s ≡ Some v
      → MovedFor law h s (command.Attach id) (answer_text (ShowsVector v))
  -- the session left its checkpoint for the head
  detaching : (v : RevVec) → detached_among (since h.past s) s ≡ Some v
      → MovedFor law h s command.Detach (answer_text (ShowsVector v))
  -- the base moved to the head, and memory was wanting before the checkpoint was left
  half_detaching : (v : RevVec) → refreshed_since h.past s ≡ Some v
      → detached_among (since h.past s) s ≡ None
      → MovedFor law h s command.Detach (no_text out_of_memory)
  -- 14: the cluster node of s was stopped at that position of the journal
  halting : (m : Command) (k position : ℕ) → slice_get h.sessions s ≡ Some k
      → stop_position h.past k ≡ Some position
      → MovedFor law h s m (no_text (stopped_at position))

-- what is so where s says the text as its reply of that index
pub record HasReason (law : JcrLaw) (h : History) (s i : ℕ) (text : List ℕ) : Type 0 where
  -- the text answers the next command of s, and has a cause by the law
  pub place : i ≡ next_index h.past s
  pub command : Command
  pub next : command_at law s i ≡ Some command
  pub cause : MaySay law h s (asked_by h s command) text
  -- the base of s hasn't moved since the command began, or moved for it; or the text is 14
  pub still : IsUnmoved h s ⊎ MovedFor law h s command text
  -- a command that commits is answered by what came of its commit, or by why there was none
  pub drawn : (d : Draw) → draw_since h.past s ≡ Some d → AnswersDraw law h command d text
  pub undrawn : (c : Call) → draw_since h.past s ≡ None → call_of law h.begin h.past s ≡ Some c
      → asked_by h s command ≡ Allowed command → IsSome (edit_due c command)
      → AnswersEdit h s command c text
  -- what was drawn and clashes with nothing outside its base is accepted; an edit that may start is
  -- not refused
  pub complete : (d : Draw) → draw_since h.past s ≡ Some d → IsUnclashing h.past d.revision
      → Accepts law h command d text ⊎ IsHindered h s text
  pub startable : (edit : Edit) (marks : List MarkAt) → MayStart law h s edit marks
      → IsHindered h s text

-- each reply had its reason when it was said
abbrev pub AnswersThroughout : JcrLaw → History → Type 0
AnswersThroughout law h = (later past : Past) (s i : ℕ) (text : List ℕ)
    → later ++ event.Said s i text ∷ past ≡ h.past
    → HasReason law (record h { past = past }) s i text
