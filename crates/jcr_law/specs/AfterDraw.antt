-- The replies of a command for which a commit was drawn.
use Rattle.std.specs.Prelude.{◌≡◌, ℕ, List, Option, Some, IsTrue, IsFalse, slice_get}
use Rattle.std.specs.Option.{option_map_or}
use Rattle.jr_path.specs.declared.path.Item.{Item}
use Rattle.jr_rev.specs.declared.revision.Revision.{Revision}
use Rattle.jr_items.specs.Refusals.{clash_refusal, out_of_memory}
use Rattle.oak_machine.specs.declared.event.Draw.{Draw}
use Rattle.oak_machine.specs.Commits.{is_committed, refusal_of, tree_at}
use Rattle.oak_machine.specs.History.{History}
use Rattle.jcr_trans.specs.Texts.{answer_text}
use Rattle.jcr_trans.specs.declared.command.Command.{Command}
use Rattle.jcr_law.specs.declared.law.JcrLaw.{JcrLaw}
use Rattle.jcr_law.specs.Commits.{committed_answer}
use Rattle.jcr_law.specs.Law.{no_text}
use Rattle.jcr_law.specs.Since.{stop_position}
use Rattle.jcr_law.specs.State.{Call, call_of}
use Rattle.jcr_law.specs.Tasks.{stopped_at}

-- once the draw d was made for the command m of s, its reply accepts the commit that was made,
-- tells of the clash for which it was refused, of the stop of the cluster node, or, where nothing
-- was committed, of want of memory
pub data AfterDraw (law : JcrLaw) (h : History) (s : ℕ) (m : Command) (d : Draw) : List ℕ
    → Type 0 where
  accepted : (c : Call) → IsTrue (is_committed h.past d.revision)
      → call_of law h.begin h.past s ≡ Some c → AfterDraw law h s m d
      (answer_text (committed_answer c (tree_at h.begin h.past d.base) d.revision m))
  clash_told : (item : Item) (o : Revision) → refusal_of h.past d.revision ≡ Some (item, o)
      → AfterDraw law h s m d (no_text (clash_refusal item o))
  stop_told : (k position : ℕ) → slice_get h.sessions s ≡ Some k
      → stop_position h.past k ≡ Some position
      → AfterDraw law h s m d (no_text (stopped_at position))
  unmade : IsFalse (is_committed h.past d.revision)
      → AfterDraw law h s m d (no_text out_of_memory)
