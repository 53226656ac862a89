-- What the product keeps, in a history and at each time of one.
use Rattle.std.specs.Prelude.{◌≡◌, ℕ, ◌++◌, Some}
use Rattle.jr_rev.specs.declared.revision.Revision.{Revision}
use Rattle.jr_rev.specs.declared.vector.RevVec.{RevVec}
use Rattle.jr_tree.specs.Trees.{IsTree}
use Rattle.jr_types.specs.Rules.{TypesOk}
use Rattle.oak_machine.specs.declared.event.Draw.{Draw}
use Rattle.oak_machine.specs.Commits.{draw_of, tree_at}
use Rattle.oak_machine.specs.History.{History, Past}
use Rattle.oak_machine.specs.Runs.{MayCommit}
use Rattle.oak_machine.specs.Sessions.{base_of}
use Rattle.jcr_law.specs.declared.law.JcrLaw.{JcrLaw}
use Rattle.jcr_plan.specs.Plans.{IsFree}
use Rattle.jcr_ref.specs.References.{ReferencesOk}
use Rattle.core_merge.specs.Orders.{tree_by_commits}
use Rattle.core_obeys.specs.Plans.{tokens_at_draw}
use Rattle.core_obeys.specs.Product.{tokens_by}
use Rattle.core_obeys.specs.Tidy.{IsTidy}

-- the tree of all commits, in the order in which they were made, is a tree and meets the rules of
-- node types, and so does what a session sees at its base; what may be committed now changes
-- nothing that is locked against its session or covered by a checked-in node; and where identifiers
-- stand once, each REFERENCE names a node
pub record Obeys (law : JcrLaw) (h : History) : Type 0 where
  pub tree : IsTree (tree_by_commits h.begin h.past)
  pub types : TypesOk law.types (tree_by_commits h.begin h.past)
  pub bases : (s : ℕ) (v : RevVec) → base_of h.past s ≡ Some v
      → TypesOk law.types (tree_at h.begin h.past v)
  pub free : (r : Revision) (d : Draw) → draw_of h.past r ≡ Some d → MayCommit h.past r
      → IsFree law.types (tree_by_commits h.begin h.past)
      (tokens_at_draw (tokens_by law) h r d.session) d.edit.writes
  pub references : IsTidy h.begin h.past → ReferencesOk (tree_by_commits h.begin h.past)

-- at each time the history obeyed the rules
abbrev pub ObeysThroughout : JcrLaw → History → Type 0
ObeysThroughout law h = (later past : Past) → later ++ past ≡ h.past
    → Obeys law (record h { past = past })
