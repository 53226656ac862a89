use Rattle.std.proofs.Common.{subst, sym}
use Rattle.jr_tree.specs.Trees.{IsTree, Nodes}
use Rattle.jr_overlay.specs.Overlays.{view_of}
use Rattle.jr_overlay.proofs.Commits.{known_steps, over_steps, view_steps}
use Rattle.jr_overlay.proofs.KeptTrees.{kept_tree}
use Rattle.jr_overlay.proofs.laws.commits_step_views.Goals as goal

pub returns-clause-over : goal.returns-clause-over
returns-clause-over c = over_steps

pub returns-clause-view : goal.returns-clause-view
returns-clause-view c = view_steps

pub returns-clause-tree : goal.returns-clause-tree
returns-clause-tree c = λ t known changed steps sorted over based tree keep.
    subst (λ (v : Nodes). IsTree v) (sym (view_steps t known changed steps sorted over based))
    (kept_tree t (view_of t changed) steps tree keep)

pub returns-clause-known : goal.returns-clause-known
returns-clause-known c = known_steps
