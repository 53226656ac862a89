use Rattle.std.proofs.Common.{◌≡◌, drop}
use Rattle.jr_overlay.specs.Overlays.{sighted}
use Rattle.jcr_fill.specs.Makings.{making}
use Rattle.jcr_make.specs.Subtrees.{tree_made}
use Rattle.jcr_make.proofs.subtree.tree.Given as goal

-- what is left to make leads there
abbrev pub invariant-loop-part : goal.invariant-loop-part
invariant-loop-part l = record {
  sight : l.draft.sight ≡ l.initial.draft.sight;
  left : tree_made l.types l.who (sighted l.initial.draft.sight) l.path (drop l.part-index l.nodes) (making l.draft.steps l.ids)
      ≡ tree_made l.types l.who (sighted l.initial.draft.sight) l.path l.nodes (making l.initial.draft.steps l.initial.ids);
}
