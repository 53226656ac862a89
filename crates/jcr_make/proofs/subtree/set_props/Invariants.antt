use Rattle.std.proofs.Common.{◌≡◌}
use Rattle.jr_overlay.specs.Overlays.{sighted}
use Rattle.jcr_fill.specs.Steps.{each}
use Rattle.jcr_make.specs.Subtrees.{with_set}
use Rattle.jcr_make.proofs.subtree.set_props.Given as goal

-- what is left to set leads there
abbrev pub invariant-loop-name : goal.invariant-loop-name
invariant-loop-name l = record {
  sight : l.draft.sight ≡ l.initial.draft.sight;
  left : each (with_set l.types (sighted l.initial.draft.sight) l.at) l.name-iterator l.draft.steps
      ≡ each (with_set l.types (sighted l.initial.draft.sight) l.at) l.props l.initial.draft.steps;
}
