use Rattle.std.proofs.Common.{◌≡◌, ◌+◌, ◌*◌, map, drop}
use Rattle.jr_overlay.specs.Overlays.{sighted}
use Rattle.jcr_fill.specs.Makings.{completed, making, with_own_child}
use Rattle.jcr_fill.specs.Steps.{each}
use Rattle.jcr_fill.proofs.completing.+levels.Given as goal

abbrev pub decreases-complete_levels : goal.decreases-complete_levels
decreases-complete_levels l = 8 * l.levels

abbrev pub decreases-complete_by : goal.decreases-complete_by
decreases-complete_by l = 8 * l.levels + 6

abbrev pub decreases-make_children : goal.decreases-make_children
decreases-make_children l = 8 * l.levels + 5

abbrev pub decreases-make_each : goal.decreases-make_each
decreases-make_each l = 8 * l.levels + 4

abbrev pub decreases-make_by : goal.decreases-make_by
decreases-make_by l = 8 * l.levels + 3

abbrev pub decreases-make_child : goal.decreases-make_child
decreases-make_child l = 8 * l.levels + 2

abbrev pub decreases-complete_typed : goal.decreases-complete_typed
decreases-complete_typed l = 8 * l.levels + 1

-- what is left to make leads there
abbrev pub invariant-make_each-loop-def : goal.invariant-make_each-loop-def
invariant-make_each-loop-def l = record {
  sight : l.draft.sight ≡ l.initial.draft.sight;
  left : each (with_own_child (completed l.levels l.types l.who (sighted l.initial.draft.sight)) l.types (sighted l.initial.draft.sight) l.path)
      (map (λ d. d.now) (drop l.def-index l.defs)) (making l.draft.steps l.ids)
      ≡ each (with_own_child (completed l.levels l.types l.who (sighted l.initial.draft.sight)) l.types (sighted l.initial.draft.sight) l.path)
      (map (λ d. d.now) l.defs) (making l.initial.draft.steps l.initial.ids);
}
