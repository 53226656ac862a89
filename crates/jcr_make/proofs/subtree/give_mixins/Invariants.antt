use Rattle.std.proofs.Common.{◌≡◌, drop}
use Rattle.jr_overlay.specs.Overlays.{sighted}
use Rattle.jcr_mixin.specs.Histories.{mixin_made}
use Rattle.jcr_fill.specs.Makings.{making}
use Rattle.jcr_fill.specs.Steps.{each}
use Rattle.jcr_make.proofs.subtree.give_mixins.Given as goal

-- what is left to make leads there
abbrev pub invariant-loop-name : goal.invariant-loop-name
invariant-loop-name l = record {
  sight : l.draft.sight ≡ l.initial.draft.sight;
  left : each (mixin_made l.types l.who (sighted l.initial.draft.sight) l.at) (drop l.name-index l.mixins) (making l.draft.steps l.ids)
      ≡ each (mixin_made l.types l.who (sighted l.initial.draft.sight) l.at) l.mixins (making l.initial.draft.steps l.initial.ids);
}
