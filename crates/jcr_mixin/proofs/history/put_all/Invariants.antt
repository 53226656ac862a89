use Rattle.std.proofs.Common.{◌≡◌}
use Rattle.jcr_mixin.specs.Histories.{all_put}
use Rattle.jcr_mixin.proofs.history.put_all.Given as goal

-- what is left to put leads there
abbrev pub invariant-loop-path : goal.invariant-loop-path
invariant-loop-path l = record {
  sight : l.draft.sight ≡ l.initial.draft.sight;
  left : all_put l.draft.steps l.path-iterator ≡ all_put l.initial.draft.steps l.nodes;
}
