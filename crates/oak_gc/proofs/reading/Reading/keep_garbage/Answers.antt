use Rattle.std.proofs.Common.{rules, ap}
use Rattle.std.proofs.lemmas.Map.Made.{filter_same_pairs}
use Rattle.oak_gc.specs.Collecting.{Previous}
use Rattle.oak_gc.specs.Garbage.{is_garbage_previous}
use Rattle.oak_gc.proofs.reading.Reading.keep_garbage.Goals as goal

pub returns : goal.returns
returns c =
    ap (λ (es : Previous). record c.args.self.now { previous = es })
    (rw c.inner_mut.ensures.shows at (filter_same_pairs _ (λ e. is_garbage_previous c.args.bound.now.base c.args.bound.now.sweep c.args.self.now.document e.1) _ (λ k v b w f' t. search rules) _ _ c.retain.ensures.filtered))
