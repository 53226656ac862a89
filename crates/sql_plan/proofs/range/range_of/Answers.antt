use Rattle.std.specs.Map.Iter.{deref}
use Rattle.sql_plan.specs.Early.{is_within, path_in}
use Rattle.sql_plan.proofs.Ranges.{all_at, is_path}
use Rattle.sql_plan.proofs.range.range_of.Goals as goal

pub returns-in-Some : goal.returns-in-Some
returns-in-Some c = λ f h.
    c.at_or_below.ensures f (λ e t. is_path (path_in c.part-item.result.now) c.in-Some.path.now e.0 c.in-Some.ensures (all_at deref (is_within e.0) c.args.parts.now c.loop-part.part-index c.part-item.result (h e t) c.loop-part-test.true c.part-item.is))
