use Rattle.std.specs.Map.Iter.{deref_pair}
use Rattle.std.proofs.Common.{ap, length, ◌∙◌}
use Rattle.std.specs.Prelude.{◌==◌}
use Rattle.sql_eval.specs.Joins.{joins, with_spot}
use Rattle.sql_plan.proofs.Partners.{none_found}
use Rattle.sql_plan.proofs.join.is_lonely_tuple.Goals as goal

pub returns : goal.returns
returns c = none_found deref_pair (λ r. joins c.args.on.now (with_spot c.args.left.now r)) _ c.in_ok-spots.spots.items c.is_empty.result c.in_ok-spots.ensures (c.is_empty.ensures ∙ ap (λ xs. length xs == 0) c.as_slice.ensures.value)
