use Rattle.std.specs.Map.Iter.{deref_pair}
use Rattle.std.proofs.Common.{map, refl}
use Rattle.sql_eval.specs.Joins.{joins, with_spot}
use Rattle.sql_plan.proofs.Partners.{partners_more}
use Rattle.sql_plan.proofs.join.partners_at.Goals as goal

pub loop-place-preserved : goal.loop-place-preserved
loop-place-preserved c =
    partners_more (λ r. joins c.args.on.now (with_spot c.args.left.now r)) (map deref_pair c.args.right.now) c.args.places.now c.loop-place.place-index _ _ _ c.loop-place-test.true refl c.in_ok-add_partner.ensures c.loop-place.invariant
