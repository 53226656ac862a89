use Rattle.std.proofs.Common.{ap, map, ◌∙◌}
use Rattle.std.specs.Map.Iter.{deref_pair}
use Rattle.std.proofs.lemmas.Result.{IfOk-weaker}
use Rattle.sql_plan.proofs.Asked.{found_is}
use Rattle.sql_plan.proofs.plan.found.Goals as goal

pub returns : goal.returns
returns c =
    IfOk-weaker c.that_pass.result _ _
    (λ ts is. found_is c.args.query.now.filter _ c.args.tree.now _ c.args.query.now.joins _ _ _ _ c.as_ref.ensures.value (ap (map deref_pair) c.deref.ensures.value ∙ c.in_ok-nodes.ensures.all) c.as_slice.ensures c.in_ok-all.ensures is)
    c.that_pass.ensures
