use Rattle.std.proofs.Common.{Bool, ap, map, ◌∙◌}
use Rattle.std.specs.List.{filter}
use Rattle.std.specs.Map.Iter.{deref_pair}
use Rattle.std.proofs.lemmas.Result.{IfOk-weaker}
use Rattle.sql_eval.specs.Conditions.{Spot}
use Rattle.sql_eval.specs.Joins.{joins, with_spot}
use Rattle.sql_plan.specs.Index.{sought}
use Rattle.sql_plan.specs.Links.{at_places, linked}
use Rattle.sql_plan.proofs.Partners.{complete_nodes}
use Rattle.sql_plan.proofs.Picked.{picked, rises}
use Rattle.sql_plan.proofs.join.partners.Goals as goal

pub returns : goal.returns
returns c =
    let test : Spot → Bool = λ r. joins c.args.on.now (with_spot c.args.left.now r) in
    let nodes = map deref_pair c.args.right.now in
    let keys = ap (map sought) c.deref.ensures.value ∙ c.in_ok-keys_of_tuple.ensures in
    let all = picked test nodes c.in_ok-places.places.items (rises _ c.in_ok-places.ensures.rises)
    (complete_nodes c.args.on.now (linked c.args.link.now) c.args.nodes.now (map sought c.deref.result.now) c.in_ok-places.places.items c.in_ok-places.ensures.all c.args.left.now nodes c.requires.link c.requires.nodes keys)
    in
    IfOk-weaker c.partners_at.result _ _ (λ spots is. is ∙ ap (λ ps. filter test (at_places nodes ps)) c.deref-2.ensures.value ∙ all) c.partners_at.ensures
