use Rattle.std.proofs.Common.{Bool, ap, map, not, ◌∙◌}
use Rattle.std.specs.List.{list_any}
use Rattle.std.specs.Map.Iter.{deref_pair}
use Rattle.sql_eval.specs.Conditions.{Tuple}
use Rattle.sql_eval.specs.Joins.{joins, with_spot}
use Rattle.sql_plan.specs.Index.{sought}
use Rattle.sql_plan.specs.Links.{at_places, linked}
use Rattle.sql_plan.proofs.Partners.{complete_tuples}
use Rattle.sql_plan.proofs.Picked.{any_picked, rises}
use Rattle.sql_plan.proofs.join.is_lonely_node.Goals as goal

pub returns : goal.returns
returns c =
    let test : Tuple → Bool = λ l. joins c.args.on.now (with_spot l (deref_pair c.args.right)) in
    let keys = ap (map sought) c.deref.ensures.value ∙ c.in_ok-keys_of_node.ensures in
    let all = any_picked test c.args.left.now c.in_ok-places.places.items (rises _ c.in_ok-places.ensures.rises)
    (complete_tuples c.args.on.now (linked c.args.link.now) c.args.index.now (map sought c.deref.result.now) c.in_ok-places.places.items c.in_ok-places.ensures.all c.args.left.now (deref_pair c.args.right) c.requires.link c.requires.index keys)
    in
    ap not (c.some_joins.ensures ∙ ap (λ ps. list_any test (at_places c.args.left.now ps)) c.deref-2.ensures.value ∙ all)
