use Rattle.std.proofs.Common.{rules, List, ◌≡◌, ◌++◌, Some, None, ap, map, sym, subst, ◌∙◌, append-nil}
use Rattle.std.specs.List.{slice_get}
use Rattle.std.specs.Map.Iter.{deref_pair}
use Rattle.std.specs.Result.{OnOk}
use Rattle.sql_eval.specs.Conditions.{Spot}
use Rattle.sql_eval.specs.Joins.{joins, with_spot}
use Rattle.std.proofs.lemmas.Option.{slice_get_past, slice_get_read}
use Rattle.sql_plan.proofs.Partners.{at_place_none, at_place_some}
use Rattle.sql_plan.proofs.join.add_partner.Goals as goal

pub returns-in-Some : goal.returns-in-Some
returns-in-Some c =
    let at : slice_get c.args.right.now c.args.place ≡ Some c.in-Some.spot.now = search (rules, slice_get_read) in
    subst (λ (ts : List Spot). OnOk c.add_if_joins.result (map deref_pair c.add_if_joins.new.spots.items ≡ map deref_pair c.args.spots.now.items ++ ts))
    (sym (at_place_some deref_pair (λ r. joins c.args.on.now (with_spot c.args.left.now r)) c.args.right.now c.args.place c.in-Some.spot.now at)) c.add_if_joins.ensures

pub returns-in-None : goal.returns-in-None
returns-in-None c =
    let at : slice_get c.args.right.now c.args.place ≡ None = search (rules, slice_get_past) in
    sym (append-nil _) ∙ ap (λ (ts : List Spot). map deref_pair c.args.spots.now.items ++ ts) (sym (at_place_none deref_pair (λ r. joins c.args.on.now (with_spot c.args.left.now r)) c.args.right.now c.args.place at))
