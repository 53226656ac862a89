use Rattle.std.proofs.Common.{◌≡◌, ◌∷◌, [], Some, false, true, ap, map, sym, subst, ◌∙◌}
use Rattle.std.specs.List.{AllByRecursion}
use Rattle.std.specs.Map.Iter.{deref, deref_pair}
use Rattle.std.specs.Option.{option_copied}
use Rattle.std.proofs.lemmas.Result.{IfOk-weaker}
use Rattle.sql_plan.specs.Early.{asks_only, early_nodes}
use Rattle.sql_plan.proofs.Seen.{asked_only}
use Rattle.sql_plan.proofs.plan.first_tuples.Goals as goal

pub nodes_of-requires-clause-only : goal.nodes_of-requires-clause-only
nodes_of-requires-clause-only c =
    subst (AllByRecursion (λ d. asks_only 0 d ≡ true)) (sym (ap (map deref) c.deref.ensures.value ∙ c.in_ok-parts.ensures)) (asked_only (option_copied c.args.filter) 0 false c.args.joins.now)

pub returns : goal.returns
returns c =
    IfOk-weaker c.singles.result _ _
    (λ ts is. is ∙ ap (map (λ e. Some e ∷ [])) (ap (map deref_pair) c.deref-2.ensures.value ∙ c.in_ok-spots.ensures ∙ ap (λ ps. early_nodes (map deref_pair c.args.nodes.now) c.args.set.now ps 0) (ap (map deref) c.deref.ensures.value ∙ c.in_ok-parts.ensures)))
    c.singles.ensures
