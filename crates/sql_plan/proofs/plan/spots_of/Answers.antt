use Rattle.std.proofs.Common.{◌≡◌, true, ap, map, sym, subst, ◌∙◌}
use Rattle.std.specs.List.{AllByRecursion}
use Rattle.std.specs.Map.Iter.{deref}
use Rattle.std.specs.Option.{option_copied}
use Rattle.sql_plan.specs.Early.{asks_only}
use Rattle.sql_plan.proofs.Seen.{asked_only}
use Rattle.sql_plan.proofs.plan.spots_of.Goals as goal

pub nodes_of-requires-clause-only : goal.nodes_of-requires-clause-only
nodes_of-requires-clause-only c =
    subst (AllByRecursion (λ d. asks_only c.args.selector d ≡ true)) (sym (ap (map deref) c.deref.ensures.value ∙ c.in_ok-parts.ensures)) (asked_only (option_copied c.args.filter) c.args.selector c.is_left_outer.result c.args.later.now)
