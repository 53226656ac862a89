use Rattle.std.proofs.Common.{◌≡◌, map, ap, ◌∙◌}
use Rattle.std.specs.Map.Iter.{deref_pair}
use Rattle.std.specs.Ordering.{on}
use Rattle.std.specs.Option.{option_cmp, option_map}
use Rattle.jr_path.specs.Names.{path_cmp}
use Rattle.sql_eval.specs.Rows.{by_paths}
use Rattle.sql_eval.proofs.Orders.{mapped_cmp}
use Rattle.sql_eval.proofs.tuple.paths_cmp.Goals as goal

pub returns : goal.returns
returns c =
    let first : map (option_map deref_pair) c.deref.result.now ≡ c.args.tuple.now = ap (map (option_map deref_pair)) c.deref.ensures.value ∙ c.tuple.view_is in
    let second : map (option_map deref_pair) c.deref-2.result.now ≡ c.args.other.now = ap (map (option_map deref_pair)) c.deref-2.ensures.value ∙ c.other.view_is in
    c.lists_cmp.ensures
    ∙ mapped_cmp (option_map deref_pair) (option_cmp (on (λ e. e.0) path_cmp)) c.deref.result.now c.deref-2.result.now
    ∙ (λ i. by_paths (first i) (second i))
