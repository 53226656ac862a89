use Rattle.std.proofs.Common.{rules, arith, ◌≡◌, ◌<◌, Some, length}
use Rattle.serde_json.specs.Find.{as_array}
use Rattle.serde_json.specs.View.{items_view, view}
use Rattle.jr_defs.proofs.ByParts.{defaults_read}
use Rattle.jr_defs.proofs.reading.defaults_in.Goals as goal

pub returns-else-is_empty : goal.returns-else-is_empty
returns-else-is_empty c =
    let e : as_array (view c.args.json.now) ≡ Some (items_view c.in-Some.items.now.items) = search rules in
    let l : 0 < length c.in-Some.items.now.items = search (arith, rules) in
    defaults_read (view c.args.json.now) c.in-Some.items.now.items c.some_values.result e l c.some_values.ensures
