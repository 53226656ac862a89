use Rattle.std.proofs.Common.{drop}
use Rattle.serde_json.specs.View.{items_view}
use Rattle.jr_json.proofs.Lists.{IsReadTo}
use Rattle.jr_json.proofs.reading.values.Given as goal

abbrev pub invariant-loop-item : goal.invariant-loop-item
invariant-loop-item l = IsReadTo (items_view l.items) (items_view (drop l.item-index l.items)) l.kind l.values
