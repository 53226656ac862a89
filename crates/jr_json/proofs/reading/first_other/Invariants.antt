use Rattle.std.proofs.Common.{◌≡◌, drop}
use Rattle.serde_json.specs.View.{items_view}
use Rattle.jr_json.specs.Reading.{first_other}
use Rattle.jr_json.proofs.reading.first_other.Given as goal

abbrev pub invariant-loop-item : goal.invariant-loop-item
invariant-loop-item l = first_other l.kind (items_view l.items) ≡ first_other l.kind (items_view (drop l.item-index l.items))
