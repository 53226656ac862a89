use Rattle.std.proofs.Common.{take}
use Rattle.serde_json.specs.View.{items_view}
use Rattle.jr_defs.specs.Reading.{AreRead, IsPropJson}
use Rattle.jr_defs.proofs.reading.prop_list_of.Given as goal

-- the items so far are read
abbrev pub invariant-loop-item : goal.invariant-loop-item
invariant-loop-item l = AreRead IsPropJson (items_view (take l.item-index l.items)) l.list
