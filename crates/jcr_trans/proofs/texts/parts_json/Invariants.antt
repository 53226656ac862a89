use Rattle.std.proofs.Common.{◌≡◌, take}
use Rattle.std.specs.Prelude.{map}
use Rattle.serde_json.specs.View.{view}
use Rattle.jcr_trans.specs.Texts.{datum_data}
use Rattle.jcr_trans.proofs.texts.parts_json.Given as goal

abbrev pub invariant-loop-part : goal.invariant-loop-part
invariant-loop-part l = map view l.items.items ≡ map datum_data (take l.part-index l.parts)
