use Rattle.std.proofs.Common.{◌≡◌, take}
use Rattle.std.specs.Prelude.{map}
use Rattle.serde_json.specs.Data.{string}
use Rattle.serde_json.specs.View.{view}
use Rattle.jr_path.specs.Ids.{path_text}
use Rattle.jr_path.specs.Names.{item_path}
use Rattle.jcr_trans.proofs.texts.items_json.Given as goal

abbrev pub invariant-loop-item : goal.invariant-loop-item
invariant-loop-item l = map view l.texts.items ≡ map (λ i. string (path_text (item_path i))) (take l.item-index l.items)
