use Rattle.std.proofs.Common.{rules, ◌<◌, ◌≤◌, ◌∙◌, ap, length}
use Rattle.serde_json.specs.Data.{array}
use Rattle.serde_json.specs.View.{items_of}
use Rattle.serde_json.proofs.Views.{view-Array}
use Rattle.jcr_trans.specs.Texts.{datum_data}
use Rattle.jcr_trans.proofs.Listed.{listed_all, listed_more}
use Rattle.jcr_trans.proofs.texts.parts_json.Goals as goal

pub loop-part-preserved : goal.loop-part-preserved
loop-part-preserved c =
    let l : c.loop-part.part-index < length c.args.parts.now = search rules in
    listed_more datum_data c.args.parts.now c.loop-part.part-index c.part-item.result _ _ l c.part-item.is c.loop-part.invariant c.in_ok-add_part.ensures

pub returns : goal.returns
returns c =
    let l : length c.args.parts.now ≤ c.loop-part.part-index = search rules in
    view-Array c.loop-part.items ∙ ap (λ ds. array (items_of ds)) (listed_all datum_data c.args.parts.now c.loop-part.part-index _ l c.loop-part.invariant)
