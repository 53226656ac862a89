use Rattle.std.proofs.Common.{rules, ◌<◌, ◌≤◌, ◌∙◌, ap, length}
use Rattle.serde_json.specs.Data.{array, string}
use Rattle.serde_json.specs.View.{items_of}
use Rattle.serde_json.proofs.Views.{view-Array}
use Rattle.jr_path.specs.Ids.{path_text}
use Rattle.jr_path.specs.Names.{item_path}
use Rattle.jr_path.specs.declared.path.Item.{Item}
use Rattle.jcr_trans.proofs.Listed.{listed_all, listed_more}
use Rattle.jcr_trans.proofs.texts.items_json.Goals as goal

pub loop-item-preserved : goal.loop-item-preserved
loop-item-preserved c =
    let l : c.loop-item.item-index < length c.args.items.now = search rules in
    listed_more (λ (i : Item). string (path_text (item_path i))) c.args.items.now c.loop-item.item-index c.item-item.result _ _ l c.item-item.is c.loop-item.invariant c.in_ok-add_item.ensures

pub returns : goal.returns
returns c =
    let l : length c.args.items.now ≤ c.loop-item.item-index = search rules in
    view-Array c.loop-item.texts ∙ ap (λ ds. array (items_of ds)) (listed_all (λ (i : Item). string (path_text (item_path i))) c.args.items.now c.loop-item.item-index _ l c.loop-item.invariant)
