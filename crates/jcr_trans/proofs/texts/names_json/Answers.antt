use Rattle.std.proofs.Common.{rules, ◌<◌, ◌≤◌, ◌∙◌, ap, length}
use Rattle.serde_json.specs.Data.{array, string}
use Rattle.serde_json.specs.View.{items_of}
use Rattle.serde_json.proofs.Views.{view-Array}
use Rattle.jr_path.specs.declared.name.Name.{Name}
use Rattle.jcr_trans.proofs.Listed.{listed_all, listed_more}
use Rattle.jcr_trans.proofs.texts.names_json.Goals as goal

pub loop-name-preserved : goal.loop-name-preserved
loop-name-preserved c =
    let l : c.loop-name.name-index < length c.args.names.now = search rules in
    listed_more (λ (n : Name). string n) c.args.names.now c.loop-name.name-index c.name-item.result _ _ l c.name-item.is c.loop-name.invariant c.in_ok-add_name.ensures

pub returns : goal.returns
returns c =
    let l : length c.args.names.now ≤ c.loop-name.name-index = search rules in
    view-Array c.loop-name.items ∙ ap (λ ds. array (items_of ds)) (listed_all (λ (n : Name). string n) c.args.names.now c.loop-name.name-index _ l c.loop-name.invariant)
