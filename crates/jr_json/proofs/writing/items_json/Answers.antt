use Rattle.std.proofs.Common.{ap, ◌∙◌, List}
use Rattle.std.specs.Prelude.{map}
use Rattle.std.proofs.lemmas.List.{take_all}
use Rattle.jr_value.specs.declared.value.Value.{Value}
use Rattle.jr_json.specs.Json.{value_data}
use Rattle.jr_json.proofs.Lists.{data_more}
use Rattle.jr_json.proofs.writing.items_json.Goals as goal

pub loop-value-preserved : goal.loop-value-preserved
loop-value-preserved c = data_more c.args.values.now c.loop-value.value-index _ _ _ c.loop-value-test.true c.value-item.is c.loop-value.invariant c.in_ok-put_item.ensures

pub returns : goal.returns
returns c = c.loop-value.invariant ∙ ap (λ (vs : List Value). map value_data vs) (take_all c.loop-value.value-index c.args.values.now c.loop-value-test.false)
