use Rattle.jr_script.proofs.Adding.{added_all, added_more, added_stop}
use Rattle.jr_script.proofs.types.add_listed.Goals as goal

pub returns-in-Err : goal.returns-in-Err
returns-in-Err c = added_stop c.args.registry.now c.args.items.now _ _ _ _ _ c.loop-index.invariant c.loop-index-test.true c.index-items-index.is c.in_item.ensures c.in-Err.ensures

pub loop-index-preserved : goal.loop-index-preserved
loop-index-preserved c = added_more c.args.registry.now c.args.items.now _ _ _ _ c.loop-index.invariant c.loop-index-test.true c.index-items-index.is c.in-Ok.ensures

pub returns : goal.returns
returns c = added_all c.args.registry.now c.args.items.now _ _ c.loop-index.invariant c.loop-index-test.false
