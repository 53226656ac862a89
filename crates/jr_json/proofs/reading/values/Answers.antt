use Rattle.jr_json.proofs.Lists.{item_missed, item_read, read_all, rest_more, rest_all}
use Rattle.jr_json.proofs.reading.values.Goals as goal

pub loop-item-preserved : goal.loop-item-preserved
loop-item-preserved c = item_read _ _ _ _ _ _ _ _ c.loop-item.invariant (rest_more _ _ _ c.loop-item-test.true c.item-item.is) c.in_ok-found.ensures c.if-not-found.false

pub returns-then-not-found : goal.returns-then-not-found
returns-then-not-found c = item_missed _ _ _ _ _ _ _ _ c.loop-item.invariant (rest_more _ _ _ c.loop-item-test.true c.item-item.is) c.in_ok-found.ensures c.if-not-found.true

pub returns : goal.returns
returns c = read_all _ _ _ _ c.loop-item.invariant (rest_all _ _ c.loop-item-test.false)
