use Rattle.jr_args.specs.Commands.{command_of}
use Rattle.jr_args.proofs.Lists.{read_all, read_more, read_stop}
use Rattle.jr_script.proofs.reading.command_list.Goals as goal

pub returns-in-Err : goal.returns-in-Err
returns-in-Err c = read_stop command_of c.args.items.now _ _ _ _ _ c.loop-index.invariant c.loop-index-test.true c.index-items-index.is c.in_item.ensures c.in-Err.ensures

pub loop-index-preserved : goal.loop-index-preserved
loop-index-preserved c = read_more command_of c.args.items.now _ _ _ _ _ c.loop-index.invariant c.loop-index-test.true c.index-items-index.is c.in-Ok.ensures c.in_ok-push-in-Ok.ensures.items

pub returns : goal.returns
returns c = read_all command_of c.args.items.now _ _ _ c.loop-index.invariant c.loop-index-test.false c.of.ensures
