use Rattle.jr_args.specs.Trees.{mixin_of}
use Rattle.jr_args.proofs.Lists.{read_all, read_more, read_stop}
use Rattle.jr_args.proofs.tree.names.Goals as goal

pub returns-in-Err : goal.returns-in-Err
returns-in-Err c =
    read_stop mixin_of c.args.items.now _ _ _ _ _ c.loop-index.invariant c.loop-index-test.true c.index-items-index.is c.in_item.ensures
    c.in-Err.ensures

pub loop-index-preserved : goal.loop-index-preserved
loop-index-preserved c =
    read_more mixin_of c.args.items.now _ _ _ _ _ c.loop-index.invariant c.loop-index-test.true c.index-items-index.is
    c.in-Ok.ensures c.in_ok-push-in-Ok.ensures.items

pub returns : goal.returns
returns c = read_all mixin_of c.args.items.now _ _ _ c.loop-index.invariant c.loop-index-test.false c.of.ensures
