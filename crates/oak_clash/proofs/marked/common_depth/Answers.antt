use Rattle.oak_clash.proofs.Roots.{common-all}
use Rattle.oak_clash.proofs.marked.common_depth.Goals as goal

pub returns-clause-names : goal.returns-clause-names
returns-clause-names c = common-all c.args.a.now c.args.b.now c.min-end.result c.loop-depth.depth c.min-end.ensures c.loop-depth-test.false c.loop-depth.auto.depth-end c.loop-depth.invariant
