use Rattle.std.proofs.Common.{refl}
use Rattle.sql_plan.specs.Index.{sought}
use Rattle.sql_plan.proofs.Places.{above_all, above_more}
use Rattle.sql_plan.proofs.link.add_paths_above.Goals as goal

pub loop-depth-preserved : goal.loop-depth-preserved
loop-depth-preserved c =
    above_more sought c.args.names.now c.loop-depth.depth c.args.keys.now.items c.loop-depth.keys.items c.push.new.self.items _ c.loop-depth-test.true c.loop-depth.invariant c.in_ok-push.ensures.items refl

pub returns : goal.returns
returns c = above_all sought c.args.names.now c.loop-depth.depth c.args.keys.now.items c.loop-depth.keys.items c.loop-depth-test.false c.loop-depth.invariant
