use Rattle.std.proofs.Common.{arith, ap, ◌∙◌}
use Rattle.oak_sync.proofs.Sets.{all_added, one_more, with_node}
use Rattle.oak_sync.proofs.paths.put_upward.Goals as goal

pub loop-depth-preserved : goal.loop-depth-preserved
loop-depth-preserved c = one_more c.args.path.now c.loop-depth.depth c.args.ids.now c.loop-depth.ids c.put.new.self c.loop-depth.invariant (c.in_ok-put.ensures.ok ∙ ap (with_node c.loop-depth.ids) c.in_ok-prefix.ensures)

pub returns : goal.returns
returns c = all_added c.args.path.now c.loop-depth.depth c.args.ids.now c.loop-depth.ids c.put-2.new.self (omega (arith, c.loop-depth-test.false, c.loop-depth.auto.depth-end, c.depth-depth-end.ensures)) c.loop-depth.invariant (c.in_ok-put-2.ensures.ok ∙ ap (with_node c.loop-depth.ids) c.in_ok-copy.ensures)
