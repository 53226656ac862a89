use Rattle.jr_overlay.proofs.Copies.{copy_more}
use Rattle.jr_overlay.proofs.overlay.Overlay.new_tree.Goals as goal

pub loop-path-preserved : goal.loop-path-preserved
loop-path-preserved c = copy_more (λ x. x.new) c.args.self.now _ _ _ _ _ c.in_order.ensures c.loop-path.invariant c.in-Some.ensures.steps c.in_ok-put_copy.ensures
