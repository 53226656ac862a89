use Rattle.std.proofs.Common.{◌+◌, ◌-◌, take, arith, ap, ◌∙◌}
use Rattle.jr_items.proofs.UpwardPaths.{upward_more, upward_all}
use Rattle.jr_items.proofs.items.upward.Goals as goal
use Rattle.jr_items.proofs.items.upward.Goals.{else-loop-above-test, then-loop-above-test+in_ok-prefix+in_ok-push+else-above-depth}

pub loop-above-preserved : goal.loop-above-preserved
loop-above-preserved c =
    upward_more _ _ _ _ _ (let depth = c.depth-depth.ensures in omega arith) (c.in_ok-prefix.ensures ∙ ap (λ k. take (k - c.loop-above.above) c.args.path.now) c.depth-depth.ensures) c.loop-above.invariant c.in_ok-push.ensures.items

pub returns : goal.returns
returns c =
    let depth = c.depth-depth.ensures in
    elim c.loop-above-test.branch [
      | else-loop-above-test w ↦ upward_all c.args.path.now c.loop-above.above _ (omega arith) (ap (λ (v : _). v.items) w.paths-is ∙ c.loop-above.invariant)
      | then-loop-above-test+in_ok-prefix+in_ok-push+else-above-depth w ↦
          upward_all c.args.path.now (c.loop-above.above + 1) _ (omega arith)
          (ap (λ (v : _). v.items) w.paths-is
          ∙ upward_more _ _ _ _ _ (omega arith) (w.in_ok-prefix.ensures ∙ ap (λ k. take (k - c.loop-above.above) c.args.path.now) c.depth-depth.ensures) c.loop-above.invariant w.in_ok-push.ensures.items)
    ]
