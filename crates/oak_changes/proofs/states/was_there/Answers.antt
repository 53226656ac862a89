use Rattle.std.proofs.Common.{◌||◌}
use Rattle.jr_rev.specs.Revisions.{is_before}
use Rattle.jr_rev.specs.Vectors.{sees}
use Rattle.oak_changes.proofs.Gathering.{latest_taken, state_at, state_is}
use Rattle.oak_changes.proofs.states.was_there.Goals as goal

pub loop-state-preserved : goal.loop-state-preserved
loop-state-preserved c =
    latest_taken (λ e. sees c.args.from.now e.0 || is_before e.0 c.args.r) c.args.states.now c.loop-state.state-index (state_at c.args.states.now c.loop-state.state-index) c.loop-state.latest c.later_if-latest.result
    c.loop-state-test.true (state_is c.args.states.now c.loop-state.state-index c.loop-state-test.true) c.loop-state.invariant c.later_if-latest.ensures
