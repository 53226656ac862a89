use Rattle.oak_changes.proofs.Gathering.{said_taken, state_at, state_is}
use Rattle.oak_changes.proofs.said.add_changes.Goals as goal

pub loop-state-preserved : goal.loop-state-preserved
loop-state-preserved c =
    said_taken c.args.from.now c.args.item.now c.args.states.now c.loop-state.state-index (state_at c.args.states.now c.loop-state.state-index) c.args.said.now c.loop-state.said c.add_new.new.said
    c.loop-state-test.true (state_is c.args.states.now c.loop-state.state-index c.loop-state-test.true) c.loop-state.invariant c.in_ok-add_new.ensures
