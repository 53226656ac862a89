use Rattle.oak_changes.proofs.Gathering.{found_taken, state_at, state_is}
use Rattle.oak_changes.proofs.states.is_there.Goals as goal

pub loop-state-preserved : goal.loop-state-preserved
loop-state-preserved c =
    found_taken c.args.states.now c.args.r c.loop-state.state-index (state_at c.args.states.now c.loop-state.state-index) c.loop-state.found c.first_of-found.result
    c.loop-state-test.true (state_is c.args.states.now c.loop-state.state-index c.loop-state-test.true) c.loop-state.invariant c.first_of-found.ensures
