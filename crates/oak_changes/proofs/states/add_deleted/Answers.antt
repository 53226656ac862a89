use Rattle.std.proofs.Common.{◌&&◌}
use Rattle.std.specs.Prelude.{not}
use Rattle.jr_rev.specs.Vectors.{sees}
use Rattle.oak_read.specs.Meaning.{documents_in, is_committed}
use Rattle.oak_changes.proofs.Gathering.{counted_step}
use Rattle.oak_changes.proofs.states.add_deleted.Goals as goal

pub loop-r-preserved : goal.loop-r-preserved
loop-r-preserved c =
    counted_step (λ q. sees c.args.pin.now.base q && is_committed (documents_in c.args.documents.now) c.args.pin.now.sweep c.args.document.now q) not c.in-Some.r.now c.in-Some.gone.now _ _ c.loop-r.states c.add_state.new.states _
    c.in-Some.ensures.steps c.in_ok-add_state.ensures c.loop-r.invariant
