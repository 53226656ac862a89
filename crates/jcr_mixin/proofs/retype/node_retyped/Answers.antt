use Rattle.std.specs.Prelude.{Ok}
use Rattle.jr_overlay.specs.Overlays.{sighted}
use Rattle.jcr_write.specs.Places.{unless_refused}
use Rattle.jcr_fill.specs.Makings.{unknown_type}
use Rattle.jcr_mixin.specs.Commands.{of_primary_type}
use Rattle.jcr_write.proofs.Due.{found_err, found_ok, place_err}
use Rattle.jcr_mixin.proofs.retype.node_retyped.Goals as goal

pub returns-in-Ok-clause-ok : goal.returns-in-Ok-clause-ok
returns-in-Ok-clause-ok c = found_ok c.retyped_by.result (sighted c.args.draft.now.sight) c.args.draft.now.steps c.args.path.now c.in-Ok.node.now
    (λ node. unless_refused (unknown_type c.args.types.now c.args.node_type.now) (Ok (of_primary_type c.args.types.now node c.args.node_type.now)))
    c.in-Ok.ensures.ok c.retyped_by.ensures.ok

pub returns-in-Ok-clause-err : goal.returns-in-Ok-clause-err
returns-in-Ok-clause-err c = found_err c.retyped_by.result (sighted c.args.draft.now.sight) c.args.draft.now.steps c.args.path.now c.in-Ok.node.now
    (λ node. unless_refused (unknown_type c.args.types.now c.args.node_type.now) (Ok (of_primary_type c.args.types.now node c.args.node_type.now)))
    c.in-Ok.ensures.ok c.retyped_by.ensures.err

pub returns-in-Err-clause-err : goal.returns-in-Err-clause-err
returns-in-Err-clause-err c = place_err (sighted c.args.draft.now.sight) c.args.draft.now.steps c.args.path.now c.in-Err.refusal
    (λ node. unless_refused (unknown_type c.args.types.now c.args.node_type.now) (Ok (of_primary_type c.args.types.now node c.args.node_type.now)))
    c.in-Err.ensures.err
