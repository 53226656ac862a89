use Rattle.std.specs.Prelude.{Ok}
use Rattle.jr_items.specs.Items.{property_of}
use Rattle.jr_overlay.specs.Overlays.{sighted}
use Rattle.jcr_write.specs.Places.{unless_refused, without_property}
use Rattle.jcr_write.specs.Writes.{unset_refusal}
use Rattle.jcr_write.proofs.Due.{found_err, found_ok, place_err}
use Rattle.jcr_write.proofs.properties.node_unset.Goals as goal

pub returns-in-Ok-clause-ok : goal.returns-in-Ok-clause-ok
returns-in-Ok-clause-ok c = found_ok c.unset_in.result (sighted c.args.draft.now.sight) c.args.draft.now.steps c.args.path.now c.in-Ok.node.now
    (λ node. unless_refused (unset_refusal c.args.types.now c.args.path.now c.args.name.now node (property_of node c.args.name.now)) (Ok (without_property node c.args.name.now)))
    c.in-Ok.ensures.ok c.unset_in.ensures.ok

pub returns-in-Ok-clause-err : goal.returns-in-Ok-clause-err
returns-in-Ok-clause-err c = found_err c.unset_in.result (sighted c.args.draft.now.sight) c.args.draft.now.steps c.args.path.now c.in-Ok.node.now
    (λ node. unless_refused (unset_refusal c.args.types.now c.args.path.now c.args.name.now node (property_of node c.args.name.now)) (Ok (without_property node c.args.name.now)))
    c.in-Ok.ensures.ok c.unset_in.ensures.err

pub returns-in-Err-clause-err : goal.returns-in-Err-clause-err
returns-in-Err-clause-err c = place_err (sighted c.args.draft.now.sight) c.args.draft.now.steps c.args.path.now c.in-Err.refusal
    (λ node. unless_refused (unset_refusal c.args.types.now c.args.path.now c.args.name.now node (property_of node c.args.name.now)) (Ok (without_property node c.args.name.now)))
    c.in-Err.ensures.err
