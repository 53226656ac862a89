use Rattle.std.proofs.Common.{◌≡◌, Ok, Option, OnOk, IfErr, subst}
use Rattle.jr_path.specs.declared.name.Name.{Name}
use Rattle.jr_overlay.specs.Overlays.{sighted}
use Rattle.jcr_write.specs.Places.{IsDueRefusal}
use Rattle.jcr_write.specs.Writes.{order_made}
use Rattle.jcr_view.proofs.writing.order.Goals as goal

pub returns-clause-ok : goal.returns-clause-ok
returns-clause-ok c = subst (λ (b : Option Name). OnOk c.order_before.result
    (order_made c.args.types.now (sighted c.args.draft.now.sight) c.args.draft.now.steps c.args.path.now b
    ≡ Ok c.order_before.new.draft.steps)) c.as_ref.ensures.value c.order_before.ensures.ok

pub returns-clause-err : goal.returns-clause-err
returns-clause-err c = subst (λ (b : Option Name). IfErr c.order_before.result (IsDueRefusal
    (order_made c.args.types.now (sighted c.args.draft.now.sight) c.args.draft.now.steps c.args.path.now b)))
    c.as_ref.ensures.value c.order_before.ensures.err
