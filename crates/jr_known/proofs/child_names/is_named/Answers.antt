use Rattle.std.proofs.Common.{◌≡◌, Some, None, Option, ap, sym, ◌∙◌, rules}
use Rattle.jr_path.specs.declared.name.Name.{Name}
use Rattle.jr_rev.specs.declared.revision.Revision.{Revision}
use Rattle.jr_known.proofs.Stands.{stands_at, stands_nowhere}
use Rattle.jr_known.proofs.child_names.is_named.Goals as goal

pub returns-in-Ok : goal.returns-in-Ok
returns-in-Ok c = λ is.
    let same : c.args.born ≡ Some c.index-names-at.result.1 = search rules in
    stands_at c.args.name.now c.args.names.now c.in-Ok.at c.requires c.index-names-at.result.1 c.index-names-at.result c.in-Ok.ensures (ap (λ (e : Name × Option Revision). e.1) (sym c.index-names-at.is)) ∙ sym same

pub returns-in-Err : goal.returns-in-Err
returns-in-Err c = λ is.
    let none : c.args.born ≡ None = search rules in
    stands_nowhere c.args.name.now c.args.names.now c.in-Err.field-0 c.requires c.in-Err.ensures ∙ sym none
