use Rattle.std.proofs.Common.{sym, subst, ◌∙◌}
use Rattle.jr_part.specs.Parts.{ChildNames}
use Rattle.jr_part.specs.Follows.{IsNameGap, IsNamePlace}
use Rattle.jr_part.proofs.Places.{remove_found, remove_gap}
use Rattle.jr_known.proofs.child_names.remove_name.Goals as goal

pub returns-in-Ok : goal.returns-in-Ok
returns-in-Ok c =
    let place = subst (λ (es : ChildNames). IsNamePlace es c.args.name.now c.in-Ok.at) c.deref.ensures.value c.in-Ok.ensures in
    c.remove.ensures.items ∙ remove_found c.args.name.now c.args.names.now.items c.in-Ok.at c.requires place

pub returns-in_default : goal.returns-in_default
returns-in_default c =
    let gap = subst (λ (es : ChildNames). IsNameGap es c.args.name.now c.in_default.field-0) c.deref.ensures.value c.in_default.ensures in
    sym (remove_gap c.args.name.now c.args.names.now.items c.in_default.field-0 gap)
