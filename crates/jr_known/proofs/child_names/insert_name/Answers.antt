use Rattle.std.proofs.Common.{subst, ◌∙◌}
use Rattle.jr_part.specs.Parts.{ChildNames}
use Rattle.jr_part.specs.Follows.{IsNameGap, IsNamePlace}
use Rattle.jr_part.proofs.Places.{insert_gap, set_found}
use Rattle.jr_known.proofs.child_names.insert_name.Goals as goal

pub returns-in-Ok : goal.returns-in-Ok
returns-in-Ok c =
    let place = subst (λ (es : ChildNames). IsNamePlace es c.args.name c.in-Ok.at) c.deref.ensures.value c.in-Ok.ensures in
    set_found c.args.name c.args.by c.args.names.now.items c.in-Ok.at c.requires place

pub returns-in_ok-insert-in-Err : goal.returns-in_ok-insert-in-Err
returns-in_ok-insert-in-Err c =
    let gap = subst (λ (es : ChildNames). IsNameGap es c.args.name c.in-Err.at) c.deref.ensures.value c.in-Err.ensures in
    c.in_ok-insert-in-Err.ensures.items ∙ insert_gap c.args.name c.args.by c.args.names.now.items c.in-Err.at gap
