use Rattle.std.proofs.Common.{List, ℕ, sym, subst, ◌∙◌}
use Rattle.jr_rev.specs.declared.vector.Pin.{Pin}
use Rattle.oak_node.specs.Pins.{IsPlaceOf, IsGapOf}
use Rattle.oak_node.proofs.Places.{front_of, remove_found, remove_nowhere, gap_nowhere}
use Rattle.oak_node.proofs.pins.remove.Goals as goal

pub returns-in-Ok : goal.returns-in-Ok
returns-in-Ok c =
    let place = subst (λ (es : List (ℕ × Pin)). IsPlaceOf es c.args.owner c.in-Ok.at) c.deref.ensures.value c.in-Ok.ensures in
    c.remove.ensures.items ∙ remove_found c.args.owner c.args.pins.now.items c.in-Ok.at place.within (front_of c.args.owner c.args.pins.now.items c.in-Ok.at c.requires place.within place.there) place.there

pub returns-in_default : goal.returns-in_default
returns-in_default c =
    let gap = subst (λ (es : List (ℕ × Pin)). IsGapOf es c.args.owner c.in_default.field-0) c.deref.ensures.value c.in_default.ensures in
    sym (remove_nowhere c.args.owner c.args.pins.now.items (gap_nowhere c.args.owner c.args.pins.now.items c.in_default.field-0 gap))
