use Rattle.std.proofs.Common.{List, ℕ, sym, ap, subst, ◌∙◌}
use Rattle.std.specs.Option.{is_some}
use Rattle.std.proofs.lemmas.Bool.{false≢true}
use Rattle.jr_rev.specs.declared.vector.Pin.{Pin}
use Rattle.oak_node.specs.Pins.{IsPlaceOf, IsGapOf}
use Rattle.oak_node.proofs.Places.{front_of, set_found, lookup_nowhere, gap_nowhere}
use Rattle.oak_node.proofs.pins.replace.Goals as goal

pub unreachable-requires : goal.unreachable-requires
unreachable-requires c =
    let gap = subst (λ (es : List (ℕ × Pin)). IsGapOf es c.args.owner c.in_default.field-0) c.deref.ensures.value c.in_default.ensures in
    let none = lookup_nowhere c.args.owner c.args.pins.now.items (gap_nowhere c.args.owner c.args.pins.now.items c.in_default.field-0 gap) in
    false≢true (sym (ap is_some none) ∙ c.requires.there)

pub returns : goal.returns
returns c =
    let place = subst (λ (es : List (ℕ × Pin)). IsPlaceOf es c.args.owner c.in-Ok.at) c.deref.ensures.value c.in-Ok.ensures in
    c.set_at.ensures ∙ set_found c.args.owner c.args.pin.now c.args.pins.now.items c.in-Ok.at place.within (front_of c.args.owner c.args.pins.now.items c.in-Ok.at c.requires.ordered place.within place.there) place.there
