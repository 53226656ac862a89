use Rattle.std.proofs.Common.{List, ℕ, sym, ap, subst, ◌∙◌}
use Rattle.std.specs.Option.{is_some}
use Rattle.std.proofs.lemmas.Bool.{false≢true}
use Rattle.std.proofs.lemmas.Result.{on_ok_weaker}
use Rattle.jr_rev.specs.declared.vector.Pin.{Pin}
use Rattle.oak_node.specs.Pins.{IsPlaceOf, IsGapOf}
use Rattle.oak_node.proofs.Places.{front_of, set_found, insert_gap, lookup_nowhere, gap_nowhere}
use Rattle.oak_node.proofs.pins.put.Goals as goal

pub returns-in-Err-clause-kept : goal.returns-in-Err-clause-kept
returns-in-Err-clause-kept c = λ has.
    let gap = subst (λ (es : List (ℕ × Pin)). IsGapOf es c.args.owner c.in-Err.at) c.deref.ensures.value c.in-Err.ensures in
    let none = lookup_nowhere c.args.owner c.args.pins.now.items (gap_nowhere c.args.owner c.args.pins.now.items c.in-Err.at gap) in
    absurd (false≢true (sym (ap is_some none) ∙ has))

pub returns-in-Ok-clause-ok : goal.returns-in-Ok-clause-ok
returns-in-Ok-clause-ok c =
    let place = subst (λ (es : List (ℕ × Pin)). IsPlaceOf es c.args.owner c.in-Ok.at) c.deref.ensures.value c.in-Ok.ensures in
    c.set_at.ensures ∙ set_found c.args.owner c.args.pin.now c.args.pins.now.items c.in-Ok.at place.within (front_of c.args.owner c.args.pins.now.items c.in-Ok.at c.requires place.within place.there) place.there

pub returns-in-Err-clause-ok : goal.returns-in-Err-clause-ok
returns-in-Err-clause-ok c =
    let gap = subst (λ (es : List (ℕ × Pin)). IsGapOf es c.args.owner c.in-Err.at) c.deref.ensures.value c.in-Err.ensures in
    on_ok_weaker c.insert_at.result (λ items. items ∙ insert_gap c.args.owner c.args.pin.now c.args.pins.now.items c.in-Err.at gap.within gap.front gap.back) c.insert_at.ensures.ok
