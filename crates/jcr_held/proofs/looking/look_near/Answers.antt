use Rattle.std.proofs.Common.{◌≡◌, IsFalse, Some}
use Rattle.jr_path.specs.Names.{parent_of}
use Rattle.jr_part.specs.Parts.{knows}
use Rattle.jr_part.specs.declared.need.Need.TheVariants as need
use Rattle.jcr_held.specs.Looking.{IsUnknownNear}
use Rattle.jcr_held.proofs.OnTheWay.{near_above, of_found, of_some}
use Rattle.jcr_held.proofs.looking.look_near.Goals as goal

pub returns-in-Some : goal.returns-in-Some
returns-in-Some c =
    of_found (IsUnknownNear c.args.part.now c.args.path) (need.Node c.in-Some.above)
    (near_above c.args.part.now c.args.path c.in-Some.above
    (of_some (λ p. parent_of c.args.path ≡ Some p) _ c.in-Some.above c.in-Some.is c.in_ok-above.ensures.above)
    (of_some (λ p. IsFalse (knows c.args.part.now (need.Node p))) _ c.in-Some.above c.in-Some.is c.in_ok-above.ensures.unknown))
    c.leave.result c.leave.ensures
