use Rattle.std.proofs.Common.{not, ap, ◌∙◌}
use Rattle.seat_lock.specs.Passes.{view_of}
use Rattle.seat_lock.specs.Views.{is_one_of}
use Rattle.jr_shared.specs.Holds.{owned_by}
use Rattle.jr_shared.proofs.Handing.{found_among, found_rest, told_among}
use Rattle.jr_shared.proofs.shared.SharedWorld.split.Goals as goal

pub returns-clause-told : goal.returns-clause-told
returns-clause-told g c told = (
  told_among (view_of c.args.pass.now) (view_of c.split.new.pass) (λ s. not (is_one_of c.args.sessions.now s)) (ap (λ v. v.seen) c.split.ensures.left) (ap (λ v. v.parts) c.split.ensures.left) told,
  told_among (view_of c.args.pass.now) (view_of c.split.result) (is_one_of c.args.sessions.now) (ap (λ v. v.seen) c.split.ensures.given) (ap (λ v. v.parts) c.split.ensures.given) told,
)

pub returns-clause-owns : goal.returns-clause-owns
returns-clause-owns g c s = ap (λ v. owned_by v s) c.split.ensures.given ∙ found_among (is_one_of c.args.sessions.now) (view_of c.args.pass.now).parts s

pub returns-clause-owns_still : goal.returns-clause-owns_still
returns-clause-owns_still g c s = ap (λ v. owned_by v s) c.split.ensures.left ∙ found_rest (is_one_of c.args.sessions.now) (view_of c.args.pass.now).parts s
