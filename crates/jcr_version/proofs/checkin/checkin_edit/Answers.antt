use Rattle.jcr_version.specs.Edits.{checkin_own}
use Rattle.jcr_version.proofs.Due.{first_refused, own_due, own_refused}
use Rattle.jcr_version.proofs.checkin.checkin_edit.Goals as goal

pub returns-in-Ok-clause-ok : goal.returns-in-Ok-clause-ok
returns-in-Ok-clause-ok c = own_due c.checkin_of.result _ (checkin_own c.args.types.now c.args.tree.now c.args.path.now c.args.who.now) c.in-Ok.ensures.ok c.checkin_of.ensures.ok

pub returns-in-Ok-clause-err : goal.returns-in-Ok-clause-err
returns-in-Ok-clause-err c = own_refused c.checkin_of.result _ (checkin_own c.args.types.now c.args.tree.now c.args.path.now c.args.who.now) c.in-Ok.ensures.ok c.checkin_of.ensures.err

pub returns-in-Err-clause-err : goal.returns-in-Err-clause-err
returns-in-Err-clause-err c = first_refused _ (checkin_own c.args.types.now c.args.tree.now c.args.path.now c.args.who.now) c.in-Err.refusal c.in-Err.ensures.err
