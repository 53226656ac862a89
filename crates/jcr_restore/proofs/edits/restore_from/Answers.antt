use Rattle.std.proofs.Common.{subst}
use Rattle.std.specs.Prelude.{IfErr, IfOk}
use Rattle.jr_path.specs.declared.path.Path.{Path}
use Rattle.jr_items.specs.Items.{child_path}
use Rattle.jcr_lock.specs.Locks.{IsDue, IsDueRefusal}
use Rattle.jcr_restore.specs.Edits.{restore_to}
use Rattle.jcr_restore.proofs.Free.{own_due, own_refused}
use Rattle.jcr_restore.proofs.edits.restore_from.Goals as goal

pub returns-in-Ok-clause-ok : goal.returns-in-Ok-clause-ok
returns-in-Ok-clause-ok c =
    own_due c.restore_to.result _ (restore_to c.args.types.now c.args.tree.now c.args.path.now (child_path c.args.history.now c.args.version.now) c.args.version.now) c.in-Ok.ensures.ok
    (subst (λ (q : Path). IfOk c.restore_to.result (IsDue (restore_to c.args.types.now c.args.tree.now c.args.path.now q c.args.version.now))) c.in-Ok.ensures.version c.restore_to.ensures.ok)

pub returns-in-Ok-clause-err : goal.returns-in-Ok-clause-err
returns-in-Ok-clause-err c =
    own_refused c.restore_to.result _ (restore_to c.args.types.now c.args.tree.now c.args.path.now (child_path c.args.history.now c.args.version.now) c.args.version.now) c.in-Ok.ensures.ok
    (subst (λ (q : Path). IfErr c.restore_to.result (IsDueRefusal (restore_to c.args.types.now c.args.tree.now c.args.path.now q c.args.version.now))) c.in-Ok.ensures.version c.restore_to.ensures.err)
