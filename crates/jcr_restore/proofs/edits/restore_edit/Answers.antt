use Rattle.std.proofs.Common.{subst}
use Rattle.std.specs.Prelude.{IfErr, IfOk}
use Rattle.jr_path.specs.declared.path.Path.{Path}
use Rattle.jcr_lock.specs.Locks.{IsDue, IsDueRefusal}
use Rattle.jcr_ref.specs.Histories.{version_history_of}
use Rattle.jcr_restore.specs.Edits.{restore_own}
use Rattle.jcr_restore.proofs.Free.{first_refused, own_due, own_refused}
use Rattle.jcr_restore.proofs.edits.restore_edit.Goals as goal

pub returns-in-Ok-clause-ok : goal.returns-in-Ok-clause-ok
returns-in-Ok-clause-ok c =
    own_due c.restore_from.result _ (restore_own c.args.types.now c.args.tree.now c.args.path.now (version_history_of c.args.tree.now c.args.path.now) c.args.version.now) c.in-Ok.ensures.ok
    (subst (λ (h : Path). IfOk c.restore_from.result (IsDue (restore_own c.args.types.now c.args.tree.now c.args.path.now h c.args.version.now))) c.in-Ok.ensures.history c.restore_from.ensures.ok)

pub returns-in-Ok-clause-err : goal.returns-in-Ok-clause-err
returns-in-Ok-clause-err c =
    own_refused c.restore_from.result _ (restore_own c.args.types.now c.args.tree.now c.args.path.now (version_history_of c.args.tree.now c.args.path.now) c.args.version.now) c.in-Ok.ensures.ok
    (subst (λ (h : Path). IfErr c.restore_from.result (IsDueRefusal (restore_own c.args.types.now c.args.tree.now c.args.path.now h c.args.version.now))) c.in-Ok.ensures.history c.restore_from.ensures.err)

pub returns-in-Err-clause-err : goal.returns-in-Err-clause-err
returns-in-Err-clause-err c = first_refused _ (restore_own c.args.types.now c.args.tree.now c.args.path.now (version_history_of c.args.tree.now c.args.path.now) c.args.version.now) c.in-Err.refusal c.in-Err.ensures.err
