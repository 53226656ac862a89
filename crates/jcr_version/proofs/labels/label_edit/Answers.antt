use Rattle.std.proofs.Common.{subst}
use Rattle.std.specs.Prelude.{IfErr, IfOk}
use Rattle.jr_path.specs.declared.path.Path.{Path}
use Rattle.jcr_lock.specs.Locks.{IsDue, IsDueRefusal}
use Rattle.jcr_ref.specs.Histories.{version_history_of}
use Rattle.jcr_version.specs.Edits.{label_own}
use Rattle.jcr_version.proofs.Due.{own_due, own_refused}
use Rattle.jcr_version.proofs.labels.label_edit.Goals as goal

pub returns-in-Ok-clause-ok : goal.returns-in-Ok-clause-ok
returns-in-Ok-clause-ok c =
    own_due c.label_in.result _ (label_own c.args.tree.now (version_history_of c.args.tree.now c.args.path.now) c.args.version.now c.args.label.now c.args.take) c.in-Ok.ensures.ok
    (subst (λ (h : Path). IfOk c.label_in.result (IsDue (label_own c.args.tree.now h c.args.version.now c.args.label.now c.args.take))) c.in-Ok.ensures.history c.label_in.ensures.ok)

pub returns-in-Ok-clause-err : goal.returns-in-Ok-clause-err
returns-in-Ok-clause-err c =
    own_refused c.label_in.result _ (label_own c.args.tree.now (version_history_of c.args.tree.now c.args.path.now) c.args.version.now c.args.label.now c.args.take) c.in-Ok.ensures.ok
    (subst (λ (h : Path). IfErr c.label_in.result (IsDueRefusal (label_own c.args.tree.now h c.args.version.now c.args.label.now c.args.take))) c.in-Ok.ensures.history c.label_in.ensures.err)
