use Rattle.std.proofs.Common.{subst}
use Rattle.std.specs.Prelude.{IfErr, IfOk}
use Rattle.jr_path.specs.declared.path.Path.{Path}
use Rattle.jcr_lock.specs.Locks.{IsDue, IsDueRefusal}
use Rattle.jcr_ref.specs.Histories.{version_history_of}
use Rattle.jcr_version.specs.Edits.{unlabel_own}
use Rattle.jcr_version.proofs.Due.{first_refused, own_due, own_refused}
use Rattle.jcr_version.proofs.labels.unlabel_edit.Goals as goal

pub returns-in-Ok-clause-ok : goal.returns-in-Ok-clause-ok
returns-in-Ok-clause-ok c =
    own_due c.unlabel_in.result _ (unlabel_own c.args.tree.now (version_history_of c.args.tree.now c.args.path.now) c.args.label.now) c.in-Ok.ensures.ok
    (subst (λ (h : Path). IfOk c.unlabel_in.result (IsDue (unlabel_own c.args.tree.now h c.args.label.now))) c.in-Ok.ensures.history c.unlabel_in.ensures.ok)

pub returns-in-Ok-clause-err : goal.returns-in-Ok-clause-err
returns-in-Ok-clause-err c =
    own_refused c.unlabel_in.result _ (unlabel_own c.args.tree.now (version_history_of c.args.tree.now c.args.path.now) c.args.label.now) c.in-Ok.ensures.ok
    (subst (λ (h : Path). IfErr c.unlabel_in.result (IsDueRefusal (unlabel_own c.args.tree.now h c.args.label.now))) c.in-Ok.ensures.history c.unlabel_in.ensures.err)

pub returns-in-Err-clause-err : goal.returns-in-Err-clause-err
returns-in-Err-clause-err c = first_refused _ (unlabel_own c.args.tree.now (version_history_of c.args.tree.now c.args.path.now) c.args.label.now) c.in-Err.refusal c.in-Err.ensures.err
