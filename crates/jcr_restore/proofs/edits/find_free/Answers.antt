use Rattle.std.proofs.Common.{subst}
use Rattle.std.specs.Prelude.{IfErr, option_map}
use Rattle.jr_path.specs.declared.path.Path.{Path}
use Rattle.jr_items.specs.Refusals.{IsTheRefusal, taken}
use Rattle.jcr_restore.specs.Edits.{in_conflict, unfrozen}
use Rattle.jcr_restore.proofs.Free.{second_err}
use Rattle.jcr_restore.proofs.edits.find_free.Goals as goal

pub returns-in-Ok-clause-err : goal.returns-in-Ok-clause-err
returns-in-Ok-clause-err c =
    second_err c.free_for.result (unfrozen c.args.tree.now c.args.at.now c.args.version.now) _ c.in-Ok.ensures.ok
    (subst (λ (f : Path). IfErr c.free_for.result (IsTheRefusal (option_map taken (in_conflict c.args.types.now c.args.tree.now c.args.path.now f)))) c.in-Ok.ensures.frozen c.free_for.ensures.err)
