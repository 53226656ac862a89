use Rattle.std.proofs.Common.{sym, ◌∙◌}
use Rattle.std.proofs.lemmas.Result.{IfOk-weaker}
use Rattle.jcr_lock.proofs.Frozen.{frozen_found}
use Rattle.jcr_lock.proofs.covers.frozen_by.Goals as goal

pub returns-in-Some : goal.returns-in-Some
returns-in-Some c =
    IfOk-weaker c.checked_in.result _ _ (λ found is. is ∙ sym (frozen_found c.args.tree.now c.args.path.now c.in-Some.at c.in_ok-versionable.versionable c.in_ok-versionable.ensures (sym c.in-Some.is ∙ c.in_ok-at.ensures))) c.checked_in.ensures
