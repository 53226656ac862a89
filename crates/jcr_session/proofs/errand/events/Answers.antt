use Rattle.std.proofs.Common.{List, Option, Some, subst, sym}
use Rattle.jr_tree.specs.declared.shared.CommitChanges.{CommitChanges}
use Rattle.jcr_run.specs.Standing.{AreSince}
use Rattle.jcr_session.proofs.errand.events.Goals as goal

pub returns-in-Some : goal.returns-in-Some
returns-in-Some c = λ h x holds since. c.show_changes.ensures h x holds
    (subst (λ (xs : List CommitChanges). AreSince h x (Some xs)) (sym c.as_slice.ensures)
    (subst (λ (o : Option (List CommitChanges)). AreSince h x o) c.in-Some.is since))
