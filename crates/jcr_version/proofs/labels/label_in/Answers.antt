use Rattle.std.proofs.Common.{◌≡◌, [], ◌∷◌, subst}
use Rattle.std.specs.List.{filter}
use Rattle.std.specs.Prelude.{IfOk}
use Rattle.jr_path.specs.declared.path.Path.{Path}
use Rattle.jr_tree.specs.declared.edit.Write.TheVariants.{Put}
use Rattle.jcr_lock.specs.Needed.{is_needed}
use Rattle.jcr_ref.specs.Histories.{labels_of, number_at, reference_to}
use Rattle.jcr_version.proofs.Due.{due_else}
use Rattle.jcr_version.proofs.labels.label_in.Goals as goal

pub returns-in-Ok-clause-ok : goal.returns-in-Ok-clause-ok
returns-in-Ok-clause-ok c =
    due_else c.labelled.result _ _ c.in-Ok.ensures.ok
    (subst (λ (q : Path). IfOk c.labelled.result (λ edit. edit.writes ≡ filter (is_needed c.args.tree.now) (Put (labels_of c.args.history.now) c.args.label.now (reference_to (number_at c.args.tree.now q)) ∷ []))) c.in-Ok.ensures.version c.labelled.ensures.ok)
