use Rattle.std.proofs.Common.{[], ◌∷◌, ap}
use Rattle.jr_tree.specs.declared.edit.Write.TheVariants.{Put}
use Rattle.jr_items.specs.Names.{uuid}
use Rattle.jcr_ref.proofs.Pushed.{two}
use Rattle.jcr_ref.proofs.histories.push_identified.Goals as goal

pub returns : goal.returns
returns c = two _ _ _ _ _ _ c.in_ok-push_typed.ensures c.in_ok-push_property.ensures (ap (λ x. Put c.args.path.now uuid x ∷ []) c.in_ok-text.ensures)
