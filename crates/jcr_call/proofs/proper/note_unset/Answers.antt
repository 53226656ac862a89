use Rattle.std.proofs.Common.{[], ◌∷◌, ◌++◌, ap, ◌∙◌}
use Rattle.jr_tree.specs.declared.edit.Write.{Write}
use Rattle.jr_tree.specs.Edits.{item_of}
use Rattle.jcr_call.proofs.Written.{unset_more}
use Rattle.jcr_call.proofs.proper.note_unset.Goals as goal

pub returns-in_ok-insert : goal.returns-in_ok-insert
returns-in_ok-insert c = λ ws are. unset_more ws _ c.args.unset.now c.insert.new.self c.in-Unset.field-0 c.in-Unset.field-1
    c.in_ok-item.field-0 are (ap (λ (w : Write). ws ++ w ∷ []) c.in-Unset.is) (c.in_ok-item.ensures ∙ ap item_of c.in-Unset.is)
    c.in_ok-insert.ensures.updates
