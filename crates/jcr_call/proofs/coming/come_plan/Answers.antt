use Rattle.std.proofs.Common.{None, Ok, Some, sym, ap, ◌∙◌}
use Rattle.std.specs.Prelude.{map, string_bytes}
use Rattle.jr_tree.specs.declared.edit.Edit.{Edit}
use Rattle.jcr_call.proofs.Replying.{plan_reply, plan_there, tree_lent}
use Rattle.jcr_call.proofs.coming.come_plan.Goals as goal

pub returns-in-Ok-clause-reply : goal.returns-in-Ok-clause-reply
returns-in-Ok-clause-reply c = λ on o alike.
    plan_reply on c.args.command.now c.args.footing.now.base.now (map string_bytes c.as_slice.result.now) c.args.edit.writes None
    o.base (ap (map string_bytes) c.as_slice.ensures.value ∙ (c.in_ok-tokens.ensures ∙ o.tokens)) c.requires.some (c.requires.proper (tree_lent c.args.footing.now on o alike))
    (c.in-Ok.ensures.accepted on o alike)

pub returns-in-Ok-clause-comes : goal.returns-in-Ok-clause-comes
returns-in-Ok-clause-comes c = λ on o alike due. (
  ap (λ (e : Edit). Ok e.writes) (sym c.in-Ok.ensures.edit),
  (λ none. c.requires.some (ap (λ (e : Edit). e.writes) (sym c.in-Ok.ensures.edit) ∙ none)),
  plan_there on c.args.footing.now.base.now (map string_bytes c.as_slice.result.now) c.args.edit c.in-Ok.plan
      o.base (ap (map string_bytes) c.as_slice.ensures.value ∙ (c.in_ok-tokens.ensures ∙ o.tokens)) c.in-Ok.ensures.edit
      (c.requires.proper (tree_lent c.args.footing.now on o alike)) c.in-Ok.ensures.marks (c.in-Ok.ensures.accepted on o alike),
  c.in_ok-told-in-Ok.ensures on (Ok c.args.edit.writes) o due,
)

-- its refusal is told
pub returns-clause-comes : goal.returns-clause-comes
returns-clause-comes c = λ on o alike due.
    sym (plan_reply on c.args.command.now c.args.footing.now.base.now (map string_bytes c.as_slice.result.now) c.args.edit.writes (Some c.in-Err.refusal)
    o.base (ap (map string_bytes) c.as_slice.ensures.value ∙ (c.in_ok-tokens.ensures ∙ o.tokens)) c.requires.some (c.requires.proper (tree_lent c.args.footing.now on o alike))
    (c.in-Err.ensures.refused on o alike c.in_ok-cause_told-in-Err.ensures.0)) ∙ ap Some (sym c.in_ok-cause_told-in-Err.ensures.1)
