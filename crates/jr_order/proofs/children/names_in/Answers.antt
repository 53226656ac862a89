use Rattle.std.proofs.Common.{ap, ◌∙◌, map}
use Rattle.jr_order.proofs.Ordering.{names_more, none_name, one_name}
use Rattle.jr_order.proofs.children.names_in.Goals as goal
use Rattle.jr_order.proofs.children.names_in.Goals.{in-Some+in_ok-push, in_default}

pub loop-value-preserved : goal.loop-value-preserved
loop-value-preserved c = names_more c.args.values.now c.loop-value.value-index c.value-item.result
    (map (λ n. n.now) c.loop-value.names.items) (map (λ n. n.now) c.match-name_in.names.items)
    c.loop-value-test.true c.value-item.is c.loop-value.invariant
    (elim c.match-name_in.branch [
      | in-Some+in_ok-push w ↦ one_name c.loop-value.names.items c.match-name_in.names.items _ _ (ap (λ (v : _). v.items) w.names-is ∙ w.in_ok-push.ensures.items) w.in-Some.ensures
      | in_default w ↦ none_name c.loop-value.names.items c.match-name_in.names.items _ (ap (λ (v : _). v.items) w.names-is) w.in_default.ensures
    ])
