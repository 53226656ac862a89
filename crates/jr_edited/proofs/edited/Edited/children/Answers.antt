use Rattle.std.proofs.Common.{ap, ◌∙◌}
use Rattle.std.specs.Map.Iter.{deref_pair}
use Rattle.jr_tree.proofs.Under.{children_more, children_all, one_more, none_more}
use Rattle.jr_edited.proofs.edited.Edited.children.Goals as goal
use Rattle.jr_edited.proofs.edited.Edited.children.Goals.{in-Some+in_ok-copy+in_ok-push, in_default}

pub loop-at-init : goal.loop-at-init
loop-at-init c = c.new-names.ensures.items

pub loop-at-preserved : goal.loop-at-preserved
loop-at-preserved c =
    children_more deref_pair _ _ _ _ _ _ c.loop-at-test.true c.loop-at-item.is c.loop-at.invariant
    (elim c.match-child_name.branch [
      | in-Some+in_ok-copy+in_ok-push w ↦ one_more _ _ _ _ _ (ap (λ (v : _). v.items) w.names-is ∙ w.in_ok-push.ensures.items) w.in_ok-copy.ensures w.in-Some.ensures
      | in_default w ↦ none_more _ _ _ (ap (λ (v : _). v.items) w.names-is) w.in_default.ensures
    ])

pub returns : goal.returns
returns c = children_all deref_pair _ _ _ _ _ _ c.loop-at.invariant c.loop-at-test.false c.deref-at-items.ensures.value c.in_ok-under.ensures
