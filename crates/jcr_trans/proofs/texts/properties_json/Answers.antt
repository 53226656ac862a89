-- The properties come in the order of their names.
use Rattle.std.proofs.Common.{List, [], ap, subst, ◌∙◌}
use Rattle.std.specs.List.Sorted.{IsStrictlySortedBy}
use Rattle.std.specs.Map.{keys_of}
use Rattle.serde_json.specs.Data.{object}
use Rattle.serde_json.specs.View.{members_view}
use Rattle.serde_json.proofs.Views.{view-Object}
use Rattle.jr_path.specs.Names.{name_cmp}
use Rattle.jr_path.specs.declared.name.Name.{Name}
use Rattle.jr_value.specs.declared.value.Property.{Property}
use Rattle.jcr_trans.proofs.Members.{all_put, one_put}
use Rattle.jcr_trans.proofs.texts.properties_json.Goals as goal

pub loop-name-init : goal.loop-name-init
loop-name-init c = ([], c.into_iter-name-iterator.ensures.into_iter_gives.0 ∙ c.inner-name-items.ensures, ap members_view c.new-members.ensures.empty)

pub loop-name-preserved : goal.loop-name-preserved
loop-name-preserved c =
    one_put _ _ _ _ _ _ _ (subst (λ (ps : List (Name × Property)). IsStrictlySortedBy name_cmp (keys_of ps)) c.inner-name-items.ensures c.into_iter-name-iterator.ensures.into_iter_gives.5)
    c.in-Some.ensures.steps c.in_ok-put_property.ensures c.loop-name.invariant

pub returns : goal.returns
returns c = view-Object c.loop-name.members ∙ ap object (all_put _ _ _ c.in-None.ensures.steps.0 c.loop-name.invariant)
