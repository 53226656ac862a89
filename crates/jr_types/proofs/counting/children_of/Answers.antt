use Rattle.std.proofs.Common.{rules, ◌<◌, ◌++◌, ◌∙◌, ap, length, map}
use denote.Ref.{Bor}
use Rattle.jr_types.specs.declared.ChildDef.{ChildDef}
use Rattle.jr_types.specs.declared.TypeDef.{TypeDef}
use Rattle.jr_types.proofs.Wanted.{given_all}
use Rattle.jr_types.proofs.counting.children_of.Goals as goal

pub loop-definition-preserved : goal.loop-definition-preserved
loop-definition-preserved c =
    let l : c.loop-definition.definition-index < length c.args.types.now = search rules in
    let put = c.in_ok-add_children.ensures ∙ ap (λ ys. map (λ (d : Bor ChildDef). d.now) c.loop-definition.children.items ++ ys) c.as_slice.ensures in
    given_all (λ (d : TypeDef). d.children) c.args.types.now c.loop-definition.definition-index c.definition-item.result _ _ l c.definition-item.is c.loop-definition.invariant put
