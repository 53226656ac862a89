use Rattle.std.proofs.Common.{rules, ◌≡◌, ◌<◌, length}
use Rattle.std.specs.Prelude.{is_some}
use Rattle.jr_types.specs.declared.ChildDef.{ChildDef}
use Rattle.jr_types.proofs.Wanted.{wanted_more}
use Rattle.jr_types.proofs.items.telling_children.Goals as goal

pub loop-def-preserved : goal.loop-def-preserved
loop-def-preserved c =
    let l : c.loop-def.def-index < length c.args.counting.now = search rules in
    let w : c.is_some.result ≡ is_some c.def-item.result.now.default_type = search rules in
    wanted_more (λ (d : ChildDef). is_some d.default_type) c.args.counting.now c.loop-def.def-index c.def-item.result _ _ _ l c.def-item.is c.loop-def.invariant w c.in_ok-add_if.ensures
