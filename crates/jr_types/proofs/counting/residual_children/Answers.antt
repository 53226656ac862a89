use Rattle.std.proofs.Common.{rules, ◌≡◌, ◌<◌, ◌≤◌, length}
use Rattle.std.specs.Prelude.{is_none}
use Rattle.jr_types.specs.declared.ChildDef.{ChildDef}
use Rattle.jr_types.proofs.Wanted.{wanted_all, wanted_more}
use Rattle.jr_types.proofs.counting.residual_children.Goals as goal

pub loop-def-preserved : goal.loop-def-preserved
loop-def-preserved c =
    let l : c.loop-def.def-index < length c.args.children.now = search rules in
    let w : c.is_none.result ≡ is_none c.def-item.result.now.name = search rules in
    wanted_more (λ (d : ChildDef). is_none d.name) c.args.children.now c.loop-def.def-index c.def-item.result _ _ _ l c.def-item.is c.loop-def.invariant w c.in_ok-add_if.ensures

pub returns : goal.returns
returns c =
    let l : length c.args.children.now ≤ c.loop-def.def-index = search rules in
    wanted_all (λ (d : ChildDef). is_none d.name) c.args.children.now c.loop-def.def-index _ l c.loop-def.invariant
