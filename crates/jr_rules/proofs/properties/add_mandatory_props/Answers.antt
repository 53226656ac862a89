use Rattle.std.proofs.Common.{rules, None, Some, ◌≡◌, ◌<◌, ◌++◌, ◌∷◌, [], cond, length, map}
use Rattle.std.specs.Prelude.{slice_index_or}
use Rattle.std.specs.List.{cons_option}
use Rattle.jr_types.specs.declared.PropDef.{PropDef}
use Rattle.jr_types.proofs.Further.{given_more, pushed}
use Rattle.jr_rules.proofs.properties.add_mandatory_props.Goals as goal
use Rattle.jr_rules.proofs.properties.add_mandatory_props.Goals.{in-Some+in_ok-push, in_default}

pub loop-def-preserved : goal.loop-def-preserved
loop-def-preserved c =
    let l : c.loop-def.def-index < length c.args.props.now = search rules in
    let x = slice_index_or c.args.props.now c.loop-def.def-index c.def-item.result in
    let put : map (λ n. n.now) c.match-wanted.names.items ≡ map (λ n. n.now) c.loop-def.names.items ++ cons_option (cond x.now.mandatory x.now.name None) [] =
    elim c.match-wanted.branch [
      | in-Some+in_ok-push w ↦
          let p : c.match-wanted.names.items ≡ c.loop-def.names.items ++ w.in-Some.name ∷ [] = search rules in
          let s : Some w.in-Some.name.now ≡ cond x.now.mandatory x.now.name None = search rules in
          pushed (λ n. n.now) c.loop-def.names.items c.match-wanted.names.items w.in-Some.name _ p s
      | in_default w ↦ search rules
    ] in
    given_more (λ (d : PropDef). cond d.mandatory d.name None) c.args.props.now c.loop-def.def-index c.def-item.result _ _ _ l c.loop-def.invariant put
