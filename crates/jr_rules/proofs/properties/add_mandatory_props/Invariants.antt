use Rattle.std.proofs.Common.{◌≡◌, ◌++◌, None, cond, map, take}
use Rattle.std.specs.List.{filter_map}
use Rattle.jr_rules.proofs.properties.add_mandatory_props.Given as goal

-- the names so far
abbrev pub invariant-loop-def : goal.invariant-loop-def
invariant-loop-def l = map (λ n. n.now) l.names.items ≡ map (λ n. n.now) l.initial.names.items ++ filter_map (λ d. cond d.mandatory d.name None) (map (λ d. d.now) (take l.def-index l.props))
