use Rattle.std.proofs.Common.{◌≡◌, map, take}
use Rattle.std.specs.Prelude.{is_none}
use Rattle.std.specs.List.{filter}
use Rattle.jr_types.proofs.counting.residual_props.Given as goal

abbrev pub invariant-loop-def : goal.invariant-loop-def
invariant-loop-def l = map (λ d. d.now) l.residual.items ≡ filter (λ d. is_none d.name) (map (λ d. d.now) (take l.def-index l.props))
