use Rattle.std.proofs.Common.{◌≡◌, map, take}
use Rattle.std.specs.List.{filter}
use Rattle.jr_types.specs.Types.{fits}
use Rattle.jr_types.proofs.counting.fitting_props.Given as goal

abbrev pub invariant-loop-def : goal.invariant-loop-def
invariant-loop-def l = map (λ d. d.now) l.fitting.items ≡ filter (λ d. fits d l.property) (map (λ d. d.now) (take l.def-index l.counting))
