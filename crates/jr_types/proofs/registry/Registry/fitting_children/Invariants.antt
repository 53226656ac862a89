use Rattle.std.proofs.Common.{◌≡◌, map, take}
use Rattle.std.specs.List.{filter}
use Rattle.std.specs.Option.{option_copied}
use Rattle.jr_types.specs.Types.{fits_child}
use Rattle.jr_types.proofs.registry.Registry.fitting_children.Given as goal

abbrev pub invariant-loop-def : goal.invariant-loop-def
invariant-loop-def l = map (λ d. d.now) l.fitting.items ≡ filter (λ d. fits_child l.self d (option_copied l.primary)) (map (λ d. d.now) (take l.def-index l.counting))
