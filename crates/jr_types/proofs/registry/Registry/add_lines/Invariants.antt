use Rattle.std.proofs.Common.{map, take}
use Rattle.std.specs.List.{filter_map}
use Rattle.jr_items.specs.Items.{name_in}
use Rattle.jr_types.specs.Registered.{IsFurther}
use Rattle.jr_types.proofs.registry.Registry.add_lines.Given as goal

-- the types that the values so far name
abbrev pub invariant-loop-value : goal.invariant-loop-value
invariant-loop-value l = IsFurther l.self (map (λ d. d.now) l.initial.types.items) (filter_map name_in (take l.value-index l.values)) (map (λ d. d.now) l.types.items)
