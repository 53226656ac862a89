use Rattle.std.proofs.Common.{◌≡◌, map, take}
use Rattle.std.specs.List.{filter}
use Rattle.jr_types.specs.Types.{is_named}
use Rattle.jr_types.proofs.counting.children_named.Given as goal

abbrev pub invariant-loop-def : goal.invariant-loop-def
invariant-loop-def l = map (λ d. d.now) l.named.items ≡ filter (λ d. is_named l.name d.name) (map (λ d. d.now) (take l.def-index l.children))
