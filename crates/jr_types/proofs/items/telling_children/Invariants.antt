use Rattle.std.proofs.Common.{◌≡◌, map, take}
use Rattle.std.specs.Prelude.{is_some}
use Rattle.std.specs.List.{filter}
use Rattle.jr_types.proofs.items.telling_children.Given as goal

abbrev pub invariant-loop-def : goal.invariant-loop-def
invariant-loop-def l = map (λ d. d.now) l.telling.items ≡ filter (λ d. is_some d.default_type) (map (λ d. d.now) (take l.def-index l.counting))
