use Rattle.std.proofs.Common.{◌≡◌, map, drop}
use Rattle.jcr_fill.specs.Filled.{filled}
use Rattle.jcr_fill.proofs.fill.fill.Given as goal

abbrev pub invariant-loop-def : goal.invariant-loop-def
invariant-loop-def l = filled l.who (map (λ d. d.now) (drop l.def-index l.defs)) l.filling ≡ filled l.who (map (λ d. d.now) l.defs) l.initial.filling
