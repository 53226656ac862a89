use Rattle.std.proofs.Common.{◌≡◌, map, take}
use Rattle.oak_tidy.proofs.answers.pins_of.Given as goal

abbrev pub invariant-loop-pin : goal.invariant-loop-pin
invariant-loop-pin l = l.pins ≡ map (λ e. e.1) (take l.pin-index l.owned)
