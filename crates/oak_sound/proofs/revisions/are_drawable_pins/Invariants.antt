use Rattle.std.proofs.Common.{◌≡◌}
use Rattle.std.specs.List.{flat_map, list_all}
use Rattle.oak_sound.specs.Sound.{is_drawable, of_pin}
use Rattle.oak_sound.proofs.revisions.are_drawable_pins.Given as goal

-- what is left decides
abbrev pub invariant-loop-pin : goal.invariant-loop-pin
invariant-loop-pin g l =
    list_all (is_drawable l.clusters) (flat_map (λ e. of_pin e.1) l.pin-iterator)
    ≡ list_all (is_drawable l.clusters) (flat_map (λ e. of_pin e.1) l.pins)
