use Rattle.std.proofs.Common.{◌≡◌}
use Rattle.std.specs.List.{list_all}
use Rattle.std.specs.Map.{keys_of}
use Rattle.oak_sound.specs.Sound.{is_drawable}
use Rattle.oak_sound.proofs.revisions.are_drawable.Given as goal

-- what is left decides
abbrev pub invariant-loop-r : goal.invariant-loop-r
invariant-loop-r g l =
    list_all (is_drawable l.clusters) (keys_of l.r-iterator)
    ≡ list_all (is_drawable l.clusters) (keys_of l.entries)
