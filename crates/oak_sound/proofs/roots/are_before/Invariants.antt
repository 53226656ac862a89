use Rattle.std.proofs.Common.{◌≡◌}
use Rattle.std.specs.List.{list_all}
use Rattle.std.specs.Map.{keys_of}
use Rattle.jr_rev.specs.Revisions.{is_before}
use Rattle.oak_sound.proofs.roots.are_before.Given as goal

-- what is left decides
abbrev pub invariant-loop-r : goal.invariant-loop-r
invariant-loop-r g l =
    list_all (λ r. is_before r l.latest) (keys_of l.r-iterator)
    ≡ list_all (λ r. is_before r l.latest) (keys_of l.entries)
