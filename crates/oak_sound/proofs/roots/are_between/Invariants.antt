use Rattle.std.proofs.Common.{◌≡◌}
use Rattle.std.specs.Prelude.{◌&&◌}
use Rattle.jr_rev.specs.Revisions.{is_at_most}
use Rattle.std.specs.List.{list_all}
use Rattle.std.specs.Map.{keys_of}
use Rattle.oak_sound.proofs.roots.are_between.Given as goal

-- what is left decides
abbrev pub invariant-loop-r : goal.invariant-loop-r
invariant-loop-r g l =
    list_all (λ r. is_at_most l.entry.low r && is_at_most r l.entry.high) (keys_of l.r-iterator)
    ≡ list_all (λ r. is_at_most l.entry.low r && is_at_most r l.entry.high) (keys_of l.entries)
