use Rattle.std.proofs.Common.{◌≡◌, ◌++◌}
use Rattle.std.specs.Prelude.{option_to_list}
use Rattle.std.specs.List.{filter}
use Rattle.jr_rev.specs.Vectors.{sees}
use Rattle.oak_read.specs.Meaning.{latest}
use Rattle.oak_gc.proofs.garbage.is_absent.Given as goal

-- the latest of the best so far and the entries that are left stays
abbrev pub invariant-loop-r : goal.invariant-loop-r
invariant-loop-r l = latest (option_to_list l.latest ++ filter (λ e. sees l.bound.base e.0) l.r-iterator) ≡ latest (filter (λ e. sees l.bound.base e.0) l.document.deleted)
