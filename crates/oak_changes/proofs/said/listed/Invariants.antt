use Rattle.std.proofs.Common.{◌≡◌, ◌++◌, map}
use Rattle.std.specs.Map.{values_of}
use Rattle.oak_changes.proofs.said.listed.Given as goal

-- the commits so far, and those that are left
abbrev pub invariant-loop-revision : goal.invariant-loop-revision
invariant-loop-revision l =
    l.commits ++ map (λ e. record { revision = e.0; changes = values_of e.1 }) l.revision-iterator
    ≡ map (λ e. record { revision = e.0; changes = values_of e.1 }) l.fn.groups
