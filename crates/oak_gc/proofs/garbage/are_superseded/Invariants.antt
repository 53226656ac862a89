use Rattle.std.proofs.Common.{◌≡◌, ◌++◌}
use Rattle.std.specs.List.{list_all}
use Rattle.std.specs.Map.{keys_of}
use Rattle.oak_doc.specs.Updates.{values_of_property}
use Rattle.oak_gc.specs.Garbage.{is_superseded}
use Rattle.oak_gc.proofs.garbage.are_superseded.Given as goal

-- the values so far are superseded, so those that are left decide
abbrev pub invariant-loop-r : goal.invariant-loop-r
invariant-loop-r l =
    list_all (is_superseded l.bound.base l.bound.sweep (keys_of (values_of_property l.document.props l.name) ++ keys_of l.values)) (keys_of l.r-iterator)
    ≡ list_all (is_superseded l.bound.base l.bound.sweep (keys_of (values_of_property l.document.props l.name) ++ keys_of l.values)) (keys_of l.values)
