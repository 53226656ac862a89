use Rattle.std.proofs.Common.{◌≡◌}
use Rattle.std.specs.List.{list_all}
use Rattle.oak_gc.specs.Garbage.{are_superseded}
use Rattle.oak_gc.proofs.garbage.is_garbage_previous.Given as goal

-- the properties so far are garbage, so those that are left decide
abbrev pub invariant-loop-name : goal.invariant-loop-name
invariant-loop-name l = list_all (are_superseded l.bound.base l.bound.sweep l.document) l.name-iterator ≡ list_all (are_superseded l.bound.base l.bound.sweep l.document) l.previous.props
