use Rattle.std.proofs.Common.{◌≡◌}
use Rattle.std.specs.List.{list_all}
use Rattle.jcr_call.specs.Unset.{has_property}
use Rattle.jcr_call.proofs.proper.are_unset.Given as goal

-- what is left decides
abbrev pub invariant-loop-name : goal.invariant-loop-name
invariant-loop-name l = list_all (λ e. has_property l.unset l.path e.0) l.name-iterator
    ≡ list_all (λ e. has_property l.unset l.path e.0) l.props
