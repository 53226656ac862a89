use Rattle.std.proofs.Common.{◌≡◌, []}
use Rattle.std.specs.List.{fold}
use Rattle.jcr_mixin.specs.Commands.{with_kept}
use Rattle.jcr_mixin.proofs.unmix.without_lost.Given as goal

-- what is left leads there
abbrev pub invariant-loop-name : goal.invariant-loop-name
invariant-loop-name l = fold (with_kept l.types l.old l.new) l.props l.name-iterator ≡ fold (with_kept l.types l.old l.new) [] l.new.props
