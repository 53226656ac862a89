use Rattle.std.proofs.Common.{◌≡◌}
use Rattle.std.specs.List.{fold}
use Rattle.jcr_restore.specs.Restored.{with_frozen}
use Rattle.jcr_restore.proofs.properties.put_frozen.Given as goal

-- what is left leads there
abbrev pub invariant-loop-name : goal.invariant-loop-name
invariant-loop-name l = fold with_frozen l.props l.name-iterator ≡ fold with_frozen l.initial.props l.frozen.props
