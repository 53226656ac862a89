use Rattle.std.proofs.Common.{◌≡◌}
use Rattle.oak_commit.specs.Looking.{with_properties}
use Rattle.oak_commit.proofs.look.put_properties.Given as goal

-- what the properties that are left add to those so far stays
abbrev pub invariant-loop-name : goal.invariant-loop-name
invariant-loop-name l = with_properties l.props l.name-iterator ≡ with_properties l.initial.props l.fn.moved
