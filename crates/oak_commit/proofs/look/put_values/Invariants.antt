use Rattle.std.proofs.Common.{◌≡◌}
use Rattle.oak_commit.specs.Looking.{with_all}
use Rattle.oak_commit.proofs.look.put_values.Given as goal

-- what the values that are left add to the properties so far stays
abbrev pub invariant-loop-r : goal.invariant-loop-r
invariant-loop-r l = with_all l.props l.name l.r-iterator ≡ with_all l.initial.props l.name l.fn.values
