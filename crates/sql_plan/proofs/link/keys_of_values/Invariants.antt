use Rattle.std.proofs.Common.{◌≡◌, map, take}
use Rattle.sql_plan.specs.Index.{sought}
use Rattle.sql_plan.specs.Links.{values_sought}
use Rattle.sql_plan.proofs.link.keys_of_values.Given as goal

-- the keys so far
abbrev pub invariant-loop-value : goal.invariant-loop-value
invariant-loop-value l = map sought l.keys.items ≡ values_sought (take l.value-index l.values)
