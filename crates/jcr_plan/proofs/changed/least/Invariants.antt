use Rattle.std.proofs.Common.{◌≡◌, drop}
use Rattle.std.specs.Option.{option_copied}
use Rattle.jr_items.specs.Items.{first_of, in_path_order}
use Rattle.jcr_plan.proofs.changed.least.Given as goal

-- the first of those from here to the end
abbrev pub invariant-loop-at : goal.invariant-loop-at
invariant-loop-at l = option_copied l.least ≡ first_of (in_path_order (drop l.at l.paths))
