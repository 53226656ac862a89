use Rattle.std.proofs.Common.{◌≡◌, take}
use Rattle.jr_items.specs.Items.{upward}
use Rattle.jr_items.proofs.items.upward.Given as goal

abbrev pub invariant-loop-above : goal.invariant-loop-above
invariant-loop-above l = l.paths.items ≡ take l.above (upward l.path)
