use Rattle.std.proofs.Common.{◌≡◌, drop}
use Rattle.std.specs.List.{find}
use Rattle.jr_items.specs.Items.{has_mixin}
use Rattle.jcr_lock.proofs.covers.nearest_with.Given as goal

-- what is left decides
abbrev pub invariant-loop-at : goal.invariant-loop-at
invariant-loop-at l = find (has_mixin l.tree l.mixin) (drop l.at-index l.at-items) ≡ find (has_mixin l.tree l.mixin) l.at-items
