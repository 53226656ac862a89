use Rattle.std.proofs.Common.{◌≡◌, take}
use Rattle.jr_list.proofs.list.ListDeepCopy.copy.Given as goal

abbrev pub invariant-loop-item : goal.invariant-loop-item
invariant-loop-item g l = l.items.items ≡ take l.item-index l.item-items
