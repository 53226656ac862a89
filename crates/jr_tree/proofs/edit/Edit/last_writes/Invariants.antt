use Rattle.std.proofs.Common.{map, drop}
use Rattle.std.specs.Map.Iter.{deref}
use Rattle.jr_tree.proofs.LastWrites.{IsRead}
use Rattle.jr_tree.proofs.edit.Edit.last_writes.Given as goal

abbrev pub invariant-loop-at : goal.invariant-loop-at
invariant-loop-at l = IsRead (drop l.at l.self.writes) (map deref l.last.items) l.seen
