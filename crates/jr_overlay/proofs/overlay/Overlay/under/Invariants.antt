use Rattle.std.proofs.Common.{map}
use Rattle.std.specs.Map.Iter.{deref_pair}
use Rattle.jr_overlay.proofs.Ranges.{IsSearch}
use Rattle.jr_overlay.proofs.overlay.Overlay.under.Given as goal

abbrev pub invariant-loop-at : goal.invariant-loop-at
invariant-loop-at l = IsSearch l.path l.self (map deref_pair l.found.items) l.at-iterator
