use Rattle.std.proofs.Common.{◌≡◌, take}
use Rattle.jr_known.proofs.child_names.copied.Given as goal

abbrev pub invariant-loop-name : goal.invariant-loop-name
invariant-loop-name l = l.made.items ≡ take l.name-index l.names
