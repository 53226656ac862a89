use Rattle.std.proofs.Common.{◌≡◌, map, take}
use Rattle.jr_rules.proofs.children.lent.Given as goal

abbrev pub invariant-loop-name : goal.invariant-loop-name
invariant-loop-name l = map (λ n. n.now) l.names.items ≡ take l.name-index l.own
