use Rattle.std.proofs.Common.{◌≡◌, ◌++◌, map, take}
use Rattle.jr_types.proofs.counting.add_children.Given as goal

abbrev pub invariant-loop-child : goal.invariant-loop-child
invariant-loop-child l = map (λ d. d.now) l.list.items ≡ map (λ d. d.now) l.initial.list.items ++ take l.child-index l.children
