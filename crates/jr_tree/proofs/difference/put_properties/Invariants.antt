use Rattle.std.proofs.Common.{◌≡◌}
use Rattle.jr_tree.specs.Changes.{with_writes, put_changed}
use Rattle.jr_tree.proofs.difference.put_properties.Given as goal

-- what is left completes the writes so far
abbrev pub invariant-loop-name : goal.invariant-loop-name
invariant-loop-name l = with_writes l.writes (put_changed l.path l.old l.name-iterator) ≡ with_writes l.initial.writes (put_changed l.path l.old l.new)
