use Rattle.std.proofs.Common.{◌≡◌}
use Rattle.jr_tree.specs.Changes.{with_writes, unset_missing}
use Rattle.jr_tree.proofs.difference.unset_properties.Given as goal

-- what is left completes the writes so far
abbrev pub invariant-loop-name : goal.invariant-loop-name
invariant-loop-name l = with_writes l.writes (unset_missing l.path l.name-iterator l.new) ≡ with_writes l.initial.writes (unset_missing l.path l.old l.new)
