use Rattle.std.proofs.Common.{◌≡◌, fold, map}
use Rattle.std.specs.Map.{keys_of}
use Rattle.oak_recover.specs.Dead.{with_each}
use Rattle.oak_recover.proofs.entries.put_values.Given as goal

-- those so far are put, and those that are left come to the same
abbrev pub invariant-loop-values : goal.invariant-loop-values
invariant-loop-values l = fold (with_each l.after.cluster l.after.last) l.revisions (map (λ p. keys_of p.1) l.values-iterator) ≡ fold (with_each l.after.cluster l.after.last) l.initial.revisions (map (λ p. keys_of p.1) l.props)
