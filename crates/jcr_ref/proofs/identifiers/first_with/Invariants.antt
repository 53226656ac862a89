use Rattle.std.proofs.Common.{◌≡◌}
use Rattle.std.specs.List.{find}
use Rattle.std.specs.Map.{keys_of}
use Rattle.jr_value.specs.Values.{same_bytes}
use Rattle.jcr_ref.specs.References.{node_by_id, identifier_of}
use Rattle.jcr_ref.proofs.identifiers.first_with.Given as goal

-- what is left decides
abbrev pub invariant-loop-at : goal.invariant-loop-at
invariant-loop-at l = find (λ p. same_bytes (identifier_of l.tree p) l.id) (keys_of l.at-iterator) ≡ node_by_id l.tree l.id
