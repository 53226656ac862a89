use Rattle.std.proofs.Common.{◌≡◌, ◌++◌, ◌∷◌, map}
use Rattle.std.specs.Map.{keys_of}
use Rattle.jr_items.specs.Names.{mixin_types, primary_type}
use Rattle.jr_rules.proofs.properties.property_names.Given as goal

-- the names so far, and those that are left
abbrev pub invariant-loop-name : goal.invariant-loop-name
invariant-loop-name l = map (λ n. n.now) l.names.items ++ keys_of l.name-iterator ≡ primary_type ∷ mixin_types ∷ keys_of l.node.props
