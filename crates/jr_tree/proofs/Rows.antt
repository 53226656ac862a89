-- Small trees, computed.
use Rattle.std.proofs.Common.{◌≡◌, ℕ, Some, None, List, [], ◌∷◌, refl, pos}
use Rattle.jr_value.specs.declared.value.Property.TheVariants.{Single}
use Rattle.jr_value.specs.declared.value.Value.TheVariants.{Long}
use Rattle.jr_tree.specs.declared.edit.Write.TheVariants.{Here, Gone, Put, Unset}
use Rattle.jr_tree.specs.Trees.{Nodes, node_at, property_at}
use Rattle.jr_tree.specs.Edits.{applied, changes}

abbrev root_only : Nodes
root_only = ([], record { props = []; born = None }) ∷ []

-- "/a" and "p"
abbrev a : List (List ℕ)
a = (97 ∷ []) ∷ []

abbrev p : List ℕ
p = 112 ∷ []

five : property_at (applied None root_only (Here a ∷ Put a p (Single (Long (pos 5))) ∷ [])) a p ≡ Some (Single (Long (pos 5)))
five = refl

gone : node_at (applied None (applied None root_only (Here a ∷ Put a p (Single (Long (pos 5))) ∷ [])) (Gone a ∷ Unset a p ∷ [])) a ≡ None
gone = refl

whole : applied None root_only (Here a ∷ Gone a ∷ Here a ∷ []) ≡ ([], record { props = []; born = None }) ∷ (a, record { props = []; born = None }) ∷ []
whole = refl

abbrev with_a : Nodes
with_a = applied None root_only (Here a ∷ Put a p (Single (Long (pos 5))) ∷ [])

-- the writes between two trees, both ways
made : changes root_only with_a ≡ Here a ∷ Put a p (Single (Long (pos 5))) ∷ []
made = refl

taken : changes with_a root_only ≡ Gone a ∷ Unset a p ∷ []
taken = refl
