-- The JSON of a value or of a property has no float, so the text that is written for it is the compact one.
use Rattle.std.proofs.Common.{◌≡◌, false, List, [], ◌∷◌, refl, pos, negsuc}
use Rattle.serde_json.specs.Written.{has_float, items_have_float}
use Rattle.jr_value.specs.declared.value.Value.{Value}
use Rattle.jr_value.specs.declared.value.Value.TheVariants as value
use Rattle.jr_value.specs.declared.value.Property.{Property}
use Rattle.jr_value.specs.declared.value.Property.TheVariants.{Single, Many}
use Rattle.jr_json.specs.Json.{value_data, value_items, property_data}
use Rattle.std.proofs.lemmas.Bool.{or_from}

pub value_plain : (x : Value) → has_float (value_data x) ≡ false
value_plain (value.Long (pos n)) = refl
value_plain (value.Long (negsuc n)) = refl
value_plain (value.Date (pos n)) = refl
value_plain (value.Date (negsuc n)) = refl
value_plain x = refl

values_plain : (xs : List Value) → items_have_float (value_items xs) ≡ false
values_plain [] = refl
values_plain (x ∷ xs) = or_from _ _ (value_plain x) (values_plain xs)

pub property_plain : (x : Property) → has_float (property_data x) ≡ false
property_plain (Single x) = value_plain x
property_plain (Many k []) = refl
property_plain (Many k (x ∷ xs)) = values_plain (x ∷ xs)
