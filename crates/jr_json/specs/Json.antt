-- The JSON of values and of properties, as it is printed.
use Rattle.std.specs.Prelude.{ℕ, ℤ, pos, negsuc, List, [], ◌∷◌, map, codes}
use Rattle.serde_json.specs.Data.{Data, Num, Items, boolean, number, string, array, object, unsigned, negative, no_members, member}
use Rattle.serde_json.specs.View.{items_of}
use Rattle.base64.specs.Engines.{standard}
use Rattle.base64.specs.GeneralPurpose.{encode_of}
use Rattle.jr_path.specs.Ids.{path_text}
use Rattle.jr_value.specs.Words.{identifier_text, kind_text}
use Rattle.jr_value.specs.declared.value.Kind.{Kind}
use Rattle.jr_value.specs.declared.value.Value.{Value}
use Rattle.jr_value.specs.declared.value.Value.TheVariants as value
use Rattle.jr_value.specs.declared.value.Property.{Property}
use Rattle.jr_value.specs.declared.value.Property.TheVariants.{Single, Many}

-- a whole number
abbrev pub whole_number : ℤ → Num
whole_number (pos n) = unsigned n
whole_number (negsuc n) = negative (negsuc n)

-- an object with one member
abbrev pub tagged : List ℕ → Data → Data
tagged name d = object (member name d no_members)

-- the JSON of a value
abbrev pub value_data : Value → Data
value_data (value.Str t) = string t
value_data (value.Binary bytes) = tagged (codes "binary") (string (encode_of standard bytes))
value_data (value.Long n) = number (whole_number n)
value_data (value.Date n) = tagged (codes "date") (number (whole_number n))
value_data (value.Boolean b) = boolean b
value_data (value.Name n) = tagged (codes "name") (string n)
value_data (value.Path p) = tagged (codes "path") (string (path_text p))
value_data (value.Reference id) = tagged (codes "reference") (string (identifier_text id))
value_data (value.WeakReference id) = tagged (codes "weakreference") (string (identifier_text id))
value_data (value.Uri t) = tagged (codes "uri") (string t)

-- the JSON of each of some values, as the items of a list
abbrev pub value_items : List Value → Items
value_items xs = items_of (map value_data xs)

-- the JSON of a property that has no values of a kind
abbrev pub no_values : Kind → Data
no_values k = tagged (codes "empty") (string (kind_text k))

-- the JSON of a property: its value, the list of its values, or the kind of which it has none
abbrev pub property_data : Property → Data
property_data (Single x) = value_data x
property_data (Many k []) = no_values k
property_data (Many k (x ∷ xs)) = array (value_items (x ∷ xs))
