-- Which JSON is a value or a property, and the two kinds that are named where it is none.
use Rattle.std.specs.Prelude.{◌≡◌, ℕ, ◌==◌, List, [], ◌∷◌, Option, Some, None, option_map, unwrap_or, if◌then◌else◌, MatchOption}
use Rattle.serde_json.specs.Data.{Data, Items, null, boolean, number, string, array, object, Members, no_items, item, no_members, member}
use Rattle.serde_json.specs.Find.{as_i64}
use Rattle.jr_value.specs.Texts.{IsText}
use Rattle.jr_value.specs.Values.{kind_of, kind_number}
use Rattle.jr_value.specs.Words.{kind_named}
use Rattle.jr_json.specs.Json.{no_values}
use Rattle.jr_value.specs.declared.value.Kind.{Kind}
use Rattle.jr_value.specs.declared.value.Kind.TheVariants as kind
use Rattle.jr_value.specs.declared.value.Value.{Value}
use Rattle.jr_value.specs.declared.value.Value.TheVariants as value
use Rattle.jr_value.specs.declared.value.Property.{Property}
use Rattle.jr_value.specs.declared.value.Property.TheVariants.{Single, Many}
use Rattle.jr_json.specs.declared.fault.ValueFault.{ValueFault}
use Rattle.jr_json.specs.declared.fault.ValueFault.TheVariants.{ValueFormat, Memory}

-- the kinds whose values stand behind their word
abbrev pub tagged_kinds : List Kind
tagged_kinds = kind.Binary ∷ kind.Date ∷ kind.Name ∷ kind.Path ∷ kind.Reference ∷ kind.WeakReference ∷ kind.Uri ∷ []

-- the one member of an object
abbrev pub only_member : Members → Option (List ℕ × Data)
only_member (member name d no_members) = Some (name, d)
only_member _ = None

-- what stands behind the word of a kind is a value of this kind: of a DATE a whole number, else the value's text
abbrev pub IsTagged : Kind → Data → Value → Type 0
IsTagged kind.Date (number n) x = Some x ≡ option_map value.Date (as_i64 n)
IsTagged kind.Binary (string t) x = IsText kind.Binary t x
IsTagged kind.Name (string t) x = IsText kind.Name t x
IsTagged kind.Path (string t) x = IsText kind.Path t x
IsTagged kind.Reference (string t) x = IsText kind.Reference t x
IsTagged kind.WeakReference (string t) x = IsText kind.WeakReference t x
IsTagged kind.Uri (string t) x = IsText kind.Uri t x
IsTagged _ _ _ = ⊥

-- an object's one member holds a value of the kind that it names
abbrev pub IsMember : Option (List ℕ × Data) → Value → Type 0
IsMember None x = ⊥
IsMember (Some m) x = MatchOption (kind_named tagged_kinds m.0) ⊥ (λ k. IsTagged k m.1 x)

-- the JSON is this value: a text is a STRING, a whole number a LONG, a truth value a BOOLEAN, and an object of one
-- member a value of the kind that it names
abbrev pub IsValueJson : Data → Value → Type 0
IsValueJson null x = ⊥
IsValueJson (boolean b) x = x ≡ value.Boolean b
IsValueJson (number n) x = Some x ≡ option_map value.Long (as_i64 n)
IsValueJson (string t) x = x ≡ value.Str t
IsValueJson (array ds) x = ⊥
IsValueJson (object ms) x = IsMember (only_member ms) x

-- the items are these values of one kind
abbrev pub AreValuesJson : Items → Kind → List Value → Type 0
AreValuesJson no_items k [] = Unit {0}
AreValuesJson (item d ds) k (x ∷ xs) = IsValueJson d x × (kind_of x ≡ k) × AreValuesJson ds k xs
AreValuesJson _ k _ = ⊥

-- the JSON is this property: its one value, the list of its values, or the kind of which it has none
abbrev pub IsPropertyJson : Data → Property → Type 0
IsPropertyJson d (Single x) = IsValueJson d x
IsPropertyJson d (Many k []) = d ≡ no_values k
IsPropertyJson (array ds) (Many k (x ∷ xs)) = AreValuesJson ds k (x ∷ xs)
IsPropertyJson d (Many k (x ∷ xs)) = ⊥

-- the kind of an object's member, if it names one
abbrev pub kind_of_member : Option (List ℕ × Data) → Kind
kind_of_member None = kind.Str
kind_of_member (Some m) = unwrap_or (kind_named tagged_kinds m.0) kind.Str

-- the kind whose form the JSON begins, or STRING
abbrev pub form_begun : Data → Kind
form_begun null = kind.Str
form_begun (boolean b) = kind.Boolean
form_begun (number n) = kind.Long
form_begun (string t) = kind.Str
form_begun (array ds) = kind.Str
form_begun (object ms) = kind_of_member (only_member ms)

-- the kind of the first item that isn't of this one, or this one
abbrev pub first_other : Kind → Items → Kind
first_other k no_items = k
first_other k (item d ds) = if kind_number (form_begun d) == kind_number k then first_other k ds else form_begun d

-- the kinds that are named where the JSON is no property: of the first item and of the first of another kind, or
-- twice the kind whose form is begun
abbrev pub kinds_named : Data → Kind × Kind
kinds_named (array (item d ds)) = (form_begun d, first_other (form_begun d) (item d ds))
kinds_named d = (form_begun d, form_begun d)

-- the JSON is no property, and these are the kinds to name; or memory was refused
abbrev pub IsValueFault : Data → ValueFault → Type 0
IsValueFault d (ValueFormat required found) = ((p : Property) → ¬ IsPropertyJson d p) × ((required, found) ≡ kinds_named d)
IsValueFault d Memory = Unit {0}
