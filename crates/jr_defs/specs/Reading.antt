-- The JSON of node types, by cases on it.
use Rattle.std.specs.Prelude.{◌≡◌, ℕ, Bool, true, false, ◌&&◌, Result, Ok, Err, List, [], ◌∷◌, Option, None, Some, codes}
use Rattle.std.specs.List.{list_any}
use Rattle.std.specs.Str.{bytes_eq}
use Rattle.serde_json.specs.Data.{Data, Items, no_items, item, Members, no_members, member, boolean, string, array, object}
use Rattle.serde_json.specs.Find.{get}
use Rattle.jr_path.specs.Grammar.{IsName}
use Rattle.jr_path.specs.declared.fault.PathFault.{PathFault}
use Rattle.jr_path.specs.declared.fault.PathFault.TheVariants as fault
use Rattle.jr_path.specs.declared.name.Name.{Name}
use Rattle.jr_value.specs.Words.{kind_text}
use Rattle.jr_json.specs.Reading.{IsPropertyJson}
use Rattle.jr_json.specs.declared.fault.ValueFault.{ValueFault}
use Rattle.jr_json.specs.declared.fault.ValueFault.TheVariants as values
use Rattle.jr_value.specs.declared.value.Kind.{Kind}
use Rattle.jr_value.specs.declared.value.Value.{Value}
use Rattle.jr_value.specs.declared.value.Property.TheVariants.{Many}
use Rattle.jr_items.specs.Names.{base_type}
use Rattle.jr_types.specs.Attributes.{opv_text}
use Rattle.jr_types.specs.declared.OnParentVersion.{OnParentVersion}
use Rattle.jr_types.specs.declared.OnParentVersion.TheVariants as opv
use Rattle.jr_types.specs.declared.PropDef.{PropDef}
use Rattle.jr_types.specs.declared.ChildDef.{ChildDef}
use Rattle.jr_types.specs.declared.TypeDef.{TypeDef}
use Rattle.jr_defs.specs.declared.reading.NoType.{NoType}
use Rattle.jr_defs.specs.declared.reading.NoType.TheVariants as no

-- a member that may be left out: it is read, or this stands in its place
abbrev pub IsOr : {X : Type 0} → X → (Data → X → Type 0) → Option Data → X → Type 0
IsOr left IsRead None x = x ≡ left
IsOr left IsRead (Some d) x = IsRead d x

-- a member that must be there
abbrev pub IsThere : {X : Type 0} → (Data → X → Type 0) → Option Data → X → Type 0
IsThere IsRead None x = ⊥
IsThere IsRead (Some d) x = IsRead d x

-- true or false, as JSON writes it
abbrev pub IsFlagJson : Data → Bool → Type 0
IsFlagJson d b = d ≡ boolean b

-- a text of the grammar of names
abbrev pub IsNameJson : Data → Name → Type 0
IsNameJson d n = (d ≡ string n) × IsName n

-- `*` for items of no name of their own
abbrev pub IsItemNameJson : Data → Option Name → Type 0
IsItemNameJson d None = d ≡ string (codes "*")
IsItemNameJson d (Some n) = IsNameJson d n

-- a name that is given: no JSON stands for the want of one
abbrev pub IsSomeNameJson : Data → Option Name → Type 0
IsSomeNameJson d None = ⊥
IsSomeNameJson d (Some n) = IsNameJson d n

-- a text that says nothing but itself
abbrev pub IsTextJson : Data → List ℕ → Type 0
IsTextJson d text = d ≡ string text

-- each item is read, in order
abbrev pub AreRead : {X : Type 0} → (Data → X → Type 0) → Items → List X → Type 0
AreRead IsRead no_items [] = Unit {0}
AreRead IsRead (item d ds) (x ∷ xs) = IsRead d x × AreRead IsRead ds xs
AreRead IsRead _ _ = ⊥

-- an array, each item of which is read, in order
abbrev pub IsListJson : {X : Type 0} → (Data → X → Type 0) → Data → List X → Type 0
IsListJson IsRead (array ds) xs = AreRead IsRead ds xs
IsListJson IsRead _ xs = ⊥

-- the lower-case word of a kind, or `undefined`
abbrev pub IsKindJson : Data → Option Kind → Type 0
IsKindJson d None = d ≡ string (codes "undefined")
IsKindJson d (Some k) = d ≡ string (kind_text k)

-- the word of what a check-in of the parent does with an item
abbrev pub IsOpvJson : Data → OnParentVersion → Type 0
IsOpvJson d o = d ≡ string (opv_text o)

-- a list of single values of one kind
abbrev pub AreDefaultsJson : Data → List Value → Type 0
AreDefaultsJson d [] = d ≡ array no_items
AreDefaultsJson (array ds) (x ∷ xs) = (k : Kind) × IsPropertyJson (array ds) (Many k (x ∷ xs))
AreDefaultsJson _ (x ∷ xs) = ⊥

-- the members have no other keys than these
abbrev pub have_keys : List (List ℕ) → Members → Bool
have_keys keys no_members = true
have_keys keys (member key d more) = list_any (λ k. bytes_eq key k) keys && have_keys keys more

-- the JSON is an object that has no other keys than these
abbrev pub is_object_of : List (List ℕ) → Data → Bool
is_object_of keys (object ms) = have_keys keys ms
is_object_of keys _ = false

-- the keys that the definition of a property may have
abbrev pub prop_keys : List (List ℕ)
prop_keys = codes "name" ∷ codes "type" ∷ codes "mandatory" ∷ codes "autocreated"
    ∷ codes "protected" ∷ codes "multiple" ∷ codes "defaults" ∷ codes "constraints" ∷ codes "opv" ∷ []

-- the keys that the definition of a child may have
abbrev pub child_keys : List (List ℕ)
child_keys = codes "name" ∷ codes "types" ∷ codes "default" ∷ codes "mandatory"
    ∷ codes "autocreated" ∷ codes "protected" ∷ codes "opv" ∷ []

-- the keys that the definition of a type may have
abbrev pub type_keys : List (List ℕ)
type_keys = codes "name" ∷ codes "supertypes" ∷ codes "abstract" ∷ codes "mixin" ∷ codes "orderable"
    ∷ codes "primaryItem" ∷ codes "props" ∷ codes "children" ∷ []

-- the JSON is the definition of a property
pub record IsPropJson (json : Data) (p : PropDef) : Type 0 where
  pub keys : is_object_of prop_keys json ≡ true
  pub name : IsThere IsItemNameJson (get (codes "name") json) p.name
  pub kind : IsOr None IsKindJson (get (codes "type") json) p.kind
  pub mandatory : IsOr false IsFlagJson (get (codes "mandatory") json) p.mandatory
  pub autocreated : IsOr false IsFlagJson (get (codes "autocreated") json) p.autocreated
  pub protected : IsOr false IsFlagJson (get (codes "protected") json) p.protected
  pub multiple : IsOr false IsFlagJson (get (codes "multiple") json) p.multiple
  pub defaults : IsOr [] AreDefaultsJson (get (codes "defaults") json) p.defaults
  pub constraints : IsOr [] (IsListJson IsTextJson) (get (codes "constraints") json) p.constraints
  pub opv : IsOr opv.Copy IsOpvJson (get (codes "opv") json) p.opv

-- the JSON is the definition of a child
pub record IsChildJson (json : Data) (c : ChildDef) : Type 0 where
  pub keys : is_object_of child_keys json ≡ true
  pub name : IsThere IsItemNameJson (get (codes "name") json) c.name
  pub types : IsOr (base_type ∷ []) (IsListJson IsNameJson) (get (codes "types") json) c.types
  pub default_type : IsOr None IsSomeNameJson (get (codes "default") json) c.default_type
  pub mandatory : IsOr false IsFlagJson (get (codes "mandatory") json) c.mandatory
  pub autocreated : IsOr false IsFlagJson (get (codes "autocreated") json) c.autocreated
  pub protected : IsOr false IsFlagJson (get (codes "protected") json) c.protected
  pub opv : IsOr opv.Copy IsOpvJson (get (codes "opv") json) c.opv

-- the JSON is the definition of a type
pub record IsTypeJson (json : Data) (d : TypeDef) : Type 0 where
  pub keys : is_object_of type_keys json ≡ true
  pub name : IsThere IsNameJson (get (codes "name") json) d.name
  pub supertypes : IsOr [] (IsListJson IsNameJson) (get (codes "supertypes") json) d.supertypes
  pub is_abstract : IsOr false IsFlagJson (get (codes "abstract") json) d.is_abstract
  pub mixin : IsOr false IsFlagJson (get (codes "mixin") json) d.mixin
  pub orderable : IsOr false IsFlagJson (get (codes "orderable") json) d.orderable
  pub primary_item : IsOr None IsSomeNameJson (get (codes "primaryItem") json) d.primary_item
  pub props : IsOr [] (IsListJson IsPropJson) (get (codes "props") json) d.props
  pub children : IsOr [] (IsListJson IsChildJson) (get (codes "children") json) d.children

-- what was read is one that might be; or there is none that might be, or memory was refused
abbrev pub Reads : {X : Type 0} → (X → Type 0) → Result X NoType → Type 0
Reads IsRead (Ok x) = IsRead x
Reads {X} IsRead (Err no.NoDefinition) = (x : X) → IsRead x → ⊥
Reads IsRead (Err no.Memory) = Unit {0}

-- why no type is read where a name in it isn't
abbrev pub refused : PathFault → NoType
refused fault.Memory = no.Memory
refused _ = no.NoDefinition

-- why no type is read where its default values aren't
abbrev pub unread_values : ValueFault → NoType
unread_values values.Memory = no.Memory
unread_values _ = no.NoDefinition
