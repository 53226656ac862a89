-- How the registry keeps what types inherit.
use Rattle.std.specs.Prelude.{◌≡◌, ℕ, suc, ◌<◌, Bool, true, All, cond, ◌==◌, List, [], ◌∷◌, ◌++◌, Option, None, Some, is_some, length, map, option_map, slice_get}
use Rattle.std.specs.BTreeMap.{is_at}
use Rattle.std.specs.List.{find, filter_map, flat_map, list_any}
use Rattle.std.specs.Map.{lookup}
use Rattle.jr_path.specs.Names.{name_cmp}
use Rattle.jr_path.specs.declared.name.Name.{Name}
use Rattle.jr_items.specs.Items.{same_name}
use Rattle.jr_items.specs.Names.{mixin_types, primary_type}
use Rattle.jr_types.specs.declared.PropDef.{PropDef}
use Rattle.jr_types.specs.declared.TypeDef.{TypeDef}
use Rattle.jr_types.specs.declared.registry.Registered.{Registered}
use Rattle.jr_types.specs.declared.adding.TypeFault.{TypeFault}
use Rattle.jr_types.specs.declared.adding.TypeFault.TheVariants.{BadType, Memory}
use Rattle.jr_types.specs.Types.{lineage, order_def, type_named}

-- the first that passes a test is the same in both lists, whatever the test
abbrev pub IsAlike : {X : Type 0} → List X → List X → Type 0
IsAlike xs ys = (test : _ → Bool) → find test xs ≡ find test ys

-- the types that stand at these places
abbrev pub types_at : List TypeDef → List ℕ → List TypeDef
types_at types places = filter_map (slice_get types) places

-- the definitions of registered types
abbrev pub definitions : List Registered → List TypeDef
definitions registered = map (λ r. r.definition) registered

-- the place of the type of that name
abbrev pub place_of_type : List TypeDef → Name → Option ℕ
place_of_type [] n = None
place_of_type (d ∷ ds) n = cond (same_name d.name n) (Some 0) (option_map suc (place_of_type ds n))

-- under each name stands the place of the type of that name, and under no other a place
abbrev pub ArePlaces : List TypeDef → List (Name × ℕ) → Type 0
ArePlaces types places = (n : Name) → lookup (is_at (name_cmp n)) places ≡ place_of_type types n

-- each of the places is one of the types'
abbrev pub AreWithin : List TypeDef → List ℕ → Type 0
AreWithin types places = All (λ k. k < length types) places

-- a registered type has the places of itself and all its supertypes
pub record IsRegistered (types : List TypeDef) (registered : Registered) : Type 0 where
  pub known : is_some (type_named types registered.definition.name) ≡ true
  pub within : AreWithin types registered.line
  pub line : IsAlike (types_at types registered.line) (lineage types registered.definition.name)

-- this is registered under the name
pub record IsRegisteredUnder (types : List TypeDef) (n : Name) (registered : Registered) : Type 0 where
  pub definition : Some registered.definition ≡ type_named types n
  pub within : AreWithin types registered.line
  pub line : IsAlike (types_at types registered.line) (lineage types n)

-- the places are those of all supertypes of a new type
pub record AreAbove (types : List TypeDef) (names : List Name) (places : List ℕ) : Type 0 where
  pub within : AreWithin types places
  pub alike : IsAlike (types_at types places) (flat_map (lineage types) names)

-- the new types are the old ones with the types of these names and all their supertypes behind them
abbrev pub IsFurther : List TypeDef → List TypeDef → List Name → List TypeDef → Type 0
IsFurther types old names new = (before : List Name) → IsAlike old (flat_map (lineage types) before)
    → IsAlike new (flat_map (lineage types) (before ++ names))

-- places with one more, unless it is among them
abbrev pub with_place : List ℕ → ℕ → List ℕ
with_place places k = cond (list_any (λ j. j == k) places) places (places ++ k ∷ [])

-- why a type with this first broken rule isn't registered: that rule, or memory was refused
abbrev pub IsTypeFault : Option ℕ → TypeFault → Type 0
IsTypeFault broken (BadType rule) = broken ≡ Some rule
IsTypeFault broken Memory = Unit {0}

-- what the registry keeps: each type with its line, its place under its name, and what each check
-- asks for
pub record IsRegistryKept (registered : List Registered) (places : List (Name × ℕ)) (primary mixins : Name)
    (order : PropDef) : Type 0 where
  pub types : All (IsRegistered (definitions registered)) registered
  pub places_are : ArePlaces (definitions registered) places
  pub primary_is : primary ≡ primary_type
  pub mixins_is : mixins ≡ mixin_types
  pub order_is : order ≡ order_def
