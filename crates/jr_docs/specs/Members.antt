-- Objects of JSON by their members.
use Rattle.std.specs.Prelude.{List, [], ◌∷◌, ℕ, fold, map, Option, None, Some}
use Rattle.std.specs.Option.{option_map_or}
use Rattle.serde_json.specs.Data.{Data, object, put, Members, no_members}

-- a name with its value
abbrev pub Member : Type 0
Member = List ℕ × Data

-- the members, with more put to them in turn
abbrev pub put_all : Members → List Member → Members
put_all ms more = fold (λ ms m. put m.0 m.1 ms) ms more

-- the members that a map has
abbrev pub members_of_map : {K V : Type 0}
    → (K → List ℕ) → (V → Data) → List (K × V) → List Member
members_of_map text of_value es = map (λ e. (text e.0, of_value e.1)) es

-- a map as an object, whose members stand by the bytes of their names
abbrev pub map_data : {K V : Type 0} → (K → List ℕ) → (V → Data) → List (K × V) → Data
map_data text of_value es = object (put_all no_members (members_of_map text of_value es))

-- a name with its value, if it has one
abbrev pub Field : Type 0
Field = List ℕ × Option Data

-- the members, with a field that has a value
abbrev pub put_field : Members → Field → Members
put_field ms f = option_map_or (λ d. put f.0 d ms) f.1 ms

-- the members, with fields put to them in turn
abbrev pub put_fields : Members → List Field → Members
put_fields ms fs = fold put_field ms fs

-- what is there of a list, unless it is empty
abbrev pub unless_empty : {X : Type 0} → (List X → Data) → List X → Option Data
unless_empty of_value [] = None
unless_empty of_value (x ∷ xs) = Some (of_value (x ∷ xs))
