-- Identifiers of nodes, and the references that name them.
use Rattle.std.specs.Prelude.{◌≡◌, ℕ, zero, suc, ◌+◌, ◌*◌, ◌/◌, ◌%◌, ◌^◌, Bool, true, false, not, List, [], ◌∷◌, ◌++◌, Option, None, Some, is_some, is_none, All, IsTrue, IsFalse, ◌&&◌, map, unwrap_or, codes}
use Rattle.std.specs.List.{filter, filter_map, find, flat_map, list_any, list_all}
use Rattle.std.specs.Option.{option_map_or}
use Rattle.std.specs.Map.{keys_of, lookup}
use Rattle.std.specs.BTreeMap.{is_at, insert_entry}
use Rattle.std.specs.Fmt.{digit_glyph}
use Rattle.jr_path.specs.Grammar.{IsName}
use Rattle.jr_path.specs.Names.{name_cmp}
use Rattle.jr_path.specs.Ids.{path_text}
use Rattle.jr_path.specs.declared.path.Path.{Path}
use Rattle.jr_path.specs.declared.path.Item.{Item}
use Rattle.jr_value.specs.declared.value.Value.{Value}
use Rattle.jr_value.specs.declared.value.Value.TheVariants as value
use Rattle.jr_value.specs.declared.value.Property.{Property}
use Rattle.jr_value.specs.Values.{same_bytes}
use Rattle.jr_path.specs.declared.name.Name.{Name}
use Rattle.jr_tree.specs.Trees.{Nodes, property_at}
use Rattle.jr_items.specs.Names.{uuid, frozen_type}
use Rattle.jr_items.specs.Items.{first_of, same_path, values_in, reference_in, one_text, is_of_type}

-- the last hexadecimal digits of a number, so many of them
abbrev pub last_digits : ℕ → ℕ → List ℕ
last_digits zero n = []
last_digits (suc k) n = digit_glyph false (n / 16 ^ k % 16) ∷ last_digits k n

-- the text of a session's own identifier: six digits of the session's number, six of its count
abbrev pub identifier : ℕ → ℕ → List ℕ
identifier session count = codes "00000000-0000-4000-8000-" ++ last_digits 6 session ++ last_digits 6 count

-- the number whose text that is
abbrev pub identifier_number : ℕ → ℕ → ℕ
identifier_number session count = 0x40008000 * 2 ^ 48 + session % 2 ^ 24 * 2 ^ 24 + count % 2 ^ 24

-- the text of an identifier: 32 hexadecimal digits, in groups of 8, 4, 4, 4 and 12
abbrev pub uuid_text : ℕ → List ℕ
uuid_text n =
    last_digits 8 (n / 16 ^ 24) ++ codes "-" ++ last_digits 4 (n / 16 ^ 20) ++ codes "-" ++ last_digits 4 (n / 16 ^ 16)
    ++ codes "-" ++ last_digits 4 (n / 16 ^ 12) ++ codes "-" ++ last_digits 12 n

-- a node's identifier: its `jcr:uuid` where that is one text, and else its path
abbrev pub identifier_of : Nodes → Path → List ℕ
identifier_of t p = unwrap_or (one_text (property_at t p uuid)) (path_text p)

-- the first node that has the identifier
abbrev pub node_by_id : Nodes → List ℕ → Option Path
node_by_id t id = find (λ p. same_bytes (identifier_of t p) id) (keys_of t)

-- the path whose text this is, if it is the text of one
abbrev pub IsPathNamed : (id : List ℕ) → Option Path → Type 0
IsPathNamed id named = (p : Path) → All IsName p → same_bytes (path_text p) id ≡ option_map_or (same_path p) named false

-- the node's `jcr:uuid` is the text of that number
abbrev pub is_target : Nodes → ℕ → Path → Bool
is_target t n p = option_map_or (same_bytes (uuid_text n)) (one_text (property_at t p uuid)) false

-- the first node that a reference names
abbrev pub target_of : Nodes → ℕ → Option Path
target_of t n = find (is_target t n) (keys_of t)

-- the number that a value of kind REFERENCE or WEAKREFERENCE is
abbrev pub number_named : Value → Option ℕ
number_named (value.Reference n) = Some n
number_named (value.WeakReference n) = Some n
number_named _ = None

-- the properties of one node of which the test holds
abbrev pub properties_where : (Property → Bool) → Path → List (Name × Property) → List Item
properties_where test p props = map (λ x. record { path = p; name = Some x.0 }) (filter (λ x. test x.1) props)

-- the properties of nodes of which the test holds, in path order, then by name
abbrev pub items_where : (Path → Property → Bool) → Nodes → List Item
items_where test t = flat_map (λ e. properties_where (test e.0) e.0 e.1.props) t

-- a value of the property is a reference, maybe a weak one, to the identifier
abbrev pub refers : (id : List ℕ) → Property → Bool
refers id x = list_any (λ n. same_bytes (uuid_text n) id) (filter_map number_named (values_in x))

-- the references, weak ones too, that name an identifier
abbrev pub referrers : Nodes → (id : List ℕ) → List Item
referrers t id = items_where (λ p x. refers id x) t

-- the references of a property of a node, none where it has none
abbrev pub references_at : Nodes → Path → Name → List ℕ
references_at t p n = option_map_or (λ x. filter_map reference_in (values_in x)) (property_at t p n) []

-- each reference names a node, but for those of an `nt:frozenNode`
abbrev pub ReferencesOk : Nodes → Type 0
ReferencesOk t = (p : Path) (n : Name) → IsFalse (is_of_type t frozen_type p) → IsTrue (list_all (λ id. is_some (target_of t id)) (references_at t p n))

-- a reference on a node that is no `nt:frozenNode` names no node
abbrev pub is_dangling : Nodes → Path → Property → Bool
is_dangling t p x = not (is_of_type t frozen_type p) && list_any (λ id. is_none (target_of t id)) (filter_map reference_in (values_in x))

-- the first reference that names no node, in path order, then by name
abbrev pub dangling : Nodes → Option Item
dangling t = first_of (items_where (is_dangling t) t)

-- an index has the text of each identifier that names a node, and of no other
abbrev pub IsIndex : Nodes → List (List ℕ × Bool) → Type 0
IsIndex t index = (id : ℕ) → is_some (lookup (is_at (name_cmp (uuid_text id))) index) ≡ is_some (target_of t id)

-- an index with one identifier more, if there is one
abbrev pub with_identifier : List (List ℕ × Bool) → Option (List ℕ) → List (List ℕ × Bool)
with_identifier index None = index
with_identifier index (Some id) = insert_entry name_cmp index id true
