-- The edit of a restore.
use Rattle.std.specs.Prelude.{ℕ, ◌&&◌, Bool, true, false, not, cond, List, [], ◌∷◌, length, drop, Option, None, Some, is_some, is_none, option_map, codes, Result}
use Rattle.std.specs.BTreeMap.{insert_entry, is_at}
use Rattle.std.specs.List.{find, fold}
use Rattle.std.specs.Map.{keys_of, lookup}
use Rattle.std.specs.Option.{option_map_or}
use Rattle.jr_path.specs.Names.{is_under, name_cmp}
use Rattle.jr_path.specs.declared.name.Name.{Name}
use Rattle.jr_path.specs.declared.path.Path.{Path}
use Rattle.jr_tree.specs.declared.edit.Write.{Write}
use Rattle.jr_tree.specs.declared.shared.Refusal.{Refusal}
use Rattle.jr_tree.specs.declared.tree.Node.{Node}
use Rattle.jr_tree.specs.Edits.{changes, with_property_write}
use Rattle.jr_tree.specs.Trees.{Nodes, node_at, property_at, subtree_of}
use Rattle.jr_items.specs.Names.{frozen_node, frozen_uuid, root_version, uuid}
use Rattle.jr_items.specs.Items.{child_path, first_some, one_text, property_of, same_name}
use Rattle.jr_items.specs.Refusals.{checked_in, taken, when}
use Rattle.jr_types.specs.declared.TypeDef.{TypeDef}
use Rattle.jcr_ref.specs.Histories.{version_history_of, number_at}
use Rattle.jcr_version.specs.Edits.{checked_in_writes, unless_refused}
use Rattle.jcr_version.specs.Limits.{within_limits}
use Rattle.jcr_frozen.specs.Histories.{no_version, no_versions}
use Rattle.jcr_restore.specs.Restored.{fate_below, is_brought, place_of, restored}

-- the frozen node of a version
abbrev pub frozen_of : (version : Path) → Path
frozen_of v = child_path v frozen_node

-- the version of that name has a frozen node; the root version has none
unfoldable pub has_frozen : Nodes → (version : Path) → (name : Name) → Bool
has_frozen t v n = not (same_name root_version n) && is_some (node_at t (frozen_of v))

-- the frozen node of the version of that name, if it has one
abbrev pub frozen_there : Nodes → (version : Path) → (name : Name) → Option Path
frozen_there t v n = cond (has_frozen t v n) (Some (frozen_of v)) None

-- the root version keeps nothing
abbrev pub unfrozen : Nodes → (version : Path) → (name : Name) → Option Refusal
unfrozen t v n = when (not (has_frozen t v n)) (checked_in v)

-- the node of the frozen node at g isn't there, and is made
abbrev pub is_node_made : List TypeDef → Nodes → (p f : Path) → Path → Bool
is_node_made types t p f g = is_brought (fate_below types t p f (drop (length f) g)) && is_none (node_at t (place_of p f g))

-- the identifier that the node of a frozen node is made with
abbrev pub made_id : List TypeDef → Nodes → (p f : Path) → Path × Node → Option (List ℕ)
made_id types t p f e = cond (is_node_made types t p f e.0) (one_text (property_of e.1 frozen_uuid)) None

-- a set of identifiers with one more, if there is one
abbrev pub with_id : List (List ℕ × Bool) → Option (List ℕ) → List (List ℕ × Bool)
with_id ids None = ids
with_id ids (Some id) = insert_entry name_cmp ids id true

-- the identifiers of the nodes that are made
abbrev pub made_ids : List TypeDef → Nodes → (p f : Path) → List (List ℕ × Bool)
made_ids types t p f = fold (λ ids e. with_id ids (made_id types t p f e)) [] (subtree_of t f)

-- the identifier, if there is one, is in the set
abbrev pub is_id_among : List (List ℕ × Bool) → Option (List ℕ) → Bool
is_id_among ids id = option_map_or (λ i. is_some (lookup (is_at (name_cmp i)) ids)) id false

-- the node stands outside p, and its `jcr:uuid` is one of the identifiers
abbrev pub is_taken : List (List ℕ × Bool) → Nodes → (p : Path) → Path → Bool
is_taken ids t p q = not (is_under q p) && is_id_among ids (one_text (property_at t q uuid))

-- the first node outside p that has one of the identifiers
abbrev pub first_taken : List (List ℕ × Bool) → Nodes → (p : Path) → Option Path
first_taken ids t p = find (is_taken ids t p) (keys_of t)

-- the first node outside p that has the identifier of a node that is made
abbrev pub in_conflict : List TypeDef → Nodes → (p f : Path) → Option Path
in_conflict types t p f = first_taken (made_ids types t p f) t p

-- why a node can't be brought to a version
abbrev pub bringing_refusal : List TypeDef → Nodes → Path → (version : Path) → (name : Name) → Option Refusal
bringing_refusal types t p v n = first_some (unfrozen t v n ∷ option_map taken (in_conflict types t p (frozen_of v)) ∷ [])

-- p and what is below it after a restore: p is checked in, and the version is its base
abbrev pub after_restore : List TypeDef → Nodes → Path → (version : Path) → Nodes
after_restore types t p v = fold with_property_write (restored types t p (frozen_of v)) (checked_in_writes p (number_at t v))

-- the edit that brings a versionable node to a version
abbrev pub restore_to : List TypeDef → Nodes → Path → (version : Path) → (name : Name) → Result (List Write) Refusal
restore_to types t p v n = unless_refused (bringing_refusal types t p v n) (within_limits (changes (subtree_of t p) (after_restore types t p v)))

-- the edit that brings a versionable node to the version of its history of that name
abbrev pub restore_own : List TypeDef → Nodes → Path → (history : Path) → (version : Name) → Result (List Write) Refusal
restore_own types t p h n = unless_refused (no_version t h n) (restore_to types t p (child_path h n) n)

-- the edit that brings a node to a version
abbrev pub restore_edit : List TypeDef → Nodes → Path → (version : Name) → Result (List Write) Refusal
restore_edit types t p n = unless_refused (no_versions (codes "restore") t p) (restore_own types t p (version_history_of t p) n)
