-- Version histories and their versions.
use Rattle.std.specs.Prelude.{ℕ, ◌+◌, ◌++◌, ◌==◌, ◌&&◌, Bool, false, cond, not, List, [], ◌∷◌, map, codes, Option, None, Some, is_some, option_and_then}
use Rattle.std.specs.List.{filter, list_any}
use Rattle.std.specs.Option.{option_map_or}
use Rattle.std.specs.Fmt.{decimal}
use Rattle.jr_path.specs.declared.name.Name.{Name}
use Rattle.jr_path.specs.declared.path.Path.{Path}
use Rattle.jr_value.specs.Words.{identifier_named}
use Rattle.jr_tree.specs.declared.shared.Refusal.{Refusal}
use Rattle.jr_tree.specs.declared.shared.Who.{Who}
use Rattle.jr_tree.specs.Trees.{Nodes, node_at, property_at}
use Rattle.jr_items.specs.Names.{predecessors, uuid, version_labels}
use Rattle.jr_items.specs.Items.{child_path, first_some, is_versionable, many_references, one_text, same_name}
use Rattle.jr_items.specs.Refusals.{no_identifier, place_refusal, unsupported, when}
use Rattle.jcr_ref.specs.References.{uuid_text}
use Rattle.jcr_ref.specs.Histories.{has_history, version_history_of, number_by, version_names}

-- the path of the child of that name, where there is a node
abbrev pub child_there : Nodes → Path → Name → Option Path
child_there t p n = cond (is_some (node_at t (child_path p n))) (Some (child_path p n)) None

-- the history has a version of that name: a node other than that of its labels
unfoldable pub has_version : Nodes → (history : Path) → Name → Bool
has_version t h n = not (same_name version_labels n) && is_some (node_at t (child_path h n))

-- the version of that name, if there is one
abbrev pub version_there : Nodes → (history : Path) → Name → Option Path
version_there t h n = cond (has_version t h n) (Some (child_path h n)) None

-- the versions of a history in the order of making
abbrev pub versions_of : Nodes → (history : Path) → List Path
versions_of t h = map (child_path h) (version_names t h)

-- the name of the version that comes behind so many, the root version among them
abbrev pub version_name : ℕ → Name
version_name k = codes "v" ++ decimal k

-- the number of the identifier of the node at a path
unfoldable pub id_number : Nodes → Path → Option ℕ
id_number t p = option_and_then identifier_named (one_text (property_at t p uuid))

-- one of the references names the node
abbrev pub is_referenced : (references : List ℕ) → Nodes → Path → Bool
is_referenced refs t q = option_map_or (λ n. list_any (λ m. m == n) refs) (id_number t q) false

-- the node has the identifier of that number
abbrev pub is_numbered : ℕ → Nodes → Path → Bool
is_numbered k t q = option_map_or (λ n. n == k) (id_number t q) false

-- the versions in the node's history that its `jcr:predecessors` name
abbrev pub predecessors_of : Nodes → Path → List Path
predecessors_of t p = filter (is_referenced (many_references (property_at t p predecessors)) t) (versions_of t (version_history_of t p))

-- the text of the session's next identifier
unfoldable pub drawn_id : Who → List ℕ
drawn_id who = uuid_text (number_by who (who.ids + 1))

-- the node is versionable, and has a history
unfoldable pub has_versions : Nodes → Path → Bool
has_versions t p = is_versionable t p && has_history t p

-- the node's history, if it has one
abbrev pub history_there : Nodes → Path → Option Path
history_there t p = cond (has_versions t p) (Some (version_history_of t p)) None

-- the command asks for versions
abbrev pub unversioned : (command : List ℕ) → Nodes → Path → Option Refusal
unversioned command t p = when (not (has_versions t p)) (unsupported command)

-- what a version command asks of its path
abbrev pub no_versions : (command : List ℕ) → Nodes → Path → Option Refusal
no_versions command t p = first_some (place_refusal t p ∷ unversioned command t p ∷ [])

-- the history has no such version
abbrev pub no_version : Nodes → (history : Path) → Name → Option Refusal
no_version t h n = when (not (has_version t h n)) (no_identifier n)
