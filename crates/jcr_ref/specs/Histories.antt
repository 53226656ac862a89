-- The histories of versions, which stand in the version storage by the identifier of their node.
use Rattle.std.specs.Prelude.{◌≡◌, ℕ, ◌+◌, Bool, true, not, cond, List, [], ◌∷◌, ◌++◌, length, Option, None, Some, is_some, map, unwrap_or}
use Rattle.std.specs.List.{fold}
use Rattle.std.specs.declared.cmp.Ordering.{Ordering}
use Rattle.std.specs.Option.{option_and_then}
use Rattle.std.specs.Ordering.{bool_cmp, nat_cmp, on, then_cmp}
use Rattle.std.specs.BTreeMap.{insert_entry}
use Rattle.jr_path.specs.Grammar.{IsName}
use Rattle.jr_path.specs.Names.{name_cmp}
use Rattle.jr_path.specs.declared.name.Name.{Name}
use Rattle.jr_path.specs.declared.path.Path.{Path}
use Rattle.jr_value.specs.declared.value.Kind.TheVariants as kind
use Rattle.jr_value.specs.declared.value.Property.{Property}
use Rattle.jr_value.specs.declared.value.Property.TheVariants.{Single, Many}
use Rattle.jr_value.specs.declared.value.Value.TheVariants as value
use Rattle.jr_value.specs.Words.{identifier_named}
use Rattle.jr_tree.specs.declared.edit.Write.{Write}
use Rattle.jr_tree.specs.declared.edit.Write.TheVariants.{Here, Put}
use Rattle.jr_tree.specs.declared.shared.Who.{Who}
use Rattle.jr_tree.specs.Trees.{Nodes, node_at, property_at, children_of}
use Rattle.jr_items.specs.Names.{primary_type, uuid, version_storage, version_history, base_version, predecessors, root_version, version_labels, version_type, history_type, labels_type}
use Rattle.jr_items.specs.Items.{same_name, one_text}
use Rattle.jcr_ref.specs.References.{identifier_number, identifier_of, uuid_text}
use Rattle.jcr_ref.specs.declared.histories.HistoryWrites.{HistoryWrites}
use Rattle.jcr_ref.specs.declared.histories.Place.{Place}

-- the history of a node stands in the version storage, by the node's identifier
abbrev pub version_history_of : Nodes → Path → Path
version_history_of t p = version_storage ++ identifier_of t p ∷ []

-- the root version of a history, and the node of its labels
abbrev pub root_of : Path → Path
root_of h = h ++ root_version ∷ []

-- the path of the node that has the labels of the history at h
abbrev pub labels_of : Path → Path
labels_of h = h ++ version_labels ∷ []

-- the number of a session's own identifier of that count
abbrev pub number_by : Who → ℕ → ℕ
number_by who count = identifier_number (who.session + who.earlier) count

-- the number of the identifier of the node at a path, 0 where it has none of that form
abbrev pub number_at : Nodes → Path → ℕ
number_at t p = unwrap_or (option_and_then identifier_named (one_text (property_at t p uuid))) 0

-- one reference
abbrev pub reference_to : ℕ → Property
reference_to n = Single (value.Reference n)

-- a node comes with its type
abbrev pub typed_writes : Path → Name → List Write
typed_writes p type = Here p ∷ Put p primary_type (Single (value.Name type)) ∷ []

-- a node comes with its type and an identifier
abbrev pub identified_writes : Path → Name → ℕ → List Write
identified_writes p type id = typed_writes p type ++ Put p uuid (Single (value.Str (uuid_text id))) ∷ []

-- a history comes with its root version, which has its type and its identifier alone, and without labels
abbrev pub new_history : Path → (history root : ℕ) → List Write
new_history h history root = identified_writes h history_type history ++ identified_writes (root_of h) version_type root ++ typed_writes (labels_of h) labels_type

-- a node refers to its history, and to the root version as its base and its one predecessor
abbrev pub history_references : Path → (history root : ℕ) → List Write
history_references p history root =
    Put p version_history (reference_to history)
    ∷ Put p base_version (reference_to root)
    ∷ Put p predecessors (Many kind.Reference (value.Reference root ∷ []))
    ∷ []

-- the node's history is there
abbrev pub has_history : Nodes → Path → Bool
has_history t p = is_some (node_at t (version_history_of t p))

-- the references to a history that is there
abbrev pub joined_history : Nodes → Path → Path → List Write
joined_history t p h = history_references p (number_at t h) (number_at t (root_of h))

-- a new history with the session's next two identifiers, and the references to it
abbrev pub begun : Path → Path → Who → List Write
begun p h who = new_history h (number_by who (who.ids + 1)) (number_by who (who.ids + 2)) ++ history_references p (number_by who (who.ids + 1)) (number_by who (who.ids + 2))

-- what a node that becomes versionable writes, once it has an identifier
abbrev pub history_writes : Nodes → Path → Who → List Write
history_writes t p who = cond (has_history t p) (joined_history t p (version_history_of t p)) (begun p (version_history_of t p) who)

-- how many identifiers that draws
abbrev pub history_drawn : Nodes → Path → ℕ
history_drawn t p = cond (has_history t p) 0 2

-- what a node that becomes versionable writes, or none where its identifier is no name
abbrev pub BeginsHistory : Nodes → Path → Who → Option HistoryWrites → Type 0
BeginsHistory t p who None = ¬ (IsName (identifier_of t p))
BeginsHistory t p who (Some made) = (made.writes ≡ history_writes t p who) × (made.drawn ≡ history_drawn t p)

-- where a version stands in the order of making: the root version first, then by the number of bytes, then by these, so that `v10` stands behind `v9`
abbrev pub version_place : Name → Place
version_place n = record { later = not (same_name root_version n); bytes = length n; name = n }

-- places in the order of making: the root version, then by the number of bytes, then by name
abbrev pub place_cmp : Place → Place → Ordering
place_cmp = then_cmp (on (λ q. q.later) bool_cmp) (then_cmp (on (λ q. q.bytes) nat_cmp) (on (λ q. q.name) name_cmp))

-- one version more, in its place
abbrev pub with_version : List (Place × Bool) → Name → List (Place × Bool)
with_version places n = cond (same_name version_labels n) places (insert_entry place_cmp places (version_place n) true)

-- the names of a history's versions in the order of making: its children but the node of its labels
abbrev pub version_names : Nodes → (history : Path) → List Name
version_names t h = map (λ e. e.0.name) (fold with_version [] (children_of t h))
