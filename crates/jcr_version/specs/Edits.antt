-- The edits of check-in, check-out and labels.
use Rattle.std.specs.Prelude.{ℕ, ℤ, ◌+◌, ◌++◌, Bool, true, false, not, ◌&&◌, cond, List, [], ◌∷◌, Option, None, Some, is_some, option_and_then, option_map, option_to_list, map, codes, length, Result, Ok, Err}
use Rattle.std.specs.List.{filter, find}
use Rattle.std.specs.BTreeMap.{insert_entry}
use Rattle.jr_path.specs.Names.{name_cmp}
use Rattle.jr_path.specs.declared.name.Name.{Name}
use Rattle.jr_path.specs.declared.path.Path.{Path}
use Rattle.jr_value.specs.declared.value.Kind.TheVariants as kind
use Rattle.jr_value.specs.declared.value.Property.{Property}
use Rattle.jr_value.specs.declared.value.Property.TheVariants.{Single, Many}
use Rattle.jr_value.specs.declared.value.Value.TheVariants as value
use Rattle.jr_tree.specs.declared.tree.Node.{Node}
use Rattle.jr_tree.specs.declared.shared.Refusal.{Refusal}
use Rattle.jr_tree.specs.declared.shared.Who.{Who}
use Rattle.jr_tree.specs.declared.shared.Datum.TheVariants as datum
use Rattle.jr_tree.specs.declared.edit.Write.{Write}
use Rattle.jr_tree.specs.declared.edit.Write.TheVariants.{Put, Unset}
use Rattle.jr_tree.specs.Trees.{Nodes, property_at}
use Rattle.jr_items.specs.Names.{base_version, created, frozen_node, is_checked_out, predecessors, primary_type, successors, uuid, version_type}
use Rattle.jr_items.specs.Items.{adding, child_path, first_some, is_checked_in, many_references, one_reference}
use Rattle.jr_items.specs.Refusals.{checked_in, no_item, or_else, refusal, when}
use Rattle.jr_types.specs.declared.TypeDef.{TypeDef}
use Rattle.jcr_lock.specs.Needed.{is_needed}
use Rattle.jcr_ref.specs.Drawn.{latest_date, too_many_ids}
use Rattle.jcr_ref.specs.Histories.{version_history_of, labels_of, number_at, number_by, reference_to, version_names}
use Rattle.jcr_frozen.specs.Frozen.{aborting, frozen_tree, with_optional_property}
use Rattle.jcr_frozen.specs.Histories.{drawn_id, is_numbered, no_version, no_versions, predecessors_of, version_name}
use Rattle.jcr_version.specs.Limits.{within_limits}

-- refused, or else this
abbrev pub unless_refused : {A : Type 0} → Option Refusal → Result A Refusal → Result A Refusal
unless_refused None due = due
unless_refused (Some r) due = Err r

-- an item stands in the way of a check-in
abbrev pub aborted : List TypeDef → Nodes → Path → Option Refusal
aborted types t p = option_map (λ item. refusal 8 (datum.Item item ∷ [])) (aborting types t p)

-- why a node that isn't checked in can't be checked in
abbrev pub checkin_refusal : List TypeDef → Nodes → Path → Who → Option Refusal
checkin_refusal types t p who = first_some (aborted types t p ∷ too_many_ids (who.ids + 1) ∷ [])

-- the type, identifier and date of a new version
abbrev pub version_props : (id : List ℕ) → (date : ℤ) → List (Name × Property)
version_props id date =
    let typed = insert_entry name_cmp [] primary_type (Single (value.Name version_type)) in
    insert_entry name_cmp (insert_entry name_cmp typed uuid (Single (value.Str id))) created (Single (value.Date date))

-- a new version with that identifier, which takes the node's predecessors
abbrev pub new_version : Nodes → Path → (id : List ℕ) → (date : ℤ) → Node
new_version t p id date = record { props = with_optional_property (version_props id date) predecessors (property_at t p predecessors); born = None }

-- the path of the version that a check-in makes
abbrev pub next_version : Nodes → (history : Path) → Path
next_version t h = child_path h (version_name (length (version_names t h)))

-- what a check-in adds: a version, and the node's frozen node below it
abbrev pub version_nodes : List TypeDef → Nodes → Path → (version : Path) → (id : List ℕ) → (date : ℤ) → Nodes
version_nodes types t p version id date = (version, new_version t p id date) ∷ frozen_tree types t p (child_path version frozen_node)

-- a version has one successor more
abbrev pub succeed : Nodes → (id : ℕ) → Path → Write
succeed t id q = Put q successors (Many kind.Reference (map value.Reference (many_references (property_at t q successors) ++ id ∷ [])))

-- the node is checked in, the version is its base, and it has no predecessors
abbrev pub checked_in_writes : Path → (id : ℕ) → List Write
checked_in_writes p id =
    Put p is_checked_out (Single (value.Boolean false))
    ∷ Put p base_version (reference_to id)
    ∷ Put p predecessors (Many kind.Reference [])
    ∷ []

-- a check-in: a new version, a successor of the node's predecessors, and the node's base
abbrev pub checkin_writes : List TypeDef → Nodes → Path → Who → List Write
checkin_writes types t p who =
    let id = number_by who (who.ids + 1) in
    adding (version_nodes types t p (next_version t (version_history_of t p)) (drawn_id who) (latest_date who.base))
    ++ (map (succeed t id) (predecessors_of t p) ++ checked_in_writes p id)

-- the edit that checks in a node that is checked out
abbrev pub checkin_due : List TypeDef → Nodes → Path → Who → Result (List Write) Refusal
checkin_due types t p who = unless_refused (checkin_refusal types t p who) (within_limits (filter (is_needed t) (checkin_writes types t p who)))

-- the edit that checks a versionable node in; of a node that is checked in none
abbrev pub checkin_own : List TypeDef → Nodes → Path → Who → Result (List Write) Refusal
checkin_own types t p who = cond (is_checked_in t p) (Ok []) (checkin_due types t p who)

-- the edit that checks a node in
abbrev pub checkin_edit : List TypeDef → Nodes → Path → Who → Result (List Write) Refusal
checkin_edit types t p who = unless_refused (no_versions (codes "checkin") t p) (checkin_own types t p who)

-- how many identifiers a check-in draws
abbrev pub checkin_drawn : Nodes → Path → ℕ
checkin_drawn t p = cond (is_checked_in t p) 0 1

-- a session that has drawn so many identifiers more
abbrev pub having_drawn : Who → ℕ → Who
having_drawn who more = record who { ids = who.ids + more }

-- the name of the version that is the node's base
abbrev pub base_name : Nodes → Path → (history : Path) → Option Name
base_name t p h = option_and_then (λ k. find (λ n. is_numbered k t (child_path h n)) (version_names t h)) (one_reference (property_at t p base_version))

-- the version that a check-in makes, or the base of a node that is checked in
abbrev pub checked_in_version : Nodes → Path → Option Name
checked_in_version t p =
    cond (is_checked_in t p)
    (base_name t p (version_history_of t p))
    (Some (version_name (length (version_names t (version_history_of t p)))))

-- a check-out: the base version is the one predecessor
abbrev pub checkout_writes : Nodes → Path → List Write
checkout_writes t p =
    Put p is_checked_out (Single (value.Boolean true))
    ∷ Put p predecessors (Many kind.Reference (map value.Reference (option_to_list (one_reference (property_at t p base_version)))))
    ∷ []

-- the edit that checks a node out; of a node that is checked out none
abbrev pub checkout_edit : Nodes → Path → Result (List Write) Refusal
checkout_edit t p = or_else (no_versions (codes "checkout") t p) (cond (is_checked_in t p) (filter (is_needed t) (checkout_writes t p)) [])

-- the path of a label
abbrev pub label_path : (history : Path) → (label : Name) → Path
label_path h label = child_path (labels_of h) label

-- a version of the history has the label
abbrev pub is_used : Nodes → (history : Path) → (label : Name) → Bool
is_used t h label = is_some (property_at t (labels_of h) label)

-- a label is taken from the version that has it only where the command says so
abbrev pub label_in_use : Nodes → (history : Path) → (label : Name) → (take : Bool) → Option Refusal
label_in_use t h label take = when (not take && is_used t h label) (checked_in (label_path h label))

-- a label is one property: it names a version by reference
abbrev pub label_write : Nodes → (history : Path) → (version label : Name) → Write
label_write t h version label = Put (labels_of h) label (reference_to (number_at t (child_path h version)))

-- why a version of a history can't have a label
abbrev pub label_refusal : Nodes → (history : Path) → (version label : Name) → (take : Bool) → Option Refusal
label_refusal t h version label take = first_some (no_version t h version ∷ label_in_use t h label take ∷ [])

-- the edit that gives a version of a history a label
abbrev pub label_own : Nodes → (history : Path) → (version label : Name) → (take : Bool) → Result (List Write) Refusal
label_own t h version label take = or_else (label_refusal t h version label take) (filter (is_needed t) (label_write t h version label ∷ []))

-- the edit that gives a version of a node a label, and takes it from the version that had it
abbrev pub label_edit : Nodes → Path → (version label : Name) → (take : Bool) → Result (List Write) Refusal
label_edit t p version label take = unless_refused (no_versions (codes "label") t p) (label_own t (version_history_of t p) version label take)

-- no version has the label
abbrev pub no_label : Nodes → (history : Path) → (label : Name) → Option Refusal
no_label t h label = when (not (is_used t h label)) (no_item (label_path h label))

-- the edit that takes a label of a history away
abbrev pub unlabel_own : Nodes → (history : Path) → (label : Name) → Result (List Write) Refusal
unlabel_own t h label = or_else (no_label t h label) (filter (is_needed t) (Unset (labels_of h) label ∷ []))

-- the edit that takes a label of a node's versions away
abbrev pub unlabel_edit : Nodes → Path → (label : Name) → Result (List Write) Refusal
unlabel_edit t p label = unless_refused (no_versions (codes "unlabel") t p) (unlabel_own t (version_history_of t p) label)
