-- The marks of an edit, which leads from tree t to tree u.
use Rattle.std.specs.Prelude.{ℕ, Bool, true, false, cond, not, ◌&&◌, ◌||◌, ◌==◌, List, [], ◌∷◌, ◌++◌, Option, None, Some, is_some, map}
use Rattle.std.specs.List.{filter, filter_map, flat_map, fold, list_any}
use Rattle.std.specs.Option.{option_map_or}
use Rattle.std.specs.Map.{keys_of}
use Rattle.std.specs.BTreeMap.{insert_entry}
use Rattle.jr_path.specs.Names.{parent_of}
use Rattle.jr_path.specs.declared.name.Name.{Name}
use Rattle.jr_path.specs.declared.path.Path.{Path}
use Rattle.jr_value.specs.Values.{same_property}
use Rattle.jr_value.specs.declared.value.Property.{Property}
use Rattle.jr_tree.specs.declared.edit.Write.{Write}
use Rattle.jr_tree.specs.declared.edit.Write.TheVariants.{Here, Gone, Put, Unset}
use Rattle.jr_tree.specs.Trees.{Nodes, node_at, property_at}
use Rattle.jr_tree.specs.Edits.{applied}
use Rattle.jr_items.specs.Names.{primary_type, mixin_types, lock_owner}
use Rattle.jr_items.specs.Items.{same_name, same_path, values_in, reference_in, upward}
use Rattle.jcr_lock.specs.Locks.{lock_covers, is_deep_lock, frozen_by}
use Rattle.jcr_ref.specs.References.{target_of, references_at}
use Rattle.oak_clash.specs.declared.mark.Mark.{Mark}
use Rattle.oak_clash.specs.declared.mark.Mark.TheVariants.{Exists, Guard, Touch, Prop}
use Rattle.oak_clash.specs.declared.mark.MarkAt.{MarkAt}
use Rattle.oak_machine.specs.Marks.{mark_at_cmp}

-- this mark at each of the paths
abbrev pub mark_each : Mark → List Path → List MarkAt
mark_each m ps = map (λ p. record { path = p; mark = m }) ps

-- the node that a write adds or removes
abbrev pub moved_by : Write → List Path
moved_by (Here p) = p ∷ []
moved_by (Gone p) = p ∷ []
moved_by (Put p n x) = []
moved_by (Unset p n) = []

-- the mark of a written property
abbrev pub prop_marks : Write → List MarkAt
prop_marks (Here p) = []
prop_marks (Gone p) = []
prop_marks (Put p n x) = record { path = p; mark = Prop n } ∷ []
prop_marks (Unset p n) = record { path = p; mark = Prop n } ∷ []

-- a node's types
abbrev pub is_type_name : Name → Bool
is_type_name n = same_name n primary_type || same_name n mixin_types

-- the node whose types a write changes
abbrev pub retyped_by : Write → List Path
retyped_by (Here p) = []
retyped_by (Gone p) = []
retyped_by (Put p n x) = cond (is_type_name n) (p ∷ []) []
retyped_by (Unset p n) = cond (is_type_name n) (p ∷ []) []

-- the node at a path stands in both trees
abbrev pub stays : Nodes → Nodes → Path → Bool
stays t u p = is_some (node_at t p) && is_some (node_at u p)

-- the nodes that stay and whose types are written
abbrev pub retyped : Nodes → Nodes → List Write → List Path
retyped t u ws = filter (stays t u) (flat_map retyped_by ws)

-- the two properties are there, and the same
abbrev pub are_same : Option Property → Option Property → Bool
are_same o None = false
are_same o (Some y) = option_map_or (λ x. same_property x y) o false

-- the lock at q covers p after the edit, and before it did not, or had another owner
abbrev pub locks_anew : Nodes → Nodes → Path → Path → Bool
locks_anew t u p q = lock_covers u q p
    && not (lock_covers t q p && are_same (property_at t q lock_owner) (property_at u q lock_owner))

-- the path is there, and this one
abbrev pub is_this_path : Option Path → Path → Bool
is_this_path o p = option_map_or (same_path p) o false

-- a checked-in node covers p after the edit that did not before
abbrev pub is_frozen_anew : Nodes → Nodes → Path → Bool
is_frozen_anew t u p = option_map_or (λ q. not (is_this_path (frozen_by t p) q)) (frozen_by u p) false

-- the lock of the node at a path covers what is below it after the edit, and before it did not
abbrev pub is_deepened : Nodes → Nodes → Path → Bool
is_deepened t u p = is_deep_lock u p && not (is_deep_lock t p)

-- the node at a path gains a lock or a checked-in node over it, or another owner of a lock over it, or its own lock becomes deep
abbrev pub is_covered_anew : Nodes → Nodes → Path → Bool
is_covered_anew t u p =
    list_any (locks_anew t u p) (upward p) || is_frozen_anew t u p || is_deepened t u p

-- the nodes that stay and are covered anew
abbrev pub newly_covered : Nodes → Nodes → List Path
newly_covered t u = filter (λ p. stays t u p && is_covered_anew t u p) (keys_of u)

-- the references that a write adds to its property
abbrev pub new_references : Nodes → Write → List ℕ
new_references t (Here p) = []
new_references t (Gone p) = []
new_references t (Put p n x) =
    filter (λ id. not (list_any (λ old. old == id) (references_at t p n)))
    (filter_map reference_in (values_in x))
new_references t (Unset p n) = []

-- marks in path order, and at one path in their own order, each once
abbrev pub in_mark_order : List MarkAt → List MarkAt
in_mark_order ms = keys_of (fold (λ es m. insert_entry mark_at_cmp es m true) [] ms)

-- Exists: each node that is added or removed
-- Guard: each node that stays, whose types are written or that is newly covered
-- Touch: the parent of each node that is added, removed or retyped, and the target of each new reference
-- Prop: each written property
abbrev pub marks_between : Nodes → Nodes → List Write → List MarkAt
marks_between t u ws =
    let moved = flat_map moved_by ws in
    let types = retyped t u ws in
    in_mark_order
    (mark_each Exists moved
    ++ mark_each Guard (types ++ newly_covered t u)
    ++ mark_each Touch (filter_map parent_of (moved ++ types) ++ filter_map (target_of u)
    (flat_map (new_references t) ws))
    ++ flat_map prop_marks ws)

-- the marks of an edit on a tree
abbrev pub marks_of : Nodes → List Write → List MarkAt
marks_of t ws = marks_between t (applied None t ws) ws
