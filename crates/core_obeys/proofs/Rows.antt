-- Why a lock that becomes deep has to be guarded at its own node: without it two sessions that hold the lock's token, and one that doesn't, commit side by side, and the third changes a locked node.
use Rattle.std.proofs.Common.{◌≡◌, true, false, ◌&&◌, ◌||◌, None, Some, List, [], ◌∷◌, ◌++◌, refl}
use Rattle.std.specs.Prelude.{codes}
use Rattle.std.specs.List.{filter, filter_map, flat_map, list_any}
use Rattle.std.specs.Map.{keys_of}
use Rattle.jr_path.specs.Names.{parent_of}
use Rattle.jr_path.specs.declared.path.Path.{Path}
use Rattle.jr_value.specs.declared.value.Property.{Property}
use Rattle.jr_value.specs.declared.value.Property.TheVariants.{Single}
use Rattle.jr_value.specs.declared.value.Value.TheVariants as value
use Rattle.jr_tree.specs.declared.edit.Write.{Write}
use Rattle.jr_tree.specs.declared.edit.Write.TheVariants.{Here, Put}
use Rattle.jr_tree.specs.Trees.{Nodes, initial_tree}
use Rattle.jr_tree.specs.Edits.{applied}
use Rattle.jr_items.specs.Names.{primary_type, lock_owner, lock_is_deep}
use Rattle.jr_items.specs.Items.{upward}
use Rattle.jcr_lock.specs.Locks.{locked_by}
use Rattle.jcr_ref.specs.References.{target_of}
use Rattle.jcr_marks.specs.Marks.{mark_each, moved_by, prop_marks, retyped, stays, locks_anew, is_frozen_anew, new_references, in_mark_order, marks_of}
use Rattle.oak_clash.specs.declared.mark.Mark.TheVariants.{Exists, Guard, Touch}
use Rattle.oak_clash.specs.declared.mark.MarkAt.{MarkAt}
use Rattle.oak_clash.specs.Clashes.{clashing}

-- the marks of an edit where only a gained cover, and another owner, are guarded
abbrev covered_otherwise : Nodes → Nodes → List Path
covered_otherwise t u = filter (λ p. stays t u p && (list_any (locks_anew t u p) (upward p) || is_frozen_anew t u p)) (keys_of u)

abbrev marks_otherwise : Nodes → List Write → List MarkAt
marks_otherwise t ws =
    in_mark_order
    (mark_each Exists (flat_map moved_by ws)
    ++ mark_each Guard (retyped t (applied None t ws) ws ++ covered_otherwise t (applied None t ws))
    ++ mark_each Touch (filter_map parent_of (flat_map moved_by ws ++ retyped t (applied None t ws) ws) ++ filter_map (target_of (applied None t ws)) (flat_map (new_references t) ws))
    ++ flat_map prop_marks ws)

abbrev a : Path
a = codes "a" ∷ []

abbrev an : Path
an = codes "a" ∷ codes "n" ∷ []

abbrev unstructured : Property
unstructured = Single (value.Name (codes "nt:unstructured"))

-- /a has a shallow lock, whose owner is the token "t"
abbrev begun : Nodes
begun = applied None initial_tree (Here a ∷ Put a primary_type unstructured ∷ Put a lock_owner (Single (value.Str (codes "t"))) ∷ [])

-- one with the token adds /a/n
abbrev adds : List Write
adds = Here an ∷ Put an primary_type unstructured ∷ []

-- another with the token makes the lock deep
abbrev deepens : List Write
deepens = Put a lock_is_deep (Single (value.Boolean true)) ∷ []

-- one without it has seen /a/n, and sets a property there
abbrev sets : List Write
sets = Put an (codes "p") (Single (value.Boolean true)) ∷ []

-- each finds what it changes unlocked at its base
free_to_add : locked_by begun a (codes "t" ∷ []) ≡ None
free_to_add = refl

free_to_deepen : locked_by begun a (codes "t" ∷ []) ≡ None
free_to_deepen = refl

free_to_set : locked_by (applied None begun adds) an [] ≡ None
free_to_set = refl

-- no two of them clash
deepens_beside_adds : clashing (marks_otherwise begun deepens) (marks_otherwise begun adds) ≡ false
deepens_beside_adds = refl

sets_beside_deepens : clashing (marks_otherwise (applied None begun adds) sets) (marks_otherwise begun deepens) ≡ false
sets_beside_deepens = refl

-- and so the third commit changes a locked node
locked_now : locked_by (applied None (applied None begun adds) deepens) an [] ≡ Some a
locked_now = refl

-- guarded at its own node, the second clashes with the first
guarded : clashing (marks_of begun deepens) (marks_of begun adds) ≡ true
guarded = refl
