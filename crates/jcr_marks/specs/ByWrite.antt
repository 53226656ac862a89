-- The marks of an edit, write by write: what each is the cause of.
use Rattle.std.specs.Prelude.{ℕ, Bool, cond, not, ◌&&◌, ◌||◌, ◌==◌, List, [], ◌∷◌, ◌++◌, Option}
use Rattle.std.specs.List.{filter, filter_map, list_any}
use Rattle.std.specs.Option.{option_map_or}
use Rattle.std.specs.Map.{keys_of}
use Rattle.jr_path.specs.Names.{parent_of}
use Rattle.jr_path.specs.declared.name.Name.{Name}
use Rattle.jr_path.specs.declared.path.Path.{Path}
use Rattle.jr_value.specs.declared.value.Property.{Property}
use Rattle.jr_value.specs.declared.value.Value.{Value}
use Rattle.jr_tree.specs.declared.edit.Write.{Write}
use Rattle.jr_tree.specs.declared.edit.Write.TheVariants.{Here, Gone, Put, Unset}
use Rattle.jr_tree.specs.Trees.{Nodes, subtree_of}
use Rattle.jr_items.specs.Names.{is_checked_out, lock_is_deep, lock_owner, mixin_types}
use Rattle.jr_items.specs.Items.{same_name, reference_in, values_in}
use Rattle.oak_clash.specs.declared.mark.Mark.TheVariants.{Guard, Prop, Touch}
use Rattle.oak_clash.specs.declared.mark.MarkAt.{MarkAt}
use Rattle.oak_machine.specs.Marks.{marks_of_node}
use Rattle.jcr_marks.specs.Marks.{mark_each, is_type_name, stays, is_covered_anew}

-- locks and checked-in nodes go by these properties alone: the owner and the depth of a lock, the mixins, and whether a node is checked out
abbrev pub is_cover_name : Name → Bool
is_cover_name n = same_name lock_owner n || same_name lock_is_deep n || same_name mixin_types n
    || same_name is_checked_out n

-- the node whose covers a write may change, and those of what is below it
abbrev pub covers_by : Write → List Path
covers_by (Here p) = p ∷ []
covers_by (Gone p) = p ∷ []
covers_by (Put p n x) = cond (is_cover_name n) (p ∷ []) []
covers_by (Unset p n) = cond (is_cover_name n) (p ∷ []) []

-- the nodes at or below a path that stay and are covered anew
abbrev pub covered_below : Nodes → Nodes → Path → List Path
covered_below t u p = filter (λ q. stays t u q && is_covered_anew t u q) (keys_of (subtree_of u p))

-- a node that comes or goes: Exists of it, Touch of its parent, and Guard of what it covers anew
abbrev pub moved_marks : Nodes → Nodes → Path → List MarkAt
moved_marks t u p = marks_of_node p ++ mark_each Guard (covered_below t u p)

-- a node that stays and whose types are written: Guard of it, and Touch of its parent
abbrev pub retyped_marks : Nodes → Nodes → Path → List MarkAt
retyped_marks t u p =
    cond (stays t u p)
    (record { path = p; mark = Guard }
    ∷ option_map_or (λ q. record { path = q; mark = Touch } ∷ []) (parent_of p) []) []

-- a property that is written: Prop of it, what its node's types cause, and Guard of what its node covers anew
abbrev pub written_marks : Nodes → Nodes → Path → Name → List MarkAt
written_marks t u p n =
    (record { path = p; mark = Prop n } ∷ cond (is_type_name n) (retyped_marks t u p) [])
    ++ cond (is_cover_name n) (mark_each Guard (covered_below t u p)) []

-- the marks for which a write is the cause, but for the targets of new references
abbrev pub marks_by : Nodes → Nodes → Write → List MarkAt
marks_by t u (Here p) = moved_marks t u p
marks_by t u (Gone p) = moved_marks t u p
marks_by t u (Put p n x) = written_marks t u p n
marks_by t u (Unset p n) = written_marks t u p n

-- the references of a property, none where it isn't there
abbrev pub references_in : Option Property → List ℕ
references_in o = option_map_or (λ x. filter_map reference_in (values_in x)) o []

-- those references of the values that the property did not have
abbrev pub references_added : Option Property → List Value → List ℕ
references_added before xs =
    filter (λ id. not (list_any (λ old. old == id) (references_in before)))
    (filter_map reference_in xs)
