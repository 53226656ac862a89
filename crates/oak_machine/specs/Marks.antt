-- The marks of an edit.
use Rattle.std.specs.Prelude.{ℕ, Bool, true, List, [], ◌∷◌}
use Rattle.std.specs.declared.cmp.Ordering.{Ordering}
use Rattle.std.specs.Option.{option_map_or}
use Rattle.std.specs.Ordering.{nat_cmp, on, then_cmp}
use Rattle.std.specs.Map.{keys_of}
use Rattle.std.specs.BTreeMap.{insert_entry}
use Rattle.std.specs.List.{fold}
use Rattle.jr_path.specs.Names.{name_cmp, path_cmp, parent_of}
use Rattle.jr_path.specs.declared.name.Name.{Name}
use Rattle.jr_path.specs.declared.path.Path.{Path}
use Rattle.jr_tree.specs.declared.edit.Write.{Write}
use Rattle.jr_tree.specs.declared.edit.Write.TheVariants.{Here, Gone, Put, Unset}
use Rattle.jr_tree.specs.Trees.{Nodes}
use Rattle.oak_clash.specs.declared.mark.Mark.{Mark}
use Rattle.oak_clash.specs.declared.mark.Mark.TheVariants.{Exists, Guard, Touch, Prop}
use Rattle.oak_clash.specs.declared.mark.MarkAt.{MarkAt}

-- a node that comes or goes: Exists of it, and Touch of its parent
abbrev pub marks_of_node : Path → List MarkAt
marks_of_node p = record { path = p; mark = Exists } ∷ option_map_or (λ q. record { path = q; mark = Touch } ∷ []) (parent_of p) []

-- the marks for which a write is the cause
abbrev pub marks_of_write : Write → List MarkAt
marks_of_write (Here p) = marks_of_node p
marks_of_write (Gone p) = marks_of_node p
marks_of_write (Put p n x) = record { path = p; mark = Prop n } ∷ []
marks_of_write (Unset p n) = record { path = p; mark = Prop n } ∷ []

-- Exists, Guard, Touch, and then Prop
abbrev pub mark_rank : Mark → ℕ
mark_rank Exists = 0
mark_rank Guard = 1
mark_rank Touch = 2
mark_rank (Prop n) = 3

-- the name of the property that a Prop marks, and no name for each other mark
abbrev pub mark_name : Mark → Name
mark_name (Prop n) = n
mark_name _ = []

-- Exists, Guard, Touch, and then Prop by name
abbrev pub mark_cmp : Mark → Mark → Ordering
mark_cmp = then_cmp (on mark_rank nat_cmp) (on mark_name name_cmp)

-- in path order, and at one path in the order of marks
abbrev pub mark_at_cmp : MarkAt → MarkAt → Ordering
mark_at_cmp = then_cmp (on (λ m. m.path) path_cmp) (on (λ m. m.mark) mark_cmp)

-- marks in order, each once; what stands beside a mark says nothing
abbrev pub Marked : Type 0
Marked = List (MarkAt × Bool)

-- with these marks too
abbrev pub with_marks : Marked → List MarkAt → Marked
with_marks es ms = fold (λ es m. insert_entry mark_at_cmp es m true) es ms

-- the marks of an edit on a tree, each once, in order. What Guard and Touch of a target need of the tree comes with types and locks
abbrev pub marks_for : Nodes → List Write → List MarkAt
marks_for t ws = keys_of (fold (λ es w. with_marks es (marks_of_write w)) [] ws)
