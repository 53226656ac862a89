-- The tree of all commits in the order in which they were made.
use Rattle.std.specs.Prelude.{[], ◌∷◌, Some}
use Rattle.std.specs.Option.{option_map_or}
use Rattle.jr_tree.specs.Trees.{Nodes}
use Rattle.jr_tree.specs.Edits.{applied}
use Rattle.oak_machine.specs.declared.event.Event.TheVariants as event
use Rattle.oak_machine.specs.History.{Begin, Past, begin_tree}
use Rattle.oak_machine.specs.Commits.{draw_of}

-- the tree of the beginning, with the edit of each commit applied, with its revision, when it was
-- committed
abbrev pub tree_by_commits : Begin → Past → Nodes
tree_by_commits begin [] = begin_tree begin
tree_by_commits begin (event.Commit r ∷ past) =
    option_map_or (λ d. applied (Some r) (tree_by_commits begin past) d.edit.writes)
    (draw_of past r) (tree_by_commits begin past)
tree_by_commits begin (_ ∷ past) = tree_by_commits begin past
