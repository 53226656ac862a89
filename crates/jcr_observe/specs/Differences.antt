-- The changes of an edit as the differences of two trees.
use Rattle.std.specs.Prelude.{◌≡◌, ◌≢◌, ◌↔◌, Bool, List, map, Contains, Option, None, Some, is_some}
use Rattle.std.specs.Option.{option_map, option_map_or}
use Rattle.std.specs.List.Sorted.{IsStrictlySortedBy}
use Rattle.jr_path.specs.declared.path.Item.{Item}
use Rattle.jr_value.specs.declared.value.Property.{Property}
use Rattle.jr_tree.specs.declared.shared.ItemChange.{ItemChange}
use Rattle.jr_tree.specs.Trees.{Nodes, node_at, property_at}
use Rattle.jr_tree.specs.Edits.{item_cmp}

-- what a tree has at an item: nothing, a node, or a property with its value
abbrev pub content_at : Nodes → Item → Option (Option Property)
content_at t i =
    option_map_or (λ n. option_map Some (property_at t i.path n)) i.name
    (option_map (λ node. None) (node_at t i.path))

-- two trees don't have the same at the item of the change, which says whether each has something there
pub record IsDifference (old new : Nodes) (c : ItemChange) : Type 0 where
  pub differs : content_at old c.item ≢ content_at new c.item
  pub before : c.before ≡ is_some (content_at old c.item)
  pub after : c.after ≡ is_some (content_at new c.item)

-- the changes are exactly the differences of two trees, in the order of their items
pub record AreDifferences (old new : Nodes) (changes : List ItemChange) : Type 0 where
  pub ordered : IsStrictlySortedBy item_cmp (map (λ c. c.item) changes)
  pub exact : (c : ItemChange) → Contains changes c ↔ IsDifference old new c
