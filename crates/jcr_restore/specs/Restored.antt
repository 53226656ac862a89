-- The tree after a node is brought to a frozen node.
use Rattle.std.specs.Prelude.{◌++◌, Bool, true, false, not, ◌&&◌, cond, List, [], ◌∷◌, length, drop, Option, None, Some, is_some}
use Rattle.std.specs.BTreeMap.{insert_entry}
use Rattle.std.specs.List.{fold}
use Rattle.jr_path.specs.Names.{name_cmp, path_cmp}
use Rattle.jr_path.specs.declared.name.Name.{Name}
use Rattle.jr_path.specs.declared.path.Path.{Path}
use Rattle.jr_value.specs.declared.value.Property.{Property}
use Rattle.jr_tree.specs.declared.tree.Node.{Node}
use Rattle.jr_tree.specs.Trees.{Nodes, born_at, node_at, subtree_of}
use Rattle.jr_items.specs.Names.{frozen_mixin_types, frozen_primary_type, frozen_uuid, mixin_types, primary_type, uuid}
use Rattle.jr_items.specs.Items.{child_path, property_of}
use Rattle.jr_types.specs.declared.TypeDef.{TypeDef}
use Rattle.jcr_frozen.specs.declared.frozen.Share.TheVariants as share
use Rattle.jcr_frozen.specs.Frozen.{is_frozen_along, is_frozen_name, share_of, with_optional_property}
use Rattle.jcr_restore.specs.declared.fates.Fate.{Fate}
use Rattle.jcr_restore.specs.declared.fates.Fate.TheVariants as fate

-- there is a node at the path
unfoldable pub is_there : Nodes → Path → Bool
is_there t p = is_some (node_at t p)

-- a node that is there and isn't frozen with the node above stays
unfoldable pub is_kept_back : List TypeDef → Nodes → Path → Bool
is_kept_back types t q = is_some (node_at t q) && not (is_frozen_along types t q)

-- what becomes of the node by these names below `here`, which is brought to the frozen node `there`: it stays where it or a
-- node above isn't frozen with its parent, goes where it or a node above has no frozen node, and else is brought to its own
abbrev pub fate_below : List TypeDef → Nodes → (here : Path) → (there : Path) → List Name → Fate
fate_below types t here there [] = fate.Brought
fate_below types t here there (n ∷ ns) =
    cond (is_kept_back types t (child_path here n)) fate.Stays
    (cond (is_there t (child_path there n)) (fate_below types t (child_path here n) (child_path there n) ns) fate.Goes)

-- the fate is to stay
abbrev pub is_staying : Fate → Bool
is_staying fate.Stays = true
is_staying _ = false

-- the fate is to be brought to a frozen node
abbrev pub is_brought : Fate → Bool
is_brought fate.Brought = true
is_brought _ = false

-- the properties that a restore leaves to the node, of a node that isn't there none
abbrev pub left_props : List TypeDef → Option Node → List (Name × Property)
left_props types None = []
left_props types (Some node) = share_of share.Left types node

-- one property of the frozen node more, but for those that it has for itself
abbrev pub with_frozen : List (Name × Property) → Name × Property → List (Name × Property)
with_frozen props x = cond (is_frozen_name x.0) props (insert_entry name_cmp props x.0 x.1)

-- the type and the mixins that the frozen node tells of
abbrev pub with_types : Node → List (Name × Property) → List (Name × Property)
with_types frozen props = with_optional_property (with_optional_property props primary_type (property_of frozen frozen_primary_type)) mixin_types (property_of frozen frozen_mixin_types)

-- a node that is made has the identifier that the frozen node tells of
abbrev pub with_frozen_identifier : Node → Option Node → List (Name × Property) → List (Name × Property)
with_frozen_identifier frozen None props = with_optional_property props uuid (property_of frozen frozen_uuid)
with_frozen_identifier frozen (Some node) props = props

-- the properties of a node that is brought to a frozen node
abbrev pub brought_props : List TypeDef → Option Node → (frozen : Node) → List (Name × Property)
brought_props types old frozen = with_frozen_identifier frozen old (with_types frozen (fold with_frozen (left_props types old) frozen.props))

-- the node at q brought to a frozen node; it was added when it was before
abbrev pub brought : List TypeDef → Nodes → Path → (frozen : Node) → Node
brought types t q frozen = record { props = brought_props types (node_at t q) frozen; born = born_at t q }

-- where the node of a frozen node at g, at or below f, stands at or below p
abbrev pub place_of : (p f : Path) → Path → Path
place_of p f g = p ++ drop (length f) g

-- one node more at or below p, if it stays
abbrev pub with_staying : List TypeDef → Nodes → (p f : Path) → Nodes → Path × Node → Nodes
with_staying types t p f u e = cond (is_staying (fate_below types t p f (drop (length p) e.0))) (insert_entry path_cmp u e.0 e.1) u

-- one node more, if it is brought to this frozen node
abbrev pub with_brought : List TypeDef → Nodes → (p f : Path) → Nodes → Path × Node → Nodes
with_brought types t p f u e =
    cond (is_brought (fate_below types t p f (drop (length f) e.0)))
    (insert_entry path_cmp u (place_of p f e.0) (brought types t (place_of p f e.0) e.1)) u

-- p and what is below it, after p is brought to the frozen node f
abbrev pub restored : List TypeDef → Nodes → (p f : Path) → Nodes
restored types t p f = fold (with_brought types t p f) (fold (with_staying types t p f) [] (subtree_of t p)) (subtree_of t f)
