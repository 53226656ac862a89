-- What a check-in asks of the items of a node.
use Rattle.std.specs.Prelude.{Bool, false, Option, Some}
use Rattle.std.specs.Option.{option_and_then}
use Rattle.jr_path.specs.Names.{last_name, parent_of}
use Rattle.jr_path.specs.declared.name.Name.{Name}
use Rattle.jr_path.specs.declared.path.Path.{Path}
use Rattle.jr_value.specs.declared.value.Property.{Property}
use Rattle.jr_tree.specs.declared.tree.Node.{Node}
use Rattle.jr_tree.specs.Trees.{Nodes, node_at}
use Rattle.jr_items.specs.Names.{primary_type}
use Rattle.jr_items.specs.Items.{property_of}
use Rattle.jr_types.specs.declared.OnParentVersion.{OnParentVersion}
use Rattle.jr_types.specs.declared.OnParentVersion.TheVariants as opv
use Rattle.jr_types.specs.declared.TypeDef.{TypeDef}
use Rattle.jr_types.specs.Attributes.{property_passes, child_passes}
use Rattle.jr_types.specs.Said.{types_said}
use Rattle.jr_types.specs.Types.{is_kept, is_opv}
use Rattle.std.specs.Prelude.{List}
use Rattle.jcr_frozen.specs.declared.attributes.Asked.{Asked}
use Rattle.jcr_frozen.specs.declared.attributes.Asked.TheVariants as asked

-- an attribute has what is asked: a version keeps the item, or the item forbids the check-in
abbrev pub has_asked : Asked → OnParentVersion → Bool
has_asked asked.Kept o = is_kept o
has_asked asked.Aborts o = is_opv opv.Abort o

-- a property of a node has what is asked; one without a definition has nothing
abbrev pub property_has : Asked → List TypeDef → Node → Name → Property → Bool
property_has a types node n x = property_passes (has_asked a) types (types_said node) n (Some x)

-- a child has what is asked, by the types of the node above
abbrev pub child_has : Asked → List TypeDef → (above : Option Node) → Option Name → (child : Option Node) → Bool
child_has a types (Some above) (Some n) (Some child) = child_passes (has_asked a) types (types_said above) n (Some (property_of child primary_type))
child_has a types _ _ _ = false

-- the node at a path has what is asked, as a child; the root is none
abbrev pub node_has : Asked → List TypeDef → Nodes → Path → Bool
node_has a types t q = child_has a types (option_and_then (node_at t) (parent_of q)) (last_name q) (node_at t q)
