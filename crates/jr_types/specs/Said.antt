-- What a node says of its types, and which definitions count for one of its items.
use Rattle.std.specs.Prelude.{List, is_none}
use Rattle.std.specs.List.{filter}
use Rattle.jr_path.specs.declared.name.Name.{Name}
use Rattle.jr_tree.specs.declared.tree.Node.{Node}
use Rattle.jr_items.specs.Names.{primary_type, mixin_types}
use Rattle.jr_items.specs.Items.{property_of}
use Rattle.jr_types.specs.declared.PropDef.{PropDef}
use Rattle.jr_types.specs.declared.ChildDef.{ChildDef}
use Rattle.jr_types.specs.Types.{NodeTypes, either_of, is_named}

-- what a node says of its types
abbrev pub types_said : Node → NodeTypes
types_said node = record {
  primary = property_of node primary_type;
  mixins = property_of node mixin_types;
}

-- those of the definitions that count for a property of that name
abbrev pub counting_props : List PropDef → Name → List PropDef
counting_props all n = either_of (filter (λ d. is_named n d.name) all)
    (filter (λ d. is_none d.name) all)

-- those of the definitions that count for a child of that name
abbrev pub counting_children : List ChildDef → Name → List ChildDef
counting_children all n = either_of (filter (λ d. is_named n d.name) all)
    (filter (λ d. is_none d.name) all)
