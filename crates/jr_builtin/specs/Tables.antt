-- The definitions of items of the built-in types.
use Rattle.std.specs.Prelude.{Bool, [], ◌∷◌, Option, option_to_list}
use Rattle.std.specs.Option.{option_map}
use Rattle.jr_path.specs.declared.name.Name.{Name}
use Rattle.jr_value.specs.declared.value.Kind.{Kind}
use Rattle.jr_value.specs.declared.value.Value.TheVariants as value
use Rattle.jr_types.specs.declared.PropDef.{PropDef}
use Rattle.jr_types.specs.declared.ChildDef.{ChildDef}
use Rattle.jr_builtin.specs.declared.sketch.Flags.{Flags}

-- a property of this name, or any other, of this kind, or any, with this truth value by default, or
-- none
abbrev pub prop_of : Option Name → Option Kind → Option Bool → Flags → PropDef
prop_of name kind default flags = record {
  name = name;
  kind = kind;
  mandatory = flags.mandatory;
  autocreated = flags.autocreated;
  protected = flags.protected;
  multiple = flags.multiple;
  defaults = option_to_list (option_map value.Boolean default);
  constraints = [];
  opv = flags.opv;
}

-- a child of this name, or any other, of this required type
abbrev pub builtin_child : Option Name → Name → Option Name → Flags → ChildDef
builtin_child name required default flags = record {
  name = name;
  types = required ∷ [];
  default_type = default;
  mandatory = flags.mandatory;
  autocreated = flags.autocreated;
  protected = flags.protected;
  opv = flags.opv;
}
