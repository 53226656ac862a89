-- The definition of an item, and its attribute.
use Rattle.std.specs.Prelude.{ℕ, Bool, false, List, Option, codes, option_and_then}
use Rattle.std.specs.Option.{option_map_or}
use Rattle.jr_path.specs.declared.name.Name.{Name}
use Rattle.jr_value.specs.declared.value.Property.{Property}
use Rattle.jr_types.specs.declared.OnParentVersion.{OnParentVersion}
use Rattle.jr_types.specs.declared.OnParentVersion.TheVariants as opv
use Rattle.jr_types.specs.declared.TypeDef.{TypeDef}
use Rattle.std.specs.List.{filter_map, list_any}
use Rattle.jr_items.specs.Items.{first_of}
use Rattle.jr_types.specs.Types.{NodeTypes, types_of, prop_def, child_def, child_defs}
use Rattle.jr_types.specs.Rules.{PresentChild}

-- the word of an attribute
abbrev pub opv_text : OnParentVersion → List ℕ
opv_text opv.Copy = codes "COPY"
opv_text opv.Version = codes "VERSION"
opv_text opv.Initialize = codes "INITIALIZE"
opv_text opv.Compute = codes "COMPUTE"
opv_text opv.Ignore = codes "IGNORE"
opv_text opv.Abort = codes "ABORT"

-- the attribute of a property of a node of these types passes the test; a property without a
-- definition passes none
abbrev pub property_passes : (OnParentVersion → Bool) → List TypeDef → NodeTypes → Name
    → Option Property → Bool
property_passes test types its n o =
    option_map_or (λ d. test d.opv) (option_and_then (prop_def (types_of types its) n) o) false

-- the attribute of a child of a node of these types passes the test; a child without a definition
-- passes none
abbrev pub child_passes : (OnParentVersion → Bool) → List TypeDef → NodeTypes → Name
    → Option PresentChild → Bool
child_passes test types its n o = option_map_or (λ d. test d.opv)
    (option_and_then (child_def types (types_of types its) n) o) false

-- the type of a child of that name that is added without a type: the first that a definition gives
-- that counts for it
abbrev pub default_type : List TypeDef → Name → Option Name
default_type ds n = first_of (filter_map (λ d. d.default_type) (child_defs ds n))

-- the children of a node of these types are ordered
abbrev pub are_ordered : List TypeDef → Bool
are_ordered ds = list_any (λ d. d.orderable) ds
