-- The built-in node types, in order of definition.
use Rattle.std.specs.Prelude.{true, false, List, [], ◌∷◌, None, Some, codes}
use Rattle.jr_path.specs.declared.name.Name.{Name}
use Rattle.jr_value.specs.declared.value.Kind.{Kind}
use Rattle.jr_value.specs.declared.value.Kind.TheVariants as kind
use Rattle.jr_value.specs.declared.value.Value.TheVariants as value
use Rattle.jr_types.specs.declared.OnParentVersion.TheVariants as opv
use Rattle.jr_types.specs.declared.PropDef.{PropDef}
use Rattle.jr_types.specs.declared.ChildDef.{ChildDef}
use Rattle.jr_types.specs.declared.TypeDef.{TypeDef}

-- a property of this name and kind
abbrev pub prop : Name → Kind → PropDef
prop n k = record {
  name = Some n;
  kind = Some k;
  mandatory = false;
  autocreated = false;
  protected = false;
  multiple = false;
  defaults = [];
  constraints = [];
  opv = opv.Copy;
}

-- any other property
abbrev pub any_prop : PropDef
any_prop = record {
  name = None;
  kind = None;
  mandatory = false;
  autocreated = false;
  protected = false;
  multiple = false;
  defaults = [];
  constraints = [];
  opv = opv.Copy;
}

-- any other list of values
abbrev pub any_list : PropDef
any_list = record any_prop { multiple = true }

-- a child of this name and type
abbrev pub child : Name → Name → ChildDef
child n type = record {
  name = Some n;
  types = type ∷ [];
  default_type = None;
  mandatory = false;
  autocreated = false;
  protected = false;
  opv = opv.Copy;
}

-- any other child of this type
abbrev pub any_child : Name → ChildDef
any_child type = record {
  name = None;
  types = type ∷ [];
  default_type = None;
  mandatory = false;
  autocreated = false;
  protected = false;
  opv = opv.Copy;
}

-- a type that nodes may have as primary type
abbrev pub primary : Name → List Name → List PropDef → List ChildDef → TypeDef
primary n above props children = record {
  name = n;
  supertypes = above;
  is_abstract = false;
  mixin = false;
  orderable = false;
  primary_item = None;
  props = props;
  children = children;
}

-- a type that nodes may have beside it
abbrev pub mixin : Name → List Name → List PropDef → TypeDef
mixin n above props = record {
  name = n;
  supertypes = above;
  is_abstract = false;
  mixin = true;
  orderable = false;
  primary_item = None;
  props = props;
  children = [];
}

-- all of them
abbrev pub builtin : List TypeDef
builtin =
    record (primary (codes "nt:base") []
    (record (prop (codes "jcr:primaryType") kind.Name)
    { mandatory = true; autocreated = true; protected = true; opv = opv.Compute }
    ∷ record (prop (codes "jcr:mixinTypes") kind.Name)
    { protected = true; multiple = true; opv = opv.Compute }
    ∷ []) []) { is_abstract = true }
    ∷ record (primary (codes "nt:unstructured") [] (any_list ∷ any_prop ∷ [])
    (record (any_child (codes "nt:base"))
    { default_type = Some (codes "nt:unstructured"); opv = opv.Version } ∷ []))
    { orderable = true }
    ∷ mixin (codes "mix:created") []
    (record (prop (codes "jcr:created") kind.Date) { autocreated = true; protected = true }
    ∷ record (prop (codes "jcr:createdBy") kind.Str) { autocreated = true; protected = true }
    ∷ [])
    ∷ mixin (codes "mix:lastModified") []
    (record (prop (codes "jcr:lastModified") kind.Date) { autocreated = true }
    ∷ record (prop (codes "jcr:lastModifiedBy") kind.Str) { autocreated = true }
    ∷ [])
    ∷ mixin (codes "mix:mimeType") []
    (prop (codes "jcr:mimeType") kind.Str ∷ prop (codes "jcr:encoding") kind.Str ∷ [])
    ∷ mixin (codes "mix:title") []
    (prop (codes "jcr:title") kind.Str ∷ prop (codes "jcr:description") kind.Str ∷ [])
    ∷ mixin (codes "mix:referenceable") []
    (record (prop (codes "jcr:uuid") kind.Str)
    { mandatory = true; autocreated = true; protected = true; opv = opv.Initialize } ∷ [])
    ∷ mixin (codes "mix:lockable") []
    (record (prop (codes "jcr:lockOwner") kind.Str) { protected = true; opv = opv.Ignore }
    ∷ record (prop (codes "jcr:lockIsDeep") kind.Boolean) { protected = true; opv = opv.Ignore }
    ∷ [])
    ∷ mixin (codes "mix:simpleVersionable") []
    (record (prop (codes "jcr:isCheckedOut") kind.Boolean) {
      defaults = value.Boolean true ∷ [];
      mandatory = true;
      autocreated = true;
      protected = true;
      opv = opv.Ignore;
    } ∷ [])
    ∷ mixin (codes "mix:versionable")
    (codes "mix:simpleVersionable" ∷ codes "mix:referenceable" ∷ [])
    (record (prop (codes "jcr:versionHistory") kind.Reference)
    { mandatory = true; protected = true; opv = opv.Ignore }
    ∷ record (prop (codes "jcr:baseVersion") kind.Reference)
    { mandatory = true; protected = true; opv = opv.Ignore }
    ∷ record (prop (codes "jcr:predecessors") kind.Reference)
    { mandatory = true; protected = true; multiple = true; opv = opv.Ignore }
    ∷ [])
    ∷ record (primary (codes "nt:hierarchyNode") (codes "mix:created" ∷ []) [] [])
    { is_abstract = true }
    ∷ primary (codes "nt:folder") (codes "nt:hierarchyNode" ∷ []) []
    (record (any_child (codes "nt:hierarchyNode")) { opv = opv.Version } ∷ [])
    ∷ record (primary (codes "nt:file") (codes "nt:hierarchyNode" ∷ []) []
    (record (child (codes "jcr:content") (codes "nt:base")) { mandatory = true } ∷ []))
    { primary_item = Some (codes "jcr:content") }
    ∷ record (primary (codes "nt:resource") (codes "mix:mimeType" ∷ codes "mix:lastModified" ∷ [])
    (record (prop (codes "jcr:data") kind.Binary) { mandatory = true } ∷ []) [])
    { primary_item = Some (codes "jcr:data") }
    ∷ primary (codes "nt:frozenNode") []
    (record (prop (codes "jcr:frozenPrimaryType") kind.Name) { protected = true }
    ∷ record (prop (codes "jcr:frozenMixinTypes") kind.Name) { protected = true; multiple = true }
    ∷ record (prop (codes "jcr:frozenUuid") kind.Str) { protected = true }
    ∷ record any_list { protected = true }
    ∷ record any_prop { protected = true }
    ∷ [])
    (record (any_child (codes "nt:frozenNode")) { protected = true } ∷ [])
    ∷ primary (codes "nt:version") (codes "mix:referenceable" ∷ [])
    (record (prop (codes "jcr:created") kind.Date) { protected = true }
    ∷ record (prop (codes "jcr:predecessors") kind.Reference) { protected = true; multiple = true }
    ∷ record (prop (codes "jcr:successors") kind.Reference) { protected = true; multiple = true }
    ∷ [])
    (record (child (codes "jcr:frozenNode") (codes "nt:frozenNode")) { protected = true } ∷ [])
    ∷ primary (codes "nt:versionLabels") []
    (record any_prop { kind = Some kind.Reference; protected = true } ∷ []) []
    ∷ primary (codes "nt:versionHistory") (codes "mix:referenceable" ∷ [])
    (record (prop (codes "jcr:versionableUuid") kind.Str) { protected = true } ∷ [])
    (record (child (codes "jcr:rootVersion") (codes "nt:version"))
    { mandatory = true; protected = true }
    ∷ record (child (codes "jcr:versionLabels") (codes "nt:versionLabels"))
    { mandatory = true; protected = true }
    ∷ record (any_child (codes "nt:version")) { protected = true }
    ∷ [])
    ∷ primary (codes "rep:versionStorage") [] []
    (record (any_child (codes "nt:versionHistory")) { protected = true } ∷ [])
    ∷ primary (codes "rep:system") [] []
    (record (child (codes "jcr:versionStorage") (codes "rep:versionStorage"))
    { mandatory = true; protected = true } ∷ [])
    ∷ []
