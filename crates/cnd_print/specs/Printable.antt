-- What texts of the grammar can say, and so what is printed as one.
use Rattle.std.specs.Prelude.{◌≡◌, ◌≢◌, false, List, [], ◌∷◌, ◌++◌, None, IfSome, IsUtf8}
use Rattle.std.specs.List.{AllByRecursion}
use Rattle.jr_path.specs.Grammar.{IsName, OneOrMore, is_prefix_character}
use Rattle.jr_value.specs.Ranges.{IsReadable}
use Rattle.jr_value.specs.Values.{kind_of}
use Rattle.jr_value.specs.declared.value.Kind.{Kind}
use Rattle.jr_value.specs.declared.value.Value.{Value}
use Rattle.jr_items.specs.Items.{same_name}
use Rattle.jr_items.specs.Names.{base_type}
use Rattle.jr_builtin.specs.Builtin.{builtin}
use Rattle.jr_types.specs.Rules.{type_fault}
use Rattle.jr_types.specs.declared.PropDef.{PropDef}
use Rattle.jr_types.specs.declared.ChildDef.{ChildDef}
use Rattle.jr_types.specs.declared.TypeDef.{TypeDef}
use Rattle.cnd_pieces.specs.Pieces.{default_kind}
use Rattle.cnd_print.specs.Printing.{value_text}
use Rattle.jr_cnd.specs.declared.cnd.Cnd.{Cnd}
use Rattle.jr_cnd.specs.declared.cnd.Prefix.{Prefix}

-- a prefix of the grammar, and a text
pub record IsPrintablePrefix (p : Prefix) : Type 0 where
  pub prefix : OneOrMore is_prefix_character p.prefix
  pub uri : IsUtf8 p.uri

-- a value of the kind, in the range of its kind, with a text
pub record IsPrintableValue (k : Kind) (v : Value) : Type 0 where
  pub kind : kind_of v ≡ k
  pub range : IsReadable v
  pub text : IsUtf8 (value_text v)

-- a name, or `*`; defaults of the property's kind; constraints that are texts
pub record IsPrintableProp (p : PropDef) : Type 0 where
  pub name : IfSome p.name IsName
  pub defaults : AllByRecursion (IsPrintableValue (default_kind p.kind)) p.defaults
  pub constraints : AllByRecursion IsUtf8 p.constraints

-- a name, or `*`; one type or more
pub record IsPrintableChild (c : ChildDef) : Type 0 where
  pub name : IfSome c.name IsName
  pub some_type : c.types ≢ []
  pub types : AllByRecursion IsName c.types
  pub default_type : IfSome c.default_type IsName

-- names, with `nt:base` among the supertypes of no type but a mixin, and properties and children that can be printed
pub record IsPrintableType (d : TypeDef) : Type 0 where
  pub name : IsName d.name
  pub supertypes : AllByRecursion IsName d.supertypes
  pub no_base : d.mixin ≡ false → AllByRecursion (λ n. same_name n base_type ≡ false) d.supertypes
  pub primary_item : IfSome d.primary_item IsName
  pub props : AllByRecursion IsPrintableProp d.props
  pub children : AllByRecursion IsPrintableChild d.children

-- the definitions keep the rules of the registry, each over these types and the definitions before it
abbrev pub KeepRules : List TypeDef → List TypeDef → Type 0
KeepRules types [] = Unit {0}
KeepRules types (d ∷ ds) = (type_fault types d ≡ None) × KeepRules (types ++ d ∷ []) ds

-- prefixes and definitions as a text of the grammar can say them, which keep the rules of the registry
pub record IsPrintable (c : Cnd) : Type 0 where
  pub prefixes : AllByRecursion IsPrintablePrefix c.prefixes
  pub definitions : AllByRecursion IsPrintableType c.definitions
  pub rules : KeepRules builtin c.definitions
