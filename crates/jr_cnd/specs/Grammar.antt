-- The grammar of type definitions, part by part: what each reads, and where it fails.
use Rattle.std.specs.Prelude.{ℕ, Bool, true, false, ◌&&◌, ◌||◌, not, List, [], ◌∷◌, ◌++◌, Option, None, Some, is_some, is_none, unwrap_or, Ok, if◌then◌else◌}
use Rattle.std.specs.List.{filter}
use Rattle.jr_path.specs.declared.name.Name.{Name}
use Rattle.jr_value.specs.declared.value.Kind.{Kind}
use Rattle.jr_value.specs.declared.value.Kind.TheVariants as kind
use Rattle.jr_value.specs.declared.value.Value.{Value}
use Rattle.jr_items.specs.Items.{same_name}
use Rattle.jr_items.specs.Names.{base_type}
use Rattle.jr_types.specs.declared.OnParentVersion.{OnParentVersion}
use Rattle.jr_types.specs.declared.OnParentVersion.TheVariants as opv
use Rattle.jr_types.specs.declared.PropDef.{PropDef}
use Rattle.jr_types.specs.declared.ChildDef.{ChildDef}
use Rattle.jr_types.specs.declared.TypeDef.{TypeDef}
use Rattle.jr_cnd.specs.Reading.{◌>>=◌, State, Read, after, bare_first, behind, many, name_at, no_pieces, place, required, sign_at, sign_first, text_at}
use Rattle.cnd_pieces.specs.Words.{is_prefix, cnd_kind_named}
use Rattle.jr_cnd.specs.Words.{item_word, type_word}
use Rattle.cnd_pieces.specs.declared.piece.Placed.{Placed}
use Rattle.cnd_pieces.specs.declared.piece.Says.{Says}
use Rattle.cnd_pieces.specs.declared.piece.Says.TheVariants as says
use Rattle.cnd_pieces.specs.declared.piece.Sign.TheVariants as sign
use Rattle.jr_cnd.specs.declared.words.TypeWord.{TypeWord}
use Rattle.jr_cnd.specs.declared.words.TypeWord.TheVariants as type
use Rattle.jr_cnd.specs.declared.words.ItemWord.{ItemWord}
use Rattle.jr_cnd.specs.declared.words.ItemWord.TheVariants as item
use Rattle.jr_cnd.specs.declared.types.TypeAttributes.{TypeAttributes}
use Rattle.jr_cnd.specs.declared.types.Items.{Items}
use Rattle.jr_cnd.specs.declared.attributes.ItemAttributes.{ItemAttributes}
use Rattle.jr_cnd.specs.declared.cnd.Prefix.{Prefix}
use Rattle.jr_cnd.specs.declared.file.File.{File}

-- ---- lists of names and of texts

-- a further name, behind its comma
abbrev pub name_more : List Name → State → Read (List Name)
name_more names s = do
  n ← name_at (after s)
  Ok (names ++ n.0 ∷ [], n.1)

-- the first of names
abbrev pub first_name : State → Read (List Name)
first_name s = do
  n ← name_at s
  Ok (n.0 ∷ [], n.1)

-- another follows, behind a comma
abbrev pub comma_first : {X : Type 0} → X → List Placed → Bool
comma_first _ ps = sign_first sign.Comma ps

-- name {, name}
abbrev pub names_at : State → Read (List Name)
names_at s = do
  n ← first_name s
  many comma_first name_more n.1.pieces n.0 n.1

-- a further text, behind its comma
abbrev pub text_more : List (List ℕ) → State → Read (List (List ℕ))
text_more texts s = do
  t ← text_at (after s)
  Ok (texts ++ t.0 ∷ [], t.1)

-- the first of texts
abbrev pub first_text : State → Read (List (List ℕ))
first_text s = do
  t ← text_at s
  Ok (t.0 ∷ [], t.1)

-- text {, text}
abbrev pub texts_at : State → Read (List (List ℕ))
texts_at s = do
  t ← first_text s
  many comma_first text_more t.1.pieces t.0 t.1

-- ---- the parts that properties and children share

-- name, or `*` for any other
abbrev pub item_name_at : State → Read (Option Name)
item_name_at s =
    if sign_first sign.Star s.pieces then Ok (None, after s)
    else (name_at s >>= λ n. Ok (Some n.0, n.1))

-- the attribute of an item that a token is
abbrev pub item_word_in : Says → Option ItemWord
item_word_in (says.Name word) = item_word word
item_word_in (says.Sign sign.Star) = Some item.Multiple
item_word_in _ = None

-- The attribute may stand behind those that were read: each stands once, one of those that a check-in asks for, and
-- `multiple` is a property's alone.
abbrev pub may_add : Bool → ItemAttributes → ItemWord → Bool
may_add of_property a item.Mandatory = not a.mandatory
may_add of_property a item.Autocreated = not a.autocreated
may_add of_property a item.Protected = not a.protected
may_add of_property a item.Multiple = of_property && not a.multiple
may_add of_property a (item.Opv o) = is_none a.opv

-- with this attribute besides
abbrev pub with_item_word : ItemAttributes → ItemWord → ItemAttributes
with_item_word a item.Mandatory = record a { mandatory = true }
with_item_word a item.Autocreated = record a { autocreated = true }
with_item_word a item.Protected = record a { protected = true }
with_item_word a item.Multiple = record a { multiple = true }
with_item_word a (item.Opv o) = record a { opv = Some o }

-- the attribute, where it may stand behind those that were read
abbrev pub addable : Bool → ItemAttributes → Option ItemWord → Option ItemWord
addable of_property a None = None
addable of_property a (Some w) = if may_add of_property a w then Some w else None

-- the attribute that comes next, where it may stand
abbrev pub item_word_first : Bool → ItemAttributes → List Placed → Option ItemWord
item_word_first of_property a [] = None
item_word_first of_property a (p ∷ ps) = addable of_property a (item_word_in p.says)

-- a further attribute comes next
abbrev pub item_attribute_first : Bool → ItemAttributes → List Placed → Bool
item_attribute_first of_property a ps = is_some (item_word_first of_property a ps)

-- a further attribute
abbrev pub item_attribute_more : Bool → ItemAttributes → State → Read ItemAttributes
item_attribute_more of_property a s = do
  w ← required (item_word_first of_property a s.pieces) (place s)
  Ok (with_item_word a w, after s)

-- before any attribute of an item
abbrev pub no_item_attributes : ItemAttributes
no_item_attributes = record {
  mandatory = false;
  autocreated = false;
  protected = false;
  multiple = false;
  opv = None;
}

-- {pattr}, {cattr}
abbrev pub item_attributes_at : Bool → State → Read ItemAttributes
item_attributes_at of_property s =
    many (item_attribute_first of_property) (item_attribute_more of_property) s.pieces
    no_item_attributes s

-- the attribute of what a check-in of the parent does; where none stands, COPY
abbrev pub opv_of : ItemAttributes → OnParentVersion
opv_of a = unwrap_or a.opv opv.Copy

-- ---- properties

-- the kind that a token is, `*` being `undefined`
abbrev pub kind_in : Says → Option (Option Kind)
kind_in (says.Name word) = cnd_kind_named word
kind_in (says.Sign sign.Star) = Some None
kind_in _ = None

-- the kind that the next token is
abbrev pub kind_first : List Placed → Option (Option Kind)
kind_first [] = None
kind_first (p ∷ ps) = kind_in p.says

-- kind ), behind `(`
abbrev pub kind_inside : State → Read (Option Kind)
kind_inside s = do
  k ← required (kind_first s.pieces) (place s)
  c ← sign_at sign.Close (after s)
  Ok (k, c.1)

-- [(kind)]; without it STRING
abbrev pub kind_at : State → Read (Option Kind)
kind_at s = if sign_first sign.Open s.pieces then kind_inside (after s) else Ok (Some kind.Str, s)

-- the value that a text is, of the property's kind
abbrev pub value_in : Says → Option Value
value_in (says.Quoted text name value) = value
value_in _ = None

-- the value that the next token is
abbrev pub value_first : List Placed → Option Value
value_first [] = None
value_first (p ∷ ps) = value_in p.says

-- a default
abbrev pub value_at : State → Read Value
value_at s = do
  v ← required (value_first s.pieces) (place s)
  Ok (v, after s)

-- a further default, behind its comma
abbrev pub value_more : List Value → State → Read (List Value)
value_more values s = do
  v ← value_at (after s)
  Ok (values ++ v.0 ∷ [], v.1)

-- the first of defaults
abbrev pub first_value : State → Read (List Value)
first_value s = do
  v ← value_at s
  Ok (v.0 ∷ [], v.1)

-- text {, text}, as defaults
abbrev pub values_at : State → Read (List Value)
values_at s = do
  v ← first_value s
  many comma_first value_more v.1.pieces v.0 v.1

-- [= text {, text}]
abbrev pub defaults_at : State → Read (List Value)
defaults_at s = if sign_first sign.Equal s.pieces then values_at (after s) else Ok ([], s)

-- `<` begins constraints where no bare token follows it, that is, no prefix
abbrev pub constraints_first : List Placed → Bool
constraints_first ps = sign_first sign.Less ps && is_none (bare_first (behind ps))

-- [< text {, text}]
abbrev pub constraints_at : State → Read (List (List ℕ))
constraints_at s = if constraints_first s.pieces then texts_at (after s) else Ok ([], s)

-- prop = - name [(kind)] [= text {, text}] {pattr} [< text {, text}], behind `-`
abbrev pub prop_at : State → Read PropDef
prop_at s = do
  n ← item_name_at s
  k ← kind_at n.1
  d ← defaults_at k.1
  a ← item_attributes_at true d.1
  c ← constraints_at a.1
  Ok (
    record {
      name = n.0;
      kind = k.0;
      mandatory = a.0.mandatory;
      autocreated = a.0.autocreated;
      protected = a.0.protected;
      multiple = a.0.multiple;
      defaults = d.0;
      constraints = c.0;
      opv = opv_of a.0;
    },
    c.1,
  )

-- ---- children

-- name {, name} ), behind `(`
abbrev pub types_inside : State → Read (List Name)
types_inside s = do
  n ← names_at s
  c ← sign_at sign.Close n.1
  Ok (n.0, c.1)

-- [(name {, name})]; without it `nt:base`
abbrev pub read_types : State → Read (List Name)
read_types s = if sign_first sign.Open s.pieces then types_inside (after s) else Ok (base_type ∷ [], s)

-- [= name]
abbrev pub default_type_at : State → Read (Option Name)
default_type_at s =
    if sign_first sign.Equal s.pieces then (name_at (after s) >>= λ n. Ok (Some n.0, n.1))
    else Ok (None, s)

-- child = + name [(name {, name})] [= name] {cattr}, behind `+`
abbrev pub read_child : State → Read ChildDef
read_child s = do
  n ← item_name_at s
  t ← read_types n.1
  d ← default_type_at t.1
  a ← item_attributes_at false d.1
  Ok (
    record {
      name = n.0;
      types = t.0;
      default_type = d.0;
      mandatory = a.0.mandatory;
      autocreated = a.0.autocreated;
      protected = a.0.protected;
      opv = opv_of a.0;
    },
    a.1,
  )

-- ---- types

-- `-` begins a property, `+` a child
abbrev pub begins_item : List Placed → Bool
begins_item ps = sign_first sign.Minus ps || sign_first sign.Plus ps

-- a further item comes next
abbrev pub item_first : Items → List Placed → Bool
item_first _ ps = begins_item ps

-- a further property
abbrev pub prop_more : Items → State → Read Items
prop_more items s = do
  p ← prop_at (after s)
  Ok (record { props = items.props ++ p.0 ∷ []; children = items.children }, p.1)

-- a further child
abbrev pub child_more : Items → State → Read Items
child_more items s = do
  c ← read_child (after s)
  Ok (record { props = items.props; children = items.children ++ c.0 ∷ [] }, c.1)

-- a further property or child
abbrev pub item_more : Items → State → Read Items
item_more items s = if sign_first sign.Minus s.pieces then prop_more items s else child_more items s

-- {prop | child}
abbrev pub read_items : State → Read Items
read_items s = many item_first item_more s.pieces (record { props = []; children = [] }) s

-- the attribute of a type that a token is
abbrev pub type_word_in : Says → Option TypeWord
type_word_in (says.Name word) = type_word word
type_word_in (says.Sign sign.Bang) = Some type.PrimaryItem
type_word_in _ = None

-- the attribute isn't among those that were read
abbrev pub lacks : TypeAttributes → TypeWord → Bool
lacks a type.Mixin = not a.mixin
lacks a type.Abstract = not a.is_abstract
lacks a type.Orderable = not a.orderable
lacks a type.PrimaryItem = is_none a.primary_item

-- the attribute, where it is not among those that were read
abbrev pub where_lacking : TypeAttributes → Option TypeWord → Option TypeWord
where_lacking a None = None
where_lacking a (Some w) = if lacks a w then Some w else None

-- the attribute that comes next, where it may stand: each stands once
abbrev pub type_word_first : TypeAttributes → List Placed → Option TypeWord
type_word_first a [] = None
type_word_first a (p ∷ ps) = where_lacking a (type_word_in p.says)

-- a further attribute of the type comes next
abbrev pub type_attribute_first : TypeAttributes → List Placed → Bool
type_attribute_first a ps = is_some (type_word_first a ps)

-- the name behind `primaryitem` or `!`
abbrev pub primary_item_at : TypeAttributes → State → Read TypeAttributes
primary_item_at a s = do
  n ← name_at s
  Ok (record a { primary_item = Some n.0 }, n.1)

-- with this attribute besides, and the name behind it where it has one
abbrev pub with_type_word : TypeAttributes → TypeWord → State → Read TypeAttributes
with_type_word a type.Mixin s = Ok (record a { mixin = true }, s)
with_type_word a type.Abstract s = Ok (record a { is_abstract = true }, s)
with_type_word a type.Orderable s = Ok (record a { orderable = true }, s)
with_type_word a type.PrimaryItem s = primary_item_at a s

-- a further attribute of the type
abbrev pub type_attribute_more : TypeAttributes → State → Read TypeAttributes
type_attribute_more a s = do
  w ← required (type_word_first a s.pieces) (place s)
  with_type_word a w (after s)

-- before any attribute of a type
abbrev pub no_type_attributes : TypeAttributes
no_type_attributes = record { mixin = false; is_abstract = false; orderable = false; primary_item = None }

-- {tattr}, with `primaryitem name | ! name`
abbrev pub type_attributes_at : State → Read TypeAttributes
type_attributes_at s = many type_attribute_first type_attribute_more s.pieces no_type_attributes s

-- [ name ]
abbrev pub type_name_at : State → Read Name
type_name_at s = do
  o ← sign_at sign.OpenSquare s
  n ← name_at o.1
  c ← sign_at sign.CloseSquare n.1
  Ok (n.0, c.1)

-- [> name {, name}]
abbrev pub supertypes_at : State → Read (List Name)
supertypes_at s = if sign_first sign.Greater s.pieces then names_at (after s) else Ok ([], s)

-- A type that is no mixin has `nt:base` as supertype without naming it: where it names it, that is dropped.
abbrev pub kept_supertypes : Bool → List Name → List Name
kept_supertypes mixin names = if mixin then names else filter (λ n. not (same_name n base_type)) names

-- type = [name] [> name {, name}] {tattr} {prop | child}
abbrev pub type_at : State → Read TypeDef
type_at s = do
  n ← type_name_at s
  u ← supertypes_at n.1
  a ← type_attributes_at u.1
  i ← read_items a.1
  Ok (
    record {
      name = n.0;
      supertypes = kept_supertypes a.0.mixin u.0;
      is_abstract = a.0.is_abstract;
      mixin = a.0.mixin;
      orderable = a.0.orderable;
      primary_item = a.0.primary_item;
      props = i.0.props;
      children = i.0.children;
    },
    i.1,
  )

-- ---- the whole text

-- the bare token, where it is a prefix
abbrev pub prefix_token : Option (List ℕ) → Option (List ℕ)
prefix_token None = None
prefix_token (Some t) = if is_prefix t then Some t else None

-- a prefix
abbrev pub prefix_name_at : State → Read (List ℕ)
prefix_name_at s = do
  p ← required (prefix_token (bare_first s.pieces)) (place s)
  Ok (p, after s)

-- < prefix = 'uri' >, behind `<`
abbrev pub prefix_at : State → Read Prefix
prefix_at s = do
  p ← prefix_name_at s
  e ← sign_at sign.Equal p.1
  u ← text_at e.1
  c ← sign_at sign.Greater u.1
  Ok (record { prefix = p.0; uri = u.0 }, c.1)

-- a further prefix
abbrev pub prefix_more : File → State → Read File
prefix_more file s = do
  p ← prefix_at (after s)
  Ok (record { prefixes = file.prefixes ++ p.0 ∷ []; types = file.types }, p.1)

-- a further type, with the offset of its `[`
abbrev pub type_more : File → State → Read File
type_more file s = do
  t ← type_at s
  Ok (
    record {
      prefixes = file.prefixes;
      types = file.types ++ record { start = place s; definition = t.0 } ∷ [];
    },
    t.1,
  )

-- a further prefix or type
abbrev pub file_more : File → State → Read File
file_more file s = if sign_first sign.Less s.pieces then prefix_more file s else type_more file s

-- something is left
abbrev pub has_more : File → List Placed → Bool
has_more _ ps = not (no_pieces ps)

-- file = { <prefix = 'uri'> | type }
abbrev pub file_at : State → Read File
file_at s = many has_more file_more s.pieces (record { prefixes = []; types = [] }) s
