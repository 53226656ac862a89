-- The canonical text of type definitions.
use Rattle.std.specs.Prelude.{ℕ, Bool, true, false, ◌&&◌, ◌==◌, not, List, [], ◌∷◌, ◌++◌, Option, None, Some, if◌then◌else◌, codes, map}
use Rattle.std.specs.Char.{encode_utf8}
use Rattle.std.specs.Fmt.{signed_decimal}
use Rattle.std.specs.List.{flat_map, list_all}
use Rattle.base64.specs.Engines.{standard}
use Rattle.base64.specs.GeneralPurpose.{encode_of}
use Rattle.jr_path.specs.Ids.{path_text}
use Rattle.jr_path.specs.declared.name.Name.{Name}
use Rattle.jr_value.specs.Words.{identifier_text}
use Rattle.jr_value.specs.declared.value.Kind.{Kind}
use Rattle.jr_value.specs.declared.value.Kind.TheVariants as kind
use Rattle.jr_value.specs.declared.value.Value.{Value}
use Rattle.jr_value.specs.declared.value.Value.TheVariants as value
use Rattle.jr_types.specs.Attributes.{opv_text}
use Rattle.jr_types.specs.declared.OnParentVersion.{OnParentVersion}
use Rattle.jr_types.specs.declared.OnParentVersion.TheVariants as opv
use Rattle.jr_types.specs.declared.PropDef.{PropDef}
use Rattle.jr_types.specs.declared.ChildDef.{ChildDef}
use Rattle.jr_types.specs.declared.TypeDef.{TypeDef}
use Rattle.cnd_pieces.specs.Tokens.{is_bare}
use Rattle.jr_cnd.specs.declared.cnd.Cnd.{Cnd}
use Rattle.jr_cnd.specs.declared.cnd.Prefix.{Prefix}

-- ---- names and texts

-- a bare token stands for the name
abbrev pub is_bare_name : List ℕ → Bool
is_bare_name [] = false
is_bare_name (b ∷ bs) = not (b == 45) && list_all is_bare (b ∷ bs)

-- a quote (39) and a backslash (92) stand behind a backslash
abbrev pub escaped : ℕ → List ℕ
escaped byte = if byte == 39 then codes "\\'" else (if byte == 92 then codes "\\\\" else byte ∷ [])

-- a character in UTF-8, so written
abbrev pub escaped_character : ℕ → List ℕ
escaped_character c = if c == 39 then codes "\\'" else (if c == 92 then codes "\\\\" else encode_utf8 c)

-- a text in quotes
abbrev pub quoted : List ℕ → List ℕ
quoted text = codes "'" ++ flat_map escaped text ++ codes "'"

-- bare, where it can be
abbrev pub name_text : Name → List ℕ
name_text n = if is_bare_name n then n else quoted n

-- each behind a comma and a space
abbrev pub continued : List (List ℕ) → List ℕ
continued ts = flat_map (λ t. codes ", " ++ t) ts

-- one behind another, with a comma and a space between
abbrev pub with_commas : List (List ℕ) → List ℕ
with_commas [] = []
with_commas (t ∷ ts) = t ++ continued ts

-- a list behind a sign, or nothing
abbrev pub list_behind : List ℕ → List (List ℕ) → List ℕ
list_behind sign [] = []
list_behind sign (t ∷ ts) = sign ++ with_commas (t ∷ ts)

-- a word, where it is to stand
abbrev pub word_if : Bool → List ℕ → List ℕ
word_if true word = word
word_if false word = []

-- ---- items

-- a kind in capitals
abbrev pub kind_word : Option Kind → List ℕ
kind_word None = codes "undefined"
kind_word (Some kind.Str) = codes "STRING"
kind_word (Some kind.Binary) = codes "BINARY"
kind_word (Some kind.Long) = codes "LONG"
kind_word (Some kind.Date) = codes "DATE"
kind_word (Some kind.Boolean) = codes "BOOLEAN"
kind_word (Some kind.Name) = codes "NAME"
kind_word (Some kind.Path) = codes "PATH"
kind_word (Some kind.Reference) = codes "REFERENCE"
kind_word (Some kind.WeakReference) = codes "WEAKREFERENCE"
kind_word (Some kind.Uri) = codes "URI"

-- the text of a value
abbrev pub value_text : Value → List ℕ
value_text (value.Str t) = t
value_text (value.Binary bytes) = encode_of standard bytes
value_text (value.Long n) = signed_decimal n
value_text (value.Date n) = signed_decimal n
value_text (value.Boolean true) = codes "true"
value_text (value.Boolean false) = codes "false"
value_text (value.Name n) = n
value_text (value.Path p) = path_text p
value_text (value.Reference id) = identifier_text id
value_text (value.WeakReference id) = identifier_text id
value_text (value.Uri t) = t

-- the texts of defaults, each in quotes
abbrev pub default_texts : List Value → List (List ℕ)
default_texts values = map (λ v. quoted (value_text v)) values

-- the name of an item, `*` for any other
abbrev pub item_name_text : Option Name → List ℕ
item_name_text None = codes "*"
item_name_text (Some n) = name_text n

-- what a check-in of the parent does, where it isn't COPY
abbrev pub opv_part : OnParentVersion → List ℕ
opv_part opv.Copy = []
opv_part o = codes " " ++ opv_text o

-- - name (KIND)
abbrev pub prop_head : PropDef → List ℕ
prop_head p = codes "- " ++ item_name_text p.name ++ codes " (" ++ kind_word p.kind ++ codes ")"

-- the attributes of a property
abbrev pub prop_attributes : PropDef → List ℕ
prop_attributes p =
    word_if p.mandatory (codes " mandatory")
    ++ word_if p.autocreated (codes " autocreated")
    ++ word_if p.protected (codes " protected")
    ++ word_if p.multiple (codes " multiple")
    ++ opv_part p.opv

-- - name (KIND) = defaults attributes < constraints
abbrev pub prop_text : PropDef → List ℕ
prop_text p =
    prop_head p
    ++ list_behind (codes " = ") (default_texts p.defaults)
    ++ prop_attributes p
    ++ list_behind (codes " < ") (map quoted p.constraints)
    ++ codes "\n"

-- a name behind a word, or nothing
abbrev pub name_behind : List ℕ → Option Name → List ℕ
name_behind word None = []
name_behind word (Some n) = word ++ name_text n

-- + name (types)
abbrev pub child_head : ChildDef → List ℕ
child_head c =
    codes "+ " ++ item_name_text c.name
    ++ codes " (" ++ with_commas (map name_text c.types) ++ codes ")"

-- the attributes of a child
abbrev pub child_attributes : ChildDef → List ℕ
child_attributes c =
    word_if c.mandatory (codes " mandatory")
    ++ word_if c.autocreated (codes " autocreated")
    ++ word_if c.protected (codes " protected")
    ++ opv_part c.opv

-- + name (types) = default attributes
abbrev pub child_text : ChildDef → List ℕ
child_text c =
    child_head c ++ name_behind (codes " = ") c.default_type ++ child_attributes c ++ codes "\n"

-- ---- types and prefixes

-- [name] > supertypes
abbrev pub type_head : TypeDef → List ℕ
type_head d =
    codes "[" ++ name_text d.name ++ codes "]"
    ++ list_behind (codes " > ") (map name_text d.supertypes)

-- the attributes of a type
abbrev pub type_attributes : TypeDef → List ℕ
type_attributes d =
    word_if d.mixin (codes " mixin")
    ++ word_if d.is_abstract (codes " abstract")
    ++ word_if d.orderable (codes " orderable")
    ++ name_behind (codes " primaryitem ") d.primary_item

-- [name] > supertypes attributes
abbrev pub type_line : TypeDef → List ℕ
type_line d = type_head d ++ type_attributes d ++ codes "\n"

-- a type's line, its properties' and its children's
abbrev pub type_text : TypeDef → List ℕ
type_text d = type_line d ++ flat_map prop_text d.props ++ flat_map child_text d.children

-- <prefix = 'uri'>
abbrev pub prefix_text : Prefix → List ℕ
prefix_text p = codes "<" ++ p.prefix ++ codes " = " ++ quoted p.uri ++ codes ">\n"

-- the prefixes, then the definitions, each in order
abbrev pub cnd_text : Cnd → List ℕ
cnd_text c = flat_map prefix_text c.prefixes ++ flat_map type_text c.definitions
