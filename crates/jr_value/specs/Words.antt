-- The words of kinds, and the texts of identifiers.
use Rattle.std.specs.Prelude.{ℕ, List, [], ◌∷◌, Option, find, option_map, codes}
use Rattle.std.specs.Int.{from_be_bytes, to_be_bytes, w128}
use Rattle.std.specs.Str.{bytes_eq}
use Rattle.uuid.specs.Text.{hyphenated_text, lower, parsed_hyphenated}
use Rattle.jr_value.specs.declared.value.Kind.{Kind}
use Rattle.jr_value.specs.declared.value.Kind.TheVariants as kind

-- the word for a kind
abbrev pub kind_text : Kind → List ℕ
kind_text kind.Str = codes "string"
kind_text kind.Binary = codes "binary"
kind_text kind.Long = codes "long"
kind_text kind.Date = codes "date"
kind_text kind.Boolean = codes "boolean"
kind_text kind.Name = codes "name"
kind_text kind.Path = codes "path"
kind_text kind.Reference = codes "reference"
kind_text kind.WeakReference = codes "weakreference"
kind_text kind.Uri = codes "uri"

-- all kinds
abbrev pub all_kinds : List Kind
all_kinds = kind.Str ∷ kind.Binary ∷ kind.Long ∷ kind.Date ∷ kind.Boolean ∷ kind.Name ∷ kind.Path ∷ kind.Reference ∷ kind.WeakReference ∷ kind.Uri ∷ []

-- the kind among these that has this word
abbrev pub kind_named : List Kind → List ℕ → Option Kind
kind_named kinds word = find (λ k. bytes_eq (kind_text k) word) kinds

-- the hyphenated text of an identifier, in lower case
abbrev pub identifier_text : ℕ → List ℕ
identifier_text id = hyphenated_text lower (to_be_bytes w128 id)

-- the identifier of a hyphenated text, in either case of its digits
abbrev pub identifier_named : List ℕ → Option ℕ
identifier_named text = option_map (from_be_bytes w128) (parsed_hyphenated text)
