-- The texts of values, their lengths, and their letters in one case.
use Rattle.std.specs.Prelude.{ℕ, ◌+◌, pos, true, false, ◌==◌, List, drop, map, length, codes}
use Rattle.std.specs.Char.{to_ascii_lowercase, to_ascii_uppercase}
use Rattle.std.specs.Fmt.{signed_decimal}
use Rattle.std.specs.List.{position}
use Rattle.std.specs.Option.{option_map_or}
use Rattle.std.specs.Str.{chars}
use Rattle.jr_path.specs.Ids.{path_text}
use Rattle.jr_value.specs.Words.{identifier_text}
use Rattle.jr_value.specs.declared.value.Kind.TheVariants as kind
use Rattle.jr_value.specs.declared.value.Value.{Value}
use Rattle.jr_value.specs.declared.value.Value.TheVariants as value
use Rattle.jr_value.specs.declared.value.Property.{Property}
use Rattle.jr_value.specs.declared.value.Property.TheVariants.{Single, Many}
use Rattle.sql_values.specs.declared.characters.Case.{Case}
use Rattle.sql_values.specs.declared.characters.Case.TheVariants.{Lower, Upper}

-- the text of a value: a number or a truth value as it is printed, an identifier with its hyphens; of a BINARY its bytes
abbrev pub text_of : Value → List ℕ
text_of (value.Str t) = t
text_of (value.Binary bytes) = bytes
text_of (value.Long n) = signed_decimal n
text_of (value.Date n) = signed_decimal n
text_of (value.Boolean true) = codes "true"
text_of (value.Boolean false) = codes "false"
text_of (value.Name n) = n
text_of (value.Path p) = path_text p
text_of (value.Reference id) = identifier_text id
text_of (value.WeakReference id) = identifier_text id
text_of (value.Uri t) = t

-- the bytes of a BINARY, and the characters of every other value's text
abbrev pub size_of : Value → ℕ
size_of (value.Binary bytes) = length bytes
size_of x = length (chars (text_of x))

-- the size of each value, as a LONG
abbrev pub long_of : ℕ → Value
long_of n = value.Long (pos n)

-- the LENGTH of a property: in the place of each value its size, as a LONG
abbrev pub lengths_of : Property → Property
lengths_of (Single x) = Single (long_of (size_of x))
lengths_of (Many k xs) = Many kind.Long (map (λ x. long_of (size_of x)) xs)

-- a value with each character of its text changed; only a STRING, NAME, PATH or URI changes
abbrev pub with_characters : (ℕ → ℕ) → Value → Value
with_characters f (value.Str t) = value.Str (map f t)
with_characters f (value.Name n) = value.Name (map f n)
with_characters f (value.Path p) = value.Path (map (map f) p)
with_characters f (value.Uri t) = value.Uri (map f t)
with_characters f x = x

-- each value of a property changed so
abbrev pub in_case : (ℕ → ℕ) → Property → Property
in_case f (Single x) = Single (with_characters f x)
in_case f (Many k xs) = Many k (map (with_characters f) xs)

-- a character with the letters of ASCII small, or big
abbrev pub cased : Case → ℕ → ℕ
cased Lower = to_ascii_lowercase
cased Upper = to_ascii_uppercase

-- the part of a name behind its colon (58), or the name where it has none
abbrev pub local_part : List ℕ → List ℕ
local_part n = option_map_or (λ k. drop (k + 1) n) (position (λ c. c == 58) n) n
