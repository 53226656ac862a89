-- Which text is a value of a kind.
use Rattle.std.specs.Prelude.{◌≡◌, ◌≢◌, ◌≤◌, ℕ, ℤ, Bool, true, false, List, Option, None, Some, length}
use Rattle.std.specs.Prelude.{option_map, if◌then◌else◌, FitsSigned, bytes_eq, codes, slice_index}
use Rattle.std.specs.Int.{w64}
use Rattle.std.specs.Str.Parse.{IsNumeral, signed_digits_value, without_leading_sign}
use Rattle.base64.specs.Engines.{standard}
use Rattle.base64.specs.GeneralPurpose.{encode_of, IsBytes}
use Rattle.jr_path.specs.Grammar.{IsName}
use Rattle.jr_path.specs.Paths.{IsPath}
use Rattle.jr_value.specs.Words.{identifier_named}
use Rattle.jr_value.specs.declared.value.Kind.{Kind}
use Rattle.jr_value.specs.declared.value.Kind.TheVariants as kind
use Rattle.jr_value.specs.declared.value.Value.{Value}
use Rattle.jr_value.specs.declared.value.Value.TheVariants as value

-- a value of which the fact holds, or none where it holds of no value
abbrev pub IsFound : (Value → Type 0) → Option Value → Type 0
IsFound P None = (x : Value) → ¬ P x
IsFound P (Some x) = P x

-- the text is that of the path, which has at most 64 names and 1,024 bytes
abbrev pub IsPathWithin : List ℕ → List (List ℕ) → Type 0
IsPathWithin text path = IsPath text path × (length path ≤ 64) × (length text ≤ 1024)

-- decimal digits with `-` before them or not, and no `+` (43), that write a number of 64 bits
pub record IsWholeNumber (text : List ℕ) (n : ℤ) : Type 0 where
  pub no_plus : slice_index text 0 ≢ 43
  pub digits : IsNumeral 10 (without_leading_sign text)
  pub fits : FitsSigned w64 (signed_digits_value 10 text)
  pub is : n ≡ signed_digits_value 10 text

-- the truth value of `true` or `false`
abbrev pub boolean_named : List ℕ → Option Bool
boolean_named text =
    if bytes_eq text (codes "true") then Some true
    else (if bytes_eq text (codes "false") then Some false else None)

-- The text is a value of the kind: any text of STRING and URI; a whole number of LONG and DATE, here in milliseconds;
-- `true` and `false` of BOOLEAN; Base64 with padding of BINARY; a name; a path; a hyphenated identifier.
abbrev pub IsText : Kind → List ℕ → Value → Type 0
IsText kind.Str text x = x ≡ value.Str text
IsText kind.Long text x = (n : ℤ) × IsWholeNumber text n × (x ≡ value.Long n)
IsText kind.Date text x = (n : ℤ) × IsWholeNumber text n × (x ≡ value.Date n)
IsText kind.Boolean text x = Some x ≡ option_map value.Boolean (boolean_named text)
IsText kind.Binary text x =
    (bytes : List ℕ) × IsBytes bytes × (text ≡ encode_of standard bytes) × (x ≡ value.Binary bytes)
IsText kind.Name text x = IsName text × (x ≡ value.Name text)
IsText kind.Path text x = (path : List (List ℕ)) × IsPathWithin text path × (x ≡ value.Path path)
IsText kind.Reference text x = Some x ≡ option_map value.Reference (identifier_named text)
IsText kind.WeakReference text x = Some x ≡ option_map value.WeakReference (identifier_named text)
IsText kind.Uri text x = x ≡ value.Uri text
