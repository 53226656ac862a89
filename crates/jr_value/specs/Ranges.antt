-- Which values and properties are in the range of their kind.
use Rattle.std.specs.Prelude.{◌≡◌, ◌<◌, ◌^◌, List, [], ◌∷◌, FitsSigned}
use Rattle.std.specs.Int.{w64}
use Rattle.base64.specs.GeneralPurpose.{IsBytes}
use Rattle.jr_path.specs.Grammar.{IsName}
use Rattle.jr_path.specs.Ids.{path_text}
use Rattle.jr_value.specs.Texts.{IsPathWithin}
use Rattle.jr_value.specs.Values.{kind_of}
use Rattle.jr_value.specs.declared.value.Kind.{Kind}
use Rattle.jr_value.specs.declared.value.Value.{Value}
use Rattle.jr_value.specs.declared.value.Value.TheVariants as value
use Rattle.jr_value.specs.declared.value.Property.{Property}
use Rattle.jr_value.specs.declared.value.Property.TheVariants.{Single, Many}

-- the value is in the range of its kind: bytes below 256, numbers of 64 bits, names and paths of the grammar,
-- identifiers of 128 bits
abbrev pub IsReadable : Value → Type 0
IsReadable (value.Binary bytes) = IsBytes bytes
IsReadable (value.Long n) = FitsSigned w64 n
IsReadable (value.Date n) = FitsSigned w64 n
IsReadable (value.Name name) = IsName name
IsReadable (value.Path path) = IsPathWithin (path_text path) path
IsReadable (value.Reference id) = id < 2 ^ 128
IsReadable (value.WeakReference id) = id < 2 ^ 128
IsReadable x = Unit {0}

-- each of some values is in range and of the kind
abbrev pub AreOfKind : Kind → List Value → Type 0
AreOfKind k [] = Unit {0}
AreOfKind k (x ∷ xs) = IsReadable x × (kind_of x ≡ k) × AreOfKind k xs

-- its values are in range, and all of the kind that it names
abbrev pub IsReadableProperty : Property → Type 0
IsReadableProperty (Single x) = IsReadable x
IsReadableProperty (Many k xs) = AreOfKind k xs
