-- The JSON of values, computed.
use Rattle.std.proofs.Common.{◌≡◌, ℕ, List, [], ◌∷◌, refl, negsuc}
use Rattle.std.specs.Prelude.{codes}
use Rattle.std.specs.Fmt.{digits}
use Rattle.serde_json.proofs.OnLiterals.{serde_json_on_literals}
use Rattle.serde_json.specs.Written.{compact_text}
use Rattle.base64.specs.Rfc4648.{encode_symbols}
use Rattle.uuid.specs.Text.{by_index}
use Rattle.jr_value.specs.declared.value.Property.{Property}
use Rattle.jr_value.specs.declared.value.Property.TheVariants.{Single, Many}
use Rattle.jr_value.specs.declared.value.Value.TheVariants as value
use Rattle.jr_value.specs.declared.value.Kind.TheVariants as kind
use Rattle.jr_json.specs.Json.{property_data}

abbrev text : Property → List ℕ
text x = compact_text (property_data x)

minus_five : text (Single (value.Long (negsuc 4))) ≡ codes "-5"
unfolding serde_json_on_literals digits
minus_five = refl

bytes : text (Single (value.Binary (codes "hi"))) ≡ codes "{\"binary\":\"aGk=\"}"
unfolding serde_json_on_literals digits encode_symbols
bytes = refl

reference : text (Single (value.Reference 302240678275694165229569)) ≡ codes "{\"reference\":\"00000000-0000-4000-8000-000001000001\"}"
unfolding serde_json_on_literals digits by_index
reference = refl

two : text (Many kind.Name (value.Name (codes "a") ∷ value.Name (codes "b") ∷ [])) ≡ codes "[{\"name\":\"a\"},{\"name\":\"b\"}]"
unfolding serde_json_on_literals digits
two = refl

none : text (Many kind.Long []) ≡ codes "{\"empty\":\"long\"}"
unfolding serde_json_on_literals digits
none = refl
