-- What is printed is read back.
use Rattle.std.proofs.Common.{◌≡◌, ◌<◌, ◌^◌, List, [], ◌∷◌, Some, None, refl, sym, ap, arith, pos, negsuc, ℤ, Bool}
use Rattle.std.proofs.lemmas.Bool.{lt-ltb}
use Rattle.std.proofs.lemmas.Int.{ints}
use Rattle.std.specs.Prelude.{option_map, FitsSigned, if◌then◌else◌}
use Rattle.std.specs.Int.{w64}
use Rattle.serde_json.specs.Find.{as_i64}
use Rattle.jr_value.specs.Ranges.{IsReadable, AreOfKind, IsReadableProperty}
use Rattle.jr_value.specs.declared.value.Kind.{Kind}
use Rattle.jr_value.specs.declared.value.Value.{Value}
use Rattle.jr_value.specs.declared.value.Value.TheVariants as value
use Rattle.jr_value.specs.declared.value.Property.{Property}
use Rattle.jr_value.specs.declared.value.Property.TheVariants.{Single, Many}
use Rattle.jr_value.proofs.Named.{identifier_back}
use Rattle.jr_json.specs.Json.{whole_number, value_data, value_items, property_data}
use Rattle.jr_json.specs.Reading.{IsValueJson, AreValuesJson, IsPropertyJson}

whole_back : (n : ℤ) → FitsSigned w64 n → as_i64 (whole_number n) ≡ Some n
whole_back (pos n) fits =
    let small : n < 2 ^ 63 = grind (arith, ints, fits) in
    ap (λ (b : Bool). if b then Some (pos n) else None) (lt-ltb n (2 ^ 63) small)
whole_back (negsuc n) fits = refl

value_back : (x : Value) → IsReadable x → IsValueJson (value_data x) x
value_back (value.Str t) h = refl
value_back (value.Binary bytes) h = (bytes, h, refl, refl)
value_back (value.Long n) h = sym (ap (option_map value.Long) (whole_back n h))
value_back (value.Date n) h = sym (ap (option_map value.Date) (whole_back n h))
value_back (value.Boolean b) h = refl
value_back (value.Name n) h = (h, refl)
value_back (value.Path p) h = (p, h, refl)
value_back (value.Reference id) h = sym (ap (option_map value.Reference) (identifier_back id h))
value_back (value.WeakReference id) h = sym (ap (option_map value.WeakReference) (identifier_back id h))
value_back (value.Uri t) h = refl

values_back : (k : Kind) (xs : List Value) → AreOfKind k xs → AreValuesJson (value_items xs) k xs
values_back k [] h = tt
values_back k (x ∷ xs) h = (value_back x h.0, h.1, values_back k xs h.2)

pub property_back : (p : Property) → IsReadableProperty p → IsPropertyJson (property_data p) p
property_back (Single x) h = value_back x h
property_back (Many k []) h = refl
property_back (Many k (x ∷ xs)) h = values_back k (x ∷ xs) h
