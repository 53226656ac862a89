-- The text that is printed of a value is that value again.
use Rattle.std.proofs.Common.{◌≡◌, ◌∙◌, ℕ, suc, ◌<◌, ◌≤◌, ◌^◌, ◌==◌, Bool, true, false, List, [], ◌∷◌, ap, arith, eq-eqb, eqb-true, pos, negsuc, ℤ, refl, subst, sym}
use Rattle.std.specs.Prelude.{FitsSigned, neg_ℤ, option_map, slice_index}
use Rattle.std.specs.Char.{digit_value}
use Rattle.std.specs.Fmt.{decimal, signed_decimal}
use Rattle.std.specs.Int.{w64}
use Rattle.std.specs.Str.Parse.{IsNumeral, digits_value, signed_digits_value, without_leading_sign}
use Rattle.std.proofs.lemmas.Bool.{true≢false}
use Rattle.std.proofs.lemmas.Fmt.{decimal_is_IsNumeral}
use Rattle.std.proofs.lemmas.Int.{ints}
use Rattle.jr_value.specs.declared.value.Value.{Value}
use Rattle.jr_value.specs.declared.value.Value.TheVariants as value
use Rattle.jr_value.specs.Ranges.{IsReadable}
use Rattle.jr_value.specs.Texts.{IsText, IsWholeNumber}
use Rattle.jr_value.specs.Values.{kind_of}
use Rattle.jr_value.proofs.Named.{identifier_back}
use Rattle.cnd_print.specs.Printing.{value_text}

not_sign : (c s : ℕ) (x : Bool) → (c == s) ≡ x → digit_value c < 10 → 10 ≤ digit_value s → (c == s) ≡ false
not_sign c s true p low high =
    let same : digit_value c ≡ digit_value s = ap digit_value (eqb-true c s p) in
    absurd (omega (arith, same, low, high))
not_sign c s false p low high = p

-- a numeral begins with no sign
no_sign : (ds : List ℕ) → IsNumeral 10 ds → ((slice_index ds 0 == 43) ≡ false) × ((slice_index ds 0 == 45) ≡ false)
no_sign [] h = let none = h.0 in absurd (omega arith)
no_sign (c ∷ cs) h =
    (not_sign c 43 (c == 43) refl h.1.0 (omega arith), not_sign c 45 (c == 45) refl h.1.0 (omega arith))

unsigned : (bs : List ℕ) → (slice_index bs 0 == 43) ≡ false → (slice_index bs 0 == 45) ≡ false → without_leading_sign bs ≡ bs
unsigned bs p q = rw (q, p) refl

value_unsigned : (bs : List ℕ) → (slice_index bs 0 == 43) ≡ false → (slice_index bs 0 == 45) ≡ false → signed_digits_value 10 bs ≡ pos (digits_value 10 bs)
value_unsigned bs p q = rw (q, p) refl

whole : (n : ℤ) → FitsSigned w64 n → IsWholeNumber (signed_decimal n) n
whole (pos n) fits =
    let small : n < 2 ^ 64 = grind (arith, ints, fits) in
    let numeral = decimal_is_IsNumeral n small in
    let signs = no_sign (decimal n) numeral.0 in
    let is : pos n ≡ signed_digits_value 10 (decimal n) = ap pos (sym numeral.1) ∙ sym (value_unsigned (decimal n) signs.0 signs.1) in
    record {
      no_plus = λ plus. true≢false (sym (eq-eqb _ 43 plus) ∙ signs.0);
      digits = subst (IsNumeral 10) (sym (unsigned (decimal n) signs.0 signs.1)) numeral.0;
      fits = subst (FitsSigned w64) is fits;
      is = is;
    }
whole (negsuc n) fits =
    let small : suc n < 2 ^ 64 = grind (arith, ints, fits) in
    let numeral = decimal_is_IsNumeral (suc n) small in
    let is : negsuc n ≡ signed_digits_value 10 (45 ∷ decimal (suc n)) = ap (λ k. neg_ℤ (pos k)) (sym numeral.1) in
    record {
      no_plus = λ plus. omega (arith, plus);
      digits = numeral.0;
      fits = subst (FitsSigned w64) is fits;
      is = is;
    }

pub value_back : (v : Value) → IsReadable v → IsText (kind_of v) (value_text v) v
value_back (value.Str t) h = refl
value_back (value.Binary bytes) h = (bytes, h, refl, refl)
value_back (value.Long n) h = (n, whole n h, refl)
value_back (value.Date n) h = (n, whole n h, refl)
value_back (value.Boolean true) h = refl
value_back (value.Boolean false) h = refl
value_back (value.Name n) h = (h, refl)
value_back (value.Path p) h = (p, h, refl)
value_back (value.Reference id) h = sym (ap (option_map value.Reference) (identifier_back id h))
value_back (value.WeakReference id) h = sym (ap (option_map value.WeakReference) (identifier_back id h))
value_back (value.Uri t) h = refl
