-- A value that is read from a text is one that can be printed.
use Rattle.std.proofs.Common.{◌≡◌, ℕ, zero, suc, ◌+◌, ◌*◌, ◌<◌, ◌^◌, ◌==◌, Bool, true, false, List, [], ◌∷◌, Option, None, Some, arith, inl, length, pos, negsuc, ℤ, refl, subst, sym}
use Rattle.std.specs.Prelude.{◌&&◌, if◌then◌else◌, FitsSigned, IsUtf8, codes, option_map, slice_index}
use Rattle.std.specs.Fmt.{decimal, signed_decimal}
use Rattle.std.specs.Int.{from_be_bytes, to_be_bytes, w64, w128}
use Rattle.std.specs.List.{list_all}
use Rattle.std.proofs.lemmas.Bool.{eqb-true}
use Rattle.std.proofs.lemmas.Bool.Decides.{nat_tests}
use Rattle.std.proofs.lemmas.Fmt.{IsAscii-decimal}
use Rattle.std.proofs.lemmas.Int.{ints}
use Rattle.std.proofs.lemmas.Str.{IsUtf8-append, IsUtf8-from_ascii}
use Rattle.uuid.proofs.TextLemmas.{by_index_at, hyphenated_ascii}
use Rattle.uuid.specs.Text.{by_index, byte_of_digits, digits_of, has_hyphens, is_hex_digit, lower, parsed_hyphenated, parsed_simple, value_of}
use Rattle.basics.proofs.Bools.{first_of_both, second_of_both}
use Rattle.jr_path.proofs.OwnNames.{plain_name}
use Rattle.jr_value.specs.Words.{identifier_named, identifier_text}
use Rattle.jr_value.specs.Texts.{boolean_named, IsPathWithin, IsText, IsWholeNumber}
use Rattle.jr_value.specs.declared.value.Kind.{Kind}
use Rattle.jr_value.specs.declared.value.Kind.TheVariants as kind
use Rattle.jr_value.specs.declared.value.Value.{Value}
use Rattle.jr_value.specs.declared.value.Value.TheVariants as value
use Rattle.cnd_print.specs.Printable.{IsPrintableValue}
use Rattle.cnd_print.proofs.Steps.{ascii, name_utf8}

-- ---- identifiers

digit_small : (c : ℕ) → is_hex_digit c ≡ true → value_of c < 16
digit_small c h = grind (arith, nat_tests)

digit_at : (hex : List ℕ) (j : ℕ) → list_all is_hex_digit hex ≡ true → j < length hex → is_hex_digit (slice_index hex j) ≡ true
digit_at [] j h lt = absurd (omega (arith, lt))
digit_at (c ∷ cs) zero h lt = first_of_both (is_hex_digit c) (list_all is_hex_digit cs) h
digit_at (c ∷ cs) (suc j) h lt = digit_at cs j (second_of_both (is_hex_digit c) (list_all is_hex_digit cs) h) (omega (arith, lt))

small_pair : (a b : ℕ) → a < 16 → b < 16 → a * 16 + b < 256
small_pair a b h k = omega arith

byte_small : (hex : List ℕ) (j : ℕ) → list_all is_hex_digit hex ≡ true → length hex ≡ 32 → j < 16 → byte_of_digits hex j < 256
byte_small hex j h size lt =
    small_pair (value_of (slice_index hex (2 * j))) (value_of (slice_index hex (2 * j + 1)))
    (digit_small (slice_index hex (2 * j)) (digit_at hex (2 * j) h (omega arith)))
    (digit_small (slice_index hex (2 * j + 1)) (digit_at hex (2 * j + 1) h (omega arith)))

sum_small : (r15 r14 r13 r12 r11 r10 r9 r8 r7 r6 r5 r4 r3 r2 r1 r0 : ℕ) → r15 < 256 → r14 < 256 → r13 < 256 → r12 < 256 → r11 < 256 → r10 < 256 → r9 < 256 → r8 < 256 → r7 < 256 → r6 < 256 → r5 < 256 → r4 < 256 → r3 < 256 → r2 < 256 → r1 < 256 → r0 < 256
    → r15 * 256 ^ 15 + r14 * 256 ^ 14 + r13 * 256 ^ 13 + r12 * 256 ^ 12 + r11 * 256 ^ 11 + r10 * 256 ^ 10 + r9 * 256 ^ 9 + r8 * 256 ^ 8 + r7 * 256 ^ 7 + r6 * 256 ^ 6 + r5 * 256 ^ 5 + r4 * 256 ^ 4 + r3 * 256 ^ 3 + r2 * 256 ^ 2 + r1 * 256 ^ 1 + r0 < 2 ^ 128
sum_small r15 r14 r13 r12 r11 r10 r9 r8 r7 r6 r5 r4 r3 r2 r1 r0 h15 h14 h13 h12 h11 h10 h9 h8 h7 h6 h5 h4 h3 h2 h1 h0 = omega arith

bytes_small : (bs : List ℕ) → ((j : ℕ) → j < 16 → slice_index bs j < 256) → from_be_bytes w128 bs < 2 ^ 128
bytes_small bs h =
    sum_small (slice_index bs 0) (slice_index bs 1) (slice_index bs 2) (slice_index bs 3) (slice_index bs 4) (slice_index bs 5) (slice_index bs 6) (slice_index bs 7) (slice_index bs 8) (slice_index bs 9) (slice_index bs 10) (slice_index bs 11) (slice_index bs 12) (slice_index bs 13) (slice_index bs 14) (slice_index bs 15)
    (h 0 (omega arith)) (h 1 (omega arith)) (h 2 (omega arith)) (h 3 (omega arith)) (h 4 (omega arith)) (h 5 (omega arith)) (h 6 (omega arith)) (h 7 (omega arith)) (h 8 (omega arith)) (h 9 (omega arith)) (h 10 (omega arith)) (h 11 (omega arith)) (h 12 (omega arith)) (h 13 (omega arith)) (h 14 (omega arith)) (h 15 (omega arith))

sixteen : (f : ℕ → ℕ) → ((j : ℕ) → j < 16 → f j < 256) → from_be_bytes w128 (by_index 16 f) < 2 ^ 128
sixteen f h = bytes_small (by_index 16 f) (λ j lt. subst (λ n. n < 256) (sym (by_index_at 16 f j 0 lt)) (h j lt))

if_some : {X : Type 0} (b : Bool) (x y : X) → (if b then Some x else None) ≡ Some y → (b ≡ true) × (x ≡ y)
if_some true x y h = (refl, cc)
if_some false x y h = cc

simple_small : (hex bytes : List ℕ) → parsed_simple hex ≡ Some bytes → from_be_bytes w128 bytes < 2 ^ 128
simple_small hex bytes h =
    let r = if_some ((length hex == 32) && list_all is_hex_digit hex) (by_index 16 (byte_of_digits hex)) bytes h in
    let size = eqb-true (length hex) 32 (first_of_both (length hex == 32) (list_all is_hex_digit hex) r.0) in
    let all = second_of_both (length hex == 32) (list_all is_hex_digit hex) r.0 in
    subst (λ (b : List ℕ). from_be_bytes w128 b < 2 ^ 128) r.1 (sixteen (byte_of_digits hex) (λ j lt. byte_small hex j all size lt))

if_then : {X : Type 0} (b : Bool) (o : Option X) (y : X) → (if b then o else None) ≡ Some y → o ≡ Some y
if_then true o y h = h
if_then false o y h = cc

hyphenated_small : (text bytes : List ℕ) → parsed_hyphenated text ≡ Some bytes → from_be_bytes w128 bytes < 2 ^ 128
hyphenated_small text bytes h = simple_small (digits_of text) bytes (if_then ((length text == 36) && has_hyphens text) (parsed_simple (digits_of text)) bytes h)

mapped_small : (o : Option (List ℕ)) (id : ℕ) → ((bytes : List ℕ) → o ≡ Some bytes → from_be_bytes w128 bytes < 2 ^ 128) → option_map (from_be_bytes w128) o ≡ Some id → id < 2 ^ 128
mapped_small None id f h = let e : ◌≡◌ {A = Option ℕ} None (Some id) = h in cc
mapped_small (Some bytes) id f h = let e : from_be_bytes w128 bytes ≡ id = cc in subst (λ n. n < 2 ^ 128) e (f bytes refl)

identifier_small : (text : List ℕ) (id : ℕ) → identifier_named text ≡ Some id → id < 2 ^ 128
identifier_small text id h = mapped_small (parsed_hyphenated text) id (hyphenated_small text) h

identifier_utf8 : (id : ℕ) → IsUtf8 (identifier_text id)
identifier_utf8 id = IsUtf8-from_ascii (identifier_text id) (hyphenated_ascii lower (to_be_bytes w128 id) (inl refl))

-- ---- numbers

number_utf8 : (n : ℤ) → FitsSigned w64 n → IsUtf8 (signed_decimal n)
number_utf8 (pos n) fits =
    let small : n < 2 ^ 64 = grind (arith, ints, fits) in
    IsUtf8-from_ascii (decimal n) (IsAscii-decimal n small)
number_utf8 (negsuc n) fits =
    let small : suc n < 2 ^ 64 = grind (arith, ints, fits) in
    IsUtf8-append (45 ∷ []) (decimal (suc n)) (ascii 45 (omega arith)) (IsUtf8-from_ascii (decimal (suc n)) (IsAscii-decimal (suc n) small))

number_fits : (t : List ℕ) (n : ℤ) → IsWholeNumber t n → FitsSigned w64 n
number_fits t n h = subst (FitsSigned w64) (sym h.is) h.fits

-- ---- values

mapped_some : {X : Type 0} (f : X → Value) (o : Option X) (v : Value) → Some v ≡ option_map f o → (x : X) × (o ≡ Some x) × (v ≡ f x)
mapped_some f None v h = let e : ◌≡◌ {A = Option Value} (Some v) None = h in cc
mapped_some f (Some x) v h = (x, refl, cc)

truth_utf8 : (b : Bool) → IsPrintableValue kind.Boolean (value.Boolean b)
truth_utf8 true = record { kind = refl; range = tt; text = name_utf8 (codes "true") (plain_name (codes "true") refl) }
truth_utf8 false = record { kind = refl; range = tt; text = name_utf8 (codes "false") (plain_name (codes "false") refl) }

-- what a text is as a value of a kind can be printed as one
pub printable : (k : Kind) (t : List ℕ) (v : Value) → IsUtf8 t → IsText k t v → IsPrintableValue k v
printable kind.Str t v utf8 h = subst (IsPrintableValue kind.Str) (sym h) (record { kind = refl; range = tt; text = utf8 })
printable kind.Long t v utf8 h =
    let fits = number_fits t h.0 h.1 in
    subst (IsPrintableValue kind.Long) (sym h.2) (record { kind = refl; range = fits; text = number_utf8 h.0 fits })
printable kind.Date t v utf8 h =
    let fits = number_fits t h.0 h.1 in
    subst (IsPrintableValue kind.Date) (sym h.2) (record { kind = refl; range = fits; text = number_utf8 h.0 fits })
printable kind.Boolean t v utf8 h =
    let r = mapped_some value.Boolean (boolean_named t) v h in
    subst (IsPrintableValue kind.Boolean) (sym r.2) (truth_utf8 r.0)
printable kind.Binary t v utf8 h = subst (IsPrintableValue kind.Binary) (sym h.3) (record { kind = refl; range = h.1; text = subst IsUtf8 h.2 utf8 })
printable kind.Name t v utf8 h = subst (IsPrintableValue kind.Name) (sym h.1) (record { kind = refl; range = h.0; text = utf8 })
printable kind.Path t v utf8 h =
    let spelled = h.1.0.spelled in
    subst (IsPrintableValue kind.Path) (sym h.2) (record { kind = refl; range = subst (λ (u : List ℕ). IsPathWithin u h.0) spelled h.1; text = subst IsUtf8 spelled utf8 })
printable kind.Reference t v utf8 h =
    let r = mapped_some value.Reference (identifier_named t) v h in
    subst (IsPrintableValue kind.Reference) (sym r.2) (record { kind = refl; range = identifier_small t r.0 r.1; text = identifier_utf8 r.0 })
printable kind.WeakReference t v utf8 h =
    let r = mapped_some value.WeakReference (identifier_named t) v h in
    subst (IsPrintableValue kind.WeakReference) (sym r.2) (record { kind = refl; range = identifier_small t r.0 r.1; text = identifier_utf8 r.0 })
printable kind.Uri t v utf8 h = subst (IsPrintableValue kind.Uri) (sym h) (record { kind = refl; range = tt; text = utf8 })
