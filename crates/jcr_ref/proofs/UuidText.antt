-- The text that `uuid` prints for a number is its 32 hexadecimal digits, and that of a session's identifier is its own text.
use Rattle.std.proofs.Common.{◌≡◌, ℕ, zero, suc, ◌+◌, ◌*◌, ◌/◌, ◌%◌, ◌^◌, ◌<◌, Bool, false, ◌||◌, cond, All, List, [], ◌∷◌, ◌++◌, Some, inl, refl, sym, ap, ◌∙◌, arith}
use Rattle.std.specs.Prelude.{◌==◌, codes, option_map}
use Rattle.std.proofs.lemmas.Bool.Decides.{nat_tests}
use Rattle.std.proofs.lemmas.List.Elements.{All-nil, All-cons}
use Rattle.std.proofs.Math.Nat.{div-div-eq-div-mul}
use Rattle.std.specs.Fmt.{digit_glyph}
use Rattle.std.specs.Int.{byte_at, bytes_high_first, from_be_bytes, to_be_bytes, w128}
use Rattle.uuid.specs.Text.{by_index, hex_digit, lower}
use Rattle.uuid.proofs.RoundTrips.{parses_hyphenated_text}
use Rattle.uuid.proofs.OrderLemmas.{from_be_bytes-to_be_bytes_16}
use Rattle.jr_value.specs.Words.{identifier_named, identifier_text}
use Rattle.jcr_ref.specs.References.{last_digits, identifier, identifier_number, uuid_text}

abbrev after_hyphen : Bool → List ℕ → List ℕ
after_hyphen h text = cond h (45 ∷ text) text

-- a hyphen stands before the byte with so many below it
abbrev is_group : ℕ → Bool
is_group k = (k == 11) || (k == 9) || (k == 7) || (k == 5)

-- the lowest bytes of a number, the highest first, each as two digits
abbrev bytes_text : ℕ → ℕ → List ℕ
bytes_text zero n = []
bytes_text (suc k) n = after_hyphen (is_group k) (hex_digit lower (byte_at k n / 16 % 16) ∷ hex_digit lower (byte_at k n % 16) ∷ bytes_text k n)

-- the same by digits of the number
abbrev digits_text : ℕ → ℕ → List ℕ
digits_text zero n = []
digits_text (suc k) n = after_hyphen (is_group k) (digit_glyph false (n / (256 ^ k * 16) % 16) ∷ digit_glyph false (n / 256 ^ k % 16) ∷ digits_text k n)

as_bytes : (n : ℕ) → identifier_text n ≡ bytes_text 16 n
unfolding by_index
as_bytes n = refl

same_digit : (d : ℕ) → hex_digit lower d ≡ digit_glyph false d
same_digit d = grind (arith, nat_tests)

byte_is : (k n : ℕ) → byte_at k n ≡ n / 256 ^ k % 256
byte_is zero n = omega arith
byte_is (suc k) n = refl

high : (k n : ℕ) → hex_digit lower (byte_at k n / 16 % 16) ≡ digit_glyph false (n / (256 ^ k * 16) % 16)
high k n =
    same_digit (byte_at k n / 16 % 16)
    ∙ ap (digit_glyph false) (ap (λ b. b / 16 % 16) (byte_is k n) ∙ (half (n / 256 ^ k) ∙ ap (λ q. q % 16) (div-div-eq-div-mul n (256 ^ k) 16)))
  where
    half : (q : ℕ) → q % 256 / 16 % 16 ≡ q / 16 % 16
    half q = omega arith

low : (k n : ℕ) → hex_digit lower (byte_at k n % 16) ≡ digit_glyph false (n / 256 ^ k % 16)
low k n = same_digit (byte_at k n % 16) ∙ ap (digit_glyph false) (ap (λ b. b % 16) (byte_is k n) ∙ half (n / 256 ^ k))
  where
    half : (q : ℕ) → q % 256 % 16 ≡ q % 16
    half q = omega arith

as_digits : (k n : ℕ) → bytes_text k n ≡ digits_text k n
as_digits zero n = refl
as_digits (suc k) n = λ i. after_hyphen (is_group k) (high k n i ∷ low k n i ∷ as_digits k n i)

-- so many digits of a number above a power of 16
abbrev digits_above : ℕ → ℕ → ℕ → List ℕ
digits_above m zero n = []
digits_above m (suc j) n = digit_glyph false (n / (m * 16 ^ j) % 16) ∷ digits_above m j n

above : (m j n : ℕ) → last_digits j (n / m) ≡ digits_above m j n
above m zero n = refl
above m (suc j) n = λ i. digit_glyph false (div-div-eq-div-mul n m (16 ^ j) i % 16) ∷ above m j n i

in_groups : (n : ℕ) → digits_text 16 n ≡ digits_above (16 ^ 24) 8 n ++ codes "-" ++ digits_above (16 ^ 20) 4 n ++ codes "-" ++ digits_above (16 ^ 16) 4 n ++ codes "-" ++ digits_above (16 ^ 12) 4 n ++ codes "-" ++ last_digits 12 n
in_groups n = refl

pub texts_agree : (n : ℕ) → identifier_text n ≡ uuid_text n
texts_agree n =
    as_bytes n ∙ (as_digits 16 n ∙ (in_groups n ∙ sym (λ i. above (16 ^ 24) 8 n i ++ codes "-" ++ above (16 ^ 20) 4 n i ++ codes "-" ++ above (16 ^ 16) 4 n i ++ codes "-" ++ above (16 ^ 12) 4 n i ++ codes "-" ++ last_digits 12 n)))

-- ---- a session's own identifier

-- a number below 2^128, by its upper half and two numbers of 24 bits
module _ (s c : ℕ) where
  lowest : last_digits 6 (identifier_number s c) ≡ last_digits 6 c
  lowest = λ i.
      digit_glyph false (at5 i) ∷ digit_glyph false (at4 i) ∷ digit_glyph false (at3 i) ∷ digit_glyph false (at2 i) ∷ digit_glyph false (at1 i) ∷ digit_glyph false (at0 i) ∷ []
    where
      at0 : identifier_number s c / 16 ^ 0 % 16 ≡ c / 16 ^ 0 % 16
      at0 = omega arith

      at1 : identifier_number s c / 16 ^ 1 % 16 ≡ c / 16 ^ 1 % 16
      at1 = omega arith

      at2 : identifier_number s c / 16 ^ 2 % 16 ≡ c / 16 ^ 2 % 16
      at2 = omega arith

      at3 : identifier_number s c / 16 ^ 3 % 16 ≡ c / 16 ^ 3 % 16
      at3 = omega arith

      at4 : identifier_number s c / 16 ^ 4 % 16 ≡ c / 16 ^ 4 % 16
      at4 = omega arith

      at5 : identifier_number s c / 16 ^ 5 % 16 ≡ c / 16 ^ 5 % 16
      at5 = omega arith

  middle : last_digits 6 (identifier_number s c / 2 ^ 24) ≡ last_digits 6 s
  middle = λ i.
      digit_glyph false (at5 i) ∷ digit_glyph false (at4 i) ∷ digit_glyph false (at3 i) ∷ digit_glyph false (at2 i) ∷ digit_glyph false (at1 i) ∷ digit_glyph false (at0 i) ∷ []
    where
      up : identifier_number s c / 2 ^ 24 ≡ 0x40008000 * 2 ^ 24 + s % 2 ^ 24
      up = omega arith

      at0 : identifier_number s c / 2 ^ 24 / 16 ^ 0 % 16 ≡ s / 16 ^ 0 % 16
      at0 = omega (arith, up)

      at1 : identifier_number s c / 2 ^ 24 / 16 ^ 1 % 16 ≡ s / 16 ^ 1 % 16
      at1 = omega (arith, up)

      at2 : identifier_number s c / 2 ^ 24 / 16 ^ 2 % 16 ≡ s / 16 ^ 2 % 16
      at2 = omega (arith, up)

      at3 : identifier_number s c / 2 ^ 24 / 16 ^ 3 % 16 ≡ s / 16 ^ 3 % 16
      at3 = omega (arith, up)

      at4 : identifier_number s c / 2 ^ 24 / 16 ^ 4 % 16 ≡ s / 16 ^ 4 % 16
      at4 = omega (arith, up)

      at5 : identifier_number s c / 2 ^ 24 / 16 ^ 5 % 16 ≡ s / 16 ^ 5 % 16
      at5 = omega (arith, up)

  -- the highest six of twelve digits are those of what is above the lowest six
  both : last_digits 6 (identifier_number s c / 2 ^ 24) ++ last_digits 6 (identifier_number s c) ≡ last_digits 12 (identifier_number s c)
  both = λ i. digit_glyph false (div-div-eq-div-mul n (2 ^ 24) (16 ^ 5) i % 16) ∷ digit_glyph false (div-div-eq-div-mul n (2 ^ 24) (16 ^ 4) i % 16) ∷ digit_glyph false (div-div-eq-div-mul n (2 ^ 24) (16 ^ 3) i % 16)
      ∷ digit_glyph false (div-div-eq-div-mul n (2 ^ 24) (16 ^ 2) i % 16) ∷ digit_glyph false (div-div-eq-div-mul n (2 ^ 24) (16 ^ 1) i % 16) ∷ digit_glyph false (div-div-eq-div-mul n (2 ^ 24) (16 ^ 0) i % 16) ∷ last_digits 6 n
    where
      n : ℕ
      n = identifier_number s c

  pub own_text : uuid_text (identifier_number s c) ≡ identifier s c
  own_text = λ i. last_digits 8 (top i) ++ codes "-" ++ last_digits 4 (second i) ++ codes "-" ++ last_digits 4 (third i) ++ codes "-" ++ last_digits 4 (fourth i) ++ codes "-" ++ (sym both ∙ λ j. middle j ++ lowest j) i
    where
      top : identifier_number s c / 16 ^ 24 ≡ 0
      top = omega arith

      second : identifier_number s c / 16 ^ 20 ≡ 0
      second = omega arith

      third : identifier_number s c / 16 ^ 16 ≡ 0x4000
      third = omega arith

      fourth : identifier_number s c / 16 ^ 12 ≡ 0x40008000
      fourth = omega arith

small_byte : (k n : ℕ) → byte_at k n < 256
small_byte zero n = omega arith
small_byte (suc k) n = omega arith

low_bytes : (k n : ℕ) → All (λ b. b < 256) (bytes_high_first k n)
low_bytes zero n = All-nil (λ b. b < 256)
low_bytes (suc k) n = All-cons (λ b. b < 256) _ _ (small_byte k n) (low_bytes k n)

named_back : (n : ℕ) → n < 2 ^ 128 → identifier_named (identifier_text n) ≡ Some n
named_back n fits =
    ap (option_map (from_be_bytes w128)) (sym (parses_hyphenated_text lower (to_be_bytes w128 n) (inl refl) refl (low_bytes 16 n))) ∙ ap Some (from_be_bytes-to_be_bytes_16 n fits)

-- what `uuid` prints for a session's identifier
pub printed : (s c : ℕ) → identifier_text (identifier_number s c) ≡ identifier s c
printed s c = texts_agree (identifier_number s c) ∙ own_text s c

-- and reads in its text
pub read_back : (s c : ℕ) → identifier_named (identifier s c) ≡ Some (identifier_number s c)
read_back s c = ap identifier_named (sym (printed s c)) ∙ named_back (identifier_number s c) (omega arith)
