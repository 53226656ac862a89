-- The digits that `hexadecimal` writes.
use Rattle.std.proofs.Common.{◌≡◌, ◌==◌, ℕ, ◌+◌, ◌*◌, ◌/◌, ◌%◌, ◌^◌, ◌<◌, ◌≤◌, List, [], ◌∷◌, ◌++◌, length, get_or, suc, zero, false, arith, refl, sym, ◌∙◌, inl, inr, append_assoc, length-append}
use Rattle.std.specs.Char.{digit_value}
use Rattle.std.specs.Fmt.{digits, digits_onto, digit_glyph}
use Rattle.std.specs.Str.Parse.{digits_value}
use Rattle.std.proofs.Math.ListN.{get_or-append}
use Rattle.std.proofs.Math.Nat.{pow-suc}
use Rattle.std.proofs.lemmas.Bool.{cases_lt}
use Rattle.std.proofs.lemmas.Bool.Decides.{nat_tests}
use Rattle.std.proofs.lemmas.List.{append-nil}
use Rattle.std.proofs.lemmas.List.Elements.{All-push, All-nil, All-cons}
use Rattle.std.proofs.lemmas.Int.Digits.{digits_value_push}
use Rattle.jr_rev.specs.Digits.{IsHexDigit, Spells}
use Rattle.jr_rev.specs.Grammar.{IsRevisionText, FitsFields}
use Rattle.jr_rev.specs.Texts.{hexadecimal, revision_text}
use Rattle.jr_rev.specs.declared.revision.Revision.{Revision}
use Rattle.jr_rev.proofs.Digits.{value_most}
use Rattle.jr_rev.proofs.OneForm.{one_text}

value_of_zero : (digits : List ℕ) → length digits ≡ 1 → get_or digits 0 0 ≡ 48 → digits_value 16 digits ≡ 0
value_of_zero [] one zero' = refl
value_of_zero (d ∷ []) one zero' = rw zero' refl
value_of_zero (d ∷ e ∷ ds) one zero' = absurd (omega (arith, one))

digit_spells : (most n c : ℕ) → 1 ≤ most → n < 16 → IsHexDigit c → digit_value c ≡ n % 16 → Spells most (c ∷ []) n
digit_spells most n c one small hex value = record {
  numeral = record {
    some = omega arith;
    fits = omega arith;
    hex = All-cons IsHexDigit c [] hex (All-nil IsHexDigit);
    short_zero = λ _. refl;
  };
  value = omega (arith, digits_value_push 16 [] c);
}

more_spells : (most n c : ℕ) (digits : List ℕ) → 16 ≤ n → Spells most digits (n / 16) → IsHexDigit c → digit_value c ≡ n % 16 → Spells (suc most) (digits ++ c ∷ []) n
more_spells most n c digits large spells hex value =
    let some = spells.numeral.some in
    let fits = spells.numeral.fits in
    let size : length (digits ++ c ∷ []) ≡ length digits + 1 = length-append digits (c ∷ []) in
    let push = digits_value_push 16 digits c in
    record {
      numeral = record {
        some = omega arith;
        fits = omega arith;
        hex = All-push IsHexDigit digits c spells.numeral.hex hex;
        short_zero = λ z.
            (let first : get_or digits 0 0 ≡ 48 = sym (get_or-append digits (c ∷ []) 0 0 some) ∙ z in
            let none = value_of_zero digits (spells.numeral.short_zero first) first in
            let value' = spells.value in
            absurd (omega arith));
      };
      value = (let value' = spells.value in omega arith);
    }

glyph_hex : (d : ℕ) → d < 16 → IsHexDigit (digit_glyph false d)
glyph_hex d small = grind (arith, nat_tests)

glyph_value : (d : ℕ) → d < 16 → digit_value (digit_glyph false d) ≡ d
glyph_value d small = grind (arith, nat_tests)

power_some : (k n : ℕ) → 16 ≤ n → n < 16 ^ suc k → 1 ≤ k
power_some zero n large fits = absurd (omega arith)
power_some (suc k) n large fits = omega arith

onto_last : (f n : ℕ) (acc : List ℕ) → n < 16 → digits_onto (suc f) 16 false n acc ≡ digit_glyph false (n % 16) ∷ acc
onto_last f n acc small = let none : n / 16 ≡ 0 = omega arith in rw none refl

onto_more : (f n : ℕ) (acc : List ℕ) → 16 ≤ n → digits_onto (suc f) 16 false n acc ≡ digits_onto f 16 false (n / 16) (digit_glyph false (n % 16) ∷ acc)
onto_more f n acc large = let some : (n / 16 == 0) ≡ false = grind (arith, nat_tests) in rw some refl

-- the digits that are put before `acc`, by how many may be put and how many the number may have
spelled_onto : (f k n : ℕ) (acc : List ℕ) → k ≤ f → 1 ≤ k → n < 16 ^ k → (ds : List ℕ) × Spells k ds n × (digits_onto f 16 false n acc ≡ ds ++ acc)
spelled_onto zero k n acc le some fits = absurd (omega arith)
spelled_onto (suc f) zero n acc le some fits = absurd (omega arith)
spelled_onto (suc f) (suc k) n acc le some fits =
    let c = digit_glyph false (n % 16) in
    let hex : IsHexDigit c = glyph_hex (n % 16) (omega arith) in
    let value : digit_value c ≡ n % 16 = glyph_value (n % 16) (omega arith) in
    elim (cases_lt n 16) [
      | inl small ↦ (c ∷ [], digit_spells (suc k) n c some small hex value, onto_last f n acc small)
      | inr large ↦
          (let pow : n < 16 ^ k * 16 = rw pow-suc at fits in
          let rest = spelled_onto f k (n / 16) (c ∷ acc) (omega arith) (power_some k n large fits) (omega arith) in
          let parts : rest.0 ++ c ∷ acc ≡ (rest.0 ++ c ∷ []) ++ acc = sym (append_assoc rest.0 (c ∷ []) acc) in
          (rest.0 ++ c ∷ [], more_spells k n c rest.0 large rest.1 hex value, onto_more f n acc large ∙ rest.2 ∙ parts))
    ]

spells_same : (most n : ℕ) (ds es : List ℕ) → ds ≡ es → Spells most es n → Spells most ds n
spells_same most n ds es e s = rw e s

pub hexadecimal_spells : (most n : ℕ) → 1 ≤ most → most ≤ 16 → n < 16 ^ most → Spells most (hexadecimal n) n
unfolding digits
hexadecimal_spells most n some le fits =
    let s = spelled_onto 64 most n [] (omega arith) some fits in
    spells_same most n _ s.0 (s.2 ∙ append-nil s.0) s.1

spelled_below : (most n : ℕ) (digits : List ℕ) → Spells most digits n → n < 16 ^ most
spelled_below most n digits s = rw s.value (value_most most digits s.numeral.hex s.numeral.fits)

pub hexadecimal_digit : (n c : ℕ) → n < 16 → IsHexDigit c → digit_value c ≡ n % 16 → hexadecimal n ≡ c ∷ []
hexadecimal_digit n c small hex value = one_text 1 n _ _ (hexadecimal_spells 1 n (omega arith) (omega arith) (omega arith)) (digit_spells 1 n c (omega arith) small hex value)

pub hexadecimal_more : (n c : ℕ) → 16 ≤ n → n < 16 ^ 16 → IsHexDigit c → digit_value c ≡ n % 16 → hexadecimal n ≡ hexadecimal (n / 16) ++ c ∷ []
hexadecimal_more n c large fits hex value = one_text 16 n _ _ (hexadecimal_spells 16 n (omega arith) (omega arith) fits) (more_spells 15 n c (hexadecimal (n / 16)) large (hexadecimal_spells 15 (n / 16) (omega arith) (omega arith) (omega arith)) hex value)

pub put_more : (old mid new front whole : List ℕ) (c : ℕ) → mid ≡ old ++ front → new ≡ mid ++ c ∷ [] → whole ≡ front ++ c ∷ [] → new ≡ old ++ whole
put_more old mid new front whole c put push e = rw (push, put, e) (append_assoc old front (c ∷ []))

text_parts : (r : Revision) → revision_text r ≡ 114 ∷ (hexadecimal r.time ++ (45 ∷ (hexadecimal r.counter ++ (45 ∷ hexadecimal r.cluster))))
text_parts r = simp append_assoc

-- the text of a revision is the one that `revision_text` writes
pub revision_text_of : (text : List ℕ) (r : Revision) → IsRevisionText text r → text ≡ revision_text r
revision_text_of text r t =
    let time = one_text 16 r.time _ _ t.is_time (hexadecimal_spells 16 r.time (omega arith) (omega arith) (spelled_below 16 r.time t.time t.is_time)) in
    let counter = one_text 8 r.counter _ _ t.is_counter (hexadecimal_spells 8 r.counter (omega arith) (omega arith) (spelled_below 8 r.counter t.counter t.is_counter)) in
    let cluster = one_text 8 r.cluster _ _ t.is_cluster (hexadecimal_spells 8 r.cluster (omega arith) (omega arith) (spelled_below 8 r.cluster t.cluster t.is_cluster)) in
    rw (t.spelled, time, counter, cluster) (sym (text_parts r))

pub revision_text_is : (r : Revision) → FitsFields r → IsRevisionText (revision_text r) r
revision_text_is r fits = record {
  time = hexadecimal r.time;
  counter = hexadecimal r.counter;
  cluster = hexadecimal r.cluster;
  is_time = hexadecimal_spells 16 r.time (omega arith) (omega arith) fits.time;
  is_counter = hexadecimal_spells 8 r.counter (omega arith) (omega arith) fits.counter;
  is_cluster = hexadecimal_spells 8 r.cluster (omega arith) (omega arith) fits.cluster;
  spelled = text_parts r;
}

-- a cluster node's number is one digit
pub cluster_spells : (c : ℕ) → c ≤ 8 → Spells 8 ((48 + c) ∷ []) c
cluster_spells c high = digit_spells 8 c (48 + c) (omega arith) (omega arith) (inl (omega arith, omega arith)) (grind (arith, nat_tests))

pub cluster_digit : (c : ℕ) (digits : List ℕ) → c ≤ 8 → Spells 8 digits c → digits ≡ (48 + c) ∷ []
cluster_digit c digits high s = one_text 8 c digits _ s (cluster_spells c high)
