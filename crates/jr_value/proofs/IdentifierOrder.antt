-- Identifiers order as their hyphenated texts do.
use Rattle.std.proofs.Common.{◌≡◌, ℕ, zero, suc, ◌/◌, ◌%◌, ◌^◌, ◌<◌, Bool, true, false, ◌||◌, cond, List, [], ◌∷◌, refl, sym, ap, ◌∙◌, arith}
use Rattle.std.specs.Prelude.{◌==◌}
use Rattle.std.proofs.lemmas.Bool.Decides.{nat_tests}
use Rattle.std.proofs.Math.Nat.{pow-suc, div-div-eq-div-mul}
use Rattle.std.specs.declared.cmp.Ordering.{Ordering}
use Rattle.std.specs.declared.cmp.Ordering.TheVariants.{Less, Equal, Greater}
use Rattle.std.specs.Ordering.{MatchOrdering, nat_cmp, ordering_then}
use Rattle.std.specs.Cmp.{ranked, nat_cmp_is}
use Rattle.std.specs.Cmp.Lexicographic.{slice_cmp}
use Rattle.std.specs.Int.{byte_at}
use Rattle.uuid.specs.Text.{by_index, hex_digit, lower}
use Rattle.jr_path.specs.Names.{name_cmp}
use Rattle.jr_value.specs.Words.{identifier_text}

abbrev hex : ℕ → ℕ
hex = hex_digit lower

abbrev after_hyphen : Bool → List ℕ → List ℕ
after_hyphen h text = cond h (45 ∷ text) text

-- a hyphen stands before the byte with so many below it
abbrev is_group : ℕ → Bool
is_group k = (k == 11) || (k == 9) || (k == 7) || (k == 5)

abbrev byte_text : ℕ → ℕ → List ℕ → List ℕ
byte_text k n more = hex (byte_at k n / 16 % 16) ∷ hex (byte_at k n % 16) ∷ more

-- the lowest bytes of a number, the highest first, each as two digits
abbrev digits_text : ℕ → ℕ → List ℕ
digits_text zero n = []
digits_text (suc k) n = after_hyphen (is_group k) (byte_text k n (digits_text k n))

text_is : (n : ℕ) → identifier_text n ≡ digits_text 16 n
unfolding by_index
text_is n = refl

hex_up : (d e : ℕ) → d < e → hex d < hex e
hex_up d e h = grind (arith, nat_tests)

-- digits order as what they stand for
hex_cmp : (d e : ℕ) → nat_cmp (hex d) (hex e) ≡ nat_cmp d e
hex_cmp d e = sym (nat_cmp_is (hex d) (hex e) (nat_cmp d e) (by (nat_cmp d e) (ranked d e _ refl)))
  where
    by : (o : Ordering) → MatchOrdering o (d < e) (d ≡ e) (e < d) → MatchOrdering o (hex d < hex e) (hex d ≡ hex e) (hex e < hex d)
    by Less h = hex_up d e h
    by Equal h = ap hex h
    by Greater h = hex_up e d h

hyphens : (h : Bool) (xs ys : List ℕ) → slice_cmp nat_cmp (after_hyphen h xs) (after_hyphen h ys) ≡ slice_cmp nat_cmp xs ys
hyphens true xs ys = refl
hyphens false xs ys = refl

then_Equal : (o : Ordering) → ordering_then o Equal ≡ o
then_Equal Less = refl
then_Equal Equal = refl
then_Equal Greater = refl

then_assoc : (o p s : Ordering) → ordering_then o (ordering_then p s) ≡ ordering_then (ordering_then o p) s
then_assoc Less p s = refl
then_assoc Equal p s = refl
then_assoc Greater p s = refl

-- numbers compare as what is above the lowest byte, then as the halves of this byte
halves_cmp : (q r : ℕ) → ordering_then (nat_cmp (q / 256) (r / 256)) (ordering_then (nat_cmp (q % 256 / 16 % 16) (r % 256 / 16 % 16)) (nat_cmp (q % 256 % 16) (r % 256 % 16))) ≡ nat_cmp q r
halves_cmp q r = nat_cmp_is q r _ (by _ _ _ (ranked (q / 256) (r / 256) _ refl) (ranked (q % 256 / 16 % 16) (r % 256 / 16 % 16) _ refl) (ranked (q % 256 % 16) (r % 256 % 16) _ refl))
  where
    by : (A B C : Ordering) → MatchOrdering A (q / 256 < r / 256) (q / 256 ≡ r / 256) (r / 256 < q / 256)
        → MatchOrdering B (q % 256 / 16 % 16 < r % 256 / 16 % 16) (q % 256 / 16 % 16 ≡ r % 256 / 16 % 16) (r % 256 / 16 % 16 < q % 256 / 16 % 16)
        → MatchOrdering C (q % 256 % 16 < r % 256 % 16) (q % 256 % 16 ≡ r % 256 % 16) (r % 256 % 16 < q % 256 % 16)
        → MatchOrdering (ordering_then A (ordering_then B C)) (q < r) (q ≡ r) (r < q)
    by Less B C a b c = omega arith
    by Greater B C a b c = omega arith
    by Equal Less C a b c = omega arith
    by Equal Greater C a b c = omega arith
    by Equal Equal Less a b c = omega arith
    by Equal Equal Equal a b c = omega arith
    by Equal Equal Greater a b c = omega arith

byte_cmp : (q r : ℕ) (rest : Ordering) → ordering_then (nat_cmp (q / 256) (r / 256)) (ordering_then (nat_cmp (hex (q % 256 / 16 % 16)) (hex (r % 256 / 16 % 16))) (ordering_then (nat_cmp (hex (q % 256 % 16)) (hex (r % 256 % 16))) rest)) ≡ ordering_then (nat_cmp q r) rest
byte_cmp q r rest =
    let high = hex_cmp (q % 256 / 16 % 16) (r % 256 / 16 % 16) in
    let low = hex_cmp (q % 256 % 16) (r % 256 % 16) in
    (λ i. ordering_then (nat_cmp (q / 256) (r / 256)) (ordering_then (high i) (ordering_then (low i) rest)))
    ∙ ap (ordering_then (nat_cmp (q / 256) (r / 256))) (then_assoc _ _ rest)
    ∙ then_assoc _ _ rest
    ∙ ap (λ o. ordering_then o rest) (halves_cmp q r)

byte_is : (k n : ℕ) → byte_at k n ≡ n / 256 ^ k % 256
byte_is zero n = omega arith
byte_is (suc k) n = refl

above_is : (k n : ℕ) → n / 256 ^ suc k ≡ n / 256 ^ k / 256
above_is k n = rw (pow-suc 256 k, div-div-eq-div-mul) refl

-- numbers compare as what is above their lowest bytes, and then as the text of these
text_cmp : (k a b : ℕ) → ordering_then (nat_cmp (a / 256 ^ k) (b / 256 ^ k)) (slice_cmp nat_cmp (digits_text k a) (digits_text k b)) ≡ nat_cmp a b
text_cmp zero a b =
    let whole : (n : ℕ) → n / 1 ≡ n = λ n. omega arith in
    then_Equal _ ∙ (λ i. nat_cmp (whole a i) (whole b i))
text_cmp (suc k) a b =
    let rest = slice_cmp nat_cmp (digits_text k a) (digits_text k b) in
    ap (ordering_then (nat_cmp (a / 256 ^ suc k) (b / 256 ^ suc k))) (hyphens (is_group k) (byte_text k a (digits_text k a)) (byte_text k b (digits_text k b)))
    ∙ (λ i. ordering_then (nat_cmp (above_is k a i) (above_is k b i)) (ordering_then (nat_cmp (hex (byte_is k a i / 16 % 16)) (hex (byte_is k b i / 16 % 16))) (ordering_then (nat_cmp (hex (byte_is k a i % 16)) (hex (byte_is k b i % 16))) rest)))
    ∙ byte_cmp (a / 256 ^ k) (b / 256 ^ k) rest
    ∙ text_cmp k a b

pub identifiers_cmp : (a b : ℕ) → a < 2 ^ 128 → b < 2 ^ 128 → name_cmp (identifier_text a) (identifier_text b) ≡ nat_cmp a b
identifiers_cmp a b ha hb =
    let none : (n : ℕ) → n < 2 ^ 128 → n / 256 ^ 16 ≡ 0 = λ n h. omega arith in
    (λ i. name_cmp (text_is a i) (text_is b i))
    ∙ (λ i. ordering_then (nat_cmp (sym (none a ha) i) (sym (none b hb) i)) (slice_cmp nat_cmp (digits_text 16 a) (digits_text 16 b)))
    ∙ text_cmp 16 a b
