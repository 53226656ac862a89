-- The text of a revision stands in JSON as it is, and has at most 35 bytes.
use Rattle.std.proofs.Common.{◌≡◌, ◌⊎◌, inl, inr, ℕ, ◌≤◌, false, List, [], ◌∷◌, ◌++◌, length, All, refl, sym, ap, ◌∙◌, subst, arith, length-append}
use Rattle.std.specs.Prelude.{nat_lt}
use Rattle.std.proofs.lemmas.Bool.Decides.{nat_tests}
use Rattle.std.proofs.lemmas.List.Elements.{All-head, All-tail}
use Rattle.json.specs.Print.{escape, escape_byte, escape_letter}
use Rattle.jr_rev.specs.declared.revision.Revision.{Revision}
use Rattle.jr_rev.specs.Digits.{IsHexDigit}
use Rattle.jr_rev.specs.Grammar.{FitsFields}
use Rattle.jr_rev.specs.Texts.{revision_text}
use Rattle.jr_rev.proofs.Hexadecimal.{revision_text_is}
use Rattle.jcr_trans.specs.Answers.{ShowsRevision}
use Rattle.jcr_trans.specs.Texts.{answer_text}

-- a byte that stands in JSON as it is
abbrev IsPlain : ℕ → Type 0
IsPlain x = ((35 ≤ x) × (x ≤ 91)) ⊎ ((93 ≤ x) × (x ≤ 126))

no_letter : (x : ℕ) → IsPlain x → escape_letter x ≡ 0
no_letter x (inl (low, high)) = grind (arith, nat_tests)
no_letter x (inr (low, high)) = grind (arith, nat_tests)

shown : (x : ℕ) → IsPlain x → nat_lt x 32 ≡ false
shown x (inl (low, high)) = grind (arith, nat_tests)
shown x (inr (low, high)) = grind (arith, nat_tests)

byte_plain : (x : ℕ) → IsPlain x → escape_byte x ≡ x ∷ []
unfolding escape_byte
byte_plain x h = rw (no_letter x h, shown x h) refl

abbrev Plain : List ℕ → Type 0
Plain [] = Unit {0}
Plain (x ∷ xs) = IsPlain x × Plain xs

plain : (xs : List ℕ) → Plain xs → escape xs ≡ xs
plain [] h = refl
plain (x ∷ xs) h = ap (λ (l : List ℕ). l ++ escape xs) (byte_plain x h.0) ∙ ap (λ (l : List ℕ). x ∷ l) (plain xs h.1)

plain_both : (xs ys : List ℕ) → Plain xs → Plain ys → Plain (xs ++ ys)
plain_both [] ys h k = k
plain_both (x ∷ xs) ys h k = (h.0, plain_both xs ys h.1 k)

digit_plain : (x : ℕ) → IsHexDigit x → IsPlain x
digit_plain x (inl (low, high)) = inl (omega arith, omega arith)
digit_plain x (inr (low, high)) = inr (omega arith, omega arith)

digits_plain : (xs : List ℕ) → All IsHexDigit xs → Plain xs
digits_plain [] h = tt
digits_plain (x ∷ xs) h = (digit_plain x (All-head IsHexDigit x xs h), digits_plain xs (All-tail IsHexDigit x xs h))

-- a revision's text has at most 35 bytes, each plain
text_plain : (r : Revision) → FitsFields r → Plain (revision_text r) × (length (revision_text r) ≤ 35)
text_plain r fits =
    let t = revision_text_is r fits in
    subst (λ (text : List ℕ). Plain text × (length text ≤ 35)) (sym t.spelled) (
      (
        inr (omega arith, omega arith),
        plain_both t.time (45 ∷ (t.counter ++ (45 ∷ t.cluster))) (digits_plain t.time t.is_time.numeral.hex)
            (inl (omega arith, omega arith), plain_both t.counter (45 ∷ t.cluster) (digits_plain t.counter t.is_counter.numeral.hex) (inl (omega arith, omega arith), digits_plain t.cluster t.is_cluster.numeral.hex)),
      ),
      let a : length t.time ≤ 16 = t.is_time.numeral.fits in
          let b : length t.counter ≤ 8 = t.is_counter.numeral.fits in
          let c : length t.cluster ≤ 8 = t.is_cluster.numeral.fits in
          omega (arith, length-append t.time (45 ∷ (t.counter ++ (45 ∷ t.cluster))), length-append t.counter (45 ∷ t.cluster)),
    )

-- the reply that tells of a commit's revision
pub revision_answer : (r : Revision) → FitsFields r → answer_text (ShowsRevision r) ≡ 111 ∷ 107 ∷ 32 ∷ 34 ∷ (revision_text r ++ 34 ∷ [])
revision_answer r fits = ap (λ (l : List ℕ). 111 ∷ 107 ∷ 32 ∷ 34 ∷ (l ++ 34 ∷ [])) (plain (revision_text r) (text_plain r fits).0)
