-- The text of a vector is ASCII.
use Rattle.std.proofs.Common.{◌≡◌, ℕ, ◌<◌, ◌≤◌, List, [], ◌∷◌, ◌++◌, All, arith, inl, inr, sym, subst, ◌∙◌}
use Rattle.std.proofs.lemmas.List.Elements.{All-append, All-cons, All-head, All-nil, All-tail}
use Rattle.std.proofs.lemmas.Str.{IsUtf8-from_ascii}
use Rattle.std.proofs.lemmas.Str.Ascii.{IsAscii-from_all}
use Rattle.std.specs.List.{AllZip, join_with_byte}
use Rattle.std.specs.Str.{IsUtf8}
use Rattle.jr_rev.specs.Digits.{IsHexDigit}
use Rattle.jr_rev.specs.Grammar.{IsRevisionText, IsVectorText}
use Rattle.jr_rev.specs.Texts.{vector_text}
use Rattle.jr_rev.specs.Vectors.{Entries}
use Rattle.jr_rev.specs.declared.revision.Revision.{Revision}

abbrev Low : ℕ → Type 0
Low b = b < 128

low_digit : (b : ℕ) → IsHexDigit b → Low b
low_digit b (inl d) = let h : b ≤ 57 = d.1 in omega arith
low_digit b (inr d) = let h : b ≤ 102 = d.1 in omega arith

low_digits : (bs : List ℕ) → All IsHexDigit bs → All Low bs
low_digits [] h = All-nil Low
low_digits (b ∷ bs) h = All-cons Low b bs (low_digit b (All-head IsHexDigit b bs h)) (low_digits bs (All-tail IsHexDigit b bs h))

low_behind : (b : ℕ) (front rest : List ℕ) → b < 128 → All IsHexDigit front → All Low rest → All Low (b ∷ (front ++ rest))
low_behind b front rest low digits more = All-cons Low b (front ++ rest) low (All-append Low front rest (low_digits front digits) more)

low_revision : (text : List ℕ) (r : Revision) → IsRevisionText text r → All Low text
low_revision text r is = subst (λ (bs : List ℕ). All Low bs) (sym is.spelled)
    (low_behind 114 is.time _ (omega arith) is.is_time.numeral.hex
    (low_behind 45 is.counter _ (omega arith) is.is_counter.numeral.hex
    (All-cons Low 45 is.cluster (omega arith) (low_digits is.cluster is.is_cluster.numeral.hex))))

low_joined : (texts : List (List ℕ)) (rs : List Revision) → AllZip IsRevisionText texts rs → All Low (join_with_byte 44 texts)
low_joined [] rs each = All-nil Low
low_joined (t ∷ ts) [] each = absurd each
low_joined (t ∷ []) (r ∷ rs) each = low_revision t r each.0
low_joined (t ∷ u ∷ us) (r ∷ rs) each = All-append Low t _ (low_revision t r each.0) (All-cons Low 44 (join_with_byte 44 (u ∷ us)) (omega arith) (low_joined (u ∷ us) rs each.1))

pub vector_utf8 : (bytes : List ℕ) (v : Entries) → bytes ≡ vector_text v → IsVectorText (vector_text v) v → IsUtf8 bytes
vector_utf8 bytes v same is =
    let joined : bytes ≡ join_with_byte 44 is.texts = same ∙ is.joined in
    IsUtf8-from_ascii bytes (IsAscii-from_all bytes (subst (λ (bs : List ℕ). All Low bs) (sym joined) (low_joined is.texts _ is.each)))
