-- The text of a vector of eight entries stands in JSON as it is, and its reply has at most 292 bytes.
use Rattle.std.proofs.Common.{◌≡◌, ℕ, ◌+◌, ◌-◌, ◌*◌, ◌≤◌, Bool, true, false, cond, Some, None, List, [], ◌∷◌, ◌++◌, length, get_or, drop, take, zero, suc, All, refl, sym, ap, ◌∙◌, arith, append_assoc}
use Rattle.std.specs.Prelude.{◌==◌, slice_get}
use Rattle.std.specs.List.{filter_map}
use Rattle.std.specs.Option.{option_flatten, option_map}
use Rattle.std.proofs.lemmas.Bool.Decides.{nat_tests}
use Rattle.std.proofs.lemmas.List.{append-nil, append_cancel_right, drop_all}
use Rattle.std.proofs.lemmas.List.Elements.{All-head, All-tail}
use Rattle.json.specs.Print.{escape, escape_byte}
use Rattle.jr_rev.specs.declared.revision.Revision.{Revision}
use Rattle.jr_rev.specs.Grammar.{FitsFields}
use Rattle.jr_rev.specs.Texts.{revision_text, vector_text}
use Rattle.jr_rev.specs.Vectors.{Entries, entry, revisions_of}
use Rattle.jr_rev.proofs.Joined.{behind_texts, fits_all, joined_texts, left_text}
use Rattle.jcr_trans.specs.Answers.{ShowsVector}
use Rattle.jcr_trans.specs.Texts.{answer_text}
use Rattle.jcr_trans.proofs.Plain.{revision_answer}

-- ---- what stands as it is

escape_both : (xs ys : List ℕ) → escape (xs ++ ys) ≡ escape xs ++ escape ys
escape_both [] ys = refl
escape_both (x ∷ xs) ys = ap (λ (l : List ℕ). escape_byte x ++ l) (escape_both xs ys) ∙ sym (append_assoc (escape_byte x) (escape xs) (escape ys))

both_plain : (xs ys : List ℕ) → escape xs ≡ xs → escape ys ≡ ys → escape (xs ++ ys) ≡ xs ++ ys
both_plain xs ys h k = escape_both xs ys ∙ (ap (λ (l : List ℕ). l ++ escape ys) h ∙ ap (λ (l : List ℕ). xs ++ l) k)

-- a revision's text
revision_plain : (r : Revision) → FitsFields r → escape (revision_text r) ≡ revision_text r
revision_plain r fits = append_cancel_right (escape (revision_text r)) (revision_text r) (34 ∷ []) (ap (λ (l : List ℕ). drop 4 l) (revision_answer r fits))

comma_plain : escape_byte 44 ≡ 44 ∷ []
unfolding escape_byte
comma_plain = refl

-- the texts, a comma before each
behind_plain : (v : Entries) → All FitsFields (revisions_of v) → escape (behind_texts (filter_map (option_map revision_text) v)) ≡ behind_texts (filter_map (option_map revision_text) v)
behind_plain [] fits = refl
behind_plain (None ∷ v) fits = behind_plain v fits
behind_plain (Some r ∷ v) fits =
    ap (λ (l : List ℕ). l ++ escape (revision_text r ++ behind_texts (filter_map (option_map revision_text) v))) comma_plain
    ∙ ap (λ (l : List ℕ). 44 ∷ l) (both_plain (revision_text r) (behind_texts (filter_map (option_map revision_text) v)) (revision_plain r (All-head FitsFields r (revisions_of v) fits)) (behind_plain v (All-tail FitsFields r (revisions_of v) fits)))

vector_plain : (v : Entries) → All FitsFields (revisions_of v) → escape (vector_text v) ≡ vector_text v
vector_plain [] fits = refl
vector_plain (None ∷ v) fits = vector_plain v fits
vector_plain (Some r ∷ v) fits =
    let rest = filter_map (option_map revision_text) v in
    ap escape (joined_texts (revision_text r) rest)
    ∙ (both_plain (revision_text r) (behind_texts rest) (revision_plain r (All-head FitsFields r (revisions_of v) fits)) (behind_plain v (All-tail FitsFields r (revisions_of v) fits))
    ∙ sym (joined_texts (revision_text r) rest))

-- the reply that shows a vector
pub vector_answer : (v : Entries) → All FitsFields (revisions_of v) → answer_text (ShowsVector v) ≡ 111 ∷ 107 ∷ 32 ∷ 34 ∷ (vector_text v ++ 34 ∷ [])
vector_answer v fits = ap (λ (l : List ℕ). 111 ∷ 107 ∷ 32 ∷ 34 ∷ (l ++ 34 ∷ [])) (vector_plain v fits)

-- ---- the entry of a cluster node

flat_get : (v : Entries) (i : ℕ) → option_flatten (slice_get v i) ≡ get_or v i None
flat_get [] i = refl
flat_get (e ∷ v) zero = refl
flat_get (e ∷ v) (suc i) = flat_get v i

pub entry_get : (v : Entries) (i : ℕ) → entry v (i + 1) ≡ get_or v i None
entry_get v i =
    let some : (i + 1 == 0) ≡ false = grind (arith, nat_tests) in
    let less : i + 1 - 1 ≡ i = omega arith in
    rw (some, less) (flat_get v i)

-- ---- one revision after another

pub next_room : (first : Bool) (i old new : ℕ) → (first ≡ true → old ≡ 4) → (first ≡ false → old + 1 ≤ 4 + 36 * i) → new + cond first 1 0 ≤ old + 36 → new + 1 ≤ 4 + 36 * (i + 1)
next_room true i old new start room few = let four : old ≡ 4 = start refl in omega arith
next_room false i old new start room few = let less : old + 1 ≤ 4 + 36 * i = room refl in omega arith

nothing_left : (first : Bool) → left_text first [] ≡ []
nothing_left true = refl
nothing_left false = refl

-- nothing is left to be shown
pub whole_shown : (out end : List ℕ) (v : Entries) (i : ℕ) (first : Bool) → length v ≤ i → All FitsFields (revisions_of (take i v)) → out ++ left_text first (drop i v) ≡ 111 ∷ 107 ∷ 32 ∷ 34 ∷ vector_text v → end ≡ out ++ 34 ∷ [] → end ≡ answer_text (ShowsVector v)
whole_shown out end v i first past fits left is =
    let all : drop i v ≡ [] = drop_all i v past in
    let bytes : out ≡ 111 ∷ 107 ∷ 32 ∷ 34 ∷ vector_text v = sym (append-nil out) ∙ (ap (λ (l : List ℕ). out ++ l) (sym (nothing_left first)) ∙ (ap (λ (w : Entries). out ++ left_text first w) (sym all) ∙ left)) in
    is ∙ (ap (λ (l : List ℕ). l ++ 34 ∷ []) bytes ∙ sym (vector_answer v (fits_all v i past fits)))
