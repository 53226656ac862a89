-- Each vector has one text, and each text one vector.
use Rattle.std.proofs.Common.{◌≡◌, ℕ, ◌+◌, ◌<◌, ◌≤◌, List, Some, None, [], ◌∷◌, ◌++◌, length, All, true, arith, refl, sym, ap, ◌∙◌}
use Rattle.std.specs.Prelude.{◌==◌}
use Rattle.std.specs.List.{AllZip, join_with_byte, filter_map}
use Rattle.std.specs.Option.{option_map}
use Rattle.std.proofs.lemmas.List.Elements.{All-head, All-tail, All-cons, All-append}
use Rattle.jr_rev.specs.Digits.{IsHexDigit}
use Rattle.jr_rev.specs.Grammar.{IsRevisionText, IsVectorText, FitsFields}
use Rattle.jr_rev.specs.Texts.{revision_text, vector_text}
use Rattle.jr_rev.specs.Vectors.{Entries, IsVector, stands_from, revisions_of}
use Rattle.jr_rev.specs.declared.revision.Revision.{Revision}
use Rattle.jr_rev.proofs.Entries.{both, number_same}
use Rattle.jr_rev.proofs.Hexadecimal.{revision_text_of, revision_text_is}
use Rattle.jr_rev.proofs.Joined.{behind_texts, joined_texts}
use Rattle.jr_rev.proofs.OneForm.{one_revision}

-- ---- no comma stands in a revision's text

abbrev NoComma : List ℕ → Type 0
NoComma text = All (λ (c : ℕ). c ≡ 44 → ⊥) text

no_comma_digit : (c : ℕ) → IsHexDigit c → c ≡ 44 → ⊥
no_comma_digit c h e = grind arith

no_comma_digits : (digits : List ℕ) → All IsHexDigit digits → NoComma digits
no_comma_digits digits h = λ k d lt e. no_comma_digit _ (h k d lt) e

no_comma_cons : (c : ℕ) (cs : List ℕ) → (c ≡ 44 → ⊥) → NoComma cs → NoComma (c ∷ cs)
no_comma_cons c cs h hs = All-cons (λ (c : ℕ). c ≡ 44 → ⊥) c cs h hs

no_comma_append : (xs ys : List ℕ) → NoComma xs → NoComma ys → NoComma (xs ++ ys)
no_comma_append xs ys h k = All-append (λ (c : ℕ). c ≡ 44 → ⊥) xs ys h k

above_comma : (c : ℕ) → 44 < c → c ≡ 44 → ⊥
above_comma c lt e = omega arith

no_comma : (text : List ℕ) (r : Revision) → IsRevisionText text r → NoComma text
no_comma text r t =
    let cluster : NoComma (45 ∷ t.cluster) = no_comma_cons 45 t.cluster (above_comma 45 (omega arith)) (no_comma_digits t.cluster t.is_cluster.numeral.hex) in
    let counter : NoComma (45 ∷ (t.counter ++ (45 ∷ t.cluster))) = no_comma_cons 45 _ (above_comma 45 (omega arith)) (no_comma_append t.counter _ (no_comma_digits t.counter t.is_counter.numeral.hex) cluster) in
    let whole : NoComma (114 ∷ (t.time ++ (45 ∷ (t.counter ++ (45 ∷ t.cluster))))) = no_comma_cons 114 _ (above_comma 114 (omega arith)) (no_comma_append t.time _ (no_comma_digits t.time t.is_time.numeral.hex) counter) in
    rw t.spelled whole

-- a text without a comma ends where the first comma stands, or at the end
split_behind : (a b : List ℕ) (ts us : List (List ℕ)) → NoComma a → NoComma b → a ++ behind_texts ts ≡ b ++ behind_texts us → (a ≡ b) × (behind_texts ts ≡ behind_texts us)
split_behind [] [] ts us ha hb e = (refl, e)
split_behind [] (c ∷ b) [] us ha hb e = absurd (let e' : [] ≡ c ∷ (b ++ behind_texts us) = e in cc)
split_behind [] (c ∷ b) (t ∷ ts) us ha hb e = absurd (All-head (λ (c : ℕ). c ≡ 44 → ⊥) c b hb (let e' : 44 ∷ (t ++ behind_texts ts) ≡ c ∷ (b ++ behind_texts us) = e in cc))
split_behind (c ∷ a) [] ts [] ha hb e = absurd (let e' : c ∷ (a ++ behind_texts ts) ≡ [] = e in cc)
split_behind (c ∷ a) [] ts (u ∷ us) ha hb e = absurd (All-head (λ (c : ℕ). c ≡ 44 → ⊥) c a ha (let e' : c ∷ (a ++ behind_texts ts) ≡ 44 ∷ (u ++ behind_texts us) = e in cc))
split_behind (c ∷ a) (d ∷ b) ts us ha hb e =
    let head : c ≡ d = cc in
    let tail : a ++ behind_texts ts ≡ b ++ behind_texts us = cc in
    let rest = split_behind a b ts us (All-tail (λ (c : ℕ). c ≡ 44 → ⊥) c a ha) (All-tail (λ (c : ℕ). c ≡ 44 → ⊥) d b hb) tail in
    let same = rest.0 in
    (cc, rest.1)

same_revisions : (ts us : List (List ℕ)) (rs ss : List Revision) → AllZip IsRevisionText ts rs → AllZip IsRevisionText us ss → behind_texts ts ≡ behind_texts us → rs ≡ ss
same_revisions [] [] [] [] a b e = refl
same_revisions [] [] [] (s ∷ ss) a b e = absurd b
same_revisions [] us (r ∷ rs) ss a b e = absurd a
same_revisions [] (u ∷ us) [] ss a b e = absurd (let e' : [] ≡ 44 ∷ (u ++ behind_texts us) = e in cc)
same_revisions (t ∷ ts) us [] ss a b e = absurd a
same_revisions (t ∷ ts) [] (r ∷ rs) ss a b e = absurd (let e' : 44 ∷ (t ++ behind_texts ts) ≡ [] = e in cc)
same_revisions (t ∷ ts) (u ∷ us) (r ∷ rs) [] a b e = absurd b
same_revisions (t ∷ ts) (u ∷ us) (r ∷ rs) (s ∷ ss) a b e =
    let tail : t ++ behind_texts ts ≡ u ++ behind_texts us = cc in
    let parts = split_behind t u ts us (no_comma t r a.0) (no_comma u s b.0) tail in
    let first : r ≡ s = one_revision t r s a.0 (rw parts.0 b.0) in
    let others : rs ≡ ss = same_revisions ts us rs ss a.1 b.1 parts.1 in
    cc

first_byte : (t more : List ℕ) → t ≡ 114 ∷ more → (rest : List ℕ) → [] ≡ t ++ rest → ⊥
first_byte t more is rest e = let e' : [] ≡ 114 ∷ (more ++ rest) = e ∙ ap (λ x. x ++ rest) is in cc

some_text : (t : List ℕ) (ts : List (List ℕ)) (rs : List Revision) → AllZip IsRevisionText (t ∷ ts) rs → [] ≡ t ++ behind_texts ts → ⊥
some_text t ts [] a e = absurd a
some_text t ts (r ∷ rs) a e = first_byte t _ a.0.spelled (behind_texts ts) e

-- texts that are joined alike are behind a comma alike
same_behind : (ts us : List (List ℕ)) (rs ss : List Revision) → AllZip IsRevisionText ts rs → AllZip IsRevisionText us ss → join_with_byte 44 ts ≡ join_with_byte 44 us → behind_texts ts ≡ behind_texts us
same_behind [] [] rs ss a b e = refl
same_behind [] (u ∷ us) rs ss a b e = absurd (some_text u us ss b (e ∙ joined_texts u us))
same_behind (t ∷ ts) [] rs ss a b e = absurd (some_text t ts rs a (sym e ∙ joined_texts t ts))
same_behind (t ∷ ts) (u ∷ us) rs ss a b e = ap (λ x. 44 ∷ x) (sym (joined_texts t ts) ∙ e ∙ joined_texts u us)

-- ---- the text that `vector_text` writes

texts_of : (v : Entries) (texts : List (List ℕ)) → AllZip IsRevisionText texts (revisions_of v) → texts ≡ filter_map (option_map revision_text) v
texts_of [] [] each = refl
texts_of [] (t ∷ ts) each = absurd each
texts_of (None ∷ v) texts each = texts_of v texts each
texts_of (Some r ∷ v) [] each = absurd each
texts_of (Some r ∷ v) (t ∷ ts) each = let first = revision_text_of t r each.0 in let rest = texts_of v ts each.1 in cc

pub vector_text_of : (text : List ℕ) (v : Entries) → IsVectorText text v → text ≡ vector_text v
vector_text_of text v t = t.joined ∙ ap (λ texts. join_with_byte 44 texts) (texts_of v t.texts t.each)

texts_are : (v : Entries) → All FitsFields (revisions_of v) → AllZip IsRevisionText (filter_map (option_map revision_text) v) (revisions_of v)
texts_are [] fits = tt
texts_are (None ∷ v) fits = texts_are v fits
texts_are (Some r ∷ v) fits = (revision_text_is r (All-head FitsFields r (revisions_of v) fits), texts_are v (All-tail FitsFields r (revisions_of v) fits))

pub vector_text_is : (v : Entries) → IsVector v → All FitsFields (revisions_of v) → IsVectorText (vector_text v) v
vector_text_is v vector fits = record { vector = vector; texts = filter_map (option_map revision_text) v; each = texts_are v fits; joined = refl }

-- ---- revisions go to their places

first_above : (v : Entries) (k : ℕ) (r : Revision) (rs : List Revision) → stands_from k v ≡ true → revisions_of v ≡ r ∷ rs → k ≤ r.cluster
first_above [] k r rs stands e = cc
first_above (None ∷ v) k r rs stands e = let above = first_above v (k + 1) r rs stands e in omega arith
first_above (Some q ∷ v) k r rs stands e =
    let node = number_same q.cluster k (both (q.cluster == k) _ stands).0 in
    let same : q ≡ r = cc in
    let same' : q.cluster ≡ r.cluster = ap (λ s. s.cluster) same in
    omega arith

not_first : (v : Entries) (k : ℕ) (r : Revision) (rs : List Revision) → r.cluster ≡ k → stands_from (k + 1) v ≡ true → revisions_of v ≡ r ∷ rs → ⊥
not_first v k r rs node stands e = let above = first_above v (k + 1) r rs stands e in omega arith

same_vector : (v w : Entries) (k : ℕ) → length v ≡ length w → stands_from k v ≡ true → stands_from k w ≡ true → revisions_of v ≡ revisions_of w → v ≡ w
same_vector [] [] k size a b e = refl
same_vector [] (f ∷ w) k size a b e = absurd (omega (arith, size))
same_vector (e' ∷ v) [] k size a b e = absurd (omega (arith, size))
same_vector (None ∷ v) (None ∷ w) k size a b e = ap (λ es. None ∷ es) (same_vector v w (k + 1) (omega (arith, size)) a b e)
same_vector (None ∷ v) (Some s ∷ w) k size a b e = absurd (not_first v k s (revisions_of w) (number_same s.cluster k (both (s.cluster == k) _ b).0) a e)
same_vector (Some r ∷ v) (None ∷ w) k size a b e = absurd (not_first w k r (revisions_of v) (number_same r.cluster k (both (r.cluster == k) _ a).0) b (sym e))
same_vector (Some r ∷ v) (Some s ∷ w) k size a b e =
    let first : r ≡ s = cc in
    let others : revisions_of v ≡ revisions_of w = cc in
    let rest = same_vector v w (k + 1) (omega (arith, size)) (both (r.cluster == k) _ a).1 (both (s.cluster == k) _ b).1 others in
    cc

pub one_vector : (text : List ℕ) (v w : Entries) → IsVectorText text v → IsVectorText text w → v ≡ w
one_vector text v w t u =
    let behind = same_behind t.texts u.texts (revisions_of v) (revisions_of w) t.each u.each (sym t.joined ∙ u.joined) in
    same_vector v w 1 (t.vector.eight ∙ sym u.vector.eight) t.vector.stands u.vector.stands (same_revisions t.texts u.texts (revisions_of v) (revisions_of w) t.each u.each behind)
