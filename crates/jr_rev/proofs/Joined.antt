-- The texts of revisions with commas between them.
use Rattle.std.proofs.Common.{◌≡◌, ℕ, ◌+◌, ◌<◌, ◌≤◌, Bool, true, false, cond, List, Some, None, [], ◌∷◌, ◌++◌, length, drop, take, get_or, All, Result, Ok, Err, OnOk, OnErr, refl, sym, ap, ◌∙◌, append_assoc}
use Rattle.std.proofs.lemmas.List.{append-nil, drop_more, take_more, take_all}
use Rattle.std.proofs.lemmas.List.Elements.{All-push}
use Rattle.std.specs.List.{filter_map, join_with_byte}
use Rattle.std.specs.Option.{option_map}
use Rattle.jr_rev.specs.declared.revision.Revision.{Revision}
use Rattle.jr_rev.specs.Texts.{revision_text, vector_text}
use Rattle.jr_rev.specs.Grammar.{FitsFields}
use Rattle.jr_rev.specs.Vectors.{Entries, revisions_of}

-- the texts, a comma before each
abbrev pub behind_texts : List (List ℕ) → List ℕ
behind_texts [] = []
behind_texts (t ∷ ts) = 44 ∷ (t ++ behind_texts ts)

pub joined_texts : (t : List ℕ) (ts : List (List ℕ)) → join_with_byte 44 (t ∷ ts) ≡ t ++ behind_texts ts
joined_texts t [] = sym (append-nil t)
joined_texts t (u ∷ us) = ap (λ more. t ++ (44 ∷ more)) (joined_texts u us)

-- what is still to be written of the entries, where no revision is written yet, or some
abbrev pub left_text : Bool → Entries → List ℕ
left_text true es = vector_text es
left_text false es = behind_texts (filter_map (option_map revision_text) es)

left_none : (first : Bool) (es : Entries) → left_text first (None ∷ es) ≡ left_text first es
left_none true es = refl
left_none false es = refl

left_some : (first : Bool) (r : Revision) (es : Entries) → left_text first (Some r ∷ es) ≡ (cond first [] (44 ∷ []) ++ revision_text r) ++ left_text false es
left_some true r es = joined_texts (revision_text r) (filter_map (option_map revision_text) es)
left_some false r es = refl

pub nothing_next : (start out : List ℕ) (es : Entries) (i : ℕ) (first : Bool) → i < length es → get_or es i None ≡ None → out ++ left_text first (drop i es) ≡ start → out ++ left_text first (drop (i + 1) es) ≡ start
nothing_next start out es i first within is h =
    let all : drop i es ≡ None ∷ drop (i + 1) es = drop_more es i None within ∙ ap (λ e. e ∷ drop (i + 1) es) is in
    rw (all, left_none first (drop (i + 1) es)) at h

pub revision_next : (start out out' : List ℕ) (es : Entries) (i : ℕ) (first : Bool) (r : Revision) → i < length es → get_or es i None ≡ Some r → out' ≡ out ++ (cond first [] (44 ∷ []) ++ revision_text r) → out ++ left_text first (drop i es) ≡ start → out' ++ left_text false (drop (i + 1) es) ≡ start
revision_next start out out' es i first r within is put h =
    let all : drop i es ≡ Some r ∷ drop (i + 1) es = drop_more es i None within ∙ ap (λ e. e ∷ drop (i + 1) es) is in
    let next : out ++ ((cond first [] (44 ∷ []) ++ revision_text r) ++ left_text false (drop (i + 1) es)) ≡ start = rw (all, left_some first r (drop (i + 1) es)) at h in
    rw (put, append_assoc out (cond first [] (44 ∷ []) ++ revision_text r) (left_text false (drop (i + 1) es))) next

pub two_fronts : (old mid new x y : List ℕ) → mid ≡ old ++ x → new ≡ mid ++ y → (more : List ℕ) × (new ≡ old ++ more)
two_fronts old mid new x y a b = (x ++ y, b ∙ ap (λ m. m ++ y) a ∙ append_assoc old x y)

-- ---- the numbers of the revisions fit

revisions_of-append : (v w : Entries) → revisions_of (v ++ w) ≡ revisions_of v ++ revisions_of w
revisions_of-append [] w = refl
revisions_of-append (None ∷ v) w = revisions_of-append v w
revisions_of-append (Some r ∷ v) w = ap (λ rs. r ∷ rs) (revisions_of-append v w)

pub fits_none : (es : Entries) (i : ℕ) → i < length es → get_or es i None ≡ None → All FitsFields (revisions_of (take i es)) → All FitsFields (revisions_of (take (i + 1) es))
fits_none es i within is fits =
    let same : revisions_of (take (i + 1) es) ≡ revisions_of (take i es) =
    ap revisions_of (take_more es i None within ∙ ap (λ e. take i es ++ e ∷ []) is) ∙ revisions_of-append (take i es) (None ∷ []) ∙ append-nil (revisions_of (take i es)) in
    rw same fits

pub fits_some : (es : Entries) (i : ℕ) (r : Revision) → i < length es → get_or es i None ≡ Some r → FitsFields r → All FitsFields (revisions_of (take i es)) → All FitsFields (revisions_of (take (i + 1) es))
fits_some es i r within is fit fits =
    let same : revisions_of (take (i + 1) es) ≡ revisions_of (take i es) ++ r ∷ [] =
    ap revisions_of (take_more es i None within ∙ ap (λ e. take i es ++ e ∷ []) is) ∙ revisions_of-append (take i es) (Some r ∷ []) in
    rw same (All-push FitsFields (revisions_of (take i es)) r fits fit)

pub fits_all : (es : Entries) (i : ℕ) → length es ≤ i → All FitsFields (revisions_of (take i es)) → All FitsFields (revisions_of es)
fits_all es i past fits = rw (take_all i es past) at fits

-- where the end is as it was after a refusal, it is all of what was there, and some more
pub some_front : {X : Type 0} {E : Type 0} (result : Result X E) (old new text : List ℕ) → OnOk result (new ≡ old ++ text) → OnErr result (new ≡ old) → (more : List ℕ) × (new ≡ old ++ more)
some_front (Ok x) old new text ok err = (text, ok)
some_front (Err e) old new text ok err = ([], err ∙ sym (append-nil old))
