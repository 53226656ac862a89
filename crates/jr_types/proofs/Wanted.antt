-- Definitions that are wanted, put one behind another.
use Rattle.std.proofs.Common.{◌≡◌, ◌<◌, ◌≤◌, ◌+◌, ℕ, zero, suc, arith, Bool, true, false, cond, List, [], ◌∷◌, ◌++◌, if◌then◌else◌, length, map, take, get_or, refl, sym, ap, ◌∙◌, append_assoc}
use Rattle.std.specs.List.{filter, flat_map}
use Rattle.std.proofs.lemmas.List.{append-nil, take_more}
use Rattle.std.proofs.lemmas.List.Elements.{filter-append}
use Rattle.std.proofs.lemmas.Grind.{flat_map-append}
use denote.Ref.{Bor}
use Rattle.jr_types.proofs.Further.{seen_behind}

-- what is put where it is wanted
abbrev put_if : {X : Type 0} → Bool → X → List X
put_if b x = if b then x ∷ [] else []

same_put : {X : Type 0} (b : Bool) (x : X) → cond b (x ∷ []) [] ≡ put_if b x
same_put true x = refl
same_put false x = refl

-- the first ones, as they are seen, with one more
seen_more : {X : Type 0} (xs : List (Bor X)) (i : ℕ) (x : Bor X) → i < length xs → x ≡ get_or xs i x → map (λ b. b.now) (take (i + 1) xs) ≡ map (λ b. b.now) (take i xs) ++ x.now ∷ []
seen_more xs i x l at = ap (map (λ b. b.now)) (take_more xs i x l ∙ ap (λ y. take i xs ++ y ∷ []) (sym at)) ∙ seen_behind (λ b. b.now) (take i xs) x

-- those of the first ones that are wanted, with one more
pub wanted_more : {X : Type 0} (test : X → Bool) (xs : List (Bor X)) (i : ℕ) (x : Bor X) (old new : List X) (w : Bool) → i < length xs → x ≡ get_or xs i x
    → old ≡ filter test (map (λ b. b.now) (take i xs)) → w ≡ test x.now → new ≡ old ++ put_if w x.now → new ≡ filter test (map (λ b. b.now) (take (i + 1) xs))
wanted_more test xs i x old new w l at so_far is put =
    put ∙ (ap (λ ys. ys ++ put_if w x.now) so_far
    ∙ (ap (λ b. filter test (map (λ b. b.now) (take i xs)) ++ put_if b x.now) is
    ∙ (ap (λ ys. filter test (map (λ b. b.now) (take i xs)) ++ ys) (sym (same_put (test x.now) x.now))
    ∙ (sym (filter-append test (map (λ b. b.now) (take i xs)) (x.now ∷ []))
    ∙ ap (filter test) (sym (seen_more xs i x l at))))))

-- what the first ones have, with one more
pub given_all : {X Y : Type 0} (g : X → List Y) (xs : List (Bor X)) (i : ℕ) (x : Bor X) (old new : List Y) → i < length xs → x ≡ get_or xs i x
    → old ≡ flat_map g (map (λ b. b.now) (take i xs)) → new ≡ old ++ g x.now → new ≡ flat_map g (map (λ b. b.now) (take (i + 1) xs))
given_all g xs i x old new l at so_far put =
    put ∙ (ap (λ ys. ys ++ g x.now) so_far
    ∙ (ap (λ ys. flat_map g (map (λ b. b.now) (take i xs)) ++ ys) (sym (append-nil (g x.now)))
    ∙ (sym (flat_map-append g (map (λ b. b.now) (take i xs)) (x.now ∷ []))
    ∙ ap (flat_map g) (sym (seen_more xs i x l at)))))

-- the first ones behind others, with one more
pub behind_more : {X : Type 0} (xs : List X) (i : ℕ) (x : X) (init old new : List X) → i < length xs → x ≡ get_or xs i x
    → old ≡ init ++ take i xs → new ≡ old ++ x ∷ [] → new ≡ init ++ take (i + 1) xs
behind_more xs i x init old new l at so_far put =
    put ∙ (ap (λ ys. ys ++ x ∷ []) so_far
    ∙ (append_assoc init (take i xs) (x ∷ [])
    ∙ ap (λ ys. init ++ ys) (sym (take_more xs i x l ∙ ap (λ y. take i xs ++ y ∷ []) (sym at)))))

past : {X : Type 0} (xs : List X) (i : ℕ) → length xs ≤ i → take i xs ≡ xs
past [] zero l = refl
past [] (suc i) l = refl
past (x ∷ xs) zero l = absurd (none l)
  where
    none : length (x ∷ xs) ≤ 0 → ⊥
    none l = omega arith
past (x ∷ xs) (suc i) l = ap (λ ys. x ∷ ys) (past xs i (let m : length xs ≤ i = omega arith in m))

-- those of all that are wanted
pub wanted_all : {X : Type 0} (test : X → Bool) (xs : List (Bor X)) (i : ℕ) (all : List X) → length xs ≤ i
    → all ≡ filter test (map (λ b. b.now) (take i xs)) → all ≡ filter test (map (λ b. b.now) xs)
wanted_all test xs i all l so_far = so_far ∙ ap (λ ys. filter test (map (λ b. b.now) ys)) (past xs i l)
