-- The paths from a path up to the root.
use Rattle.std.proofs.Common.{◌≡◌, ℕ, zero, suc, ◌+◌, ◌-◌, ◌<◌, ◌≤◌, List, [], ◌∷◌, ◌++◌, length, get_or, map, take, refl, sym, ap, ◌∙◌, inl, inr, arith}
use Rattle.std.proofs.lemmas.Bool.{cases_lt}
use Rattle.std.proofs.lemmas.List.{take_more, take_all, length-map, length-append, get_or_append_left, get_or-append_right, get_or-map}
use Rattle.jr_path.specs.declared.path.Path.{Path}
use Rattle.jr_items.specs.Items.{upward}

length-upward : (p : Path) → length (upward p) ≡ length p + 1
length-upward [] = refl
length-upward (n ∷ p) =
    let rest : length (upward p) ≡ length p + 1 = length-upward p in
    let all : length (upward (n ∷ p)) ≡ length (map (λ (q : Path). n ∷ q) (upward p)) + 1 = length-append (map (λ (q : Path). n ∷ q) (upward p)) ([] ∷ []) in
    let each : length (map (λ (q : Path). n ∷ q) (upward p)) ≡ length (upward p) = length-map (upward p) (λ (q : Path). n ∷ q) in
    omega arith

-- so many names above the path stands the one that is so much shorter
at-upward : (p : Path) (i : ℕ) (d : Path) → i ≤ length p → get_or (upward p) i d ≡ take (length p - i) p
at-upward [] zero d h = refl
at-upward [] (suc i) d h = absurd (omega arith)
at-upward (n ∷ p) i d h =
    let each : length (map (λ (q : Path). n ∷ q) (upward p)) ≡ length (upward p) = length-map (upward p) (λ (q : Path). n ∷ q) in
    let size : length (upward p) ≡ length p + 1 = length-upward p in
    elim (cases_lt i (length p + 1)) [
      | inl below ↦
          get_or_append_left (map (λ (q : Path). n ∷ q) (upward p)) ([] ∷ []) d i (omega arith)
          ∙ (get_or-map (λ (q : Path). n ∷ q) (upward p) i d d (omega arith)
          ∙ (ap (λ (q : Path). n ∷ q) (at-upward p i d (omega arith))
          ∙ (let less : suc (length p - i) ≡ suc (length p) - i = omega arith in ap (λ k. take k (n ∷ p)) less)))
      | inr past ↦
          let top : i - (length p + 1) ≡ 0 = omega arith in
          let none : suc (length p) - i ≡ 0 = omega arith in
          get_or-append_right (map (λ (q : Path). n ∷ q) (upward p)) ([] ∷ []) (length p + 1) i d (omega arith) past
          ∙ (ap (λ k. get_or ([] ∷ []) k d) top ∙ ap (λ k. take k (n ∷ p)) (sym none))
    ]

-- one path more
pub upward_more : (p : Path) (i : ℕ) (x : Path) (old new : List Path) → i ≤ length p → x ≡ take (length p - i) p → old ≡ take i (upward p) → new ≡ old ++ x ∷ [] → new ≡ take (i + 1) (upward p)
upward_more p i x old new h is so_far pushed =
    let size : length (upward p) ≡ length p + 1 = length-upward p in
    pushed ∙ (ap (λ (ps : List Path). ps ++ x ∷ []) so_far ∙ (ap (λ (y : Path). take i (upward p) ++ y ∷ []) (is ∙ sym (at-upward p i x h)) ∙ sym (take_more (upward p) i x (omega arith))))

-- all were made
pub upward_all : (p : Path) (i : ℕ) (paths : List Path) → length p < i → paths ≡ take i (upward p) → paths ≡ upward p
upward_all p i paths h so_far =
    let size : length (upward p) ≡ length p + 1 = length-upward p in
    so_far ∙ take_all i (upward p) (omega arith)
