-- Each marked path lies at or below the commit root.
use Rattle.std.proofs.Common.{◌≡◌, inl, inr, true, false, cond, List, [], ◌∷◌, ◌++◌, length, take, refl, sym, ap, ◌∙◌, subst, append_assoc}
use Rattle.std.specs.Ordering.{eq_by_cmp}
use Rattle.jr_path.specs.Names.{name_cmp}
use Rattle.jr_path.specs.declared.name.Name.{Name}
use Rattle.jr_path.specs.declared.path.Path.{Path}
use Rattle.oak_clash.specs.declared.mark.MarkAt.{MarkAt}
use Rattle.oak_clash.specs.Clashes.{common, commit_root}
use Rattle.core_read.specs.Told.{IsIn}
use Rattle.jr_tree.proofs.Proper.{same_name}

-- p is c and more names
abbrev pub IsBelow : Path → Path → Type 0
IsBelow p c = (rest : Path) × (p ≡ c ++ rest)

common_first : (p q : Path) → IsBelow p (common p q)
common_first [] q = ([], refl)
common_first (m ∷ p) [] = (m ∷ p, refl)
common_first (m ∷ p) (n ∷ q) =
    let u : IsBelow p (common p q) = common_first p q in
    elim (eq_by_cmp name_cmp m n) as (λ b. IsBelow (m ∷ p) (cond b (m ∷ common p q) [])) [
      | true ↦ (u.0, ap (λ (l : Path). m ∷ l) u.1)
      | false ↦ (m ∷ p, refl)
    ]

common_second : (p q : Path) → IsBelow q (common p q)
common_second [] q = (q, refl)
common_second (m ∷ p) [] = ([], refl)
common_second (m ∷ p) (n ∷ q) =
    let u : IsBelow q (common p q) = common_second p q in
    elim (eq_by_cmp name_cmp m n) as (λ b. eq_by_cmp name_cmp m n ≡ b → IsBelow (n ∷ q) (cond b (m ∷ common p q) [])) [
      | true ↦ λ h. (u.0, ap (λ (a : Name). a ∷ q) (sym (same_name m n h)) ∙ ap (λ (l : Path). m ∷ l) u.1)
      | false ↦ λ h. (n ∷ q, refl)
    ] refl

below_trans : (p q c : Path) → IsBelow p q → IsBelow q c → IsBelow p c
below_trans p q c a b = (b.0 ++ a.0, a.1 ∙ (ap (λ (l : Path). l ++ a.0) b.1 ∙ append_assoc c b.0 a.0))

in_root : (m k : MarkAt) (ms : List MarkAt) → IsIn k (m ∷ ms) → IsBelow k.path (commit_root (m ∷ ms))
in_root m k [] h = elim h [ inl e ↦ ([], ap (λ (x : MarkAt). x.path) (sym e) ∙ whole m.path) | inr i ↦ absurd i ]
  where
    whole : (p : Path) → p ≡ p ++ []
    whole [] = refl
    whole (n ∷ p) = ap (λ (l : Path). n ∷ l) (whole p)
in_root m k (n ∷ ms) h =
    elim h [
      | inl e ↦ subst (λ (x : MarkAt). IsBelow x.path (common m.path (commit_root (n ∷ ms)))) e (common_first m.path (commit_root (n ∷ ms)))
      | inr i ↦ below_trans k.path (commit_root (n ∷ ms)) _ (in_root n k ms i) (common_second m.path (commit_root (n ∷ ms)))
    ]

taken : (c rest : Path) → take (length c) (c ++ rest) ≡ c
taken [] [] = refl
taken [] (n ∷ rest) = refl
taken (m ∷ c) rest = ap (λ (l : Path). m ∷ l) (taken c rest)

pub below_root : (ms : List MarkAt) (k : MarkAt) → IsIn k ms → take (length (commit_root ms)) k.path ≡ commit_root ms
below_root [] k h = absurd h
below_root (m ∷ ms) k h = let u = in_root m k ms h in ap (take (length (commit_root (m ∷ ms)))) u.1 ∙ taken (commit_root (m ∷ ms)) u.0
