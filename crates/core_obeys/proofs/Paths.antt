-- A path and those above it.
use Rattle.std.proofs.Common.{◌≡◌, inl, inr, ◌≤◌, true, List, [], ◌∷◌, ◌++◌, length, map, refl, sym, ap, ◌∙◌, subst, arith, append_assoc, append-nil}
use Rattle.std.proofs.lemmas.List.{length_push}
use Rattle.jr_path.specs.Names.{is_under}
use Rattle.jr_path.specs.declared.name.Name.{Name}
use Rattle.jr_path.specs.declared.path.Path.{Path}
use Rattle.jr_path.proofs.Parts.{below_is_prefix}
use Rattle.jr_items.specs.Items.{child_path, upward}
use Rattle.jcr_marks.proofs.Membership.{IsIn}
use Rattle.core_obeys.proofs.Steps.{below}

pub upward_child : (q : Path) (n : Name) → upward (child_path q n) ≡ child_path q n ∷ upward q
upward_child [] n = refl
upward_child (m ∷ q) n = ap (λ (ps : List Path). map (λ r. m ∷ r) ps ++ [] ∷ []) (upward_child q n)

pub upward_first : (p : Path) → (tail : List Path) × (upward p ≡ p ∷ tail)
upward_first [] = ([], refl)
upward_first (n ∷ p) = let rest = upward_first p in (map (λ r. n ∷ r) rest.0 ++ [] ∷ [], ap (λ (ps : List Path). map (λ r. n ∷ r) ps ++ [] ∷ []) rest.1)

-- what is above a path is among those
pub in_upward : (a : Path) (rest : List Name) → IsIn a (upward (below a rest))
in_upward a [] = let first = upward_first a in subst (λ (ps : List Path). IsIn a ps) (sym first.1) (inl refl)
in_upward a (n ∷ rest) = subst (λ (ps : List Path). IsIn a ps) (sym (upward_child (below a rest) n)) (inr (in_upward a rest))

below_more : (a : Path) (rest : List Name) → (more : Path) × (below a rest ≡ a ++ more)
below_more a [] = ([], sym (append-nil a))
below_more a (n ∷ rest) = let it = below_more a rest in (it.0 ++ n ∷ [], ap (λ (p : Path). p ++ n ∷ []) it.1 ∙ append_assoc a it.0 (n ∷ []))

pub below_under : (a : Path) (rest : List Name) → is_under (below a rest) a ≡ true
below_under a rest = (below_is_prefix (below a rest) a).1 (below_more a rest)

below_push : (a : Path) (n : Name) (rest : List Name) → below a (rest ++ n ∷ []) ≡ below (child_path a n) rest
below_push a n [] = refl
below_push a n (m ∷ rest) = ap (λ (p : Path). child_path p m) (below_push a n rest)

below_append : (a more : Path) → (rest : List Name) × (below a rest ≡ a ++ more)
below_append a [] = ([], sym (append-nil a))
below_append a (n ∷ more) = let it = below_append (child_path a n) more in (it.0 ++ n ∷ [], below_push a n it.0 ∙ (it.1 ∙ append_assoc a (n ∷ []) more))

pub under_below : (q a : Path) → is_under q a ≡ true → (rest : List Name) × (below a rest ≡ q)
under_below q a h = let more = (below_is_prefix q a).0 h in let it = below_append a more.0 in (it.0, it.1 ∙ sym more.1)

longer : (a : Path) (rest : List Name) → length a ≤ length (below a rest)
longer a [] = omega arith
longer a (n ∷ rest) = omega (arith, longer a rest, length_push (below a rest) n)

-- what is below a path isn't that path
pub not_itself : (a : Path) (n : Name) (rest : List Name) → below a (n ∷ rest) ≡ a → ⊥
not_itself a n rest h = omega (arith, longer a rest, length_push (below a rest) n, ap length h)
