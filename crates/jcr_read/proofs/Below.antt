-- All nodes are at or below the root.
use Rattle.std.proofs.Common.{◌≡◌, Bool, true, false, cond, List, [], ◌∷◌, refl, ap}
use Rattle.jr_path.specs.Names.{is_under}
use Rattle.jr_path.specs.declared.path.Path.{Path}
use Rattle.jr_tree.specs.Trees.{Nodes, subtree_of}

pub under_root : (p : Path) → is_under p [] ≡ true
under_root [] = refl
under_root (n ∷ p) = refl

kept : {A : Type 0} (b : Bool) (e : A) (xs ys : List A) → b ≡ true → xs ≡ ys → cond b (e ∷ xs) xs ≡ e ∷ ys
kept true e xs ys h same = ap (λ u. e ∷ u) same
kept false e xs ys h same = cc

pub all_below : (t : Nodes) → subtree_of t [] ≡ t
all_below [] = refl
all_below (e ∷ t) = kept (is_under e.0 []) e _ _ (under_root e.0) (all_below t)
