-- What lacks first: needs stand in path order, and at one path the node before its children.
use Rattle.std.proofs.Common.{◌≡◌, ◌⊎◌, inl, inr, true, false, None, List, [], ◌∷◌, ◌++◌, is_some, refl, sym, ap, ◌∙◌, subst, append_assoc, append-nil}
use Rattle.std.specs.declared.cmp.Ordering.TheVariants.{Less}
use Rattle.std.specs.Option.{option_map_or}
use Rattle.std.specs.Ordering.{is_le, nat_cmp, ordering_then}
use Rattle.std.proofs.lemmas.Cmp.{nat_cmp_total, nat_list_cmp_total, tied_itself}
use mathlib.Core.Bool.{false≢true}
use Rattle.jr_path.specs.Names.{name_cmp, path_cmp}
use Rattle.jr_path.specs.declared.name.Name.{Name}
use Rattle.jr_path.specs.declared.path.Path.{Path}
use Rattle.jr_path.proofs.Maps.{path_total}
use Rattle.jr_part.specs.declared.need.Need.{Need}
use Rattle.jr_part.specs.declared.need.Need.TheVariants as need
use Rattle.jr_part.specs.Parts.{AsksBelow, IsFirstLacking, Knowledge, known_at, knows, list_at, need_cmp, need_path, need_rank, has_name}
use Rattle.jr_part.proofs.Ways.{AsksChild, There, below_asks, path_below, reached_itself, there_known}

pub front : (p xs ys : Path) → path_cmp (p ++ xs) (p ++ ys) ≡ path_cmp xs ys
front [] xs ys = refl
front (n ∷ p) xs ys = ap (λ o. ordering_then o (path_cmp (p ++ xs) (p ++ ys))) (tied_itself nat_list_cmp_total n) ∙ front p xs ys

module _ (k : Knowledge) where
  -- what is asked below one child stands before what is asked below a later one
  pub apart : (p : Path) (n m : Name) (a b : Need) → AsksBelow k (p ++ n ∷ []) a → AsksBelow k (p ++ m ∷ []) b → name_cmp n m ≡ Less → is_le (need_cmp a b) ≡ true
  apart p n m a b of_a of_b less =
      let x = path_below k (p ++ n ∷ []) a of_a in
      let y = path_below k (p ++ m ∷ []) b of_b in
      let at_a : need_path a ≡ p ++ n ∷ x.0 = x.1 ∙ append_assoc p (n ∷ []) x.0 in
      let at_b : need_path b ≡ p ++ m ∷ y.0 = y.1 ∙ append_assoc p (m ∷ []) y.0 in
      let before : path_cmp (need_path a) (need_path b) ≡ Less =
      ap (λ (q : Path). path_cmp q (need_path b)) at_a
      ∙ (ap (λ (q : Path). path_cmp (p ++ n ∷ x.0) q) at_b
      ∙ (front p (n ∷ x.0) (m ∷ y.0) ∙ ap (λ o. ordering_then o (path_cmp x.0 y.0)) less)) in
      ap (λ o. is_le (ordering_then o (nat_cmp (need_rank a) (need_rank b)))) before

  least_rank : (m : Need) → is_le (nat_cmp 0 (need_rank m)) ≡ true
  least_rank (need.Node q) = refl
  least_rank (need.Children q) = refl
  least_rank (need.Subtree q) = refl
  least_rank need.All = refl

  node_first : (p : Path) (m : Need) → AsksBelow k p m → is_le (need_cmp (need.Node p) m) ≡ true
  node_first p m a =
      let x = path_below k p m a in
      let order : path_cmp p (need_path m) ≡ path_cmp [] x.0 =
      ap (λ (q : Path). path_cmp p q) x.1 ∙ (ap (λ (q : Path). path_cmp q (p ++ x.0)) (sym (append-nil p)) ∙ front p [] x.0) in
      ap (λ o. is_le (ordering_then o (nat_cmp 0 (need_rank m)))) order ∙ by x.0
    where
      by : (ns : List Name) → is_le (ordering_then (path_cmp [] ns) (nat_cmp 0 (need_rank m))) ≡ true
      by [] = least_rank m
      by (n ∷ ns) = refl

  pub itself : (m : Need) → is_le (need_cmp m m) ≡ true
  itself m =
      ap (λ o. is_le (ordering_then o (nat_cmp (need_rank m) (need_rank m)))) (tied_itself path_total (need_path m))
      ∙ ap is_le (tied_itself nat_cmp_total (need_rank m))

  -- ---- what lacks first at a path

  pub first_node : (p : Path) → known_at k p ≡ None → IsFirstLacking k (need.Subtree p) (need.Node p)
  first_node p none = record {
    asked = reached_itself k p;
    unknown = ap is_some none;
    first = λ m a not. node_first p m a;
  }

  pub first_children : (p : Path) → There k p → list_at k p ≡ None → IsFirstLacking k (need.Subtree p) (need.Children p)
  first_children p there none = record {
    asked = (reached_itself k p, there);
    unknown = ap is_some none;
    first = λ m a not. by m (below_asks k p m a) not;
  }
    where
      by : (m : Need) → (m ≡ need.Node p) ⊎ (((m ≡ need.Children p) × There k p) ⊎ AsksChild k p m) → knows k m ≡ false → is_le (need_cmp (need.Children p) m) ≡ true
      by m (inl e) not = absurd (false≢true (sym not ∙ (ap (knows k) e ∙ ap is_some (there_known k p there))))
      by m (inr (inl e)) not = ap (λ (x : Need). is_le (need_cmp (need.Children p) x)) e.0 ∙ itself (need.Children p)
      by m (inr (inr r)) not = absurd (false≢true (ap (λ o. option_map_or (λ ns. has_name ns r.0) o false) (sym none) ∙ r.2))

  -- ---- the same at a copy of the path

  pub first_node_at : (p copy : Path) → copy ≡ p → known_at k p ≡ None → IsFirstLacking k (need.Subtree p) (need.Node copy)
  first_node_at p copy is none = subst (λ (q : Path). IsFirstLacking k (need.Subtree p) (need.Node q)) (sym is) (first_node p none)

  pub first_children_at : (p copy : Path) → copy ≡ p → There k p → list_at k p ≡ None → IsFirstLacking k (need.Subtree p) (need.Children copy)
  first_children_at p copy is there none = subst (λ (q : Path). IsFirstLacking k (need.Subtree p) (need.Children q)) (sym is) (first_children p there none)

  -- a need for one node, or for the children of one, lacks it
  own_first : (m other : Need) → other ≡ m → is_le (need_cmp m other) ≡ true
  own_first m other e = ap (λ (x : Need). is_le (need_cmp m x)) e ∙ itself m

  pub own_node : (p copy : Path) → copy ≡ p → known_at k p ≡ None → IsFirstLacking k (need.Node p) (need.Node copy)
  own_node p copy is none = subst (λ (q : Path). IsFirstLacking k (need.Node p) (need.Node q)) (sym is)
      record { asked = refl; unknown = ap is_some none; first = λ m a not. own_first (need.Node p) m a }

  pub own_children : (p copy : Path) → copy ≡ p → list_at k p ≡ None → IsFirstLacking k (need.Children p) (need.Children copy)
  own_children p copy is none = subst (λ (q : Path). IsFirstLacking k (need.Children p) (need.Children q)) (sym is)
      record { asked = refl; unknown = ap is_some none; first = λ m a not. own_first (need.Children p) m a }
