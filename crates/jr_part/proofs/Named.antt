-- The children of a node of a tree by their names: the paths of children, and what is listed at a name.
use Rattle.std.proofs.Common.{◌≡◌, ◌⊎◌, inl, inr, Bool, true, false, cond, Some, None, Option, [], ◌∷◌, ◌++◌, is_some, refl, sym, ap, ◌∙◌}
use Rattle.std.specs.declared.cmp.Ordering.{Ordering}
use Rattle.std.specs.declared.cmp.Ordering.TheVariants.{Less, Equal, Greater}
use Rattle.std.specs.Option.{option_map, option_map_or}
use Rattle.std.specs.Ordering.{eq_by_cmp, is_eq, ordering_then}
use Rattle.std.specs.Map.{lookup}
use Rattle.std.specs.BTreeMap.{is_at}
use Rattle.std.specs.List.{cons_option, list_all}
use Rattle.std.proofs.lemmas.Cmp.{eq_by_cmp_equiv}
use mathlib.Core.Bool.{false≢true}
use Rattle.jr_path.specs.Names.{last_name, name_cmp, path_cmp}
use Rattle.jr_path.specs.declared.name.Name.{Name}
use Rattle.jr_path.specs.declared.path.Path.{Path}
use Rattle.jr_path.proofs.Maps.{path_total}
use Rattle.jr_path.proofs.Parts.{last_name-child, parent_of-child}
use Rattle.jr_rev.specs.declared.revision.Revision.{Revision}
use Rattle.jr_tree.specs.declared.tree.Node.{Node}
use Rattle.jr_tree.specs.Trees.{IsTree, Nodes, dated_children_of, has_parent, is_child_of, node_at}
use Rattle.jr_tree.proofs.Entries.{first, second}
use Rattle.jr_tree.proofs.Pointwise.{same_path}
use Rattle.jr_part.proofs.Order.{front}

-- ---- paths of children

pub ends : (q : Path) → (q ≡ []) ⊎ ((above : Path) × (n : Name) × (q ≡ above ++ n ∷ []))
ends [] = inl refl
ends (m ∷ q) = by (ends q)
  where
    by : (q ≡ []) ⊎ ((above : Path) × (n : Name) × (q ≡ above ++ n ∷ [])) → (m ∷ q ≡ []) ⊎ ((above : Path) × (n : Name) × (m ∷ q ≡ above ++ n ∷ []))
    by (inl e) = inr ([], m, ap (λ (x : Path). m ∷ x) e)
    by (inr r) = inr (m ∷ r.0, r.1, ap (λ (x : Path). m ∷ x) r.2)

pub child_is : (p above : Path) (n : Name) → is_child_of p (above ++ n ∷ []) ≡ eq_by_cmp path_cmp p above
child_is p above n = ap (λ o. option_map_or (eq_by_cmp path_cmp p) o false) (parent_of-child above n)

pub own_child : (p : Path) (n : Name) → is_child_of p (p ++ n ∷ []) ≡ true
own_child p n = child_is p p n ∙ (eq_by_cmp_equiv path_total).refl p

-- a path is a child's, or it isn't
pub child_or_not : (p q : Path) → (is_child_of p q ≡ false) ⊎ ((n : Name) × (q ≡ p ++ n ∷ []))
child_or_not p q = by (ends q)
  where
    at : (above : Path) (n : Name) → q ≡ above ++ n ∷ [] → (b : Bool) → eq_by_cmp path_cmp p above ≡ b → (is_child_of p q ≡ false) ⊎ ((n : Name) × (q ≡ p ++ n ∷ []))
    at above n e true h = inr (n, e ∙ ap (λ (x : Path). x ++ n ∷ []) (sym (same_path p above h)))
    at above n e false h = inl (ap (is_child_of p) e ∙ (child_is p above n ∙ h))

    by : (q ≡ []) ⊎ ((above : Path) × (n : Name) × (q ≡ above ++ n ∷ [])) → (is_child_of p q ≡ false) ⊎ ((n : Name) × (q ≡ p ++ n ∷ []))
    by (inl e) = inl (ap (is_child_of p) e)
    by (inr r) = at r.0 r.1 r.2 (eq_by_cmp path_cmp p r.0) refl

pub same_names : (p : Path) (m n : Name) → eq_by_cmp path_cmp (p ++ m ∷ []) (p ++ n ∷ []) ≡ eq_by_cmp name_cmp m n
same_names p m n = ap is_eq (front p (m ∷ []) (n ∷ [])) ∙ then_equal (name_cmp m n)
  where
    then_equal : (o : Ordering) → is_eq (ordering_then o Equal) ≡ is_eq o
    then_equal Less = refl
    then_equal Equal = refl
    then_equal Greater = refl

-- what is no child isn't at a child's path
pub apart : (p q : Path) (n : Name) → is_child_of p q ≡ false → eq_by_cmp path_cmp (p ++ n ∷ []) q ≡ false
apart p q n out = by (eq_by_cmp path_cmp (p ++ n ∷ []) q) refl
  where
    by : (b : Bool) → eq_by_cmp path_cmp (p ++ n ∷ []) q ≡ b → b ≡ false
    by false h = refl
    by true h = sym (own_child p n) ∙ (ap (is_child_of p) (same_path (p ++ n ∷ []) q h) ∙ out)

-- ---- the child of that name

abbrev pub born_in : Option Node → Option (Option Revision)
born_in o = option_map {T = Node} (λ node. node.born) o

abbrev child_at : Path → Path → Option Revision → Option (Name × Option Revision)
child_at p q born = cond (is_child_of p q) (option_map (λ n. (n, born)) (last_name q)) None

child_there : (p : Path) (n : Name) (born : Option Revision) → child_at p (p ++ n ∷ []) born ≡ Some (n, born)
child_there p n born =
    ap (λ b. cond b (option_map (λ m. (m, born)) (last_name (p ++ n ∷ []))) None) (own_child p n)
    ∙ ap (λ o. option_map (λ m. (m, born)) o) (last_name-child p n)

pub named_child : (p : Path) (n : Name) (t : Nodes) → lookup (is_at (name_cmp n)) (dated_children_of t p) ≡ born_in (node_at t (p ++ n ∷ []))
named_child p n [] = refl
named_child p n (e ∷ t) = by (child_or_not p e.0) (named_child p n t)
  where
    at : Option (Name × Option Revision) → Option (Option Revision)
    at o = lookup (is_at (name_cmp n)) (cons_option o (dated_children_of t p))

    here : (b : Bool) → lookup (is_at (name_cmp n)) (dated_children_of t p) ≡ born_in (node_at t (p ++ n ∷ []))
        → cond b (Some e.1.born) (lookup (is_at (name_cmp n)) (dated_children_of t p)) ≡ born_in (cond b (Some e.1) (node_at t (p ++ n ∷ [])))
    here true rest = refl
    here false rest = rest

    by : (is_child_of p e.0 ≡ false) ⊎ ((m : Name) × (e.0 ≡ p ++ m ∷ [])) → lookup (is_at (name_cmp n)) (dated_children_of t p) ≡ born_in (node_at t (p ++ n ∷ []))
        → at (child_at p e.0 e.1.born) ≡ born_in (cond (eq_by_cmp path_cmp (p ++ n ∷ []) e.0) (Some e.1) (node_at t (p ++ n ∷ [])))
    by (inl out) rest =
        ap (λ b. at (cond b (option_map (λ m. (m, e.1.born)) (last_name e.0)) None)) out
        ∙ (rest ∙ ap (λ b. born_in (cond b (Some e.1) (node_at t (p ++ n ∷ [])))) (sym (apart p e.0 n out)))
    by (inr r) rest =
        ap (λ (q : Path). at (child_at p q e.1.born)) r.1
        ∙ (ap at (child_there p r.0 e.1.born)
        ∙ (here (eq_by_cmp name_cmp n r.0) rest
        ∙ ap (λ b. born_in (cond b (Some e.1) (node_at t (p ++ n ∷ [])))) (sym (ap (eq_by_cmp path_cmp (p ++ n ∷ [])) r.1 ∙ same_names p n r.0))))

-- ---- a node that isn't there

module _ (p : Path) where
  no_child : (t : Nodes) → node_at t p ≡ None → (q : Path) → has_parent t q ≡ true → is_child_of p q ≡ false
  no_child t none q has = by (child_or_not p q)
    where
      by : (is_child_of p q ≡ false) ⊎ ((n : Name) × (q ≡ p ++ n ∷ [])) → is_child_of p q ≡ false
      by (inl out) = out
      by (inr r) = absurd (false≢true
          (ap is_some (sym none)
          ∙ (ap (λ o. option_map_or (λ x. is_some (node_at t x)) o true) (sym (parent_of-child p r.0))
          ∙ (ap (has_parent t) (sym r.1) ∙ has))))

  -- a node that isn't there has no children
  pub none_without : (t : Nodes) → IsTree t → node_at t p ≡ None → dated_children_of t p ≡ []
  none_without t tree none = by t tree.parents
    where
      by : (es : Nodes) → list_all (λ e. has_parent t e.0) es ≡ true → dated_children_of es p ≡ []
      by [] h = refl
      by (e ∷ es) h =
          ap (λ b. cons_option (cond b (option_map (λ m. (m, e.1.born)) (last_name e.0)) None) (dated_children_of es p)) (no_child t none e.0 (first _ _ h))
          ∙ by es (second _ _ h)
