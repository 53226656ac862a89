-- The names of the children of a node of a tree: which they are, and that they rise; and a child's subtree is smaller than its parent's.
use Rattle.std.proofs.Common.{◌≡◌, ◌+◌, ◌-◌, ◌<◌, ◌≤◌, Bool, true, false, cond, ◌==◌, Some, None, Option, [], ◌∷◌, ◌++◌, length, take, is_some, refl, sym, ap, ◌∙◌, subst, append_assoc, append-nil, arith}
use Rattle.std.specs.declared.cmp.Ordering.{Ordering}
use Rattle.std.specs.declared.cmp.Ordering.TheVariants.{Less, Equal, Greater}
use Rattle.std.specs.Ordering.{eq_by_cmp, is_lt, ordering_then}
use Rattle.std.specs.Option.{option_map, option_map_or}
use Rattle.std.specs.Map.{lookup}
use Rattle.std.specs.BTreeMap.{is_at}
use Rattle.std.specs.FinMap.{is_sorted}
use Rattle.std.specs.FinMap.Entries.{below_all}
use Rattle.std.specs.List.{cons_option}
use Rattle.std.proofs.lemmas.Bool.Decides.{nat_tests}
use Rattle.std.proofs.lemmas.Option.{get_or_from_slice_get, slice_get_within}
use Rattle.std.proofs.lemmas.Cmp.{eq_by_cmp_equiv, nat_list_cmp_total}
use Rattle.std.proofs.lemmas.List.{take_all, take_more}
use mathlib.Core.Bool.{false≢true}
use Rattle.jr_path.specs.Names.{is_under, last_name, name_cmp, path_cmp}
use Rattle.jr_path.specs.declared.name.Name.{Name}
use Rattle.jr_path.specs.declared.path.Path.{Path}
use Rattle.jr_path.proofs.Maps.{path_exact, path_total}
use Rattle.jr_path.proofs.Parts.{below_is_prefix, last_name-child, parent_of-child}
use Rattle.jr_rev.specs.declared.revision.Revision.{Revision}
use Rattle.jr_tree.specs.Trees.{Nodes, dated_children_of, is_child_of, node_at, subtree_of}
use Rattle.jr_tree.proofs.Entries.{both, exactly, first, second}
use Rattle.jr_tree.proofs.Pointwise.{same_path}
use Rattle.jr_part.specs.Parts.{has_name}
use Rattle.jr_part.proofs.Order.{front}

-- the name of a child at q, with the revision that added the child
abbrev child_at : Path → Path → Option Revision → Option (Name × Option Revision)
child_at p q born = cond (is_child_of p q) (option_map (λ n. (n, born)) (last_name q)) None

own_child : (p : Path) (n : Name) (born : Option Revision) → child_at p (p ++ n ∷ []) born ≡ Some (n, born)
own_child p n born =
    ap (λ o. cond (option_map_or (eq_by_cmp path_cmp p) o false) (option_map (λ m. (m, born)) (last_name (p ++ n ∷ []))) None) (parent_of-child p n)
    ∙ (ap (λ b. cond b (option_map (λ m. (m, born)) (last_name (p ++ n ∷ []))) None) ((eq_by_cmp_equiv path_total).refl p)
    ∙ ap (λ o. option_map (λ m. (m, born)) o) (last_name-child p n))

-- where a child stands its name is listed
pub has_child : (p : Path) (n : Name) (t : Nodes) → is_some (node_at t (p ++ n ∷ [])) ≡ true → has_name (dated_children_of t p) n ≡ true
has_child p n [] h = absurd (false≢true h)
has_child p n (e ∷ t) h = by (eq_by_cmp path_cmp (p ++ n ∷ []) e.0) refl h (has_child p n t)
  where
    more : (b : Bool) (c : Name × Option Revision) → has_name (dated_children_of t p) n ≡ true → is_some (cond b (Some c.1) (lookup (is_at (name_cmp n)) (dated_children_of t p))) ≡ true
    more true c rest = refl
    more false c rest = rest

    later : (o : Option (Name × Option Revision)) → has_name (dated_children_of t p) n ≡ true → has_name (cons_option o (dated_children_of t p)) n ≡ true
    later None rest = rest
    later (Some c) rest = more (eq_by_cmp name_cmp n c.0) c rest

    by : (b : Bool) → eq_by_cmp path_cmp (p ++ n ∷ []) e.0 ≡ b → is_some (cond b (Some e.1) (node_at t (p ++ n ∷ []))) ≡ true
        → (is_some (node_at t (p ++ n ∷ [])) ≡ true → has_name (dated_children_of t p) n ≡ true) → has_name (dated_children_of (e ∷ t) p) n ≡ true
    by true same k rest =
        let here : child_at p e.0 e.1.born ≡ Some (n, e.1.born) = ap (λ (q : Path). child_at p q e.1.born) (sym (same_path (p ++ n ∷ []) e.0 same)) ∙ own_child p n e.1.born in
        ap (λ o. has_name (cons_option o (dated_children_of t p)) n) here
        ∙ ap (λ b. is_some (cond b (Some e.1.born) (lookup (is_at (name_cmp n)) (dated_children_of t p)))) ((eq_by_cmp_equiv nat_list_cmp_total).refl n)
    by false same k rest = later (child_at p e.0 e.1.born) (rest k)

-- ---- the names rise

last_behind : (q : Path) (n : Name) → last_name q ≡ Some n → q ≡ take (length q - 1) q ++ n ∷ []
last_behind q n h =
    let within : length q - 1 < length q = slice_get_within q (length q - 1) n h in
    sym (take_all (length q - 1 + 1) q (omega arith))
    ∙ take_more q (length q - 1) n within
    ∙ ap (λ x. take (length q - 1) q ++ x ∷ []) (get_or_from_slice_get q (length q - 1) n n h)

child_path : (p q : Path) (n : Name) → is_child_of p q ≡ true → last_name q ≡ Some n → q ≡ p ++ n ∷ []
child_path p q n h last =
    let within : length q - 1 < length q = slice_get_within q (length q - 1) n last in
    let some : (length q == 0) ≡ false = grind (arith, nat_tests) in
    let parent : p ≡ take (length q - 1) q = path_exact p (take (length q - 1) q) (exactly (path_cmp p (take (length q - 1) q)) (rw some at h)) in
    rw parent (last_behind q n last)

child_shape : (p q : Path) (born : Option Revision) (c : Name × Option Revision) → child_at p q born ≡ Some c → q ≡ p ++ c.0 ∷ []
child_shape p q born c h = by (is_child_of p q) refl (last_name q) refl h
  where
    by : (b : Bool) → is_child_of p q ≡ b → (o : Option Name) → last_name q ≡ o → cond b (option_map (λ n. (n, born)) o) None ≡ Some c → q ≡ p ++ c.0 ∷ []
    by true is None last e = absurd (false≢true (ap is_some e))
    by true is (Some n) last e = child_path p q n is last ∙ ap (λ o. p ++ option_map_or (λ (d : Name × Option Revision). d.0) o n ∷ []) e
    by false is o last e = absurd (false≢true (ap is_some e))

path_order : (p : Path) (a b : Name) → path_cmp (p ++ a ∷ []) (p ++ b ∷ []) ≡ name_cmp a b
path_order p a b = front p (a ∷ []) (b ∷ []) ∙ then_equal (name_cmp a b)
  where
    then_equal : (o : Ordering) → ordering_then o Equal ≡ o
    then_equal Less = refl
    then_equal Equal = refl
    then_equal Greater = refl

below_children : (p : Path) (n : Name) (t : Nodes) → below_all path_cmp (p ++ n ∷ []) t ≡ true → below_all name_cmp n (dated_children_of t p) ≡ true
below_children p n [] h = refl
below_children p n (e ∷ t) h = by (child_at p e.0 e.1.born) refl (below_children p n t (second _ _ h))
  where
    by : (o : Option (Name × Option Revision)) → child_at p e.0 e.1.born ≡ o → below_all name_cmp n (dated_children_of t p) ≡ true → below_all name_cmp n (cons_option o (dated_children_of t p)) ≡ true
    by None is rest = rest
    by (Some c) is rest =
        both _ _ (ap is_lt (sym (path_order p n c.0) ∙ ap (path_cmp (p ++ n ∷ [])) (sym (child_shape p e.0 e.1.born c is))) ∙ first _ _ h) rest

pub children_sorted : (p : Path) (t : Nodes) → is_sorted path_cmp t ≡ true → is_sorted name_cmp (dated_children_of t p) ≡ true
children_sorted p [] h = refl
children_sorted p (e ∷ t) h = by (child_at p e.0 e.1.born) refl (children_sorted p t (second _ _ h))
  where
    by : (o : Option (Name × Option Revision)) → child_at p e.0 e.1.born ≡ o → is_sorted name_cmp (dated_children_of t p) ≡ true → is_sorted name_cmp (cons_option o (dated_children_of t p)) ≡ true
    by None is rest = rest
    by (Some c) is rest = both _ _ (below_children p c.0 t (ap (λ (q : Path). below_all path_cmp q t) (sym (child_shape p e.0 e.1.born c is)) ∙ first _ _ h)) rest

-- ---- a child's subtree is smaller

under_child : (p q : Path) (n : Name) → is_under q (p ++ n ∷ []) ≡ true → is_under q p ≡ true
under_child p q n h =
    let b = (below_is_prefix q (p ++ n ∷ [])).0 h in
    (below_is_prefix q p).1 (n ∷ b.0, b.1 ∙ append_assoc p (n ∷ []) b.0)

fewer : (p : Path) (n : Name) (t : Nodes) → length (subtree_of t (p ++ n ∷ [])) ≤ length (subtree_of t p)
fewer p n [] = omega arith
fewer p n (e ∷ t) = by (is_under e.0 (p ++ n ∷ [])) refl (is_under e.0 p) refl (fewer p n t)
  where
    by : (b : Bool) → is_under e.0 (p ++ n ∷ []) ≡ b → (c : Bool) → is_under e.0 p ≡ c → length (subtree_of t (p ++ n ∷ [])) ≤ length (subtree_of t p)
        → length (cond b (e ∷ subtree_of t (p ++ n ∷ [])) (subtree_of t (p ++ n ∷ []))) ≤ length (cond c (e ∷ subtree_of t p) (subtree_of t p))
    by true h true k rest = omega arith
    by true h false k rest = absurd (false≢true (sym k ∙ under_child p e.0 n h))
    by false h true k rest = omega arith
    by false h false k rest = rest

pub smaller : (p : Path) (n : Name) (t : Nodes) → is_some (node_at t p) ≡ true → length (subtree_of t (p ++ n ∷ [])) < length (subtree_of t p)
smaller p n [] h = absurd (false≢true h)
smaller p n (e ∷ t) h = at (eq_by_cmp path_cmp p e.0) refl h (smaller p n t)
  where
    longer : (p q : Path) → length (p ++ q) ≡ length p + length q
    longer [] q = omega arith
    longer (m ∷ p) q = let l : length (p ++ q) ≡ length p + length q = longer p q in omega arith

    not_below : is_under p (p ++ n ∷ []) ≡ true → ⊥
    not_below u =
        let b = (below_is_prefix p (p ++ n ∷ [])).0 u in
        let one : length (p ++ n ∷ []) ≡ length p + length (n ∷ []) = longer p (n ∷ []) in
        let all : length ((p ++ n ∷ []) ++ b.0) ≡ length (p ++ n ∷ []) + length b.0 = longer (p ++ n ∷ []) b.0 in
        let same : length p ≡ length ((p ++ n ∷ []) ++ b.0) = ap length b.1 in
        absurd (omega arith)

    by : (b : Bool) → is_under e.0 (p ++ n ∷ []) ≡ b → (c : Bool) → is_under e.0 p ≡ c → length (subtree_of t (p ++ n ∷ [])) < length (subtree_of t p)
        → length (cond b (e ∷ subtree_of t (p ++ n ∷ [])) (subtree_of t (p ++ n ∷ []))) < length (cond c (e ∷ subtree_of t p) (subtree_of t p))
    by true h true k rest = omega arith
    by true h false k rest = absurd (false≢true (sym k ∙ under_child p e.0 n h))
    by false h true k rest = omega arith
    by false h false k rest = rest

    here : e.0 ≡ p → (b : Bool) → is_under e.0 (p ++ n ∷ []) ≡ b → (c : Bool) → is_under e.0 p ≡ c
        → length (cond b (e ∷ subtree_of t (p ++ n ∷ [])) (subtree_of t (p ++ n ∷ []))) < length (cond c (e ∷ subtree_of t p) (subtree_of t p))
    here same true h c k = absurd (not_below (ap (λ (q : Path). is_under q (p ++ n ∷ [])) (sym same) ∙ h))
    here same false h true k = let rest = fewer p n t in omega arith
    here same false h false k = absurd (false≢true (sym k ∙ (below_is_prefix e.0 p).1 ([], same ∙ sym (append-nil p))))

    at : (b : Bool) → eq_by_cmp path_cmp p e.0 ≡ b → is_some (cond b (Some e.1) (node_at t p)) ≡ true → (is_some (node_at t p) ≡ true → length (subtree_of t (p ++ n ∷ [])) < length (subtree_of t p))
        → length (subtree_of (e ∷ t) (p ++ n ∷ [])) < length (subtree_of (e ∷ t) p)
    at true same k rest = here (sym (same_path p e.0 same)) (is_under e.0 (p ++ n ∷ [])) refl (is_under e.0 p) refl
    at false same k rest = by (is_under e.0 (p ++ n ∷ [])) refl (is_under e.0 p) refl (rest k)

pub smaller_child : (t : Nodes) (p child : Path) (n : Name) → child ≡ p ++ n ∷ [] → is_some (node_at t p) ≡ true → length (subtree_of t child) < length (subtree_of t p)
smaller_child t p child n is there = subst (λ (q : Path). length (subtree_of t q) < length (subtree_of t p)) (sym is) (smaller p n t there)
