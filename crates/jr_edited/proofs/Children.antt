-- The names of children are those of the nodes that stand one step below.
use Rattle.std.proofs.Common.{◌≡◌, ◌+◌, ◌-◌, ◌<◌, Bool, true, false, cond, ◌==◌, ◌||◌, Some, None, Option, [], ◌∷◌, ◌++◌, length, take, is_some, refl, sym, ap, ◌∙◌, arith}
use Rattle.std.specs.Ordering.{eq_by_cmp, is_eq}
use Rattle.std.specs.Option.{option_map_or}
use Rattle.std.specs.Cmp.{tied_itself}
use Rattle.std.specs.List.{cons_option, list_any}
use Rattle.std.proofs.lemmas.Bool.Decides.{nat_tests}
use Rattle.std.proofs.lemmas.Option.{get_or_from_slice_get, slice_get_within}
use Rattle.std.proofs.lemmas.Cmp.{eq_by_cmp_equiv, nat_list_cmp_total}
use Rattle.std.proofs.lemmas.List.{take_all, take_more}
use mathlib.Core.Bool.{false≢true}
use Rattle.jr_path.specs.Names.{last_name, name_cmp, path_cmp}
use Rattle.jr_path.specs.declared.name.Name.{Name}
use Rattle.jr_path.specs.declared.path.Path.{Path}
use Rattle.jr_path.proofs.Maps.{name_exact, path_exact, path_total}
use Rattle.jr_path.proofs.Parts.{last_name-child, parent_of-child}
use Rattle.jr_tree.specs.declared.tree.Node.{Node}
use Rattle.jr_tree.specs.Trees.{Nodes, children_of, is_child_of, node_at}
use Rattle.jr_tree.proofs.Entries.{exactly}
use Rattle.jr_tree.proofs.Pointwise.{same_path}

last_behind : (q : Path) (n : Name) → last_name q ≡ Some n → q ≡ take (length q - 1) q ++ n ∷ []
last_behind q n h =
    let within : length q - 1 < length q = slice_get_within q (length q - 1) n h in
    sym (take_all (length q - 1 + 1) q (omega arith))
    ∙ take_more q (length q - 1) n within
    ∙ ap (λ x. take (length q - 1) q ++ x ∷ []) (get_or_from_slice_get q (length q - 1) n n h)

-- the path of a child is its parent's with its name behind
pub child_shape : (p q : Path) (n : Name) → is_child_of p q ≡ true → last_name q ≡ Some n → q ≡ p ++ n ∷ []
child_shape p q n h last =
    let within : length q - 1 < length q = slice_get_within q (length q - 1) n last in
    let some : (length q == 0) ≡ false = grind (arith, nat_tests) in
    let parent : p ≡ take (length q - 1) q = path_exact p (take (length q - 1) q) (exactly (path_cmp p (take (length q - 1) q)) (rw some at h)) in
    rw parent (last_behind q n last)

-- the name of a child that stands at q
abbrev name_of : Path → Path → Option Name
name_of p q = cond (is_child_of p q) (last_name q) None

own_name : (p : Path) (n : Name) → name_of p (p ++ n ∷ []) ≡ Some n
own_name p n =
    ap (λ (o : Option Path). cond (option_map_or (eq_by_cmp path_cmp p) o false) (last_name (p ++ n ∷ [])) None) (parent_of-child p n)
    ∙ (ap (λ b. cond b (last_name (p ++ n ∷ [])) None) (ap is_eq (tied_itself path_total p)) ∙ last_name-child p n)

named_so : (p q : Path) (n : Name) → name_of p q ≡ Some n → q ≡ p ++ n ∷ []
named_so p q n h = by (is_child_of p q) refl h
  where
    by : (b : Bool) → is_child_of p q ≡ b → cond b (last_name q) None ≡ Some n → q ≡ p ++ n ∷ []
    by true is last = child_shape p q n is last
    by false is last = absurd (false≢true (ap is_some last))

one : (p q : Path) (n : Name) (rest : Bool) → (option_map_or (eq_by_cmp name_cmp n) (name_of p q) false || rest) ≡ (eq_by_cmp path_cmp (p ++ n ∷ []) q || rest)
one p q n rest = ap (λ b. b || rest) (by (eq_by_cmp path_cmp (p ++ n ∷ []) q) refl)
  where
    other : (o : Option Name) → name_of p q ≡ o → eq_by_cmp path_cmp (p ++ n ∷ []) q ≡ false → option_map_or (eq_by_cmp name_cmp n) o false ≡ false
    other None is apart = refl
    other (Some m) is apart = tested (eq_by_cmp name_cmp n m) refl
      where
        tested : (b : Bool) → eq_by_cmp name_cmp n m ≡ b → b ≡ false
        tested true e =
            let same : q ≡ p ++ n ∷ [] = named_so p q m is ∙ ap (λ x. p ++ x ∷ []) (sym (name_exact n m (exactly (name_cmp n m) e))) in
            absurd (false≢true (sym apart ∙ (ap (eq_by_cmp path_cmp (p ++ n ∷ [])) same ∙ (eq_by_cmp_equiv path_total).refl (p ++ n ∷ []))))
        tested false e = refl

    by : (b : Bool) → eq_by_cmp path_cmp (p ++ n ∷ []) q ≡ b → option_map_or (eq_by_cmp name_cmp n) (name_of p q) false ≡ b
    by true e =
        ap (λ (o : Option Name). option_map_or (eq_by_cmp name_cmp n) o false) (ap (name_of p) (sym (same_path (p ++ n ∷ []) q e)) ∙ own_name p n)
        ∙ (eq_by_cmp_equiv nat_list_cmp_total).refl n
    by false e = other (name_of p q) refl e

any_there : (n : Name) (o : Option Name) (ns : _) → list_any (eq_by_cmp name_cmp n) (cons_option o ns) ≡ (option_map_or (eq_by_cmp name_cmp n) o false || list_any (eq_by_cmp name_cmp n) ns)
any_there n None ns = refl
any_there n (Some m) ns = refl

some_there : (b : Bool) (x : Node) (o : Option Node) → is_some (cond b (Some x) o) ≡ (b || is_some o)
some_there true x o = refl
some_there false x o = refl

-- a name is a child's exactly if a node stands there
pub named_child : (t : Nodes) (p : Path) (n : Name) → list_any (eq_by_cmp name_cmp n) (children_of t p) ≡ is_some (node_at t (p ++ n ∷ []))
named_child [] p n = refl
named_child (e ∷ t) p n =
    any_there n (name_of p e.0) (children_of t p)
    ∙ (one p e.0 n (list_any (eq_by_cmp name_cmp n) (children_of t p))
    ∙ (ap (λ b. eq_by_cmp path_cmp (p ++ n ∷ []) e.0 || b) (named_child t p n) ∙ sym (some_there (eq_by_cmp path_cmp (p ++ n ∷ []) e.0) e.1 (node_at t (p ++ n ∷ [])))))
