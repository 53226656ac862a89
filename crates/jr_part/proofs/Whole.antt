-- Where nothing of a subtree lacks, a part has the nodes there of each tree that it agrees with.
use Rattle.std.proofs.Common.{◌≡◌, Bool, true, false, cond, Some, None, Option, List, [], ◌∷◌, ◌++◌, is_some, refl, sym, ap, ◌∙◌, subst, append_assoc, append-nil}
use Rattle.std.specs.BTreeMap.{is_at}
use Rattle.std.specs.FinMap.{is_sorted}
use Rattle.std.proofs.lemmas.Map.Entries.{lookup-filter-keys}
use mathlib.Core.Bool.{false≢true}
use Rattle.jr_path.specs.Names.{is_under, path_cmp}
use Rattle.jr_path.specs.declared.name.Name.{Name}
use Rattle.jr_path.specs.declared.path.Path.{Path}
use Rattle.jr_path.proofs.Maps.{path_exact, path_total}
use Rattle.jr_path.proofs.Parts.{below_is_prefix}
use Rattle.jr_tree.specs.declared.tree.Node.{Node}
use Rattle.jr_tree.specs.Trees.{IsTree, Nodes, node_at, subtree_of}
use Rattle.jr_tree.proofs.Entries.{same_lists, sorted_filter}
use Rattle.jr_tree.proofs.Pointwise.{same_path}
use Rattle.jr_part.specs.declared.need.Need.TheVariants as need
use Rattle.jr_part.specs.Parts.{AgreesWith, Knowledge, LacksNothing, ChildNames, known_at, list_at, has_name}
use Rattle.jr_part.proofs.Above.{above}
use Rattle.jr_part.proofs.Children.{has_child}
use Rattle.jr_part.proofs.Ways.{Lists, There, known_there, lists_from, nothing_child, reached_itself, there_known}

module _ (t : Nodes) (tree : IsTree t) (k : Knowledge) (agrees : AgreesWith t k) where
  -- the node that is known at p is the tree's
  at : (p : Path) → is_some (known_at k p) ≡ true → (o : Option Node) → node_at t p ≡ o → is_some o ≡ true → node_at k.nodes p ≡ node_at t p
  at p known None is some = absurd (false≢true some)
  at p known (Some node) is some = by (known_at k p) refl known
    where
      by : (o : Option (Option Node)) → known_at k p ≡ o → is_some o ≡ true → node_at k.nodes p ≡ node_at t p
      by None h some = absurd (false≢true some)
      by (Some answer) h some = known_there k p node (h ∙ ap (λ (a : Option Node). Some a) (agrees.nodes p answer h ∙ is)) ∙ sym is

  -- the tree's child is listed where the list is known
  child : (p : Path) (n : Name) → is_some (node_at t (p ++ n ∷ [])) ≡ true → (o : Option ChildNames) → list_at k p ≡ o → is_some o ≡ true → Lists k p n
  child p n is None h some = absurd (false≢true some)
  child p n is (Some names) h some = lists_from k p names n h ∙ (ap (λ ns. has_name ns n) (agrees.lists p names h) ∙ has_child p n t is)

  found : (ns : List Name) (p : Path) → LacksNothing k (need.Subtree p) → is_some (node_at t (p ++ ns)) ≡ true → node_at k.nodes (p ++ ns) ≡ node_at t (p ++ ns)
  found [] p nothing is =
      subst (λ (q : Path). node_at k.nodes q ≡ node_at t q) (sym (append-nil p))
      (at p (nothing (need.Node p) (reached_itself k p)) (node_at t p) refl (ap (λ (q : Path). is_some (node_at t q)) (sym (append-nil p)) ∙ is))
  found (n ∷ ns) p nothing is =
      let behind : (p ++ n ∷ []) ++ ns ≡ p ++ n ∷ ns = append_assoc p (n ∷ []) ns in
      let there_in : is_some (node_at t p) ≡ true = above t tree p (n ∷ ns) is in
      let below : is_some (node_at t ((p ++ n ∷ []) ++ ns)) ≡ true = ap (λ (q : Path). is_some (node_at t q)) behind ∙ is in
      let there : There k p = ap is_some (at p (nothing (need.Node p) (reached_itself k p)) (node_at t p) refl there_in) ∙ there_in in
      let lists : Lists k p n = child p n (above t tree (p ++ n ∷ []) ns below) (list_at k p) refl (nothing (need.Children p) (reached_itself k p, there)) in
      subst (λ (q : Path). node_at k.nodes q ≡ node_at t q) behind (found ns (p ++ n ∷ []) (nothing_child k p n there lists nothing) below)

  module _ (p : Path) (nothing : LacksNothing k (need.Subtree p)) where
    same : (q : Path) → is_under q p ≡ true → (o : Option Node) → node_at t q ≡ o → (x : Option Node) → node_at k.nodes q ≡ x → node_at k.nodes q ≡ node_at t q
    same q under (Some node) is x known =
        let b = (below_is_prefix q p).0 under in
        subst (λ (r : Path). node_at k.nodes r ≡ node_at t r) (sym b.1) (found b.0 p nothing (ap (λ (r : Path). is_some (node_at t r)) (sym b.1) ∙ ap is_some is))
    same q under None is None known = known ∙ sym is
    same q under None is (Some node) known = agrees.nodes q (node_at k.nodes q) (there_known k q (ap is_some known))

    lookup_under : (q : Path) (es : Nodes) → node_at (subtree_of es p) q ≡ cond (is_under q p) (node_at es q) None
    lookup_under q es = lookup-filter-keys (is_at (path_cmp q)) (λ r. is_under r p) (is_under q p) (λ r h. ap (λ (x : Path). is_under x p) (sym (same_path q r h))) es

    under : (q : Path) → node_at (subtree_of k.nodes p) q ≡ node_at (subtree_of t p) q
    under q = lookup_under q k.nodes ∙ (by (is_under q p) refl ∙ sym (lookup_under q t))
      where
        by : (b : Bool) → is_under q p ≡ b → cond b (node_at k.nodes q) None ≡ cond b (node_at t q) None
        by true h = same q h (node_at t q) refl (node_at k.nodes q) refl
        by false h = refl

    pub subtree_whole : is_sorted path_cmp k.nodes ≡ true → subtree_of k.nodes p ≡ subtree_of t p
    subtree_whole sorted =
        same_lists path_cmp path_total path_exact (subtree_of k.nodes p) (subtree_of t p) (sorted_filter path_cmp (λ e. is_under e.0 p) k.nodes sorted) (sorted_filter path_cmp (λ e. is_under e.0 p) t tree.paths) under

all_under : (es : Nodes) → subtree_of es [] ≡ es
all_under [] = refl
all_under (e ∷ es) = ap (λ (rest : Nodes). e ∷ rest) (all_under es)

pub tree_whole : (k : Knowledge) → is_sorted path_cmp k.nodes ≡ true → LacksNothing k need.All → (t : Nodes) → IsTree t → AgreesWith t k → k.nodes ≡ t
tree_whole k sorted nothing t tree agrees = sym (all_under k.nodes) ∙ (subtree_whole t tree k agrees [] nothing sorted ∙ all_under t)
