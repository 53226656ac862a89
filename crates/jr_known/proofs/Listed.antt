-- The children of each node that is there are known, from the earlier tree on, so that nothing of the new one lacks.
use Rattle.std.proofs.Common.{◌≡◌, zero, suc, Bool, true, false, cond, Some, None, Option, List, [], ◌∷◌, ◌++◌, is_some, refl, sym, ap, ◌∙◌, subst, append_assoc, append-nil, arith}
use Rattle.std.specs.Prelude.{Contains}
use Rattle.std.specs.BTreeMap.{is_at}
use Rattle.std.specs.FinMap.{is_sorted}
use Rattle.std.specs.List.{fold}
use Rattle.std.specs.Map.{lookup}
use Rattle.std.specs.Option.{option_map_or}
use Rattle.std.specs.Ordering.{eq_by_cmp}
use Rattle.std.proofs.lemmas.Bool.{false≢true}
use Rattle.std.proofs.lemmas.Cmp.{eq_by_cmp_equiv}
use Rattle.jr_path.specs.Names.{name_cmp, path_cmp}
use Rattle.jr_path.specs.declared.name.Name.{Name}
use Rattle.jr_path.specs.declared.path.Path.{Path}
use Rattle.jr_path.proofs.Maps.{lookup-insert_entry, path_total}
use Rattle.jr_tree.specs.declared.tree.Node.{Node}
use Rattle.jr_tree.specs.Trees.{IsTree, Nodes, node_at}
use Rattle.jr_tree.proofs.Entries.{first, second}
use Rattle.jr_tree.proofs.Pointwise.{same_path}
use Rattle.jr_part.specs.declared.need.Need.TheVariants as need
use Rattle.jr_part.specs.Parts.{AgreesWith, ChildNames, IsReached, Knowledge, LacksNothing, has_name, leads_down, list_at, with_children, with_node}
use Rattle.jr_part.proofs.Above.{above}
use Rattle.jr_part.proofs.Children.{has_child}
use Rattle.jr_part.proofs.Named.{named_child}
use Rattle.jr_part.proofs.Ways.{Lists, There, lists_from, nothing_child, reached_itself, there_known}
use Rattle.jr_known.specs.Renewal.{AreListed, ListsChild, born_in, with_list_begun}
use Rattle.jr_known.proofs.Renewing.{lists_put, node_put}

-- the children at a path are known
abbrev Listed : Knowledge → Path → Type 0
Listed k p = is_some (list_at k p) ≡ true

-- ---- in the whole tree

module _ (k : Knowledge) (tree : IsTree k.nodes) (agrees : AgreesWith k.nodes k) where
  child : (p : Path) (n : Name) → is_some (node_at k.nodes (p ++ n ∷ [])) ≡ true → (o : Option ChildNames) → list_at k p ≡ o → is_some o ≡ true → Lists k p n
  child p n is None h some = absurd (false≢true some)
  child p n is (Some names) h some = lists_from k p names n h ∙ (ap (λ ns. has_name ns n) (agrees.lists p names h) ∙ has_child p n k.nodes is)

  listed_down : (ns : List Name) (p : Path) → LacksNothing k (need.Subtree p) → is_some (node_at k.nodes (p ++ ns)) ≡ true → Listed k (p ++ ns)
  listed_down [] p nothing is =
      subst (λ (q : Path). Listed k q) (sym (append-nil p)) (nothing (need.Children p) (reached_itself k p, ap (λ (q : Path). is_some (node_at k.nodes q)) (sym (append-nil p)) ∙ is))
  listed_down (n ∷ ns) p nothing is =
      let behind : (p ++ n ∷ []) ++ ns ≡ p ++ n ∷ ns = append_assoc p (n ∷ []) ns in
      let there : There k p = above k.nodes tree p (n ∷ ns) is in
      let below : is_some (node_at k.nodes ((p ++ n ∷ []) ++ ns)) ≡ true = ap (λ (q : Path). is_some (node_at k.nodes q)) behind ∙ is in
      let lists : Lists k p n = child p n (above k.nodes tree (p ++ n ∷ []) ns below) (list_at k p) refl (nothing (need.Children p) (reached_itself k p, there)) in
      subst (λ (q : Path). Listed k q) behind (listed_down ns (p ++ n ∷ []) (nothing_child k p n there lists nothing) below)

  pub listed_whole : LacksNothing k need.All → (p : Path) → is_some (node_at k.nodes p) ≡ true → Listed k p
  listed_whole nothing p is = listed_down p [] nothing is

-- ---- once the lists are begun

list_begun : (k : Knowledge) (p q : Path) → list_at (with_children k p []) q ≡ cond (eq_by_cmp path_cmp q p) (Some []) (list_at k q)
list_begun k p q = lookup-insert_entry path_cmp path_total q p [] k.lists

begun_keeps : (k : Knowledge) (p q : Path) → Listed k q → Listed (with_list_begun k p) q
begun_keeps k p q h = by (is_some (node_at k.nodes p))
  where
    put : (b : Bool) → is_some (cond b (Some []) (list_at k q)) ≡ true
    put true = refl
    put false = h

    by : (b : Bool) → Listed (cond b k (with_children k p [])) q
    by true = h
    by false = ap is_some (list_begun k p q) ∙ put (eq_by_cmp path_cmp q p)

begun_there : (k : Knowledge) (p q : Path) → is_some (node_at (with_list_begun k p).nodes q) ≡ is_some (node_at k.nodes q)
begun_there k p q = by (is_some (node_at k.nodes p))
  where
    by : (b : Bool) → is_some (node_at (cond b k (with_children k p [])).nodes q) ≡ is_some (node_at k.nodes q)
    by true = refl
    by false = refl

begun_itself : (k : Knowledge) (p : Path) → (is_some (node_at k.nodes p) ≡ true → Listed k p) → Listed (with_list_begun k p) p
begun_itself k p listed = by (is_some (node_at k.nodes p)) refl
  where
    by : (b : Bool) → is_some (node_at k.nodes p) ≡ b → Listed (cond b k (with_children k p [])) p
    by true h = listed h
    by false h = ap is_some (list_begun k p p ∙ ap (λ b. cond b (Some []) (list_at k p)) ((eq_by_cmp_equiv path_total).refl p))

begun_keep : (ps : List Path) (k : Knowledge) (q : Path) → Listed k q → Listed (fold with_list_begun k ps) q
begun_keep [] k q h = h
begun_keep (p ∷ ps) k q h = begun_keep ps (with_list_begun k p) q (begun_keeps k p q h)

begun_nodes : (ps : List Path) (k : Knowledge) (q : Path) → is_some (node_at (fold with_list_begun k ps).nodes q) ≡ is_some (node_at k.nodes q)
begun_nodes [] k q = refl
begun_nodes (p ∷ ps) k q = begun_nodes ps (with_list_begun k p) q ∙ begun_there k p q

begun_told : (ps : List Path) (k : Knowledge) → ((q : Path) → is_some (node_at k.nodes q) ≡ true → Listed k q) → (q : Path) → Contains ps q → Listed (fold with_list_begun k ps) q
begun_told [] k there q c = absurd (let within = c.1 in omega arith)
begun_told (p ∷ ps) k there q (zero, within, is) =
    begun_keep ps (with_list_begun k p) q (subst (λ (x : Path). Listed (with_list_begun k p) x) is (begun_itself k p (there p)))
begun_told (p ∷ ps) k there q (suc i, within, is) =
    begun_told ps (with_list_begun k p) (λ x h. begun_keeps k p x (there x (sym (begun_there k p x) ∙ h))) q (i, omega arith, is)

pub begun_listed : (told : List Path) (k : Knowledge) → ((q : Path) → is_some (node_at k.nodes q) ≡ true → Listed k q) → AreListed told (fold with_list_begun k told)
begun_listed told k there = record {
  there = λ q h. begun_keep told k q (there q (sym (begun_nodes told k q) ∙ h));
  changed = begun_told told k there;
}

-- ---- a step

module _ (told : List Path) (k listed : Knowledge) (p : Path) (o : Option Node) (lists : ListsChild k listed p (born_in o)) where
  lists_same : (q : Path) → is_some (list_at (with_node listed p o) q) ≡ is_some (list_at k q)
  lists_same q = ap (λ (ls : List (Path × ChildNames)). is_some (lookup (is_at (path_cmp q)) ls)) (lists_put listed p o) ∙ lists.known q

  pub still_listed : is_sorted path_cmp listed.nodes ≡ true → Contains told p → AreListed told k → AreListed told (with_node listed p o)
  still_listed sorted is was = record {
    there = λ q h. lists_same q ∙ by q (eq_by_cmp path_cmp q p) refl (sym (ap is_some (node_put listed p q o sorted)) ∙ h);
    changed = λ q c. lists_same q ∙ was.changed q c;
  }
    where
      by : (q : Path) (b : Bool) → eq_by_cmp path_cmp q p ≡ b → is_some (cond b o (node_at listed.nodes q)) ≡ true → Listed k q
      by q true same h = ap (λ (x : Path). is_some (list_at k x)) (same_path q p same) ∙ was.changed p is
      by q false apart h = was.there q (ap (λ (es : List (Path × Node)). is_some (node_at es q)) (sym lists.nodes) ∙ h)

-- ---- at the end

module _ (t : Nodes) (tree : IsTree t) (k : Knowledge) (nodes : (p : Path) → node_at k.nodes p ≡ node_at t p) (agrees : AgreesWith t k) where
  named_there : (p : Path) (n : Name) (o : Option ChildNames) → list_at k p ≡ o → option_map_or (λ ns. has_name ns n) o false ≡ true → There k (p ++ n ∷ [])
  named_there p n None h is = absurd (false≢true is)
  named_there p n (Some names) h is =
      ap is_some (nodes (p ++ n ∷ []))
      ∙ by (node_at t (p ++ n ∷ [])) (sym (ap is_some (ap (lookup (is_at (name_cmp n))) (agrees.lists p names h) ∙ named_child p n t)) ∙ is)
    where
      by : (o : Option Node) → is_some (born_in o) ≡ true → is_some o ≡ true
      by None h = absurd (false≢true h)
      by (Some x) h = refl

  reached_there : (ns : List Name) (p : Path) → There k p → leads_down k p ns ≡ true → There k (p ++ ns)
  reached_there [] p there down = subst (λ (q : Path). There k q) (sym (append-nil p)) there
  reached_there (n ∷ ns) p there down =
      subst (λ (q : Path). There k q) (append_assoc p (n ∷ []) ns)
      (reached_there ns (p ++ n ∷ []) (named_there p n (list_at k p) refl (second _ _ (first _ _ down))) (second _ _ down))

  there_at : (p : Path) → IsReached k [] p → There k p
  there_at p r = subst (λ (q : Path). There k q) (sym r.path) (reached_there r.names [] (ap is_some (nodes []) ∙ tree.root) r.down)

  pub nothing_lacks : ((p : Path) → There k p → Listed k p) → LacksNothing k need.All
  nothing_lacks listed (need.Node p) asked = ap is_some (there_known k p (there_at p asked))
  nothing_lacks listed (need.Children p) asked = listed p asked.1
  nothing_lacks listed (need.Subtree p) asked = absurd asked
  nothing_lacks listed need.All asked = absurd asked
