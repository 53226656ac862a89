-- The tree that documents open with has at each path the node that they show there.
use Rattle.std.proofs.Common.{◌≡◌, Bool, true, false, cond, not, Some, None, Option, List, [], ◌∷◌, fold, refl, sym, ap, ◌∙◌, subst, is_some}
use Rattle.std.specs.declared.cmp.Ordering.{Ordering}
use Rattle.std.specs.declared.cmp.Ordering.TheVariants.{Less, Equal, Greater}
use Rattle.std.specs.Ordering.{is_eq, eq_by_cmp, match_ordering}
use Rattle.std.specs.Cmp.{tied_itself}
use Rattle.std.specs.Option.{option_and_then, option_map, option_map_or}
use Rattle.std.specs.Map.{keys_of, lookup}
use Rattle.std.specs.BTreeMap.{insert_entry, is_at}
use Rattle.std.specs.FinMap.{is_sorted}
use Rattle.std.specs.List.{list_all}
use Rattle.std.proofs.lemmas.Bool.{false≢true}
use Rattle.jr_path.specs.Ids.{id_cmp}
use Rattle.jr_path.specs.Names.{path_cmp}
use Rattle.jr_path.specs.declared.path.Path.{Path}
use Rattle.jr_path.specs.declared.path.DocId.{DocId}
use Rattle.jr_path.specs.declared.path.DocId.TheVariants.{Node, Prev, Settings}
use Rattle.jr_path.proofs.Maps.{lookup-insert_entry, path_exact, path_total}
use Rattle.jr_rev.specs.declared.vector.RevVec.{RevVec}
use Rattle.jr_tree.specs.declared.tree.Node.{Node as TreeNode}
use Rattle.jr_tree.specs.Trees.{Nodes, node_at}
use Rattle.jr_tree.proofs.Entries.{both, first, second, sorted_insert}
use Rattle.jr_tree.proofs.Pointwise.{same_path}
use Rattle.oak_doc.specs.declared.document.Document.{Document}
use Rattle.oak_read.specs.Meaning.{documents_in, found_node}
use Rattle.oak_read.proofs.Walking.{same_id}
use Rattle.oak_sound.specs.Meant.{ById, shown_tree, with_shown}

-- what all entries of a tree have, they have with one more
all_inserted : (Q : Path × TreeNode → Bool) (q : Path) (x : TreeNode) → Q (q, x) ≡ true → (es : Nodes)
    → list_all Q es ≡ true → list_all Q (insert_entry path_cmp es q x) ≡ true
all_inserted Q q x k [] h = both _ _ k refl
all_inserted Q q x k (e ∷ es) h = by (path_cmp q e.0) refl (all_inserted Q q x k es (second _ _ h))
  where
    by : (o : Ordering) → path_cmp q e.0 ≡ o → list_all Q (insert_entry path_cmp es q x) ≡ true
        → list_all Q (match_ordering o ((q, x) ∷ e ∷ es) ((e.0, x) ∷ es) (e ∷ insert_entry path_cmp es q x)) ≡ true
    by Less j rest = both _ _ k h
    by Equal j rest = both _ _ (subst (λ (p : Path). Q (p, x) ≡ true) (path_exact q e.0 j) k) (second _ _ h)
    by Greater j rest = both _ _ (first _ _ h) rest

module _ (ds : ById) (t v : RevVec) where
  abbrev pub found : Path → Option TreeNode
  found p = found_node (documents_in ds) t v p

  -- where a node is shown there is its document
  pub shown_there : (p : Path) (x : TreeNode) → found p ≡ Some x → (d : Document) × (documents_in ds (Node p) ≡ Some d)
  shown_there p x h = by (documents_in ds (Node p)) refl
    where
      by : (o : Option Document) → documents_in ds (Node p) ≡ o → (d : Document) × (o ≡ Some d)
      by (Some d) is = (d, refl)
      by None is = absurd (false≢true (ap is_some (nothing is ∙ h)))
        where
          nothing : documents_in ds (Node p) ≡ None → None ≡ found p
          nothing is = sym (rw is refl)

  stays_at : (p : Path) (nodes : Nodes) (i : DocId) → node_at nodes p ≡ found p → node_at (with_shown ds t v nodes i) p ≡ found p
  stays_at p nodes (Node q) h = by (found q) refl
    where
      by : (o : Option TreeNode) → found q ≡ o → node_at (option_map_or (insert_entry path_cmp nodes q) o nodes) p ≡ found p
      by None k = h
      by (Some x) k = lookup-insert_entry path_cmp path_total p q x nodes ∙ at (eq_by_cmp path_cmp p q) refl
        where
          at : (b : Bool) → eq_by_cmp path_cmp p q ≡ b → cond b (Some x) (node_at nodes p) ≡ found p
          at true e = sym k ∙ ap found (sym (same_path p q e))
          at false e = h
  stays_at p nodes (Prev n q) h = h
  stays_at p nodes Settings h = h

  stays_over : (p : Path) (is : List DocId) (nodes : Nodes) → node_at nodes p ≡ found p
      → node_at (fold (with_shown ds t v) nodes is) p ≡ found p
  stays_over p [] nodes h = h
  stays_over p (i ∷ is) nodes h = stays_over p is (with_shown ds t v nodes i) (stays_at p nodes i h)

  own_path : (p : Path) → eq_by_cmp path_cmp p p ≡ true
  own_path p = ap is_eq (tied_itself path_total p)

  put_at : (p : Path) (nodes : Nodes) (x : TreeNode) → found p ≡ Some x → node_at (with_shown ds t v nodes (Node p)) p ≡ found p
  put_at p nodes x h =
      ap (λ o. node_at (option_map_or (insert_entry path_cmp nodes p) o nodes) p) h
      ∙ lookup-insert_entry path_cmp path_total p p x nodes
      ∙ ap (λ b. cond b (Some x) (node_at nodes p)) (own_path p) ∙ sym h

  put_over : (p : Path) (x : TreeNode) → found p ≡ Some x → (es : ById) (nodes : Nodes)
      → is_some (lookup (is_at (id_cmp (Node p))) es) ≡ true → node_at (fold (with_shown ds t v) nodes (keys_of es)) p ≡ found p
  put_over p x h [] nodes k = absurd (false≢true k)
  put_over p x h (e ∷ es) nodes k = by (eq_by_cmp id_cmp (Node p) e.0) refl k (λ there. put_over p x h es (with_shown ds t v nodes e.0) there)
    where
      by : (b : Bool) → eq_by_cmp id_cmp (Node p) e.0 ≡ b → is_some (cond b (Some e.1) (lookup (is_at (id_cmp (Node p))) es)) ≡ true
          → (is_some (lookup (is_at (id_cmp (Node p))) es) ≡ true → node_at (fold (with_shown ds t v) (with_shown ds t v nodes e.0) (keys_of es)) p ≡ found p)
          → node_at (fold (with_shown ds t v) (with_shown ds t v nodes e.0) (keys_of es)) p ≡ found p
      by true one _ rest = stays_over p (keys_of es) (with_shown ds t v nodes e.0)
          (subst (λ (i : DocId). node_at (with_shown ds t v nodes i) p ≡ found p) (same_id (Node p) e.0 one) (put_at p nodes x h))
      by false one k rest = rest k

  -- the shown tree has at each path the node that the documents show
  pub shown_at : (p : Path) → node_at (shown_tree ds t v) p ≡ found p
  shown_at p = by (found p) refl
    where
      by : (o : Option TreeNode) → found p ≡ o → node_at (shown_tree ds t v) p ≡ found p
      by None h = stays_over p (keys_of ds) [] (sym h)
      by (Some x) h = put_over p x h ds [] (ap is_some (shown_there p x h).1)

  all_put : (Q : Path × TreeNode → Bool) (P : DocId × Document → Bool)
      → ((q : Path) (d : Document) (x : TreeNode) → P (Node q, d) ≡ true → found q ≡ Some x → Q (q, x) ≡ true)
      → (es : ById) (nodes : Nodes) → list_all P es ≡ true → list_all Q nodes ≡ true
      → list_all Q (fold (with_shown ds t v) nodes (keys_of es)) ≡ true
  all_put Q P each [] nodes all h = h
  all_put Q P each (e ∷ es) nodes all h =
      all_put Q P each es (with_shown ds t v nodes e.0) (second _ _ all) (at e.0 (first _ _ all))
    where
      at : (i : DocId) → P (i, e.1) ≡ true → list_all Q (with_shown ds t v nodes i) ≡ true
      at (Node q) k = by (found q) refl
        where
          by : (o : Option TreeNode) → found q ≡ o → list_all Q (option_map_or (insert_entry path_cmp nodes q) o nodes) ≡ true
          by None j = h
          by (Some x) j = all_inserted Q q x (each q e.1 x k j) nodes h
      at (Prev n q) k = h
      at Settings k = h

  -- each entry of the shown tree passes a test that each shown node passes whose document passes another
  pub all_shown : (Q : Path × TreeNode → Bool) (P : DocId × Document → Bool)
      → ((q : Path) (d : Document) (x : TreeNode) → P (Node q, d) ≡ true → found q ≡ Some x → Q (q, x) ≡ true)
      → list_all P ds ≡ true → list_all Q (shown_tree ds t v) ≡ true
  all_shown Q P each all = all_put Q P each ds [] all refl

  sorted_over : (is : List DocId) (nodes : Nodes) → is_sorted path_cmp nodes ≡ true
      → is_sorted path_cmp (fold (with_shown ds t v) nodes is) ≡ true
  sorted_over [] nodes h = h
  sorted_over (i ∷ is) nodes h = sorted_over is (with_shown ds t v nodes i) (at i)
    where
      at : (i : DocId) → is_sorted path_cmp (with_shown ds t v nodes i) ≡ true
      at (Node q) = by (found q)
        where
          by : (o : Option TreeNode) → is_sorted path_cmp (option_map_or (insert_entry path_cmp nodes q) o nodes) ≡ true
          by None = h
          by (Some x) = sorted_insert path_cmp path_total q x nodes h
      at (Prev n q) = h
      at Settings = h

  -- its paths stand in order
  pub shown_sorted : is_sorted path_cmp (shown_tree ds t v) ≡ true
  shown_sorted = sorted_over (keys_of ds) [] refl
