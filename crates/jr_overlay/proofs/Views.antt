-- Views: a tree with nodes put in the places of its own, and what stands there.
use Rattle.std.proofs.Common.{◌≡◌, Bool, true, false, cond, Some, None, Option, List, [], ◌∷◌, refl, sym, ap, ◌∙◌}
use Rattle.std.specs.Option.{option_map_or}
use Rattle.std.specs.Ordering.{eq_by_cmp}
use Rattle.std.specs.Map.{lookup}
use Rattle.std.specs.BTreeMap.{is_at}
use Rattle.std.specs.List.{fold}
use Rattle.std.specs.FinMap.{is_sorted}
use Rattle.jr_path.specs.Names.{path_cmp}
use Rattle.jr_path.specs.declared.path.Path.{Path}
use Rattle.jr_path.proofs.Maps.{path_total, lookup-insert_entry}
use Rattle.jr_tree.specs.declared.tree.Node.{Node}
use Rattle.jr_tree.specs.Trees.{Nodes, node_at}
use Rattle.jr_tree.proofs.AtPath.{InOrder}
use Rattle.jr_tree.proofs.Entries.{exactly, first, second, lookup-remove, none_below, sorted_insert, sorted_remove}
use Rattle.jr_tree.proofs.Pointwise.{same_path}
use Rattle.jr_overlay.specs.Overlays.{Changed, seen, view_of, with_node_at}

-- the node at p, once one is put or taken away at q
pub node_at-with : (t : Nodes) → InOrder t → (p q : Path) (o : Option Node) → node_at (with_node_at t q o) p ≡ cond (eq_by_cmp path_cmp p q) o (node_at t p)
node_at-with t s p q None = lookup-remove path_cmp path_total p q t s
node_at-with t s p q (Some node) = lookup-insert_entry path_cmp path_total p q node t

pub sorted-with : (t : Nodes) → InOrder t → (q : Path) (o : Option Node) → InOrder (with_node_at t q o)
sorted-with t s q None = sorted_remove path_cmp _ t s
sorted-with t s q (Some node) = sorted_insert path_cmp path_total q node t s

module _ {X : Type 0} (f : Path × X → Option Node) where
  -- a tree with a node in the place of each of a list of entries
  abbrev pub made : Nodes → List (Path × X) → Nodes
  made t es = fold (λ u e. with_node_at u e.0 (f e)) t es

  pub sorted-made : (t : Nodes) → InOrder t → (es : List (Path × X)) → InOrder (made t es)
  sorted-made t s [] = s
  sorted-made t s (e ∷ es) = sorted-made (with_node_at t e.0 (f e)) (sorted-with t s e.0 (f e)) es

  pub node_at-made : (t : Nodes) → InOrder t → (es : List (Path × X)) → is_sorted path_cmp es ≡ true → (p : Path)
      → node_at (made t es) p ≡ option_map_or (λ x. f (p, x)) (lookup (is_at (path_cmp p)) es) (node_at t p)
  node_at-made t s [] o p = refl
  node_at-made t s (e ∷ es) o p =
      node_at-made (with_node_at t e.0 (f e)) (sorted-with t s e.0 (f e)) es (second _ _ o) p
      ∙ (ap (λ (n : Option Node). option_map_or (λ x. f (p, x)) (lookup (is_at (path_cmp p)) es) n) (node_at-with t s p e.0 (f e))
      ∙ by (eq_by_cmp path_cmp p e.0) refl)
    where
      by : (b : Bool) → eq_by_cmp path_cmp p e.0 ≡ b
          → option_map_or (λ x. f (p, x)) (lookup (is_at (path_cmp p)) es) (cond b (f e) (node_at t p))
          ≡ option_map_or (λ x. f (p, x)) (cond b (Some e.1) (lookup (is_at (path_cmp p)) es)) (node_at t p)
      by true h =
          ap (λ (o : Option X). option_map_or (λ x. f (p, x)) o (f e)) (none_below path_cmp path_total p e.0 (exactly _ h) es (first _ _ o))
          ∙ ap (λ (q : Path). f (q, e.1)) (sym (same_path p e.0 h))
      by false h = refl

pub sorted-view : (t : Nodes) (c : Changed) → InOrder t → InOrder (view_of t c)
sorted-view t c s = sorted-made (λ e. e.1.new) t s c

pub node_at-view : (t : Nodes) (c : Changed) → InOrder t → is_sorted path_cmp c ≡ true → (p : Path) → node_at (view_of t c) p ≡ seen t c p
node_at-view t c s o p = node_at-made (λ e. e.1.new) t s c o p
