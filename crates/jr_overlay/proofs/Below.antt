-- Where nothing of a subtree of the tree lacks, the view's subtree is known.
use Rattle.std.proofs.Common.{◌≡◌, Bool, true, false, cond, Some, None, Option, refl, sym, ap, ◌∙◌}
use Rattle.std.specs.Option.{option_map_or}
use Rattle.std.specs.BTreeMap.{is_at}
use Rattle.std.specs.FinMap.{is_sorted}
use Rattle.std.proofs.lemmas.Map.Entries.{lookup-filter-keys}
use Rattle.jr_path.specs.Names.{is_under, path_cmp}
use Rattle.jr_path.specs.declared.path.Path.{Path}
use Rattle.jr_path.proofs.Maps.{path_exact, path_total}
use Rattle.jr_tree.specs.declared.tree.Node.{Node}
use Rattle.jr_tree.specs.Trees.{IsTree, Nodes, node_at, subtree_of}
use Rattle.jr_tree.proofs.Entries.{same_lists, sorted_filter}
use Rattle.jr_tree.proofs.Pointwise.{same_path}
use Rattle.jr_part.specs.declared.need.Need.TheVariants as need
use Rattle.jr_part.specs.Parts.{AgreesWith, Knowledge, LacksNothing}
use Rattle.jr_part.proofs.Whole.{subtree_whole}
use Rattle.jr_overlay.specs.declared.overlay.Change.{Change}
use Rattle.jr_overlay.specs.Overlays.{AreOver, Changed, base_at, change_at, seen, view_of}
use Rattle.jr_overlay.proofs.Commits.{touched_base}
use Rattle.jr_overlay.proofs.Views.{node_at-view, sorted-view}

pub at_under : (p q : Path) (t : Nodes) → node_at (subtree_of t p) q ≡ cond (is_under q p) (node_at t q) None
at_under p q t = lookup-filter-keys (is_at (path_cmp q)) (λ r. is_under r p) (is_under q p) (λ r h. ap (λ (x : Path). is_under x p) (sym (same_path q r h))) t

module _ (t : Nodes) (tree : IsTree t) (k : Knowledge) (sorted : is_sorted path_cmp k.nodes ≡ true) (agrees : AgreesWith t k) (p : Path) (nothing : LacksNothing k (need.Subtree p)) where
  known_under : (q : Path) → is_under q p ≡ true → node_at k.nodes q ≡ node_at t q
  known_under q under =
      ap (λ b. cond b (node_at k.nodes q) None) (sym under)
      ∙ (sym (at_under p q k.nodes)
      ∙ (ap (λ (es : Nodes). node_at es q) (subtree_whole t tree k agrees p nothing sorted)
      ∙ (at_under p q t ∙ ap (λ b. cond b (node_at t q) None) under)))

  pub base_under : (c : Changed) → AreOver t c → (q : Path) → is_under q p ≡ true → base_at k.nodes c q ≡ node_at t q
  base_under c over q under = by (change_at c q) refl
    where
      by : (o : Option Change) → change_at c q ≡ o → base_at k.nodes c q ≡ node_at t q
      by (Some x) is = touched_base t k.nodes c over q x is
      by None is = ap (λ (o : Option Change). option_map_or (λ x. x.old) o (node_at k.nodes q)) is ∙ known_under q under

  pub seen_under : (c : Changed) (q : Path) → is_under q p ≡ true → seen k.nodes c q ≡ seen t c q
  seen_under c q under = ap (λ (o : Option Node). option_map_or (λ x. x.new) (change_at c q) o) (known_under q under)

  pub subtree_known : (c : Changed) → is_sorted path_cmp c ≡ true → subtree_of (view_of k.nodes c) p ≡ subtree_of (view_of t c) p
  subtree_known c paths =
      same_lists path_cmp path_total path_exact (subtree_of (view_of k.nodes c) p) (subtree_of (view_of t c) p)
      (sorted_filter path_cmp (λ e. is_under e.0 p) (view_of k.nodes c) (sorted-view k.nodes c sorted))
      (sorted_filter path_cmp (λ e. is_under e.0 p) (view_of t c) (sorted-view t c tree.paths))
      (λ q. at_under p q (view_of k.nodes c) ∙ (by q (is_under q p) refl ∙ sym (at_under p q (view_of t c))))
    where
      by : (q : Path) (b : Bool) → is_under q p ≡ b → cond b (node_at (view_of k.nodes c) q) None ≡ cond b (node_at (view_of t c) q) None
      by q true h = node_at-view k.nodes c sorted paths q ∙ (seen_under c q h ∙ sym (node_at-view t c tree.paths paths q))
      by q false h = refl
