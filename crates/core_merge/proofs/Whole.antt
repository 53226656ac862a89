-- What a closed reader sees is a tree.
use Rattle.std.proofs.Common.{◌≡◌, Bool, true, false, cond, Some, None, Option, [], ◌∷◌, refl, sym, ap, ◌∙◌, subst, is_some}
use Rattle.std.specs.Cmp.{tied_itself}
use Rattle.std.specs.Option.{option_map_or, unwrap_or}
use Rattle.std.specs.Ordering.{is_eq, eq_by_cmp}
use Rattle.std.specs.FinMap.{is_sorted}
use Rattle.std.specs.List.{list_all}
use mathlib.Core.Bool.{false≢true}
use Rattle.jr_path.specs.Names.{name_cmp, path_cmp, parent_of}
use Rattle.jr_path.specs.declared.path.Path.{Path}
use Rattle.jr_path.proofs.Maps.{path_total}
use Rattle.jr_tree.specs.declared.tree.Node.{Node}
use Rattle.jr_tree.specs.Trees.{Nodes, node_at, has_parent, IsTree}
use Rattle.jr_tree.proofs.Pointwise.{same_path}
use Rattle.oak_machine.specs.declared.event.Start.{Start}
use Rattle.oak_machine.specs.History.{Past}
use Rattle.oak_machine.specs.Commits.{is_in_base}
use Rattle.jr_tree.specs.Items.{here_of}
use Rattle.core_read.specs.Commits.{Sight, last}
use Rattle.core_read.proofs.Entries.{first, second, both, none_below}
use Rattle.core_read.proofs.Latest.{IsLast}
use Rattle.core_keep.specs.From.{falling_from, tree_from}
use Rattle.core_keep.proofs.From.{TellsFrom}
use Rattle.core_begun.specs.Told.{IsClosedSince, IsToldSince}
use Rattle.core_begun.proofs.Course.{tells_since}
use Rattle.core_merge.specs.Independent.{AreMergeable}
use Rattle.core_merge.proofs.Seen.{IsLastWriter, write_seen, last_seen, there, there_is, to_last}
use Rattle.core_merge.proofs.Parents.{left_by, parent_seen, proper}

-- what holds of each node that is found holds of each entry
all_entries : (test : Path × Node → Bool) (t : Nodes) → is_sorted path_cmp t ≡ true → ((p : Path) (node : Node) → node_at t p ≡ Some node → test (p, node) ≡ true) → list_all test t ≡ true
all_entries test [] s f = refl
all_entries test (e ∷ t) s f = both _ _
    (f e.0 e.1 (ap (λ o. cond (is_eq o) (Some e.1) (node_at t e.0)) (tied_itself path_total e.0)))
    (all_entries test t (second _ _ s) (λ p node h. f p node ((elim (eq_by_cmp path_cmp p e.0) as (λ b. eq_by_cmp path_cmp p e.0 ≡ b → cond b (Some e.1) (node_at t p) ≡ Some node) [
      | true ↦ λ k. absurd (false≢true (sym (ap is_some (subst (λ (q : Path). node_at t q ≡ None) (sym (same_path p e.0 k)) (none_below path_cmp path_total e.0 e.0 (tied_itself path_total e.0) t (first _ _ s)))) ∙ ap is_some h))
      | false ↦ λ k. h
    ]) refl)))

module _ (start : Start) (first_tree : IsTree start.tree) (past : Past) (told : IsToldSince start past) (mergeable : AreMergeable past) (s : Sight) (closed : IsClosedSince past s) where
  -- a commit leaves the root there
  root_left : (b : Bool) → IsLastWriter past s [] b → b ≡ true
  root_left b w =
      sym (ap (λ o. unwrap_or o (there start past (is_in_base past w.revision) [])) w.wrote)
      ∙ (sym (left_by start first_tree past told w.revision w.writes w.is []) ∙ (proper start first_tree past told w.revision w.writes w.is).tree.root)

  root_seen : there start past s [] ≡ true
  root_seen = there_is past s [] start first_tree told closed ∙ by (last (here_of []) s (falling_from past)) (last_seen (here_of []) past s)
    where
      by : (o : Option Bool) → IsLast (write_seen (here_of []) past s) o → unwrap_or o (is_some (node_at start.tree [])) ≡ true
      by None l = first_tree.root
      by (Some b) l = root_left b (to_last past s [] b l)

  -- a tree that has what is seen
  pub whole : (t : Nodes) → TellsFrom start.tree t s (falling_from past) → IsTree t
  whole t tells = record {
    paths = tells.order;
    names = all_entries (λ e. is_sorted name_cmp e.1.props) t tells.order (λ p node h. tells.orderly p node h);
    root = is_there [] ∙ root_seen;
    parents = all_entries (λ e. has_parent t e.0) t tells.order (λ p node h. by p (sym (is_there p) ∙ ap is_some h) (parent_of p) refl);
  }
    where
      is_there : (p : Path) → is_some (node_at t p) ≡ there start past s p
      is_there p = tells.node p ∙ sym (there_is past s p start first_tree told closed)

      by : (p : Path) → there start past s p ≡ true → (o : Option Path) → parent_of p ≡ o → option_map_or (λ q. is_some (node_at t q)) o true ≡ true
      by p h None up = refl
      by p h (Some q) up = is_there q ∙ parent_seen start first_tree past told mergeable s closed p q up h

  pub seen_tree : IsTree (tree_from start.tree s (falling_from past))
  seen_tree = whole (tree_from start.tree s (falling_from past)) (tells_since start past first_tree told s closed)
