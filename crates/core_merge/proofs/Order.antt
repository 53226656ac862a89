-- The tree of all commits in the order in which they were made has what all commits leave in the order of their revisions, since commits of which neither base sees the other are independent.
use Rattle.std.proofs.Common.{◌≡◌, ℕ, Bool, true, false, cond, not, ◌&&◌, Some, None, Option, List, [], ◌∷◌, refl, sym, ap, ◌∙◌, subst, is_some}
use Rattle.std.specs.Option.{option_and_then, option_map, option_map_or, option_or, unwrap_or}
use Rattle.std.specs.Map.{lookup}
use Rattle.std.specs.BTreeMap.{is_at}
use Rattle.std.proofs.lemmas.Cmp.{nat_list_cmp_total}
use Rattle.jr_path.specs.Names.{name_cmp, path_cmp}
use Rattle.jr_path.specs.declared.name.Name.{Name}
use Rattle.jr_path.specs.declared.path.Path.{Path}
use Rattle.jr_path.proofs.Maps.{name_exact, path_exact, path_total}
use Rattle.jr_rev.specs.declared.vector.RevVec.{RevVec}
use Rattle.jr_rev.specs.Vectors.{sees}
use Rattle.jr_tree.specs.declared.tree.Node.{Node}
use Rattle.jr_tree.specs.declared.edit.Write.{Write}
use mathlib.Core.Bool.{false≢true}
use Rattle.jr_rev.specs.declared.revision.Revision.{Revision}
use Rattle.jr_tree.specs.Trees.{Nodes, born_at, born_of, node_at, property_at, IsTree}
use Rattle.jr_tree.specs.Edits.{applied, IsProper}
use Rattle.oak_machine.specs.declared.event.Draw.{Draw}
use Rattle.oak_machine.specs.declared.event.Event.TheVariants as event
use Rattle.oak_machine.specs.declared.event.Start.{Start}
use Rattle.oak_machine.specs.History.{Begin, Past, begin_tree}
use Rattle.oak_machine.specs.Commits.{draw_of, is_committed, is_in_base, tree_at, IsClosed}
use Rattle.oak_machine.specs.Laws.{Starts, Says, StartsProper}
use Rattle.oak_machine.specs.Runs.{IsRunOf, AreNodes, MayCommit}
use Rattle.jr_tree.specs.Items.{here_of, put_of, written}
use Rattle.core_read.specs.Commits.{Commits, Sight, last, last_by, last_entry}
use Rattle.core_read.proofs.Entries.{same_lists}
use Rattle.core_read.proofs.Latest.{only, only_entry}
use Rattle.core_keep.specs.From.{falling_from, tree_from}
use Rattle.core_keep.proofs.From.{TellsFrom}
use Rattle.core_begun.specs.Told.{edit_since, start_in, IsClosedSince, IsGoodSince, IsToldSince}
use Rattle.core_begun.proofs.Bases.{begun_of}
use Rattle.core_begun.proofs.Committed.{committed}
use Rattle.core_begun.proofs.Course.{tells_since}
use Rattle.core_begun.proofs.Runs.{told_run}
use Rattle.core_begun.proofs.Told.{pending}
use Rattle.core_merge.specs.Orders.{tree_by_commits}
use Rattle.core_merge.specs.Independent.{StartsMarkingParents}
use Rattle.core_merge.proofs.Commits.{committed_is, independent_of, mergeable}
use Rattle.core_merge.proofs.More.{proper_there, tells_with}
use Rattle.core_merge.proofs.Seen.{edit_seen, last_entry_seen, last_seen, write_seen}
use Rattle.core_merge.proofs.Sights.{begin_is_tree, closed_since, tree_seen}
use Rattle.core_merge.proofs.Whole.{whole}

-- all is seen
abbrev all : Sight
all r = true

all_closed : (past : Past) → IsClosedSince past all
all_closed past o us e seen q based = refl

-- two trees that have what is seen are the same
same_tree : (b0 t u : Nodes) (s : Sight) (es : Commits) → TellsFrom b0 t s es → TellsFrom b0 u s es → t ≡ u
same_tree b0 t u s es a b = same_lists path_cmp path_total path_exact t u a.order b.order (λ p. by p (node_at t p) refl (node_at u p) refl (a.node p ∙ sym (b.node p)) (same_born p (node_at t p) (node_at u p) (a.node p ∙ sym (b.node p)) (a.born p) (b.born p)) (λ n. a.prop p n ∙ sym (b.prop p n)))
  where
    same_born : (p : Path) (x y : Option Node) → is_some x ≡ is_some y → born_of x ≡ cond (is_some x) (option_or (last_by p s es) (born_at b0 p)) None → born_of y ≡ cond (is_some y) (option_or (last_by p s es) (born_at b0 p)) None → born_of x ≡ born_of y
    same_born p x y k h i = h ∙ (ap (λ b. cond b (option_or (last_by p s es) (born_at b0 p)) None) k ∙ sym i)

    by : (p : Path) (x : Option Node) → node_at t p ≡ x → (y : Option Node) → node_at u p ≡ y → is_some x ≡ is_some y → born_of x ≡ born_of y
        → ((n : Name) → option_and_then (λ (node : Node). lookup (is_at (name_cmp n)) node.props) x ≡ option_and_then (λ (node : Node). lookup (is_at (name_cmp n)) node.props) y) → x ≡ y
    by p None h None k same born each = refl
    by p None h (Some y) k same born each = absurd (false≢true same)
    by p (Some x) h None k same born each = absurd (false≢true (sym same))
    by p (Some x) h (Some y) k same born each = λ i. Some (record { props = same_lists name_cmp nat_list_cmp_total name_exact x.props y.props (a.orderly p x h) (b.orderly p y k) each i; born = born i })

drawn_at : (o : Option Draw) (ended : Bool) → (is_some o && not ended) ≡ true → (d : Draw) × (o ≡ Some d)
drawn_at None ended h = absurd (false≢true h)
drawn_at (Some d) ended h = (d, refl)

module _ (clusters : ℕ) (sessions : List ℕ) (nodes : AreNodes clusters sessions) (begin : Begin) (starts : Starts) (says : Says) (proper : StartsProper starts) (marking : StartsMarkingParents starts) where
  abbrev start : Start
  start = start_in clusters begin

  told : (past : Past) → IsRunOf starts says clusters sessions begin past → IsToldSince start past
  told past run = told_run starts says proper clusters sessions nodes begin past run

  first_tree : (past : Past) → IsRunOf starts says clusters sessions begin past → IsTree (begin_tree begin)
  first_tree past run = begin_is_tree clusters begin (begun_of clusters sessions nodes begin starts says past run)

  pub by_commits_tree : (past : Past) → IsRunOf starts says clusters sessions begin past → TellsFrom (begin_tree begin) (tree_by_commits begin past) all (falling_from past) → IsTree (tree_by_commits begin past)
  by_commits_tree past run tells = whole start (first_tree past run) past (told past run) (mergeable clusters sessions nodes begin starts says proper marking past run) all (all_closed past) (tree_by_commits begin past) tells

  module _ (past : Past) (r : Revision) (run : IsRunOf starts says clusters sessions begin (event.Commit r ∷ past)) (d : Draw) (drawn : draw_of past r ≡ Some d) (tells : TellsFrom (begin_tree begin) (tree_by_commits begin past) all (falling_from past)) where
    good : IsGoodSince start past r d
    good = (told past run.1).draws r d drawn

    none_yet : edit_since past r ≡ None
    none_yet = pending start past r d (told past run.1) run.0 drawn

    base_closed : IsClosedSince past (is_in_base past r)
    base_closed = λ o us e h q k. good.ready.closed o us e h q k

    commit_tells : TellsFrom (begin_tree begin) (applied (Some r) (tree_by_commits begin past) d.edit.writes) all (falling_from (event.Commit r ∷ past))
    commit_tells = tells_with start (first_tree past run.1) past (told past run.1) all (is_in_base past r) base_closed d.edit.writes (tree_by_commits begin past) tells (λ o h. refl)
        (λ o us e seen unseen. independent_of clusters sessions nodes begin starts says proper marking past run.1 r d drawn run.0 o us e unseen)
        good.ready.proper (event.Commit r ∷ past) all r (committed (begin_tree begin) past r d drawn) none_yet good.ready.rises

  in_order : (past : Past) → IsRunOf starts says clusters sessions begin past → TellsFrom (begin_tree begin) (tree_by_commits begin past) all (falling_from past)
  in_order [] run = tells_since start [] (first_tree [] run) (told [] run) all (all_closed [])
  in_order (event.Commit r ∷ past) run =
      let d = drawn_at (draw_of past r) _ run.0.open_.in_flight in
      subst (λ (o : Option Draw). TellsFrom (begin_tree begin) (option_map_or (λ d. applied (Some r) (tree_by_commits begin past) d.edit.writes) o (tree_by_commits begin past)) all (falling_from (event.Commit r ∷ past))) (sym d.1)
      (commit_tells past r run d.0 d.1 (in_order past run.1))
  in_order (e ∷ past) run = in_order past run.1

  pub tree_in_order : (past : Past) → IsRunOf starts says clusters sessions begin past → IsTree (tree_by_commits begin past)
  tree_in_order past run = by_commits_tree past run (in_order past run)

  -- an edit that may be committed is proper on the tree of all commits so far
  pub proper_in_order : (past : Past) → IsRunOf starts says clusters sessions begin past → (r : Revision) (d : Draw) → draw_of past r ≡ Some d → MayCommit past r → IsProper (tree_by_commits begin past) d.edit.writes
  proper_in_order past run r d drawn may =
      proper_there start (first_tree past run) past (told past run) all (is_in_base past r) (base_closed past r (may, run) d drawn (in_order past run)) d.edit.writes (tree_by_commits begin past) (in_order past run) (λ o h. refl)
      (λ o us e seen unseen. independent_of clusters sessions nodes begin starts says proper marking past run r d drawn may o us e unseen)
      ((told past run).draws r d drawn).ready.proper (Some r)
      (subst (λ (o : Option Draw). IsTree (option_map_or (λ d. applied (Some r) (tree_by_commits begin past) d.edit.writes) o (tree_by_commits begin past))) drawn (tree_in_order (event.Commit r ∷ past) (may, run)))

  -- in what order doesn't matter: a closed vector that sees all commits sees the same tree
  module _ (past : Past) (run : IsRunOf starts says clusters sessions begin past) (v : RevVec) (closed : IsClosed past v) (each : (r : Revision) → is_committed past r ≡ true → sees v r ≡ true) where
    all_seen : (q : Revision) → edit_seen past (sees v) q ≡ edit_seen past all q
    all_seen q = by (edit_since past q) refl (sees v q) refl
      where
        by : (o : Option (List Write)) → edit_since past q ≡ o → (b : Bool) → sees v q ≡ b → cond b o None ≡ o
        by o e true h = refl
        by None e false h = refl
        by (Some us) e false h = absurd (false≢true (sym h ∙ each q (committed_is clusters sessions nodes begin starts says proper marking past run q us e)))

    same_last : {X : Type 0} (f : Write → Option X) → last f (sees v) (falling_from past) ≡ last f all (falling_from past)
    same_last f = only (write_seen f past (sees v)) (write_seen f past all) (λ q. ap (option_and_then (written f)) (all_seen q)) _ _ (last_seen f past (sees v)) (last_seen f past all)

    same_last_entry : {X : Type 0} (f : Write → Option X) → last_entry f (sees v) (falling_from past) ≡ last_entry f all (falling_from past)
    same_last_entry f = only_entry (write_seen f past (sees v)) (write_seen f past all) (λ q. ap (option_and_then (written f)) (all_seen q)) _ _ (last_entry_seen f past (sees v)) (last_entry_seen f past all)

    abbrev at_v : Nodes
    at_v = tree_from (begin_tree begin) (sees v) (falling_from past)

    pub order_is_same : tree_at begin past v ≡ tree_by_commits begin past
    order_is_same =
        let tells : TellsFrom (begin_tree begin) at_v (sees v) (falling_from past) = tells_since start past (first_tree past run) (told past run) (sees v) (closed_since start past (told past run) v closed) in
        sym (tree_seen begin past (sees v))
        ∙ same_tree (begin_tree begin) at_v (tree_by_commits begin past) all (falling_from past)
        (record {
          order = tells.order;
          orderly = tells.orderly;
          node = λ p. tells.node p ∙ ap (λ o. unwrap_or o (is_some (node_at (begin_tree begin) p))) (same_last (here_of p));
          prop = λ p n. tells.prop p n ∙ ap (λ o. unwrap_or o (property_at (begin_tree begin) p n)) (same_last (put_of p n));
          born = λ p. tells.born p ∙ ap (λ (o : Option (Revision × Bool)). cond (is_some (node_at at_v p)) (option_or (option_map (λ (e : Revision × Bool). e.0) o) (born_at (begin_tree begin) p)) None) (same_last_entry (here_of p));
        })
        (in_order past run)
