-- In each run by a law that lets only plans start, each commit obeys node types, locks and checked-in nodes, and keeps references.
use Rattle.std.proofs.Common.{◌≡◌, ℕ, Bool, true, false, cond, not, ◌&&◌, Some, None, Option, List, [], ◌∷◌, refl, sym, ap, ◌∙◌, subst, is_some}
use Rattle.std.specs.Option.{option_map_or, unwrap_or}
use mathlib.Core.Bool.{false≢true}
use Rattle.jr_path.specs.declared.name.Name.{Name}
use Rattle.jr_path.specs.declared.path.Path.{Path}
use Rattle.jr_rev.specs.declared.revision.Revision.{Revision}
use Rattle.jr_rev.specs.declared.vector.RevVec.{RevVec}
use Rattle.jr_rev.specs.Revisions.{is_same}
use Rattle.jr_rev.specs.Vectors.{sees}
use Rattle.jr_tree.specs.declared.edit.Write.{Write}
use Rattle.jr_tree.specs.Trees.{Nodes}
use Rattle.jr_tree.specs.Edits.{applied}
use Rattle.jr_items.specs.Names.{primary_type}
use Rattle.jr_types.specs.declared.TypeDef.{TypeDef}
use Rattle.jr_types.specs.Rules.{TypesOk}
use Rattle.jcr_ref.specs.References.{ReferencesOk}
use Rattle.jcr_plan.specs.Plans.{PlanOk, IsFree}
use Rattle.oak_clash.specs.declared.mark.MarkAt.{MarkAt}
use Rattle.oak_machine.specs.declared.event.Draw.{Draw}
use Rattle.oak_machine.specs.declared.event.Event.TheVariants as event
use Rattle.oak_machine.specs.History.{Begin, Past, begin_tree}
use Rattle.oak_machine.specs.Commits.{draw_of, tree_at, IsClosed as IsVectorClosed}
use Rattle.oak_machine.specs.Laws.{Starts, Says, StartsProper}
use Rattle.oak_machine.specs.Runs.{IsRunOf, AreNodes, MayCommit}
use Rattle.core_read.proofs.Told.{base_is}
use Rattle.core_begun.specs.Told.{start_in, IsClosedSince}
use Rattle.core_begun.proofs.Runs.{told_run}
use Rattle.core_begun.proofs.Told.{tree_commit}
use Rattle.core_merge.specs.Independent.{StartsMarkingParents}
use Rattle.core_merge.specs.Orders.{tree_by_commits}
use Rattle.core_merge.proofs.Commits.{committed_edit}
use Rattle.core_merge.proofs.Sights.{closed_since, tree_seen}
use Rattle.core_merge.proofs.Order.{proper_in_order, tree_in_order}
use Rattle.core_obeys.specs.Plans.{Tokens, StartsPlans, before_draw}
use Rattle.core_obeys.specs.Tidy as tidiness
use Rattle.core_obeys.proofs.Views.Series.{Then}
use Rattle.core_obeys.proofs.Views.{View, Sight, view_of, all, base, seen, after}
use Rattle.core_obeys.proofs.Steps.{IsClosed}
use Rattle.core_obeys.proofs.Clash.{IsMarked}
use Rattle.core_obeys.proofs.Types.{AreTyped, typed}
use Rattle.core_obeys.proofs.References.{refers, is_frozen_type, IsTarget, Refer, AreDistinct, IsTidy, IsReferring, AllRefer, refer}
use Rattle.core_obeys.proofs.Fitting.{applied_view, whole}
use Rattle.core_obeys.proofs.Free.{free}
use Rattle.core_obeys.proofs.Referring.{references_ok, refer_of, first_refers, distinct_of, strong_of}
use Rattle.core_obeys.proofs.Runs.{done, seen_is, commits, plans_mark_parents, order_seen, base_seen, in_use, plan, based, target, step_of, steps_of, typed_of}

drawn_at : (o : Option Draw) (ended : Bool) → (is_some o && not ended) ≡ true → (d : Draw) × (o ≡ Some d)
drawn_at None ended h = absurd (false≢true h)
drawn_at (Some d) ended h = (d, refl)

first : (a b : Bool) → (a && b) ≡ true → a ≡ true
first true b h = refl
first false b h = h

both : (a b : Bool) → a ≡ true → b ≡ true → (a && b) ≡ true
both true b h k = k
both false b h k = absurd (false≢true h)

-- the marks of an edit that leads from one view to another mark the targets of its new references
abbrev Targets : View → View → List MarkAt → Type 0
Targets v w ms = (p : Path) (n : Name) (id : ℕ) → refers id (w.prop p n) ≡ true → refers id (v.prop p n) ≡ false → (q : Path) → IsTarget w id q → (q : Path) × IsTarget w id q × IsMarked q ms

-- no node that stays ceases to be an `nt:frozenNode`
abbrev KeepsFrozen : View → View → Type 0
KeepsFrozen v w = (p : Path) → v.has p ≡ true → w.has p ≡ true → is_frozen_type (v.prop p primary_type) ≡ true → is_frozen_type (w.prop p primary_type) ≡ true

module _ (clusters : ℕ) (sessions : List ℕ) (nodes : AreNodes clusters sessions) (begin : Begin) (starts : Starts) (says : Says) (proper : StartsProper starts) (types : List TypeDef) (tokens : Tokens) (plans : StartsPlans types tokens starts) where
  marking : StartsMarkingParents starts
  marking = plans_mark_parents types tokens starts plans

  -- what a sight sees with each commit that it sees, it sees of the commits in their order
  closed_commits : (past : Past) → IsRunOf starts says clusters sessions begin past → (s : Sight) → IsClosedSince past s → IsClosed s (commits begin past)
  closed_commits past run s closed e f i j h k =
      let it = done clusters sessions nodes begin starts says proper marking past run e i in
      closed e.revision e.edit.writes (committed_edit clusters sessions nodes begin starts says past run e.revision e it.1 it.0) h f.revision (base_is past e.revision e it.0 f.revision ∙ k)

  pub types_seen : TypesOk types (begin_tree begin) → (past : Past) → IsRunOf starts says clusters sessions begin past → (v : RevVec) → IsVectorClosed past v → TypesOk types (tree_at begin past v)
  types_seen begun past run v closed =
      let told = told_run starts says proper clusters sessions nodes begin past run in
      let sight = closed_since (start_in clusters begin) past told v closed in
      let is : view_of (tree_at begin past v) ≡ seen (sees v) (commits begin past) =
      ap view_of (sym (tree_seen begin past (sees v))) ∙ seen_is clusters sessions nodes begin starts says proper marking past run (sees v) sight in
      let ok = subst (λ (w : View). AreTyped types w) (sym is)
      (typed types (commits begin past) (steps_of clusters sessions nodes begin starts says proper marking types tokens plans past run) (typed_of clusters sessions nodes begin starts says proper marking types tokens plans begun past run)
      (sees v) (closed_commits past run (sees v) sight)) in
      record { properties = ok.properties; children = ok.children }

  pub types_obeyed : TypesOk types (begin_tree begin) → (past : Past) → IsRunOf starts says clusters sessions begin past → TypesOk types (tree_by_commits begin past)
  types_obeyed begun past run =
      let ok = subst (λ (v : View). AreTyped types v) (sym (order_seen clusters sessions nodes begin starts says proper marking past run))
      (typed types (commits begin past) (steps_of clusters sessions nodes begin starts says proper marking types tokens plans past run) (typed_of clusters sessions nodes begin starts says proper marking types tokens plans begun past run) all (λ e f i j h k. refl)) in
      record { properties = ok.properties; children = ok.children }

  module _ (past : Past) (run : IsRunOf starts says clusters sessions begin past) (r : Revision) (d : Draw) (drawn : draw_of past r ≡ Some d) (may : MayCommit past r) where
    abbrev now : Nodes
    now = tree_by_commits begin past

    abbrev at_base : Nodes
    at_base = tree_at begin past d.base

    abbrev ws : List Write
    ws = d.edit.writes

    after_all : (born : Option Revision) → view_of (applied born now ws) ≡ after (seen all (commits begin past)) ws
    after_all born = applied_view now ws (tree_in_order clusters sessions nodes begin starts says proper marking past run) (proper_in_order clusters sessions nodes begin starts says proper marking past run r d drawn may) born
        ∙ ap (λ (v : View). after v ws) (order_seen clusters sessions nodes begin starts says proper marking past run)

    seen_base : view_of at_base ≡ seen (base d) (commits begin past)
    seen_base = base_seen clusters sessions nodes begin starts says proper marking past run r d drawn

    after_base : view_of (applied None at_base ws) ≡ after (seen (base d) (commits begin past)) ws
    after_base = based clusters sessions nodes begin starts says proper marking types tokens plans past run r d drawn

    ok : PlanOk types at_base (tokens (record { clusters = clusters; sessions = sessions; begin = begin; past = before_draw past r }) d.session) ws d.marks
    ok = plan clusters sessions nodes begin starts says proper marking types tokens plans past run r d drawn

    pub commit_free : IsFree types now (tokens (record { clusters = clusters; sessions = sessions; begin = begin; past = before_draw past r }) d.session) ws
    commit_free = free types d (commits begin past) (step_of clusters sessions nodes begin starts says proper marking types tokens plans past run r d drawn may)
        (steps_of clusters sessions nodes begin starts says proper marking types tokens plans past run) now at_base
        (order_seen clusters sessions nodes begin starts says proper marking past run) seen_base (after_all None) after_base _ ok.free

    referring : IsReferring d (commits begin past)
    referring = record {
      referring = subst Refer after_base (refer_of (applied None at_base ws) ok.referring);
      targets = subst (λ (v : View). Targets v (after (seen (base d) (commits begin past)) ws) d.marks) seen_base (subst (λ (w : View). Targets (view_of at_base) w d.marks) after_base
          (λ p n id h k q is. target clusters sessions nodes begin starts says proper marking types tokens plans past run r d drawn p n id h k q is));
    }

    tidy : tidiness.IsTidyEdit at_base d → tidiness.HasDistinctIds (applied (Some r) now ws) → IsTidy d (commits begin past)
    tidy edit distinct = record {
      at_base = subst AreDistinct seen_base (distinct_of at_base edit.distinct);
      distinct = subst AreDistinct (after_all (Some r)) (distinct_of (applied (Some r) now ws) distinct);
      marked = λ p w. strong_of p d.marks (edit.marked p w);
      frozen = subst (λ (v : View). KeepsFrozen v (after (seen (base d) (commits begin past)) ws)) seen_base (subst (λ (w : View). KeepsFrozen (view_of at_base) w) after_base (λ p h k f. edit.frozen p (both _ _ h k) f));
    }

  -- each draw is a tidy edit, and stays one
  tidy_drawn : (past : Past) → IsRunOf starts says clusters sessions begin past → tidiness.IsTidy begin past → (r : Revision) (d : Draw) → draw_of past r ≡ Some d → tidiness.IsTidyEdit (tree_at begin past d.base) d
  tidy_drawn [] run tidy r d h = absurd (false≢true (ap is_some h))
  tidy_drawn (event.Draw e ∷ past) run tidy r d h = by (is_same r e.revision) h (λ k. tidy_drawn past run.1 tidy.1 r d k)
    where
      by : (b : Bool) → cond b (Some e) (draw_of past r) ≡ Some d → (draw_of past r ≡ Some d → tidiness.IsTidyEdit (tree_at begin past d.base) d) → tidiness.IsTidyEdit (tree_at begin past d.base) d
      by true k rest = subst (λ (x : Draw). tidiness.IsTidyEdit (tree_at begin past x.base) x) (ap (λ (o : Option Draw). unwrap_or o e) k) tidy.0
      by false k rest = rest k
  tidy_drawn (event.Commit x ∷ past) run tidy r d h =
      let e = drawn_at (draw_of past x) _ run.0.open_.in_flight in
      subst (λ (t : Nodes). tidiness.IsTidyEdit t d) (sym (tree_commit (start_in clusters begin) past x e.0 (told_run starts says proper clusters sessions nodes begin past run.1) run.0 e.1 d.base (in_use clusters sessions nodes begin starts says proper marking past run.1 r d h)))
      (tidy_drawn past run.1 tidy.1 r d h)
  tidy_drawn (e ∷ past) run tidy r d h = tidy_drawn past run.1 tidy r d h

  all_refer : (past : Past) → IsRunOf starts says clusters sessions begin past → tidiness.IsTidy begin past → AllRefer (commits begin past)
  all_refer [] run tidy = first_refers begin tidy
  all_refer (event.Commit r ∷ past) run tidies =
      let d = drawn_at (draw_of past r) _ run.0.open_.in_flight in
      subst (λ (o : Option Draw). AllRefer (option_map_or (λ d. Then d (commits begin past)) o (commits begin past))) (sym d.1) (
        tidy past run.1 r d.0 d.1 run.0 (tidy_drawn past run.1 tidies.1 r d.0 d.1)
            (subst (λ (o : Option Draw). tidiness.HasDistinctIds (option_map_or (λ d. applied (Some r) (tree_by_commits begin past) d.edit.writes) o (tree_by_commits begin past))) d.1 tidies.0),
        referring past run.1 r d.0 d.1 run.0,
        all_refer past run.1 tidies.1,
      )
  all_refer (event.Draw e ∷ past) run tidies = all_refer past run.1 tidies.1
  all_refer (e ∷ past) run tidies = all_refer past run.1 tidies

  pub references_kept : (past : Past) → IsRunOf starts says clusters sessions begin past → tidiness.IsTidy begin past → ReferencesOk (tree_by_commits begin past)
  references_kept past run tidies = references_ok (tree_by_commits begin past) (whole (tree_by_commits begin past) (tree_in_order clusters sessions nodes begin starts says proper marking past run))
      (subst Refer (sym (order_seen clusters sessions nodes begin starts says proper marking past run)) (refer (commits begin past) (steps_of clusters sessions nodes begin starts says proper marking types tokens plans past run) (all_refer past run tidies)))
