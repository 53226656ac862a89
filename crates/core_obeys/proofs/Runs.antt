-- In each run the commits, in their order, are steps.
use Rattle.std.proofs.Common.{◌≡◌, inl, inr, ℕ, Bool, true, false, cond, not, ◌&&◌, ◌||◌, Some, None, Option, List, [], ◌∷◌, refl, sym, ap, ◌∙◌, subst, is_some}
use Rattle.std.specs.Option.{option_map_or, unwrap_or}
use Rattle.std.specs.Cmp.{tied_itself}
use Rattle.std.specs.Ordering.{is_eq, eq_by_cmp}
use mathlib.Core.Bool.{false≢true}
use Rattle.jr_path.specs.Names.{path_cmp}
use Rattle.jr_path.specs.declared.name.Name.{Name}
use Rattle.jr_path.specs.declared.path.Path.{Path}
use Rattle.jr_path.proofs.Maps.{path_total}
use Rattle.jr_rev.specs.declared.revision.Revision.{Revision}
use Rattle.jr_rev.specs.Revisions.{revision_cmp, is_same}
use Rattle.jr_rev.specs.Vectors.{sees}
use Rattle.jr_rev.proofs.Order.{revision_total}
use Rattle.jr_tree.specs.declared.edit.Edit.{Edit}
use Rattle.jr_tree.specs.declared.edit.Write.{Write}
use Rattle.jr_tree.specs.Trees.{Nodes, property_at, IsTree}
use Rattle.jr_tree.specs.Edits.{applied, IsProper}
use Rattle.jr_types.specs.declared.TypeDef.{TypeDef}
use Rattle.jr_types.specs.Rules.{TypesOk}
use Rattle.oak_clash.specs.declared.mark.Mark.TheVariants.{Touch}
use Rattle.oak_clash.specs.declared.mark.MarkAt.{MarkAt}
use Rattle.oak_clash.specs.Clashes.{clashing}
use Rattle.oak_machine.specs.declared.event.Draw.{Draw}
use Rattle.oak_machine.specs.declared.event.Event.TheVariants as event
use Rattle.oak_machine.specs.declared.event.Start.{Start}
use Rattle.oak_machine.specs.History.{Begin, Past, begin_tree}
use Rattle.oak_machine.specs.Commits.{draw_of, is_committed, is_in_base, marks_of as marks_drawn, tree_at}
use Rattle.oak_machine.specs.Laws.{Starts, Says, StartsProper}
use Rattle.oak_machine.specs.Runs.{IsRunOf, AreNodes, MayCommit}
use Rattle.core_read.proofs.Latest.{same_revision}
use Rattle.core_read.proofs.Told.{base_is}
use Rattle.core_heads.proofs.Runs.{fresh_run}
use Rattle.core_keep.specs.From.{falling_from, tree_from}
use Rattle.core_keep.proofs.From.{TellsFrom}
use Rattle.core_begun.specs.Told.{edit_since, start_in, IsClosedSince, IsGoodSince, IsInUseSince, IsToldSince}
use Rattle.core_begun.proofs.Bases.{begun_of}
use Rattle.core_begun.proofs.Committed.{committed, tree_same}
use Rattle.core_begun.proofs.Course.{tells_since}
use Rattle.core_begun.proofs.Runs.{told_run}
use Rattle.core_begun.proofs.Told.{pending, tree_commit}
use Rattle.core_merge.specs.Independent.{MarkParents, StartsMarkingParents}
use Rattle.core_merge.specs.Orders.{tree_by_commits}
use Rattle.core_merge.proofs.Commits.{committed_edit, independent_of, mergeable}
use Rattle.core_merge.proofs.Merged.{base_tree_merged}
use Rattle.core_merge.proofs.More.{proper_there, tells_with}
use Rattle.core_merge.proofs.Order.{proper_in_order, tree_in_order}
use Rattle.core_merge.proofs.Seen.{edit_seen}
use Rattle.core_merge.proofs.Sights.{begin_is_tree, tree_seen}
use Rattle.core_merge.proofs.Whole.{whole as whole_tree}
use Rattle.jcr_marks.proofs.Membership.{IsIn, parents_touched}
use Rattle.jcr_plan.specs.Plans.{PlanOk}
use Rattle.core_obeys.specs.Plans.{base_tree, Tokens, StartsPlans, before_draw}
use Rattle.core_obeys.proofs.Views.Series.{Over, Then}
use Rattle.core_obeys.proofs.Views.{IsOne, Series, View, Sight, view_of, all, base, seen, after}
use Rattle.core_obeys.proofs.Steps.{IsStep, AreSteps, IsFit, Covers, Guards}
use Rattle.core_obeys.proofs.Fitting.{applied_view, fit, same_view}
use Rattle.core_obeys.proofs.MarksOf.{covers_marks, guards_marks, target_marked}
use Rattle.core_obeys.proofs.Clash.{IsMarked, any_in}
use Rattle.core_obeys.proofs.References.{refers, IsTarget}
use Rattle.core_obeys.proofs.Types.{AreTyped, AllTyped}

or_right : (a b : Bool) → b ≡ true → (a || b) ≡ true
or_right true b h = refl
or_right false b h = h

or_left : (a b : Bool) → a ≡ true → (a || b) ≡ true
or_left true b h = refl
or_left false b h = absurd (false≢true h)

-- a plan marks the parents of the nodes that it adds or removes
pub plan_marks_parents : (types : List TypeDef) (tokens : List (List ℕ)) (t : Nodes) (edit : Edit) (marks : List MarkAt) → PlanOk types t tokens edit.writes marks → MarkParents marks edit.writes
plan_marks_parents types tokens t edit marks plan = λ p q up w.
    any_in (λ (m : MarkAt). eq_by_cmp path_cmp q m.path) (record { path = q; mark = Touch }) marks
    (subst (λ (ms : List MarkAt). IsIn (record { path = q; mark = Touch }) ms) plan.marked (parents_touched t edit.writes p q up w))
    (ap is_eq (tied_itself path_total q))

pub plans_mark_parents : (types : List TypeDef) (tokens : Tokens) (starts : Starts) → StartsPlans types tokens starts → StartsMarkingParents starts
plans_mark_parents types tokens starts plans h s edit marks lawful = plan_marks_parents types (tokens h s) (base_tree h s) edit marks (plans h s edit marks lawful)

-- the draws of what was committed, the last one first, over what a journal begins with
abbrev pub commits : Begin → Past → Series
commits begin [] = Over (view_of (begin_tree begin))
commits begin (event.Commit r ∷ past) = option_map_or (λ d. Then d (commits begin past)) (draw_of past r) (commits begin past)
commits begin (_ ∷ past) = commits begin past

-- a draw is of its revision
pub revision_is : (past : Past) (r : Revision) (d : Draw) → draw_of past r ≡ Some d → d.revision ≡ r
revision_is [] r d h = absurd (false≢true (ap is_some h))
revision_is (event.Draw e ∷ past) r d h = by (is_same r e.revision) refl h (λ k. revision_is past r d k)
  where
    by : (b : Bool) → is_same r e.revision ≡ b → cond b (Some e) (draw_of past r) ≡ Some d → (draw_of past r ≡ Some d → d.revision ≡ r) → d.revision ≡ r
    by true s k rest = ap (λ (o : Option Draw). (unwrap_or o e).revision) (sym k) ∙ sym (same_revision r e.revision s)
    by false s k rest = rest k
revision_is (e ∷ past) r d h = revision_is past r d h

drawn_at : (o : Option Draw) (ended : Bool) → (is_some o && not ended) ≡ true → (d : Draw) × (o ≡ Some d)
drawn_at None ended h = absurd (false≢true h)
drawn_at (Some d) ended h = (d, refl)

module _ (clusters : ℕ) (sessions : List ℕ) (nodes : AreNodes clusters sessions) (begin : Begin) (starts : Starts) (says : Says) (proper : StartsProper starts) (marking : StartsMarkingParents starts) where
  abbrev start : Start
  start = start_in clusters begin

  told : (past : Past) → IsRunOf starts says clusters sessions begin past → IsToldSince start past
  told past run = told_run starts says proper clusters sessions nodes begin past run

  first_tree : (past : Past) → IsRunOf starts says clusters sessions begin past → IsTree (begin_tree begin)
  first_tree past run = begin_is_tree clusters begin (begun_of clusters sessions nodes begin starts says past run)

  -- ---- what is seen of the commits is the tree that is seen

  closed_before : (past : Past) (r : Revision) (d : Draw) → edit_since past r ≡ None → draw_of past r ≡ Some d → (s : Sight) → IsClosedSince (event.Commit r ∷ past) s → IsClosedSince past s
  closed_before past r d none drawn s closed o us e seen_o q based = closed o us (committed (begin_tree begin) past r d drawn o ∙ by (eq_by_cmp revision_cmp o r) refl) seen_o q based
    where
      by : (b : Bool) → eq_by_cmp revision_cmp o r ≡ b → cond b (Some d.edit.writes) (edit_since past o) ≡ Some us
      by true k = absurd (false≢true (sym (ap is_some none) ∙ (ap is_some (ap (edit_since past) (sym (same_revision o r k))) ∙ ap is_some e)))
      by false k = e

  in_base_later : (past : Past) (d : Draw) → draw_of past d.revision ≡ None → (o q : Revision) → is_in_base past o q ≡ true → is_in_base (event.Draw d ∷ past) o q ≡ true
  in_base_later past d fresh o q h = by (is_same o d.revision) refl
    where
      by : (b : Bool) → is_same o d.revision ≡ b → option_map_or (λ d. sees d.base q) (cond b (Some d) (draw_of past o)) false ≡ true
      by false e = h
      by true e = absurd (false≢true (sym (ap (λ (x : Option Draw). option_map_or (λ d. sees d.base q) x false) (ap (draw_of past) (same_revision o d.revision e) ∙ fresh)) ∙ h))

  module _ (past : Past) (r : Revision) (run : IsRunOf starts says clusters sessions begin (event.Commit r ∷ past)) (d : Draw) (drawn : draw_of past r ≡ Some d) where
    good : IsGoodSince start past r d
    good = (told past run.1).draws r d drawn

    none_yet : edit_since past r ≡ None
    none_yet = pending start past r d (told past run.1) run.0 drawn

    base_closed : IsClosedSince past (is_in_base past r)
    base_closed = λ o us e h q k. good.ready.closed o us e h q k

    closed_now : (s : Sight) → IsClosedSince (event.Commit r ∷ past) s → IsClosedSince past s
    closed_now s closed = closed_before past r d none_yet drawn s closed

    module _ (s : Sight) (closed : IsClosedSince (event.Commit r ∷ past) s) (earlier : view_of (tree_from (begin_tree begin) s (falling_from past)) ≡ seen s (commits begin past)) where
      abbrev t : Nodes
      t = tree_from (begin_tree begin) s (falling_from past)

      abbrev ws : List Write
      ws = d.edit.writes

      tells : TellsFrom (begin_tree begin) t s (falling_from past)
      tells = tells_since start past (first_tree past run.1) (told past run.1) s (closed_now s closed)

      itself : eq_by_cmp revision_cmp r r ≡ true
      itself = ap is_eq (tied_itself revision_total r)

      wider : s r ≡ true → (o : Revision) → is_in_base past r o ≡ true → s o ≡ true
      wider h o k = closed r ws (committed (begin_tree begin) past r d drawn r ∙ ap (λ b. cond b (Some ws) (edit_since past r)) itself) h o k

      with_r : s r ≡ true → (q : Revision) → edit_seen (event.Commit r ∷ past) s q ≡ cond (eq_by_cmp revision_cmp q r) (Some ws) (edit_seen past s q)
      with_r h q = ap (λ (o : Option (List Write)). cond (s q) o None) (committed (begin_tree begin) past r d drawn q) ∙ by (eq_by_cmp revision_cmp q r) refl (s q) refl
        where
          by : (b : Bool) → eq_by_cmp revision_cmp q r ≡ b → (c : Bool) → s q ≡ c → cond c (cond b (Some ws) (edit_since past q)) None ≡ cond b (Some ws) (cond c (edit_since past q) None)
          by true e true k = refl
          by true e false k = absurd (false≢true (sym k ∙ (ap s (same_revision q r e) ∙ h)))
          by false e true k = refl
          by false e false k = refl

      more : s r ≡ true → TellsFrom (begin_tree begin) (applied (Some r) t ws) s (falling_from (event.Commit r ∷ past))
      more h = tells_with start (first_tree past run.1) past (told past run.1) s (is_in_base past r) base_closed ws t tells (wider h)
          (λ o us e seen_o unseen. independent_of clusters sessions nodes begin starts says proper marking past run.1 r d drawn run.0 o us e unseen)
          good.ready.proper (event.Commit r ∷ past) s r (with_r h) (ap (λ (o : Option (List Write)). cond (s r) o None) none_yet ∙ none_either (s r)) good.ready.rises
        where
          none_either : (b : Bool) → ◌≡◌ {A = Option (List Write)} (cond b None None) None
          none_either true = refl
          none_either false = refl

      after_it : s r ≡ true → view_of (tree_from (begin_tree begin) s (falling_from (event.Commit r ∷ past))) ≡ after (seen s (commits begin past)) ws
      after_it h =
          let later : TellsFrom (begin_tree begin) (tree_from (begin_tree begin) s (falling_from (event.Commit r ∷ past))) s (falling_from (event.Commit r ∷ past)) = tells_since start (event.Commit r ∷ past) (first_tree past run.1) (told (event.Commit r ∷ past) run) s closed in
          let now : TellsFrom (begin_tree begin) (applied (Some r) t ws) s (falling_from (event.Commit r ∷ past)) = more h in
          let tree : IsTree t = whole_tree start (first_tree past run.1) past (told past run.1) (mergeable clusters sessions nodes begin starts says proper marking past run.1) s (closed_now s closed) t tells in
          let grown : IsTree (applied (Some r) t ws) = whole_tree start (first_tree past run.1) (event.Commit r ∷ past) (told (event.Commit r ∷ past) run) (mergeable clusters sessions nodes begin starts says proper marking (event.Commit r ∷ past) run) s closed (applied (Some r) t ws) now in
          let stays : IsProper t ws = proper_there start (first_tree past run.1) past (told past run.1) s (is_in_base past r) base_closed ws t tells (wider h)
          (λ o us e seen_o unseen. independent_of clusters sessions nodes begin starts says proper marking past run.1 r d drawn run.0 o us e unseen) good.ready.proper (Some r) grown in
          same_view (view_of (tree_from (begin_tree begin) s (falling_from (event.Commit r ∷ past)))) (view_of (applied (Some r) t ws)) (λ p. later.node p ∙ sym (now.node p)) (λ p n. later.prop p n ∙ sym (now.prop p n))
          ∙ (applied_view t ws tree stays (Some r) ∙ ap (λ (v : View). after v ws) earlier)

      commit_seen : view_of (tree_from (begin_tree begin) s (falling_from (event.Commit r ∷ past))) ≡ seen s (Then d (commits begin past))
      commit_seen = by (s r) refl ∙ ap (λ (x : Revision). cond (s x) (after (seen s (commits begin past)) ws) (seen s (commits begin past))) (sym (revision_is past r d drawn))
        where
          by : (b : Bool) → s r ≡ b → view_of (tree_from (begin_tree begin) s (falling_from (event.Commit r ∷ past))) ≡ cond b (after (seen s (commits begin past)) ws) (seen s (commits begin past))
          by true h = after_it h
          by false h = ap view_of (tree_same (begin_tree begin) past r d drawn s h) ∙ earlier

  pub seen_is : (past : Past) → IsRunOf starts says clusters sessions begin past → (s : Sight) → IsClosedSince past s → view_of (tree_from (begin_tree begin) s (falling_from past)) ≡ seen s (commits begin past)
  seen_is [] run s closed = refl
  seen_is (event.Commit r ∷ past) run s closed =
      let d = drawn_at (draw_of past r) _ run.0.open_.in_flight in
      subst (λ (o : Option Draw). view_of (tree_from (begin_tree begin) s (falling_from (event.Commit r ∷ past))) ≡ seen s (option_map_or (λ d. Then d (commits begin past)) o (commits begin past))) (sym d.1)
      (commit_seen past r run d.0 d.1 s closed (seen_is past run.1 s (closed_now past r run d.0 d.1 s closed)))
  seen_is (event.Draw d ∷ past) run s closed = seen_is past run.1 s
      (λ o us e h q k. closed o us e h q (in_base_later past d (fresh_run clusters sessions nodes begin starts says d past run).fresh o q k))
  seen_is (e ∷ past) run s closed = seen_is past run.1 s closed

  -- ---- the commits are steps

  pub order_seen : (past : Past) → IsRunOf starts says clusters sessions begin past → view_of (tree_by_commits begin past) ≡ seen all (commits begin past)
  order_seen [] run = refl
  order_seen (event.Commit r ∷ past) run =
      let d = drawn_at (draw_of past r) _ run.0.open_.in_flight in
      subst (λ (o : Option Draw). view_of (option_map_or (λ d. applied (Some r) (tree_by_commits begin past) d.edit.writes) o (tree_by_commits begin past)) ≡ seen all (option_map_or (λ d. Then d (commits begin past)) o (commits begin past))) (sym d.1)
      (applied_view (tree_by_commits begin past) d.0.edit.writes (tree_in_order clusters sessions nodes begin starts says proper marking past run.1) (proper_in_order clusters sessions nodes begin starts says proper marking past run.1 r d.0 d.1 run.0) (Some r)
      ∙ ap (λ (v : View). after v d.0.edit.writes) (order_seen past run.1))
  order_seen (e ∷ past) run = order_seen past run.1

  draw_kept : (past : Past) (d : Draw) → IsRunOf starts says clusters sessions begin (event.Draw d ∷ past) → (r : Revision) (e : Draw) → draw_of past r ≡ Some e → draw_of (event.Draw d ∷ past) r ≡ Some e
  draw_kept past d run r e h = by (is_same r d.revision) refl
    where
      by : (b : Bool) → is_same r d.revision ≡ b → cond b (Some d) (draw_of past r) ≡ Some e
      by false k = h
      by true k = absurd (false≢true (sym (ap is_some (ap (draw_of past) (same_revision r d.revision k) ∙ (fresh_run clusters sessions nodes begin starts says d past run).fresh)) ∙ ap is_some h))

  -- a commit is drawn and committed
  abbrev IsDone : Past → Draw → Type 0
  IsDone past e = (draw_of past e.revision ≡ Some e) × (is_committed past e.revision ≡ true)

  pub done : (past : Past) → IsRunOf starts says clusters sessions begin past → (e : Draw) → IsOne e (commits begin past) → IsDone past e
  done [] run e i = absurd i
  done (event.Commit r ∷ past) run e i =
      let d = drawn_at (draw_of past r) _ run.0.open_.in_flight in
      by d.0 d.1 (subst (λ (o : Option Draw). IsOne e (option_map_or (λ d. Then d (commits begin past)) o (commits begin past))) d.1 i) (λ j. done past run.1 e j)
    where
      by : (d : Draw) → draw_of past r ≡ Some d → IsOne e (Then d (commits begin past)) → (IsOne e (commits begin past) → IsDone past e) → IsDone (event.Commit r ∷ past) e
      by d drawn (inl k) rest =
          let same : e.revision ≡ r = ap (λ (x : Draw). x.revision) (sym k) ∙ revision_is past r d drawn in
          (ap (draw_of past) same ∙ (drawn ∙ ap Some k), or_left (is_same e.revision r) _ (subst (λ (x : Revision). is_same e.revision x ≡ true) same (ap is_eq (tied_itself revision_total e.revision))))
      by d drawn (inr j) rest = let it = rest j in (it.0, or_right (is_same e.revision r) _ it.1)
  done (event.Draw d ∷ past) run e i = let it = done past run.1 e i in (draw_kept past d run e.revision e it.0, it.1)
  done (event.Login s v ∷ past) run e i = done past run.1 e i
  done (x ∷ past) run e i = let it = done past run.1 e i in (it.0, it.1)

  module _ (past : Past) (run : IsRunOf starts says clusters sessions begin past) (r : Revision) (d : Draw) (drawn : draw_of past r ≡ Some d) where
    is_good : IsGoodSince start past r d
    is_good = (told past run).draws r d drawn

    base_sees : (o : Revision) → is_in_base past r o ≡ base d o
    base_sees o = base_is past r d drawn o

    closed_base : IsClosedSince past (base d)
    closed_base o us e h q k = sym (base_sees q) ∙ is_good.ready.closed o us e (base_sees o ∙ h) q k

    pub in_use : IsInUseSince start past d.base
    in_use = record { settled = λ o f. sym (base_sees o) ∙ is_good.settled o f; closed = closed_base; begun = λ o h. sym (base_sees o) ∙ is_good.begins o h }

    -- the tree at the base is what the base sees
    pub base_seen : view_of (tree_at begin past d.base) ≡ seen (base d) (commits begin past)
    base_seen = ap view_of (sym (tree_seen begin past (base d))) ∙ seen_is past run (base d) closed_base

  -- each draw is a plan, and stays one
  pub plan_drawn : (types : List TypeDef) (tokens : Tokens) → StartsPlans types tokens starts → (past : Past) → IsRunOf starts says clusters sessions begin past → (r : Revision) (d : Draw) → draw_of past r ≡ Some d
      → PlanOk types (tree_at begin past d.base) (tokens (record { clusters = clusters; sessions = sessions; begin = begin; past = before_draw past r }) d.session) d.edit.writes d.marks
  plan_drawn types tokens plans [] run r d h = absurd (false≢true (ap is_some h))
  plan_drawn types tokens plans (event.Draw e ∷ past) run r d h = by (is_same r e.revision) h (λ k. plan_drawn types tokens plans past run.1 r d k)
    where
      by : (b : Bool) → cond b (Some e) (draw_of past r) ≡ Some d
          → (draw_of past r ≡ Some d → PlanOk types (tree_at begin past d.base) (tokens (record { clusters = clusters; sessions = sessions; begin = begin; past = before_draw past r }) d.session) d.edit.writes d.marks)
          → PlanOk types (tree_at begin past d.base) (tokens (record { clusters = clusters; sessions = sessions; begin = begin; past = cond b past (before_draw past r) }) d.session) d.edit.writes d.marks
      by true k rest = subst (λ (x : Draw). PlanOk types (tree_at begin past x.base) (tokens (record { clusters = clusters; sessions = sessions; begin = begin; past = past }) x.session) x.edit.writes x.marks)
          (ap (λ (o : Option Draw). unwrap_or o e) k)
          (subst (λ (t : Nodes). PlanOk types t (tokens (record { clusters = clusters; sessions = sessions; begin = begin; past = past }) e.session) e.edit.writes e.marks) (ap (λ o. option_map_or (tree_at begin past) o (begin_tree begin)) run.0.base)
          (plans (record { clusters = clusters; sessions = sessions; begin = begin; past = past }) e.session e.edit e.marks run.0.lawful))
      by false k rest = rest k
  plan_drawn types tokens plans (event.Commit x ∷ past) run r d h =
      let e = drawn_at (draw_of past x) _ run.0.open_.in_flight in
      subst (λ (t : Nodes). PlanOk types t (tokens (record { clusters = clusters; sessions = sessions; begin = begin; past = before_draw past r }) d.session) d.edit.writes d.marks)
      (sym (tree_commit start past x e.0 (told past run.1) run.0 e.1 d.base (in_use past run.1 r d h)))
      (plan_drawn types tokens plans past run.1 r d h)
  plan_drawn types tokens plans (e ∷ past) run r d h = plan_drawn types tokens plans past run.1 r d h

  module _ (types : List TypeDef) (tokens : Tokens) (plans : StartsPlans types tokens starts) (past : Past) (run : IsRunOf starts says clusters sessions begin past) (r : Revision) (d : Draw) (drawn : draw_of past r ≡ Some d) where
    abbrev base_nodes : Nodes
    base_nodes = tree_at begin past d.base

    abbrev writes : List Write
    writes = d.edit.writes

    pub plan : PlanOk types base_nodes (tokens (record { clusters = clusters; sessions = sessions; begin = begin; past = before_draw past r }) d.session) writes d.marks
    plan = plan_drawn types tokens plans past run r d drawn

    tree : IsTree base_nodes
    tree = base_tree_merged clusters sessions nodes begin starts says proper marking past run r d drawn

    is_fit : IsFit (view_of base_nodes) writes
    is_fit = fit base_nodes writes tree plan.proper

    same : view_of (applied None base_nodes writes) ≡ after (view_of base_nodes) writes
    same = applied_view base_nodes writes tree plan.proper None

    at_base : view_of base_nodes ≡ seen (base d) (commits begin past)
    at_base = base_seen past run r d drawn

    -- the tree after the edit at the base
    pub based : view_of (applied None base_nodes writes) ≡ after (seen (base d) (commits begin past)) writes
    based = same ∙ ap (λ (v : View). after v writes) at_base

    pub target : (p : Path) (n : Name) (id : ℕ) → refers id (property_at (applied None base_nodes writes) p n) ≡ true → refers id (property_at base_nodes p n) ≡ false → (q : Path) → IsTarget (view_of (applied None base_nodes writes)) id q → (q : Path) × IsTarget (view_of (applied None base_nodes writes)) id q × IsMarked q d.marks
    target p n id h k q is = subst (λ (ms : List MarkAt). (q : Path) × IsTarget (view_of (applied None base_nodes writes)) id q × IsMarked q ms) plan.marked (target_marked base_nodes writes is_fit same p n id h k q is)

    pub step_of : MayCommit past r → IsStep d (commits begin past)
    step_of may = record {
      covers = subst (λ (ms : List MarkAt). Covers writes ms) plan.marked (covers_marks base_nodes writes is_fit same);
      guards = subst (λ (v : View). Guards v (after v writes) d.marks) at_base (subst (λ (v : View). Guards (view_of base_nodes) v d.marks) same (subst (λ (ms : List MarkAt). Guards (view_of base_nodes) (view_of (applied None base_nodes writes)) ms) plan.marked (guards_marks base_nodes writes is_fit same)));
      fits_base = subst (λ (v : View). IsFit v writes) at_base is_fit;
      fits = subst (λ (v : View). IsFit v writes) (order_seen past run) (fit (tree_by_commits begin past) writes (tree_in_order clusters sessions nodes begin starts says proper marking past run) (proper_in_order clusters sessions nodes begin starts says proper marking past run r d drawn may));
      apart = λ e i unseen. let it = done past run e i in
          sym (ap (λ (o : Option Draw). clashing (option_map_or (λ d. d.marks) o []) (marks_drawn past e.revision)) drawn ∙ ap (λ (o : Option Draw). clashing d.marks (option_map_or (λ d. d.marks) o [])) it.0)
          ∙ may.apart e.revision it.1 (base_sees past run r d drawn e.revision ∙ unseen);
      closed = λ e f i j h k. let it = done past run e i in
          sym (base_sees past run r d drawn f.revision)
          ∙ (is_good past run r d drawn).ready.closed e.revision e.edit.writes (committed_edit clusters sessions nodes begin starts says past run e.revision e it.1 it.0) (base_sees past run r d drawn e.revision ∙ h) f.revision (base_is past e.revision e it.0 f.revision ∙ k);
    }

  pub steps_of : (types : List TypeDef) (tokens : Tokens) → StartsPlans types tokens starts → (past : Past) → IsRunOf starts says clusters sessions begin past → AreSteps (commits begin past)
  steps_of types tokens plans [] run = tt
  steps_of types tokens plans (event.Commit r ∷ past) run =
      let d = drawn_at (draw_of past r) _ run.0.open_.in_flight in
      subst (λ (o : Option Draw). AreSteps (option_map_or (λ d. Then d (commits begin past)) o (commits begin past))) (sym d.1)
      (step_of types tokens plans past run.1 r d.0 d.1 run.0, steps_of types tokens plans past run.1)
  steps_of types tokens plans (e ∷ past) run = steps_of types tokens plans past run.1

  -- each of them meets the rules at its base
  pub typed_of : (types : List TypeDef) (tokens : Tokens) → StartsPlans types tokens starts → TypesOk types (begin_tree begin) → (past : Past) → IsRunOf starts says clusters sessions begin past → AllTyped types (commits begin past)
  typed_of types tokens plans begun [] run = record { properties = begun.properties; children = begun.children }
  typed_of types tokens plans begun (event.Commit r ∷ past) run =
      let d = drawn_at (draw_of past r) _ run.0.open_.in_flight in
      let ok = (plan types tokens plans past run.1 r d.0 d.1).typed in
      subst (λ (o : Option Draw). AllTyped types (option_map_or (λ d. Then d (commits begin past)) o (commits begin past))) (sym d.1)
      (subst (λ (v : View). AreTyped types v) (based types tokens plans past run.1 r d.0 d.1) (record { properties = ok.properties; children = ok.children }), typed_of types tokens plans begun past run.1)
  typed_of types tokens plans begun (e ∷ past) run = typed_of types tokens plans begun past run.1
