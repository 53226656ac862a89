-- The merging theorem, and what it gives of heads, bases, checkpoints and draws.
use Rattle.std.proofs.Common.{◌≡◌, ℕ, Bool, true, false, cond, ◌&&◌, ◌||◌, Some, None, Option, List, refl, sym, ap, ◌∙◌, subst}
use Rattle.std.specs.Option.{option_map_or}
use Rattle.std.specs.Ordering.{eq_by_cmp}
use Rattle.jr_rev.specs.declared.revision.Revision.{Revision}
use Rattle.jr_rev.specs.declared.vector.RevVec.{RevVec}
use Rattle.jr_rev.specs.Revisions.{revision_cmp, is_before}
use Rattle.jr_rev.specs.Vectors.{sees}
use Rattle.jr_tree.specs.declared.edit.Write.{Write}
use Rattle.jr_tree.specs.Trees.{Nodes, IsTree}
use Rattle.jr_tree.specs.Edits.{IsProper}
use Rattle.oak_machine.specs.declared.event.Draw.{Draw}
use Rattle.oak_machine.specs.declared.event.Start.{Start}
use Rattle.oak_machine.specs.History.{Begin, Past, begin_tree}
use Rattle.oak_machine.specs.Changed.{tree_below}
use Rattle.oak_machine.specs.Commits.{draw_of, is_committed, is_in_base, tree_at, IsClosed}
use Rattle.oak_machine.specs.Laws.{Starts, Says, StartsProper}
use Rattle.oak_machine.specs.Runs.{IsRunOf, AreNodes}
use Rattle.core_read.specs.Commits.{Sight}
use Rattle.core_read.proofs.Entries.{both, second}
use Rattle.core_read.proofs.Latest.{same_revision, before_itself}
use Rattle.core_read.proofs.Told.{base_is}
use Rattle.core_heads.proofs.Below.{below_seen}
use Rattle.core_keep.specs.From.{falling_from, tree_from}
use Rattle.core_keep.proofs.From.{TellsFrom}
use Rattle.core_begun.specs.Told.{edit_since, start_in, IsClosedSince, IsGoodSince, IsToldSince}
use Rattle.core_begun.proofs.Bases.{begun_of}
use Rattle.core_begun.proofs.Course.{tells_since}
use Rattle.core_begun.proofs.Runs.{told_run}
use Rattle.core_merge.specs.Independent.{StartsMarkingParents, AreIndependent, AreMergeable}
use Rattle.core_merge.proofs.Commits.{committed_edit, mergeable}
use Rattle.core_merge.proofs.More.{proper_there, tells_with}
use Rattle.core_merge.proofs.Seen.{edit_seen}
use Rattle.core_merge.proofs.Sights.{begin_is_tree, closed_below, closed_since, seen_below, tree_seen}
use Rattle.core_merge.proofs.Whole.{seen_tree, whole}

or_right : (a b : Bool) → b ≡ true → (a || b) ≡ true
or_right true b h = refl
or_right false b h = h

module _ (clusters : ℕ) (sessions : List ℕ) (nodes : AreNodes clusters sessions) (begin : Begin) (starts : Starts) (says : Says) (proper : StartsProper starts) (marking : StartsMarkingParents starts) (past : Past) (run : IsRunOf starts says clusters sessions begin past) where
  abbrev start : Start
  start = start_in clusters begin

  told : IsToldSince start past
  told = told_run starts says proper clusters sessions nodes begin past run

  first_tree : IsTree (begin_tree begin)
  first_tree = begin_is_tree clusters begin (begun_of clusters sessions nodes begin starts says past run)

  merges : AreMergeable past
  merges = mergeable clusters sessions nodes begin starts says proper marking past run

  pub tree_merged : (v : RevVec) → IsClosed past v → IsTree (tree_at begin past v)
  tree_merged v closed = subst IsTree (tree_seen begin past (sees v)) (seen_tree start first_tree past told merges (sees v) (closed_since start past told v closed))

  module _ (r : Revision) (d : Draw) (drawn : draw_of past r ≡ Some d) where
    good : IsGoodSince start past r d
    good = told.draws r d drawn

    of_base : is_in_base past r ≡ sees d.base
    of_base = ap {B = Revision → Bool} (λ (o : Option Draw) (q : Revision). option_map_or (λ (d : Draw). sees d.base q) o false) drawn

    at_base : tree_from (begin_tree begin) (is_in_base past r) (falling_from past) ≡ tree_at begin past d.base
    at_base = ap (λ (s : Sight). tree_from (begin_tree begin) s (falling_from past)) of_base ∙ tree_seen begin past (sees d.base)

    base_closed : IsClosedSince past (is_in_base past r)
    base_closed = λ o us e h q k. good.ready.closed o us e h q k

    pub base_tree_merged : IsTree (tree_at begin past d.base)
    base_tree_merged = subst IsTree at_base (seen_tree start first_tree past told merges (is_in_base past r) base_closed)

    pub edit_proper : IsProper (tree_at begin past d.base) d.edit.writes
    edit_proper = subst (λ (t : Nodes). IsProper t d.edit.writes) at_base good.ready.proper

    -- ---- a commit that a closed vector sees, on the tree of those before it
    module _ (v : RevVec) (closed : IsClosed past v) (done : is_committed past r ≡ true) (seen : sees v r ≡ true) where
      abbrev below : Sight
      below = seen_below v r

      -- and it
      abbrev upto : Sight
      upto o = eq_by_cmp revision_cmp o r || below o

      edit : edit_since past r ≡ Some d.edit.writes
      edit = committed_edit clusters sessions nodes begin starts says past run r d done drawn

      wider : (o : Revision) → is_in_base past r o ≡ true → below o ≡ true
      wider o h = both _ _ (below_seen d.base v o (closed r d done drawn seen) (sym (base_is past r d drawn o) ∙ h)) (good.ready.rises o h)

      apart : (o : Revision) (us : List Write) → edit_since past o ≡ Some us → below o ≡ true → is_in_base past r o ≡ false → AreIndependent d.edit.writes us
      apart o us e h unseen = merges r o d.edit.writes us edit e (second _ _ h) unseen

      below_closed : IsClosedSince past below
      below_closed = closed_below start past told v closed r

      upto_closed : IsClosedSince past upto
      upto_closed o us e h q based = or_right (eq_by_cmp revision_cmp q r) _ (by (eq_by_cmp revision_cmp o r) refl h)
        where
          by : (b : Bool) → eq_by_cmp revision_cmp o r ≡ b → (b || below o) ≡ true → below q ≡ true
          by true k l = wider q (subst (λ (x : Revision). is_in_base past x q ≡ true) (same_revision o r k) based)
          by false k l = below_closed o us e l q based

      with_r : (q : Revision) → edit_seen past upto q ≡ cond (eq_by_cmp revision_cmp q r) (Some d.edit.writes) (edit_seen past below q)
      with_r q = by (eq_by_cmp revision_cmp q r) refl
        where
          by : (b : Bool) → eq_by_cmp revision_cmp q r ≡ b → cond (b || below q) (edit_since past q) None ≡ cond b (Some d.edit.writes) (edit_seen past below q)
          by true k = ap (edit_since past) (same_revision q r k) ∙ edit
          by false k = refl

      not_below : below r ≡ false
      not_below = by (sees v r)
        where
          by : (b : Bool) → (b && is_before r r) ≡ false
          by true = before_itself r
          by false = refl

      not_yet : edit_seen past below r ≡ None
      not_yet = ap (λ b. cond b (edit_since past r) None) not_below

      tells : TellsFrom (begin_tree begin) (tree_from (begin_tree begin) below (falling_from past)) below (falling_from past)
      tells = tells_since start past first_tree told below below_closed

      pub proper_below : IsProper (tree_below begin past v r) d.edit.writes
      proper_below = subst (λ (t : Nodes). IsProper t d.edit.writes) (tree_seen begin past below)
          (proper_there start first_tree past told below (is_in_base past r) base_closed d.edit.writes _ tells wider apart good.ready.proper (Some r)
          (whole start first_tree past told merges upto upto_closed _
          (tells_with start first_tree past told below (is_in_base past r) base_closed d.edit.writes _ tells wider apart good.ready.proper past upto r with_r not_yet good.ready.rises)))
