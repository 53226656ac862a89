-- What a journal tells since a start is a course, and reading is right over documents that keep it.
use Rattle.std.proofs.Common.{◌≡◌, inl, inr, Bool, true, false, cond, not, ◌&&◌, ◌||◌, Some, None, Option, List, [], ◌∷◌, refl, sym, ap, ◌∙◌, subst, is_some}
use Rattle.std.specs.Option.{option_map, option_map_or, option_or}
use Rattle.std.specs.Ordering.{eq_by_cmp}
use mathlib.Core.Bool.{false≢true}
use Rattle.jr_path.specs.declared.path.Path.{Path}
use Rattle.jr_rev.specs.declared.revision.Revision.{Revision}
use Rattle.jr_rev.specs.declared.vector.RevVec.{RevVec}
use Rattle.jr_rev.specs.Revisions.{revision_cmp, is_before}
use Rattle.jr_rev.specs.Vectors.{sees}
use Rattle.jr_tree.specs.declared.edit.Write.{Write}
use Rattle.jr_tree.specs.Trees.{Nodes, IsTree, node_at}
use Rattle.jr_tree.specs.Items.{here_of, put_of, written}
use Rattle.oak_clash.specs.declared.mark.MarkAt.{MarkAt}
use Rattle.oak_clash.specs.Clashes.{clashing}
use Rattle.oak_read.specs.Meaning.{Documents, found_node}
use Rattle.oak_machine.specs.declared.event.Draw.{Draw}
use Rattle.oak_machine.specs.declared.event.Event.TheVariants as event
use Rattle.oak_machine.specs.declared.event.Start.{Start}
use Rattle.oak_machine.specs.History.{Past}
use Rattle.oak_machine.specs.Commits.{draw_of, is_in_base, is_in_flight, is_committed, is_ended, marks_of, tree_at}
use Rattle.oak_machine.specs.Runs.{MayCommit}
use Rattle.core_read.specs.Commits.{Sight}
use Rattle.core_read.specs.Told.{Covers}
use Rattle.core_read.specs.World.{Progress}
use Rattle.core_read.proofs.Falling.{not_both}
use Rattle.core_read.proofs.Latest.{before_itself}
use Rattle.core_read.proofs.Told.{edit_committed, marks_is}
use Rattle.core_keep.specs.From.{course_from, falling_from, tree_from, IsFirst}
use Rattle.core_keep.specs.Keeps.{edit_in, IsCourse, IsDownward, Shows}
use Rattle.core_keep.specs.Standing.{gone_of}
use Rattle.core_keep.specs.Journal.{is_bounded, is_swept, Separate}
use Rattle.core_keep.proofs.From.{TellsFrom, reading_from, shows_from, tells_from}
use Rattle.core_keep.proofs.Item.{not_true}
use Rattle.core_keep.proofs.Marks.{separate_marks, Separate-flip}
use Rattle.core_begun.specs.Told.{edit_since, IsClosedSince, IsInUseSince, IsToldSince}
use Rattle.core_begun.specs.Kept.{bounded_since, swept_since, AreSeparateSince, IsHeldSince, IsKeptSince, IsUsedSince}
use Rattle.core_begun.proofs.Committed.{split}
use Rattle.core_begun.proofs.Told.{tree_since}
use Rattle.core_begun.proofs.Sound.{closed_falling, falls, found, sound_since}

drawn_of : (o : Option Draw) (ended : Bool) → (is_some o && not ended) ≡ true → (d : Draw) × (o ≡ Some d)
drawn_of None ended h = absurd (false≢true h)
drawn_of (Some d) ended h = (d, refl)

or_first : (a b : Bool) → a ≡ true → (a || b) ≡ true
or_first true b h = refl
or_first false b h = absurd (false≢true h)

module _ (start : Start) (past : Past) (told : IsToldSince start past) where
  -- what was drawn isn't of the start
  pub not_begun : (r : Revision) (d : Draw) → draw_of past r ≡ Some d → sees start.at r ≡ false
  not_begun r d drawn = not_true _ (λ h. false≢true (sym (before_itself r) ∙ (told.draws r d drawn).after r h))

  pub not_old : (r : Revision) → is_in_flight past r ≡ true → sees start.at r ≡ false
  not_old r flying = let d = drawn_of (draw_of past r) (is_ended past r) flying in not_begun r d.0 d.1

  -- nor is what was committed
  pub not_first : (r : Revision) (ws : List Write) → edit_since past r ≡ Some ws → sees start.at r ≡ false
  not_first r ws e = let d = told.edits r ws e in not_begun r d.0 d.1

  pub is_course : IsUsedSince past (bounded_since start past) → ((o : Revision) → is_in_flight past o ≡ true → swept_since start past o ≡ false) → IsCourse (course_from start past)
  is_course bounded swept = record {
    falls = falls past;
    bound_done = λ r f e. bounded.settled r f;
    swept_done = λ r f e. swept r f;
    old_bound = λ r h. or_first (sees start.at r) (is_bounded past r) h;
    old_swept = λ r h. or_first (sees start.at r) (is_swept past r) h;
    old_first = λ r q ws h e. let d = told.edits q ws (sym (found past q) ∙ e) in (told.draws q d.0 d.1).after r h;
  }

  -- what is closed sees with a write of an item each earlier one
  pub downward : AreSeparateSince past → (s : Sight) → IsClosedSince past s → IsDownward (course_from start past) s
  downward separate s closed = record {
    node = λ p r q ws us e f w u before seen. by r q ws us e f before seen (λ sep. false≢true (sym (ap is_some (gone_some p us (sep.node p (there p ws w)))) ∙ u));
    prop = λ p n r q ws us e f w u before seen. by r q ws us e f before seen (λ sep. false≢true (sym (ap is_some (sep.prop p n w)) ∙ u));
  }
    where
      gone_is : (p : Path) (us : List Write) → written (gone_of p) us ≡ option_map not (written (here_of p) us)
      gone_is p [] = refl
      gone_is p (w ∷ us) = ap (λ o. option_or o (option_map not (here_of p w))) (gone_is p us) ∙ at (written (here_of p) us)
        where
          at : (o : Option Bool) → option_or (option_map not o) (option_map not (here_of p w)) ≡ option_map not (option_or o (here_of p w))
          at None = refl
          at (Some b) = refl

      gone_some : (p : Path) (us : List Write) → written (here_of p) us ≡ None → written (gone_of p) us ≡ None
      gone_some p us h = gone_is p us ∙ ap (option_map not) h

      there : (p : Path) (ws : List Write) → is_some (written (gone_of p) ws) ≡ true → is_some (written (here_of p) ws) ≡ true
      there p ws h = at (written (here_of p) ws) (sym (ap is_some (gone_is p ws)) ∙ h)
        where
          at : (o : Option Bool) → is_some (option_map not o) ≡ true → is_some o ≡ true
          at None h = h
          at (Some b) h = refl

      by : (r q : Revision) (ws us : List Write) → edit_in (course_from start past) r ≡ Some ws → edit_in (course_from start past) q ≡ Some us → is_before q r ≡ true → s r ≡ true → (Separate ws us → ⊥) → s q ≡ true
      by r q ws us e f before seen apart = at (is_in_base past r q) refl
        where
          at : (b : Bool) → is_in_base past r q ≡ b → s q ≡ true
          at true h = closed r ws (sym (found past r) ∙ e) seen q h
          at false h = absurd (apart (separate r ws (sym (found past r) ∙ e) q us (sym (found past q) ∙ f) before h))

-- what a closed sight sees has at each item what the last write of it that is seen writes, or the start
pub tells_since : (start : Start) (past : Past) → IsTree start.tree → IsToldSince start past → (s : Sight) → IsClosedSince past s
    → TellsFrom start.tree (tree_from start.tree s (falling_from past)) s (falling_from past)
tells_since start past tree told s closed = tells_from start.tree tree (is_in_base past) (falling_from past) (sound_since start past told) s (closed_falling past s closed)

-- the tree of what the start and the bounds see
pub shows_bound : (start : Start) (past : Past) → IsFirst start.tree → IsToldSince start past → IsUsedSince past (bounded_since start past) → Shows (course_from start past) (bounded_since start past) (tree_from start.tree (bounded_since start past) (falling_from past))
shows_bound start past first told bounded =
    shows_from (course_from start past) first (bounded_since start past) _
    (tells_since start past first.tree told (bounded_since start past) bounded.closed)

-- the tree at a vector in use
pub shows_at : (start : Start) (past : Past) → IsFirst start.tree → IsToldSince start past → (v : RevVec) → IsInUseSince start past v → Shows (course_from start past) (sees v) (tree_at (Some start) past v)
shows_at start past first told v used =
    shows_from (course_from start past) first (sees v) (tree_at (Some start) past v)
    (subst (λ (t : Nodes). TellsFrom start.tree t (sees v) (falling_from past)) (tree_since start past v) (tells_since start past first.tree told (sees v) used.closed))

-- ---- the reading theorem, however far collections went

pub reading_since : (start : Start) (ds : Documents) (past : Past) (done : Progress) (v t : RevVec) → IsKeptSince start ds past done → IsHeldSince start past v t
    → (p : Path) → found_node ds t v p ≡ node_at (tree_at (Some start) past v) p
reading_since start ds past done v t world held p =
    reading_from start past (is_in_base past) ds v t world.first (sound_since start past world.told) (closed_falling past (sees v) held.base.closed) world.keeps
    (is_course start past world.told world.bounded world.swept)
    (downward start past world.told world.separate (bounded_since start past) world.bounded.closed)
    (record { base = held.above; sweep = held.swept; done = λ r s e. held.quiet r s (sym (found past r) ∙ e) }) p

-- ---- commits stay separate

pub separate_of_commit : (start : Start) (past : Past) (r : Revision) (dr : Draw) → IsToldSince start past → MayCommit past r → draw_of past r ≡ Some dr → (o : Revision) (us : List Write) → edit_since past o ≡ Some us → is_in_base past r o ≡ false → Separate dr.edit.writes us
separate_of_commit start past r dr told may drawn o us e out =
    let d = told.edits o us e in
    let done : is_committed past o ≡ true = edit_committed past o (ap is_some e) in
    let clear : clashing dr.marks (d.0).marks ≡ false =
    sym (ap (λ (ms : List MarkAt). clashing ms (marks_of past o)) (marks_is past r dr drawn) ∙ ap (clashing dr.marks) (marks_is past o d.0 d.1)) ∙ may.apart o done out in
    separate_marks dr.marks (d.0).marks dr.edit.writes us (told.draws r dr drawn).covers (subst (λ (ws : List Write). Covers (d.0).marks ws) d.2 (told.draws o d.0 d.1).covers) clear

pub separate_commit : (start : Start) (past : Past) (r : Revision) (dr : Draw) → IsToldSince start past → MayCommit past r → draw_of past r ≡ Some dr → AreSeparateSince past → AreSeparateSince (event.Commit r ∷ past)
separate_commit start past r dr told may drawn separate q us e =
    split start.tree past r dr drawn (λ q us. (o : Revision) (vs : List Write) → edit_since (event.Commit r ∷ past) o ≡ Some vs → is_before o q ≡ true → is_in_base past q o ≡ false → Separate us vs)
    (λ o vs f. split start.tree past r dr drawn (λ o vs. is_before o r ≡ true → is_in_base past r o ≡ false → Separate dr.edit.writes vs) (λ b _. absurd (false≢true (sym (before_itself r) ∙ b))) o vs f (λ k _ n. separate_of_commit start past r dr told may drawn o vs k n))
    q us e
    (λ k o vs f. split start.tree past r dr drawn (λ o vs. is_before o q ≡ true → is_in_base past q o ≡ false → Separate us vs)
    (λ b _. Separate-flip _ _ (separate_of_commit start past r dr told may drawn q us k (not_true _ (λ h. false≢true (sym (not_both r q b) ∙ (told.draws r dr drawn).ready.rises q h))))) o vs f (λ m. separate q us k o vs m))
