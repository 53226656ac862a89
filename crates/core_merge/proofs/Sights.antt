-- Sights that are closed: of a vector, and of what a vector sees below a revision.
use Rattle.std.proofs.Common.{◌≡◌, ℕ, true, ◌&&◌, Some, None, [], refl, sym, ap, ◌∙◌, is_some}
use Rattle.std.specs.Ordering.{is_lt}
use Rattle.std.specs.List.{filter}
use Rattle.jr_rev.specs.declared.revision.Revision.{Revision}
use Rattle.jr_rev.specs.declared.vector.RevVec.{RevVec}
use Rattle.jr_rev.specs.Revisions.{is_before}
use Rattle.jr_rev.specs.Vectors.{sees}
use Rattle.jr_rev.proofs.Order.{revision_total}
use Rattle.jr_tree.specs.Trees.{IsTree}
use Rattle.oak_machine.specs.declared.event.Draw.{Draw}
use Rattle.oak_machine.specs.declared.event.Start.{Start}
use Rattle.oak_machine.specs.History.{Begin, Past, begin_tree, IsBegun}
use Rattle.oak_machine.specs.Commits.{applied_all, committed_edits, draw_of, is_committed, is_in_base, IsClosed}
use Rattle.core_read.specs.Commits.{Sight}
use Rattle.core_read.proofs.Entries.{first, second, both, is_less}
use Rattle.core_read.proofs.Told.{base_is, edit_committed}
use Rattle.core_heads.proofs.Below.{below_seen}
use Rattle.core_keep.specs.From.{falling_from, tree_from}
use Rattle.core_begun.specs.Told.{IsClosedSince, IsToldSince}
use Rattle.core_keep.proofs.From.{tree_onto}

-- what a journal begins with is a tree
pub begin_is_tree : (clusters : ℕ) (begin : Begin) → IsBegun clusters begin → IsTree (begin_tree begin)
begin_is_tree clusters None begun = record { paths = refl; names = refl; root = refl; parents = refl }
begin_is_tree clusters (Some s) begun = begun.tree

-- the tree that is seen is that of the beginning with the edits that are seen
pub tree_seen : (begin : Begin) (past : Past) (s : Sight) → tree_from (begin_tree begin) s (falling_from past) ≡ applied_all (begin_tree begin) (filter (λ e. s e.0) (committed_edits past))
tree_seen begin past s = tree_onto (begin_tree begin) s [] (committed_edits past)

-- what v sees of what is before r
abbrev pub seen_below : RevVec → Revision → Sight
seen_below v r o = sees v o && is_before o r

before_trans : (a b c : Revision) → is_before a b ≡ true → is_before b c ≡ true → is_before a c ≡ true
before_trans a b c h k = ap is_lt (revision_total.trans a b c (is_less _ h) (is_less _ k))

module _ (start : Start) (past : Past) (told : IsToldSince start past) where
  -- a sight is closed where it is so of what was committed
  closed_sight : (s : Sight) → ((o : Revision) (d : Draw) → is_committed past o ≡ true → draw_of past o ≡ Some d → s o ≡ true → (q : Revision) → is_in_base past o q ≡ true → s q ≡ true) → IsClosedSince past s
  closed_sight s closed o us e seen q based = let d = told.edits o us e in closed o d.0 (edit_committed past o (ap is_some e)) d.1 seen q based

  base_seen : (v : RevVec) → IsClosed past v → (o : Revision) (d : Draw) → is_committed past o ≡ true → draw_of past o ≡ Some d → sees v o ≡ true → (q : Revision) → is_in_base past o q ≡ true → sees v q ≡ true
  base_seen v closed o d committed drawn h q based = below_seen d.base v q (closed o d committed drawn h) (sym (base_is past o d drawn q) ∙ based)

  pub closed_since : (v : RevVec) → IsClosed past v → IsClosedSince past (sees v)
  closed_since v closed = closed_sight (sees v) (base_seen v closed)

  pub closed_below : (v : RevVec) → IsClosed past v → (r : Revision) → IsClosedSince past (seen_below v r)
  closed_below v closed r = closed_sight (seen_below v r) (λ o d c h k q b. both _ _ (base_seen v closed o d c h (first _ _ k) q b) (before_trans q o r ((told.draws o d h).ready.rises q b) (second _ _ k)))
