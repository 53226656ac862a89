-- The tree of the commits below a revision that a vector sees, and what it has at the items that this revision writes.
use Rattle.std.proofs.Common.{◌≡◌, Bool, true, false, cond, not, ◌&&◌, ◌||◌, Some, None, Option, List, [], ◌∷◌, fold, refl, sym, ap, ◌∙◌, subst, is_some}
use Rattle.std.specs.Option.{option_and_then}
use Rattle.std.specs.Ordering.{eq_by_cmp}
use Rattle.std.specs.List.{filter}
use mathlib.Core.Bool.{false≢true}
use Rattle.jr_rev.specs.declared.revision.Revision.{Revision}
use Rattle.jr_rev.specs.declared.vector.RevVec.{RevVec}
use Rattle.jr_rev.specs.Revisions.{revision_cmp, is_before}
use Rattle.jr_rev.specs.Vectors.{sees}
use Rattle.jr_tree.specs.declared.edit.Write.{Write}
use Rattle.jr_tree.specs.Edits.{applied}
use Rattle.jr_tree.specs.Items.{written}
use Rattle.oak_machine.specs.Changed.{tree_below}
use Rattle.oak_machine.specs.Commits.{committed_edits, is_in_base}
use Rattle.oak_machine.specs.History.{Past}
use Rattle.core_keep.proofs.Item.{and_both, not_true}
use Rattle.core_begun.proofs.Sound.{falls, found}
use Rattle.core_begun.proofs.Course.{tells_since}
use Rattle.core_keep.proofs.From.{tree_onto}
use Rattle.core_keep.proofs.From.{shows_from, TellsFrom}
use Rattle.core_keep.specs.From.{course_from, falling_from, IsFirst}
use Rattle.core_keep.specs.Journal.{Separate}
use Rattle.core_begun.specs.Kept.{AreSeparateSince}
use Rattle.core_keep.specs.Keeps.{edit_in, Shows}
use Rattle.core_read.proofs.Latest.{at_most_both, before_at_most, last_entry_last, not_before, only_entry, same_revision, writing, at_most_trans, before_itself}
use Rattle.jr_tree.specs.Trees.{Nodes}
use Rattle.core_read.specs.Commits.{last_entry, Sight}
use Rattle.core_begun.specs.Told.{edit_since, IsClosedSince}
use Rattle.core_begun.specs.Told.{IsInUseSince, IsToldSince}
use Rattle.core_changes.specs.Between.{is_new}
use Rattle.oak_machine.specs.declared.event.Start.{Start}

-- what `to` sees below r
abbrev pub sees_below : RevVec → Revision → Sight
sees_below to r q = sees to q && is_before q r

both_true : (a b : Bool) → a ≡ true → b ≡ true → (a && b) ≡ true
both_true true b h k = k
both_true false b h k = absurd (false≢true h)

pub before_both : (a b c : Revision) → is_before a b ≡ true → is_before b c ≡ true → is_before a c ≡ true
before_both a b c h k = by (is_before a c) refl
  where
    by : (x : Bool) → is_before a c ≡ x → x ≡ true
    by true e = refl
    by false e =
        let one : a ≡ b = at_most_both a b (before_at_most a b h) (at_most_trans b c a (before_at_most b c k) (not_before a c e)) in
        absurd (false≢true (sym (before_itself b) ∙ subst (λ (z : Revision). is_before z b ≡ true) one h))

module _ (start : Start) where
  module _ (first : IsFirst start.tree) (past : Past) (told : IsToldSince start past) (to : RevVec) (more : IsInUseSince start past to) (r : Revision) where
    below_closed : IsClosedSince past (sees_below to r)
    below_closed o us is seen q base =
        let b = and_both (sees to o) (is_before o r) seen in
        both_true (sees to q) (is_before q r) (more.closed o us is b.0 q base) (before_both q o r ((told.sound o us is).ready.rises q base) b.1)

    pub shows_below : Shows (course_from start past) (sees_below to r) (tree_below (Some start) past to r)
    shows_below =
        shows_from (course_from start past) first (sees_below to r) _
        (subst (λ (t : Nodes). TellsFrom start.tree t (sees_below to r) (falling_from past)) (tree_onto start.tree (sees_below to r) [] (committed_edits past)) (tells_since start past first.tree told (sees_below to r) below_closed))

  -- of an item that a new commit writes, what is below it is what `from` sees and what `to` sees below it
  module _ {X : Type 0} (f : Write → Option X) (apart : (ws us : List Write) → Separate ws us → is_some (written f ws) ≡ true → written f us ≡ None)
      (past : Past) (told : IsToldSince start past) (separate : AreSeparateSince past) (from to v : RevVec) (less : IsInUseSince start past from) (below : (q : Revision) → sees from q ≡ true → sees to q ≡ true)
      (r : Revision) (ws : List Write) (x : X) (is : edit_since past r ≡ Some ws) (new : is_new from to r ≡ true) (writes : written f ws ≡ Some x)
      (cut : (q : Revision) (us : List Write) → edit_since past q ≡ Some us → sees v q ≡ (sees to q && (sees from q || is_before q r))) where
    unseen : (b : Bool) → b ≡ true → not b ≡ true → ⊥
    unseen true h k = false≢true k
    unseen false h k = false≢true h

    -- a later commit that `from` sees doesn't write the item
    pub later_other : (q : Revision) (us : List Write) → edit_since past q ≡ Some us → sees from q ≡ true → is_before q r ≡ false → written f us ≡ None
    later_other q us e seen late = by (written f us) refl (is_in_base past q r) refl
      where
        new_r : not (sees from r) ≡ true
        new_r = (and_both (sees to r) (not (sees from r)) new).1

        behind : is_before r q ≡ true
        behind = at (is_before r q) refl
          where
            at : (b : Bool) → is_before r q ≡ b → b ≡ true
            at true h = refl
            at false h = let one : q ≡ r = at_most_both q r (not_before r q h) (not_before q r late) in absurd (unseen (sees from r) (subst (λ (z : Revision). sees from z ≡ true) one seen) new_r)

        by : (o : Option X) → written f us ≡ o → (b : Bool) → is_in_base past q r ≡ b → o ≡ None
        by None h b k = refl
        by (Some y) h true k = absurd (unseen (sees from r) (less.closed q us e seen r k) new_r)
        by (Some y) h false k = absurd (false≢true (sym (ap is_some (apart us ws (separate q us e r ws is behind k) (ap is_some h))) ∙ ap is_some writes))

    pub same_below : last_entry f (sees v) (course_from start past).commits ≡ last_entry f (sees_below to r) (course_from start past).commits
    same_below = only_entry (λ q. writing f (sees v) (edit_in (course_from start past) q) q) (λ q. writing f (sees_below to r) (edit_in (course_from start past) q) q) each _ _
        (last_entry_last f (sees v) (falling_from past) (falls past)) (last_entry_last f (sees_below to r) (falling_from past) (falls past))
      where
        each : (q : Revision) → writing f (sees v) (edit_in (course_from start past) q) q ≡ writing f (sees_below to r) (edit_in (course_from start past) q) q
        each q = by (edit_in (course_from start past) q) refl
          where
            none : (b : Bool) → ◌≡◌ {A = Option X} (cond b None None) None
            none true = refl
            none false = refl

            by : (o : Option (List Write)) → edit_in (course_from start past) q ≡ o → cond (sees v q) (option_and_then (written f) o) None ≡ cond (sees_below to r q) (option_and_then (written f) o) None
            by None e = none (sees v q) ∙ sym (none (sees_below to r q))
            by (Some us) e =
                let it : edit_since past q ≡ Some us = sym (found past q) ∙ e in
                ap (λ b. cond b (written f us) None) (cut q us it) ∙ at it (sees to q) refl (sees from q) refl (is_before q r) refl
              where
                at : edit_since past q ≡ Some us → (a : Bool) → sees to q ≡ a → (b : Bool) → sees from q ≡ b → (d : Bool) → is_before q r ≡ d → cond (a && (b || d)) (written f us) None ≡ cond (a && d) (written f us) None
                at it false h b k d l = refl
                at it true h false k d l = refl
                at it true h true k true l = refl
                at it true h true k false l = later_other q us it k l
