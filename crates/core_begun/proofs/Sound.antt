-- What is told since a start is sound, so documents that keep it are read rightly.
use Rattle.std.proofs.Common.{◌≡◌, Bool, true, false, cond, ◌||◌, Some, None, Option, List, [], ◌∷◌, refl, sym, ap, ◌∙◌, subst, is_some}
use Rattle.std.specs.declared.cmp.Ordering.{Ordering}
use Rattle.std.specs.Ordering.{is_eq, eq_by_cmp}
use Rattle.std.specs.Cmp.{tied_itself}
use Rattle.std.specs.Option.{option_or}
use Rattle.std.specs.FinMap.{is_sorted}
use Rattle.std.specs.FinMap.Entries.{below_all}
use mathlib.Core.Bool.{false≢true}
use Rattle.jr_rev.specs.declared.revision.Revision.{Revision}
use Rattle.jr_rev.specs.Revisions.{revision_cmp, is_before}
use Rattle.jr_rev.proofs.Order.{revision_total}
use Rattle.jr_tree.specs.declared.edit.Write.{Write}
use Rattle.jr_tree.specs.Edits.{applied, IsProper}
use Rattle.jr_tree.specs.Trees.{Nodes}
use Rattle.oak_doc.specs.Updates.{of_revision}
use Rattle.oak_machine.specs.declared.event.Start.{Start}
use Rattle.oak_machine.specs.History.{Past}
use Rattle.oak_machine.specs.Commits.{committed_edits, is_in_base}
use Rattle.core_read.specs.Commits.{Commits, Sight, Each, Closed, Fall}
use Rattle.core_read.specs.Holds.{onto}
use Rattle.core_read.proofs.Entries.{first, second, none_below}
use Rattle.core_read.proofs.Falling.{committed_sorted, not_both}
use Rattle.core_read.proofs.Latest.{same_revision, before_itself}
use Rattle.core_keep.specs.From.{falling_from, tree_from, AreSoundFrom}
use Rattle.core_begun.specs.Told.{edit_since, IsClosedSince, IsSoundOn, IsToldSince}

Each-all : {X : Type 0} (P : X → Type 0) → ((x : X) → P x) → (xs : List X) → Each P xs
Each-all P f [] = tt
Each-all P f (x ∷ xs) = (f x, Each-all P f xs)

Each-both : {X : Type 0} {P Q S : X → Type 0} → ((x : X) → P x → Q x → S x) → (xs : List X) → Each P xs → Each Q xs → Each S xs
Each-both f [] a b = tt
Each-both f (x ∷ xs) a b = (f x a.0 b.0, Each-both f xs a.1 b.1)

Each-onto : (P : Revision × List Write → Type 0) (done es : Commits) → Each P done → Each P es → Each P (onto done es)
Each-onto P done [] a b = a
Each-onto P done (e ∷ es) a b = Each-onto P (e ∷ done) es (b.0, a) b.1

each_after : (r : Revision) (es : Commits) → below_all revision_cmp r es ≡ true → Each (λ o. is_before r o.0 ≡ true) es
each_after r [] h = tt
each_after r (e ∷ es) h = (first _ _ h, each_after r es (second _ _ h))

fall_onto : (done es : Commits) → is_sorted revision_cmp es ≡ true → Fall done → Each (λ e. Each (λ o. is_before o.0 e.0 ≡ true) done) es → Fall (onto done es)
fall_onto done [] s fall apart = fall
fall_onto done (e ∷ es) s fall apart = fall_onto (e ∷ done) es (second _ _ s) (apart.0, fall) (Each-both (λ x b a. (b, a)) es (each_after e.0 es (first _ _ s)) apart.1)

-- the revisions of the edits fall
pub falls : (past : Past) → Fall (falling_from past)
falls past = fall_onto [] (committed_edits past) (committed_sorted past) tt (Each-all _ (λ e. tt) (committed_edits past))

found_onto : (done es : Commits) → is_sorted revision_cmp es ≡ true → (q : Revision) → of_revision (onto done es) q ≡ option_or (of_revision es q) (of_revision done q)
found_onto done [] s q = refl
found_onto done (e ∷ es) s q = found_onto (e ∷ done) es (second _ _ s) q ∙ by (eq_by_cmp revision_cmp q e.0) refl
  where
    by : (b : Bool) → eq_by_cmp revision_cmp q e.0 ≡ b → option_or (of_revision es q) (cond b (Some e.1) (of_revision done q)) ≡ option_or (cond b (Some e.1) (of_revision es q)) (of_revision done q)
    by false k = refl
    by true k = ap (λ o. option_or o (Some e.1)) (subst (λ (x : Revision). of_revision es x ≡ None) (sym (same_revision q e.0 k)) (none_below revision_cmp revision_total e.0 e.0 (tied_itself revision_total e.0) es (first _ _ s)))

or_none : {X : Type 0} (o : Option X) → option_or o None ≡ o
or_none None = refl
or_none (Some x) = refl

-- the edit of a revision is found among them
pub found : (past : Past) (q : Revision) → of_revision (falling_from past) q ≡ edit_since past q
found past q = found_onto [] (committed_edits past) (committed_sorted past) q ∙ or_none (edit_since past q)

each_found : (P : Revision × List Write → Type 0) (es : Commits) → is_sorted revision_cmp es ≡ true → ((r : Revision) (ws : List Write) → of_revision es r ≡ Some ws → P (r, ws)) → Each P es
each_found P [] s f = tt
each_found P (e ∷ es) s f = (
  f e.0 e.1 (ap (λ o. cond (is_eq o) (Some e.1) (of_revision es e.0)) (tied_itself revision_total e.0)),
  each_found P es (second _ _ s) (λ r ws h. f r ws (elim (eq_by_cmp revision_cmp r e.0) as (λ b. eq_by_cmp revision_cmp r e.0 ≡ b → cond b (Some e.1) (of_revision es r) ≡ Some ws) [
    | true ↦ λ k. absurd (false≢true (sym (ap is_some (subst (λ (x : Revision). of_revision es x ≡ None) (sym (same_revision r e.0 k)) (none_below revision_cmp revision_total e.0 e.0 (tied_itself revision_total e.0) es (first _ _ s)))) ∙ ap is_some h))
    | false ↦ λ k. h
  ] refl)),
)

-- what holds of each edit holds of each among them
pub each_edit : (past : Past) (P : Revision × List Write → Type 0) → ((r : Revision) (ws : List Write) → edit_since past r ≡ Some ws → P (r, ws)) → Each P (falling_from past)
each_edit past P f = Each-onto P [] (committed_edits past) tt (each_found P (committed_edits past) (committed_sorted past) f)

not_true : (b : Bool) → (b ≡ true → ⊥) → b ≡ false
not_true true f = absurd (f refl)
not_true false f = refl

closed_of : (past : Past) (s : Sight) → IsClosedSince past s → (es : Commits) → Each (λ o. edit_since past o.0 ≡ Some o.1) es → Closed (is_in_base past) s es
closed_of past s closed [] all = tt
closed_of past s closed (e ∷ es) all = ((λ h. Each-all _ (λ o k. closed e.0 e.1 all.0 h o.0 k) es), closed_of past s closed es all.1)

-- a closed sight is closed among them
pub closed_falling : (past : Past) (s : Sight) → IsClosedSince past s → Closed (is_in_base past) s (falling_from past)
closed_falling past s closed = closed_of past s closed (falling_from past) (each_edit past _ (λ r ws h. h))

module _ (b : Nodes) where
  hides : (s : Sight) (e : Revision × List Write) (es : Commits) → s e.0 ≡ false → tree_from b s (e ∷ es) ≡ tree_from b s es
  hides s e es h = ap (λ c. cond c (applied (Some e.0) (tree_from b s es) e.1) (tree_from b s es)) h

  sound_of : (past : Past) (es : Commits) → Fall es → Each (λ e. edit_since past e.0 ≡ Some e.1) es → Each (λ e. IsSoundOn b past e.0 e.1) es
      → Each (λ e. tree_from b (is_in_base past e.0) (falling_from past) ≡ tree_from b (is_in_base past e.0) es) es → AreSoundFrom b (is_in_base past) es
  sound_of past [] fall all good same = tt
  sound_of past (e ∷ es) fall all good same = (
    record {
      proper = subst (λ (t : Nodes). IsProper t e.1) (same.0 ∙ hides (is_in_base past e.0) e es (not_true _ (λ k. false≢true (sym (before_itself e.0) ∙ good.0.ready.rises e.0 k)))) good.0.ready.proper;
      closed = closed_of past (is_in_base past e.0) (λ o us f k q m. good.0.ready.closed o us f k q m) es all.1;
      apart = Each-both (λ o f c k. good.0.apart o.0 o.1 f c k) es all.1 fall.0;
    },
    sound_of past es fall.1 all.1 good.1 (Each-both (λ o t p. t ∙ p) es same.1
        (Each-both (λ o c g. hides (is_in_base past o.0) e es (not_true _ (λ k. false≢true (sym (not_both o.0 e.0 c) ∙ g.ready.rises e.0 k)))) es fall.0 good.1)),
  )

-- the edits are sound from the tree of the start on
pub sound_since : (start : Start) (past : Past) → IsToldSince start past → AreSoundFrom start.tree (is_in_base past) (falling_from past)
sound_since start past told =
    sound_of start.tree past (falling_from past) (falls past) (each_edit past _ (λ r ws h. h)) (each_edit past _ (λ r ws h. told.sound r ws h)) (Each-all _ (λ e. refl) (falling_from past))
