-- The committed edits after one Commit more, over the tree of a start.
use Rattle.std.proofs.Common.{◌≡◌, Bool, true, false, cond, Some, None, Option, List, [], ◌∷◌, refl, sym, ap, ◌∙◌, subst, is_some}
use Rattle.std.specs.declared.cmp.Ordering.{Ordering}
use Rattle.std.specs.declared.cmp.Ordering.TheVariants.{Less, Equal, Greater}
use Rattle.std.specs.Option.{option_map_or, unwrap_or}
use Rattle.std.specs.Ordering.{eq_by_cmp, match_ordering}
use Rattle.std.specs.BTreeMap.{insert_entry}
use Rattle.std.specs.List.{filter, fold}
use mathlib.Core.Bool.{false≢true}
use Rattle.jr_path.proofs.Maps.{lookup-insert_entry}
use Rattle.jr_rev.specs.declared.revision.Revision.{Revision}
use Rattle.jr_rev.specs.Revisions.{revision_cmp, is_before}
use Rattle.jr_rev.proofs.Order.{revision_total, revision_exact}
use Rattle.jr_tree.specs.declared.edit.Write.{Write}
use Rattle.jr_tree.specs.Trees.{Nodes}
use Rattle.jr_tree.specs.Edits.{applied, IsProper}
use Rattle.oak_doc.specs.Updates.{of_revision}
use Rattle.oak_machine.specs.declared.event.Draw.{Draw}
use Rattle.oak_machine.specs.declared.event.Event.TheVariants as event
use Rattle.oak_machine.specs.History.{Past}
use Rattle.oak_machine.specs.Commits.{draw_of, committed_edits, is_in_base}
use Rattle.core_read.specs.Commits.{Commits, Sight, Apart}
use Rattle.core_read.proofs.Committed.{Apart-flip}
use Rattle.core_read.proofs.Falling.{not_both}
use Rattle.core_read.proofs.Latest.{same_revision, before_itself}
use Rattle.core_keep.specs.From.{falling_from, tree_from}
use Rattle.core_keep.proofs.From.{tree_onto}
use Rattle.core_begun.specs.Told.{edit_since, IsReadyOn, IsSoundOn}

-- an edit that isn't seen changes nothing of what is seen
filter-unseen : (s : Sight) (r : Revision) (ws : List Write) → s r ≡ false → (es : Commits) → filter (λ e. s e.0) (insert_entry revision_cmp es r ws) ≡ filter (λ e. s e.0) es
filter-unseen s r ws unseen [] = ap (λ b. cond b ((r, ws) ∷ []) []) unseen
filter-unseen s r ws unseen (e ∷ es) = by (filter-unseen s r ws unseen es) (revision_cmp r e.0) refl
  where
    kept : Commits → Commits
    kept all = filter (λ e. s e.0) all

    by : kept (insert_entry revision_cmp es r ws) ≡ kept es → (o : Ordering) → revision_cmp r e.0 ≡ o → kept (match_ordering o ((r, ws) ∷ e ∷ es) ((e.0, ws) ∷ es) (e ∷ insert_entry revision_cmp es r ws)) ≡ kept (e ∷ es)
    by rest Less h = ap (λ b. cond b ((r, ws) ∷ kept (e ∷ es)) (kept (e ∷ es))) unseen
    by rest Equal h =
        let same : s e.0 ≡ false = subst (λ (q : Revision). s q ≡ false) (revision_exact r e.0 h) unseen in
        ap (λ b. cond b ((e.0, ws) ∷ kept es) (kept es)) same ∙ sym (ap (λ b. cond b (e ∷ kept es) (kept es)) same)
    by rest Greater h = ap (λ tail. cond (s e.0) (e ∷ tail) tail) rest

module _ (b : Nodes) (past : Past) (r : Revision) (dr : Draw) (drawn : draw_of past r ≡ Some dr) where
  pub committed : (q : Revision) → edit_since (event.Commit r ∷ past) q ≡ cond (eq_by_cmp revision_cmp q r) (Some dr.edit.writes) (edit_since past q)
  committed q =
      ap (λ (o : Option Draw). of_revision (option_map_or (λ d. insert_entry revision_cmp (committed_edits past) r d.edit.writes) o (committed_edits past)) q) drawn
      ∙ lookup-insert_entry revision_cmp revision_total q r dr.edit.writes (committed_edits past)

  -- a committed edit now is that of r, or was one before
  pub split : (G : Revision → List Write → Type 0) → G r dr.edit.writes → (q : Revision) (ws : List Write) → edit_since (event.Commit r ∷ past) q ≡ Some ws → (edit_since past q ≡ Some ws → G q ws) → G q ws
  split G new q ws e old = by (eq_by_cmp revision_cmp q r) refl (sym (committed q) ∙ e)
    where
      by : (c : Bool) → eq_by_cmp revision_cmp q r ≡ c → cond c (Some dr.edit.writes) (edit_since past q) ≡ Some ws → G q ws
      by false h k = old k
      by true h k = subst (λ (x : Revision). G x ws) (sym (same_revision q r h)) (subst (λ (us : List Write). G r us) (ap (λ o. unwrap_or o []) k) new)

  pub still_none : (q : Revision) → edit_since (event.Commit r ∷ past) q ≡ None → (eq_by_cmp revision_cmp q r ≡ false) × (edit_since past q ≡ None)
  still_none q e = by (eq_by_cmp revision_cmp q r) refl (sym (committed q) ∙ e)
    where
      by : (c : Bool) → eq_by_cmp revision_cmp q r ≡ c → cond c (Some dr.edit.writes) (edit_since past q) ≡ None → (eq_by_cmp revision_cmp q r ≡ false) × (edit_since past q ≡ None)
      by false h k = (h, k)
      by true h k = absurd (false≢true (sym (ap is_some k)))

  -- the tree that a reader sees who doesn't see the commit stays
  pub tree_same : (s : Sight) → s r ≡ false → tree_from b s (falling_from (event.Commit r ∷ past)) ≡ tree_from b s (falling_from past)
  tree_same s unseen =
      let shape : Commits → Nodes = λ es. fold (λ t e. applied (Some e.0) t e.1) b es in
      tree_onto b s [] (committed_edits (event.Commit r ∷ past))
      ∙ (ap (λ (o : Option Draw). shape (filter (λ e. s e.0) (option_map_or (λ d. insert_entry revision_cmp (committed_edits past) r d.edit.writes) o (committed_edits past)))) drawn
      ∙ (ap shape (filter-unseen s r dr.edit.writes unseen (committed_edits past))
      ∙ sym (tree_onto b s [] (committed_edits past))))

  not_base : (q : Revision) → is_before r q ≡ true → ((o : Revision) → is_in_base past r o ≡ true → is_before o r ≡ true) → is_in_base past r q ≡ false
  not_base q h rises = by (is_in_base past r q) refl
    where
      by : (c : Bool) → is_in_base past r q ≡ c → c ≡ false
      by true k = absurd (false≢true (sym (not_both r q h) ∙ rises q k))
      by false k = refl

  not_itself : ((o : Revision) → is_in_base past r o ≡ true → is_before o r ≡ true) → is_in_base past r r ≡ false
  not_itself rises = by (is_in_base past r r) refl
    where
      by : (c : Bool) → is_in_base past r r ≡ c → c ≡ false
      by true k = absurd (false≢true (sym (before_itself r) ∙ rises r k))
      by false k = refl

  -- a draw that doesn't see the commit is as ready as it was
  pub ready_stays : (q : Revision) (us : List Write) → IsReadyOn b past q us → is_in_base past q r ≡ false → IsReadyOn b (event.Commit r ∷ past) q us
  ready_stays q us ready unseen = record {
    proper = subst (λ (t : Nodes). IsProper t us) (sym (tree_same (is_in_base past q) unseen)) ready.proper;
    rises = ready.rises;
    closed = λ o vs e. split (λ o vs. is_in_base past q o ≡ true → (x : Revision) → is_in_base past o x ≡ true → is_in_base past q x ≡ true)
        (λ h. absurd (false≢true (sym unseen ∙ h))) o vs e (λ k. ready.closed o vs k);
  }

  pub commit_sound : ((q : Revision) (us : List Write) → edit_since past q ≡ Some us → IsSoundOn b past q us) → IsReadyOn b past r dr.edit.writes
      → ((q : Revision) (us : List Write) → edit_since past q ≡ Some us → is_in_base past q r ≡ false)
      → ((o : Revision) (us : List Write) → edit_since past o ≡ Some us → is_in_base past r o ≡ false → Apart dr.edit.writes us)
      → (q : Revision) (us : List Write) → edit_since (event.Commit r ∷ past) q ≡ Some us → IsSoundOn b (event.Commit r ∷ past) q us
  commit_sound sound ready unseen apart q us e = split (λ q us. IsSoundOn b (event.Commit r ∷ past) q us)
      (record {
        ready = ready_stays r dr.edit.writes ready (not_itself ready.rises);
        apart = λ o vs f. split (λ o vs. is_before o r ≡ true → is_in_base past r o ≡ false → Apart dr.edit.writes vs) (λ c _. absurd (false≢true (sym (before_itself r) ∙ c))) o vs f (λ k _ n. apart o vs k n);
      })
      q us e (λ k.
      let old : IsSoundOn b past q us = sound q us k in
      record {
        ready = ready_stays q us old.ready (unseen q us k);
        apart = λ o vs f. split (λ o vs. is_before o q ≡ true → is_in_base past q o ≡ false → Apart us vs)
            (λ c _. Apart-flip _ _ (apart q us k (not_base q c ready.rises))) o vs f (λ k. old.apart o vs k);
      })
