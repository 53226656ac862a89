-- Each event keeps what a journal that begins with a start has to keep, and a vector in use sees the same tree after it.
use Rattle.std.proofs.Common.{◌≡◌, Bool, true, false, cond, not, ◌&&◌, ◌||◌, Some, None, Option, List, [], ◌∷◌, refl, sym, ap, ◌∙◌, subst, is_some}
use Rattle.std.specs.Option.{option_map_or, unwrap_or}
use Rattle.std.specs.Ordering.{eq_by_cmp}
use Rattle.std.specs.Cmp.{tied_itself}
use mathlib.Core.Bool.{false≢true}
use Rattle.jr_rev.specs.declared.revision.Revision.{Revision}
use Rattle.jr_rev.specs.declared.vector.RevVec.{RevVec}
use Rattle.jr_rev.specs.Revisions.{revision_cmp, is_before, is_same}
use Rattle.jr_rev.specs.Vectors.{sees}
use Rattle.jr_rev.proofs.Order.{revision_total}
use Rattle.jr_tree.specs.declared.edit.Write.{Write}
use Rattle.jr_tree.specs.Trees.{Nodes}
use Rattle.jr_tree.specs.Edits.{IsProper}
use Rattle.oak_clash.specs.declared.mark.MarkAt.{MarkAt}
use Rattle.oak_clash.specs.Clashes.{clashing}
use Rattle.oak_doc.specs.Updates.{of_revision}
use Rattle.oak_machine.specs.declared.event.Draw.{Draw}
use Rattle.oak_machine.specs.declared.event.Event.{Event}
use Rattle.oak_machine.specs.declared.event.Event.TheVariants as event
use Rattle.oak_machine.specs.declared.event.Start.{Start}
use Rattle.oak_machine.specs.History.{Past}
use Rattle.oak_machine.specs.Commits.{draw_of, committed_edits, is_committed, is_in_base, is_in_flight, is_drawn, is_ended, marks_of, tree_at}
use Rattle.oak_machine.specs.Runs.{MayCommit}
use Rattle.core_read.specs.Commits.{Apart}
use Rattle.core_read.specs.Told.{Covers}
use Rattle.core_read.proofs.Latest.{same_revision, before_itself}
use Rattle.core_read.proofs.Marks.{apart_marks}
use Rattle.core_read.proofs.Told.{edit_committed, marks_is, is_calm}
use Rattle.core_keep.specs.From.{falling_from, tree_from}
use Rattle.core_begun.specs.Told.{edit_since, IsClosedSince, IsGoodSince, IsInUseSince, IsReadyOn, IsSoundOn, IsToldSince}
use Rattle.core_keep.proofs.From.{tree_onto}
use Rattle.core_begun.proofs.Committed.{commit_sound, ready_stays, split, tree_same}

-- the tree at a vector is that of the edits that it sees
pub tree_since : (start : Start) (past : Past) (v : RevVec) → tree_from start.tree (sees v) (falling_from past) ≡ tree_at (Some start) past v
tree_since start past v = tree_onto start.tree (sees v) [] (committed_edits past)

-- what isn't committed has no edit
pub no_edit : (past : Past) (r : Revision) → is_committed past r ≡ false → edit_since past r ≡ None
no_edit past r not = by (edit_since past r) refl
  where
    by : (o : Option (List Write)) → edit_since past r ≡ o → o ≡ None
    by None k = refl
    by (Some ws) k = absurd (false≢true (sym not ∙ edit_committed past r (ap is_some k)))

module _ (start : Start) where
  -- the premise on other commits, from the machine's rule for a Commit
  apart_of_commit : (past : Past) (r : Revision) (dr : Draw) → IsToldSince start past → MayCommit past r → draw_of past r ≡ Some dr → (o : Revision) (us : List Write) → edit_since past o ≡ Some us → is_in_base past r o ≡ false → Apart dr.edit.writes us
  apart_of_commit past r dr told may drawn o us e out =
      let d = told.edits o us e in
      let done : is_committed past o ≡ true = edit_committed past o (ap is_some e) in
      let clear : clashing dr.marks (d.0).marks ≡ false =
      sym (ap (λ (ms : List MarkAt). clashing ms (marks_of past o)) (marks_is past r dr drawn) ∙ ap (clashing dr.marks) (marks_is past o d.0 d.1)) ∙ may.apart o done out in
      apart_marks dr.marks (d.0).marks dr.edit.writes us (told.draws r dr drawn).covers (subst (λ (ws : List Write). Covers (d.0).marks ws) d.2 (told.draws o d.0 d.1).covers) clear

  -- ---- a Commit

  module _ (past : Past) (r : Revision) (dr : Draw) (told : IsToldSince start past) (may : MayCommit past r) (drawn : draw_of past r ≡ Some dr) where
    good : IsGoodSince start past r dr
    good = told.draws r dr drawn

    pub pending : edit_since past r ≡ None
    pending = no_edit past r may.open_.not_committed

    -- no committed edit has what is in flight in its base
    unseen : (q : Revision) (us : List Write) → edit_since past q ≡ Some us → is_in_base past q r ≡ false
    unseen q us e = let d = told.edits q us e in (told.draws q d.0 d.1).settled r may.open_.in_flight

    pub told_commit : IsToldSince start (event.Commit r ∷ past)
    told_commit = record {
      sound = commit_sound start.tree past r dr drawn told.sound good.ready unseen (apart_of_commit past r dr told may drawn);
      draws = λ q d h.
          let g : IsGoodSince start past q d = told.draws q d h in
          record {
            ready = ready_stays start.tree past r dr drawn q d.edit.writes g.ready (g.settled r may.open_.in_flight);
            covers = g.covers;
            begins = g.begins;
            settled = g.settled;
            after = g.after;
          };
      edits = λ q ws e. split start.tree past r dr drawn (λ q ws. (d : Draw) × (draw_of past q ≡ Some d) × (d.edit.writes ≡ ws)) (dr, drawn, refl) q ws e (λ f. told.edits q ws f);
    }

    pub in_use_commit : (v : RevVec) → IsInUseSince start past v → IsInUseSince start (event.Commit r ∷ past) v
    in_use_commit v held = record {
      settled = held.settled;
      closed = λ o us e. split start.tree past r dr drawn (λ o us. sees v o ≡ true → (q : Revision) → is_in_base past o q ≡ true → sees v q ≡ true)
          (λ h. absurd (false≢true (sym (held.settled r may.open_.in_flight) ∙ h))) o us e (λ f. held.closed o us f);
      begun = held.begun;
    }

    -- a vector in use sees the same tree
    pub tree_commit : (v : RevVec) → IsInUseSince start past v → tree_at (Some start) (event.Commit r ∷ past) v ≡ tree_at (Some start) past v
    tree_commit v held = sym (tree_since start (event.Commit r ∷ past) v) ∙ (tree_same start.tree past r dr drawn (sees v) (held.settled r may.open_.in_flight) ∙ tree_since start past v)

  -- ---- a Draw

  module _ (past : Past) (d : Draw) (told : IsToldSince start past) (fresh : draw_of past d.revision ≡ None) where
    not_drawn : (q : Revision) (e : Draw) → draw_of past q ≡ Some e → eq_by_cmp revision_cmp q d.revision ≡ false
    not_drawn q e h = by (eq_by_cmp revision_cmp q d.revision) refl
      where
        by : (c : Bool) → eq_by_cmp revision_cmp q d.revision ≡ c → c ≡ false
        by true k = absurd (false≢true (sym (ap is_some (ap (draw_of past) (same_revision q d.revision k) ∙ fresh)) ∙ ap is_some h))
        by false k = refl

    not_edited : (q : Revision) (us : List Write) → edit_since past q ≡ Some us → eq_by_cmp revision_cmp q d.revision ≡ false
    not_edited q us e = let t = told.edits q us e in not_drawn q t.0 t.1

    -- the base of every other revision is as it was
    base_kept : (q : Revision) → eq_by_cmp revision_cmp q d.revision ≡ false → is_in_base (event.Draw d ∷ past) q ≡ is_in_base past q
    base_kept q h = ap {B = Revision → Bool} (λ (c : Bool) (o : Revision). option_map_or (λ (e : Draw). sees e.base o) (cond c (Some d) (draw_of past q)) false) h

    ready_kept : (q : Revision) (us : List Write) → eq_by_cmp revision_cmp q d.revision ≡ false → IsReadyOn start.tree past q us → IsReadyOn start.tree (event.Draw d ∷ past) q us
    ready_kept q us h ready = record {
      proper = subst (λ (s : Revision → Bool). IsProper (tree_from start.tree s (falling_from past)) us) (sym (base_kept q h)) ready.proper;
      rises = subst (λ (s : Revision → Bool). (o : Revision) → s o ≡ true → is_before o q ≡ true) (sym (base_kept q h)) ready.rises;
      closed = λ o vs e. subst (λ (s : Revision → Bool). s o ≡ true → (x : Revision) → is_in_base (event.Draw d ∷ past) o x ≡ true → s x ≡ true) (sym (base_kept q h))
          (subst (λ (s : Revision → Bool). is_in_base past q o ≡ true → (x : Revision) → s x ≡ true → is_in_base past q x ≡ true) (sym (base_kept o (not_edited o vs e))) (ready.closed o vs e));
    }

    pub in_use_draw : (v : RevVec) → IsInUseSince start past v → sees v d.revision ≡ false → IsInUseSince start (event.Draw d ∷ past) v
    in_use_draw v held unseen = record {
      settled = λ o. by o (eq_by_cmp revision_cmp o d.revision) refl;
      closed = λ o us e. subst (λ (s : Revision → Bool). sees v o ≡ true → (x : Revision) → s x ≡ true → sees v x ≡ true) (sym (base_kept o (not_edited o us e))) (held.closed o us e);
      begun = held.begun;
    }
      where
        by : (o : Revision) (c : Bool) → eq_by_cmp revision_cmp o d.revision ≡ c → (is_some (cond c (Some d) (draw_of past o)) && not (is_ended past o)) ≡ true → sees v o ≡ false
        by o true h f = ap (sees v) (same_revision o d.revision h) ∙ unseen
        by o false h f = held.settled o f

    -- the base of the new draw is in use, and sees only earlier revisions; no earlier base sees it
    pub told_draw : IsInUseSince start past d.base → ((o : Revision) → sees d.base o ≡ true → is_before o d.revision ≡ true)
        → IsProper (tree_at (Some start) past d.base) d.edit.writes → Covers d.marks d.edit.writes
        → ((q : Revision) (e : Draw) → draw_of past q ≡ Some e → is_in_base past q d.revision ≡ false)
        → IsToldSince start (event.Draw d ∷ past)
    told_draw held rises proper covers hidden = record {
      sound = λ q us e.
          let s : IsSoundOn start.tree past q us = told.sound q us e in
          record {
            ready = ready_kept q us (not_edited q us e) s.ready;
            apart = subst (λ (f : Revision → Bool). (o : Revision) (vs : List Write) → edit_since past o ≡ Some vs → is_before o q ≡ true → f o ≡ false → Apart us vs) (sym (base_kept q (not_edited q us e))) s.apart;
          };
      draws = λ q e. by q e (eq_by_cmp revision_cmp q d.revision) refl;
      edits = λ q us e. let t = told.edits q us e in (t.0, ap (λ c. cond c (Some d) (draw_of past q)) (not_edited q us e) ∙ t.1, t.2);
    }
      where
        own : is_in_base (event.Draw d ∷ past) d.revision ≡ sees d.base
        own = ap {B = Revision → Bool} (λ (c : Bool) (o : Revision). option_map_or (λ (e : Draw). sees e.base o) (cond c (Some d) (draw_of past d.revision)) false) (ap Rattle.std.specs.Ordering.is_eq (tied_itself revision_total d.revision))

        not_own : sees d.base d.revision ≡ false
        not_own = at (sees d.base d.revision) refl
          where
            at : (c : Bool) → sees d.base d.revision ≡ c → c ≡ false
            at true h = absurd (false≢true (sym (before_itself d.revision) ∙ rises d.revision h))
            at false h = refl

        new : IsGoodSince start (event.Draw d ∷ past) d.revision d
        new = record {
          ready = record {
            proper = subst (λ (s : Revision → Bool). IsProper (tree_from start.tree s (falling_from past)) d.edit.writes) (sym own) (subst (λ (t : Nodes). IsProper t d.edit.writes) (sym (tree_since start past d.base)) proper);
            rises = subst (λ (s : Revision → Bool). (o : Revision) → s o ≡ true → is_before o d.revision ≡ true) (sym own) rises;
            closed = λ o vs e. subst (λ (s : Revision → Bool). s o ≡ true → (x : Revision) → is_in_base (event.Draw d ∷ past) o x ≡ true → s x ≡ true) (sym own) ((in_use_draw d.base held not_own).closed o vs e);
          };
          covers = covers;
          begins = λ o h. ap (λ (s : Revision → Bool). s o) own ∙ held.begun o h;
          settled = λ o f. ap (λ (s : Revision → Bool). s o) own ∙ (in_use_draw d.base held not_own).settled o f;
          after = λ o h. rises o (held.begun o h);
        }

        old_settled : (q : Revision) (e : Draw) → draw_of past q ≡ Some e → (o : Revision) (c : Bool) → eq_by_cmp revision_cmp o d.revision ≡ c → (is_some (cond c (Some d) (draw_of past o)) && not (is_ended past o)) ≡ true → is_in_base past q o ≡ false
        old_settled q e h o true k f = ap (is_in_base past q) (same_revision o d.revision k) ∙ hidden q e h
        old_settled q e h o false k f = (told.draws q e h).settled o f

        old : (q : Revision) (e : Draw) → draw_of past q ≡ Some e → IsGoodSince start (event.Draw d ∷ past) q e
        old q e h =
            let g : IsGoodSince start past q e = told.draws q e h in
            let kept : is_in_base (event.Draw d ∷ past) q ≡ is_in_base past q = base_kept q (not_drawn q e h) in
            record {
              ready = ready_kept q e.edit.writes (not_drawn q e h) g.ready;
              covers = g.covers;
              begins = λ o k. ap (λ (s : Revision → Bool). s o) kept ∙ g.begins o k;
              settled = λ o f. ap (λ (s : Revision → Bool). s o) kept ∙ old_settled q e h o (eq_by_cmp revision_cmp o d.revision) refl f;
              after = g.after;
            }

        by : (q : Revision) (e : Draw) (c : Bool) → eq_by_cmp revision_cmp q d.revision ≡ c → cond c (Some d) (draw_of past q) ≡ Some e → IsGoodSince start (event.Draw d ∷ past) q e
        by q e false h k = old q e k
        by q e true h k = subst (λ (x : Revision). IsGoodSince start (event.Draw d ∷ past) x e) (sym (same_revision q d.revision h)) (subst (λ (x : Draw). IsGoodSince start (event.Draw d ∷ past) d.revision x) (ap (λ o. unwrap_or o d) k) new)

  -- ---- an End, and every event that is no Draw, Commit or End

  still_flying : (past : Past) (r o : Revision) → is_in_flight (event.End r ∷ past) o ≡ true → is_in_flight past o ≡ true
  still_flying past r o h = by (is_drawn past o) (is_same o r) (is_ended past o) h
    where
      by : (a b c : Bool) → (a && not (b || c)) ≡ true → (a && not c) ≡ true
      by true true c h = absurd (false≢true h)
      by true false c h = h
      by false b c h = h

  pub told_calm : (past : Past) (e : Event) → is_calm e ≡ true → IsToldSince start past → IsToldSince start (e ∷ past)
  told_calm past (event.Draw d) h told = absurd (false≢true h)
  told_calm past (event.Commit r) h told = absurd (false≢true h)
  told_calm past (event.End r) h told = record {
    sound = λ q us k. let s : IsSoundOn start.tree past q us = told.sound q us k in record { ready = record { proper = s.ready.proper; rises = s.ready.rises; closed = s.ready.closed }; apart = s.apart };
    draws = λ q d k.
        let g : IsGoodSince start past q d = told.draws q d k in
        record { ready = record { proper = g.ready.proper; rises = g.ready.rises; closed = g.ready.closed }; covers = g.covers; begins = g.begins; settled = λ o f. g.settled o (still_flying past r o f); after = g.after };
    edits = told.edits;
  }
  told_calm past e h told = record {
    sound = λ q us k. let s : IsSoundOn start.tree past q us = told.sound q us k in record { ready = record { proper = s.ready.proper; rises = s.ready.rises; closed = s.ready.closed }; apart = s.apart };
    draws = λ q d k.
        let g : IsGoodSince start past q d = told.draws q d k in
        record { ready = record { proper = g.ready.proper; rises = g.ready.rises; closed = g.ready.closed }; covers = g.covers; begins = g.begins; settled = g.settled; after = g.after };
    edits = told.edits;
  }

  pub in_use_calm : (past : Past) (e : Event) (v : RevVec) → is_calm e ≡ true → IsInUseSince start past v → IsInUseSince start (e ∷ past) v
  in_use_calm past (event.Draw d) v h held = absurd (false≢true h)
  in_use_calm past (event.Commit r) v h held = absurd (false≢true h)
  in_use_calm past (event.End r) v h held = record { settled = λ o f. held.settled o (still_flying past r o f); closed = held.closed; begun = held.begun }
  in_use_calm past e v h held = record { settled = held.settled; closed = held.closed; begun = held.begun }

  -- ---- the start

  pub told_start : IsToldSince start []
  told_start = record {
    sound = λ r ws e. absurd (false≢true (ap is_some e));
    draws = λ r d h. absurd (false≢true (ap is_some h));
    edits = λ r ws e. absurd (false≢true (ap is_some e));
  }
