-- A refusal keeps what holds.
use Rattle.std.proofs.Common.{◌≡◌, Bool, true, false, cond, ◌⊎◌, inl, inr, [], Option, Some, refl, sym, ap, subst}
use Rattle.std.specs.Option.{unwrap_or}
use mathlib.Core.Bool.{false≢true}
use Rattle.jr_path.specs.declared.path.Path.{Path}
use Rattle.jr_path.specs.declared.path.Item.{Item}
use Rattle.jr_rev.specs.declared.revision.Revision.{Revision}
use Rattle.jr_rev.specs.Revisions.{is_same}
use Rattle.oak_clash.specs.declared.mark.Mark.{Mark}
use Rattle.oak_clash.specs.Clashes.{clash}
use Rattle.oak_machine.specs.declared.event.Draw.{Draw}
use Rattle.oak_machine.specs.declared.event.Event.TheVariants as event
use Rattle.oak_machine.specs.Sessions.{is_stopped}
use Rattle.oak_machine.specs.Commits.{is_drawn, is_committed, is_refused, is_ended, refusal_of}
use Rattle.oak_commit.specs.Clashing.{Met, Writer}
use Rattle.core_clash.specs.Views.{In}
use Rattle.core_clash.specs.Core.{Core, undoing_from, refusing, IsGoing}
use Rattle.core_clash.specs.Sound.{Sound, TurnedToUndo, AreDocumentsListed, Noticed, MarkStands, IsWhole, IsOf, IsMarkDue, Cause, IsWriterOf}
use Rattle.core_clash.proofs.Basics.{is_same_self, not_both, decide, same_revision, at_writer, writer_mine, writer_other, or_left, or_right, or_cases}
use Rattle.core_clash.proofs.Pasts.{cause_later, due_later}

module _ (s : Core) (d : Draw) (item : Item) (other : Revision) where
  abbrev r : Revision
  r = d.revision

  abbrev w : Writer
  w = undoing_from s d

  abbrev pub t : Core
  t = refusing s d (event.Refuse r item other)

  module _ (sound : Sound s) (going : IsGoing s d) (cause : Cause s.past d.revision item other) where
    drawn : is_drawn s.past r ≡ true
    drawn = rw going.draw refl

    same_written : (o : Revision) → (t.writers o).written ≡ (s.writers o).written
    same_written o = at_writer (λ x v. v.written ≡ (s.writers x).written) s.writers r w o refl (λ k. refl)

    same_left : (o : Revision) → (t.writers o).left ≡ (s.writers o).left
    same_left o = at_writer (λ x v. v.left ≡ (s.writers x).left) s.writers r w o refl (λ k. refl)

    -- who doesn't undo is another, and didn't before
    goes : (o : Revision) → (t.writers o).undoing ≡ false → (is_same o r ≡ false) × ((s.writers o).undoing ≡ false)
    goes o h = by (decide o r)
      where
        by : (o ≡ r) ⊎ (is_same o r ≡ false) → (is_same o r ≡ false) × ((s.writers o).undoing ≡ false)
        by (inl e) = absurd (false≢true (sym (rw (e, writer_mine s.writers r w) at h)))
        by (inr f) = (f, rw (writer_other s.writers r w o f) at h)

    refused_drawn : (o : Revision) → (is_same o r ≡ true) ⊎ (is_refused s.past o ≡ true) → is_drawn s.past o ≡ true
    refused_drawn o (inl e) = rw (same_revision o r e) drawn
    refused_drawn o (inr h) = sound.refused_drawn o h

    listed : (o : Revision) → is_stopped s.past o.cluster ≡ false → AreDocumentsListed (t.writers o)
    listed o = at_writer (λ x v. is_stopped s.past x.cluster ≡ false → AreDocumentsListed v) s.writers r w o (λ on. let l = sound.listed r on in record { gone = l.gone; all = l.all; none = λ h. absurd (false≢true (sym h)) }) (λ k. sound.listed o)

    stopped : (o : Revision) → (t.writers o).undoing ≡ true → TurnedToUndo t.past o (t.writers o)
    stopped o = at_writer (λ x v. v.undoing ≡ true → TurnedToUndo t.past x v) s.writers r w o
        (λ h. inl (or_left (is_same r r) _ (is_same_self r)))
        (λ k h. before (sound.stopped o h))
      where
        before : TurnedToUndo s.past o (s.writers o) → TurnedToUndo t.past o (s.writers o)
        before (inl h) = inl (or_right (is_same o r) _ h)
        before (inr h) = inr h

    -- what a refusal names
    named : (c : Item × Revision) (i : Item) (x : Revision) → Some c ≡ Some (i, x) → (c.0 ≡ i) × (c.1 ≡ x)
    named c i x h = (ap (λ (o : Option (Item × Revision)). (unwrap_or o c).0) h, ap (λ (o : Option (Item × Revision)). (unwrap_or o c).1) h)

    refusal : (o : Revision) (i : Item) (x : Revision) → refusal_of t.past o ≡ Some (i, x) → Cause t.past o i x
    refusal o i x h = by (is_same o r) refl h
      where
        by : (b : Bool) → is_same o r ≡ b → cond b (Some (item, other)) (refusal_of s.past o) ≡ Some (i, x) → Cause t.past o i x
        by true same k =
            let is = named (item, other) i x k in
            let mine : Cause t.past o item other = subst (λ (q : Revision). Cause t.past q item other) (sym (same_revision o r same)) (cause_later (event.Refuse r item other) s.past r item other refl refl cause) in
            subst (λ (y : Revision). Cause t.past o i y) is.1 (subst (λ (j : Item). Cause t.past o j other) is.0 mine)
        by false apart k = cause_later _ s.past o i x refl refl (sound.refusal o i x k)

    is_of : (q : Path) (o : Revision) (m : Mark) → IsOf s q o m → IsOf t q o m
    is_of q o m (inl e) = inl e
    is_of q o m (inr h) = inr (rw same_written h.0, h.1)

    refused : (o : Revision) → (is_same o r ≡ true) ⊎ (is_refused s.past o ≡ true) → (t.writers o).undoing ≡ true
    refused o h = at_writer (λ x v. (is_same x r ≡ true) ⊎ (is_refused s.past x ≡ true) → v.undoing ≡ true) s.writers r w o (λ k. refl) there h
      where
        there : is_same o r ≡ false → (is_same o r ≡ true) ⊎ (is_refused s.past o ≡ true) → (s.writers o).undoing ≡ true
        there f (inl e) = not_both _ e f
        there f (inr k) = sound.refused o k

    unrooted : (o : Revision) (q : Path) → IsWriterOf s q o → IsWriterOf t q o
    unrooted o q (inl e) = inl e
    unrooted o q (inr h) = inr (rw same_written h.0, h.1)

    ended : (o : Revision) → is_ended s.past o ≡ true → (is_committed s.past o ≡ true) ⊎ (((t.writers o).undoing ≡ true) × ((t.writers o).written ≡ []))
    ended o = at_writer (λ x v. is_ended s.past x ≡ true → (is_committed s.past x ≡ true) ⊎ ((v.undoing ≡ true) × (v.written ≡ []))) s.writers r w o
        (λ h. not_both (is_ended s.past r) h going.unended)
        (λ f h. sound.ended o h)

    due_of : (o : Revision) (g : Met) → In g (t.writers o).due → IsMarkDue t.past o g
    due_of o g = at_writer (λ x v. In g v.due → IsMarkDue t.past x g) s.writers r w o (λ h. absurd h) (λ k h. due_later _ s.past o g refl refl (sound.due o g h))

    whole : (o : Revision) → is_committed s.past o ≡ true → IsWhole (t.writers o)
    whole o = at_writer (λ x v. is_committed s.past x ≡ true → IsWhole v) s.writers r w o
        (λ h. not_both (is_committed s.past r) h going.uncommitted)
        (λ k h. sound.whole o h)

    noticed_later : (a b : Revision) → is_same a r ≡ false → Noticed s a b → Noticed t a b
    noticed_later a b k (inl seen) = inl seen
    noticed_later a b k (inr (inl f)) = inr (inl (f.0, rw (writer_other s.writers r w a k) f.1, f.2))
    noticed_later a b k (inr (inr c)) = inr (inr c)

    noticed : (a o : Revision) (q : Path) (m n : Mark) → (a ≡ o → ⊥) → MarkStands t a q m → MarkStands t o q n → clash m n ≡ true → Noticed t a o ⊎ Noticed t o a
    noticed a o q m n apart sa so c = by (sound.noticed a o q m n apart (stood a m sa) (stood o n so) c)
      where
        stood : (x : Revision) (l : Mark) → MarkStands t x q l → MarkStands s x q l
        stood x l h = record { written = rw same_written at h.written; going = (goes x h.going).1; mark = h.mark }

        by : Noticed s a o ⊎ Noticed s o a → Noticed t a o ⊎ Noticed t o a
        by (inl h) = inl (noticed_later a o (goes a sa.going).0 h)
        by (inr h) = inr (noticed_later o a (goes o so.going).0 h)

    pub refuse_keeps : Sound t
    refuse_keeps = record {
      ordered = sound.ordered;
      committed_drawn = sound.committed_drawn;
      refused_drawn = λ o h. refused_drawn o (or_cases (is_same o r) _ h);
      ended_drawn = sound.ended_drawn;
      settled = sound.settled;
      start = sound.start;
      new = sound.new;
      bounds = record { settled = sound.bounds.settled; below = sound.bounds.below; swept = sound.bounds.swept };
      moved = sound.moved;
      entries = λ o q m free h k. sound.entries o q m free (rw same_written at h) k;
      origin = λ o q m h. is_of q o m (sound.origin o q m h);
      edits = sound.edits;
      rooted = sound.rooted;
      unrooted = λ o q h. unrooted o q (sound.unrooted o q h);
      once = λ o. rw (same_written, same_left) (sound.once o);
      listed = listed;
      stopped = stopped;
      refusal = λ o i x h. refusal o i x h;
      covered = λ o q m h g. rw (same_written, same_left) (sound.covered o q m h (goes o g).1);
      refused = λ o h. refused o (or_cases (is_same o r) _ h);
      ended = ended;
      due = due_of;
      caused = λ q x o i h. cause_later _ s.past x i o refl refl (sound.caused q x o i h);
      status = sound.status;
      only_committed = sound.only_committed;
      whole = whole;
      unmarked = sound.unmarked;
      noticed = noticed;
    }
