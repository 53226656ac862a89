-- A mark on another's commit root keeps what holds.
use Rattle.std.proofs.Common.{◌≡◌, ℕ, true, false, ◌||◌, ◌⊎◌, inl, inr, Some, Option, List, ◌∷◌, refl, sym, ap, subst, ◌∙◌, is_some}
use Rattle.jr_path.specs.declared.path.Path.{Path}
use Rattle.jr_path.specs.declared.path.Item.{Item}
use Rattle.jr_rev.specs.declared.revision.Revision.{Revision}
use Rattle.oak_clash.specs.declared.mark.Mark.{Mark}
use Rattle.oak_machine.specs.declared.event.Draw.{Draw}
use Rattle.oak_machine.specs.declared.event.Event.TheVariants as event
use Rattle.oak_machine.specs.declared.event.StepKind.TheVariants as kind
use Rattle.oak_machine.specs.Sessions.{is_stopped}
use Rattle.oak_machine.specs.Commits.{is_committed, is_refused, is_ended, is_in_base, is_in_flight}
use Rattle.oak_commit.specs.Clashing.{Met, noted, collision, Writer}
use Rattle.core_clash.specs.Views.{In}
use Rattle.core_clash.specs.Core.{Core, Docs, with_writer, root_of, IsDone, MayMark}
use Rattle.core_clash.specs.Sound.{Sound, TurnedToUndo, AreDocumentsListed, Noticed, MarkStands, IsWhole, IsOf, IsMarkDue, Cause, IsWriterOf, has_moved, marked_in}
use Rattle.core_clash.proofs.Basics.{test, not_both, at_writer, or_right, some_of}
use Rattle.core_clash.proofs.Pasts.{cause_later, due_later, live_now, in_flight}
use Rattle.core_clash.proofs.Effects.{Marks}
use Rattle.core_keep.specs.Journal.{is_swept}
use Rattle.std.specs.List.{list_any}

module _ (s : Core) (d : Draw) (f : Met) (rest : List Met) (number : ℕ) (docs : Docs) where
  abbrev r : Revision
  r = d.revision

  abbrev w : Writer
  w = record (s.writers r) { due = rest }

  abbrev pub t : Core
  t = record { number = number; docs = docs; moved = s.moved; old = s.old; past = event.Went d.session kind.Mark ∷ s.past; writers = with_writer s.writers r w }

  module _ (sound : Sound s) (may : MayMark s d f rest) (marks : Marks s.docs docs (root_of s.past f.other) f.other (r, f.theirs)) where
    same_written : (o : Revision) → (t.writers o).written ≡ (s.writers o).written
    same_written o = at_writer (λ x v. v.written ≡ (s.writers x).written) s.writers r w o refl (λ k. refl)

    same_left : (o : Revision) → (t.writers o).left ≡ (s.writers o).left
    same_left o = at_writer (λ x v. v.left ≡ (s.writers x).left) s.writers r w o refl (λ k. refl)

    same_undoing : (o : Revision) → (t.writers o).undoing ≡ (s.writers o).undoing
    same_undoing o = at_writer (λ x v. v.undoing ≡ (s.writers x).undoing) s.writers r w o refl (λ k. refl)

    listed : (o : Revision) → is_stopped s.past o.cluster ≡ false → AreDocumentsListed (t.writers o)
    listed o = at_writer (λ x v. is_stopped s.past x.cluster ≡ false → AreDocumentsListed v) s.writers r w o (λ on. let l = sound.listed r on in record { gone = l.gone; all = l.all; none = l.none }) (λ k. sound.listed o)

    stopped : (o : Revision) → (t.writers o).undoing ≡ true → TurnedToUndo s.past o (t.writers o)
    stopped o = at_writer (λ x v. v.undoing ≡ true → TurnedToUndo s.past x v) s.writers r w o (λ h. not_both _ h may.going.going) (λ k h. sound.stopped o h)

    this_due : IsMarkDue s.past r f
    this_due = sound.due r f (subst (λ (fs : List Met). In f fs) (sym may.next) (inl refl))

    is_of : (q : Path) (o : Revision) (m : Mark) → IsOf s q o m → IsOf t q o m
    is_of q o m (inl e) = inl e
    is_of q o m (inr h) = inr (rw same_written h.0, h.1)

    unrooted : (o : Revision) (q : Path) → IsWriterOf s q o → IsWriterOf t q o
    unrooted o q (inl e) = inl e
    unrooted o q (inr h) = inr (rw same_written h.0, h.1)

    ended : (o : Revision) → is_ended s.past o ≡ true → IsDone s o → IsDone t o
    ended o h (inl c) = inl c
    ended o h (inr u) = inr (rw same_undoing u.0, rw same_written u.1)

    due_of : (o : Revision) (g : Met) → In g (t.writers o).due → IsMarkDue t.past o g
    due_of o g = at_writer (λ x v. In g v.due → IsMarkDue t.past x g) s.writers r w o
        (λ h. due_later _ s.past r g refl refl (sound.due r g (subst (λ (fs : List Met). In g fs) (sym may.next) (inr h))))
        (λ k h. due_later _ s.past o g refl refl (sound.due o g h))

    flying : is_in_flight s.past r ≡ true
    flying = in_flight s.past r d may.going.draw may.going.unended

    caused : (q : Path) (x : Revision) (e : Revision × Item) → (collision (s.docs q) x ≡ Some e) ⊎ ((x ≡ f.other) × (e ≡ (r, f.theirs))) → Cause t.past x e.1 e.0
    caused q x e (inl h) = cause_later _ s.past x e.1 e.0 refl refl (sound.caused q x e.0 e.1 h)
    caused q x e (inr h) = rw (h.0, h.1) (record {
      another = λ same. this_due.cause.another (sym same);
      other = rw may.going.draw refl;
      met = this_due.theirs;
      outside = sound.settled f.other r flying;
      live = live_now (event.Went d.session kind.Mark) s.past f.other r this_due.cause.other (or_right (is_committed s.past r) _ flying);
    })

    -- whom the base doesn't see no bound has swept
    unswept : is_swept s.past f.other ≡ false
    unswept = by (test (is_swept s.past f.other))
      where
        by : (is_swept s.past f.other ≡ true) ⊎ (is_swept s.past f.other ≡ false) → is_swept s.past f.other ≡ false
        by (inl h) = not_both (is_in_base s.past r f.other) (sound.bounds.below r f.other flying (sound.bounds.swept f.other h)) this_due.cause.outside
        by (inr k) = k

    same_marks : (q : Path) (o : Revision) (m : Mark) → marked_in (docs q) (s.moved q) o m ≡ marked_in (s.docs q) (s.moved q) o m
    same_marks q o m = ap (λ b. b || list_any (has_moved o m) (s.moved q)) (marks.marks q o m)

    unmarked : (o : Revision) → is_committed s.past o ≡ true → is_some (collision (docs (root_of s.past o)) o) ≡ false
    unmarked o committed = by (test (is_some (collision (docs (root_of s.past o)) o)))
      where
        not_new : (e : Revision × Item) → (collision (s.docs (root_of s.past o)) o ≡ Some e) ⊎ ((o ≡ f.other) × (e ≡ (r, f.theirs))) → ⊥
        not_new e (inl h) = not_both _ (ap (λ (x : Option (Revision × Item)). is_some x) h) (sound.unmarked o committed)
        not_new e (inr h) = not_both _ (subst (λ (x : Revision). noted (s.docs (root_of s.past x)) x ≡ true) h.0 (sound.status o (subst (λ (x : Revision). is_swept s.past x ≡ false) (sym h.0) unswept) committed)) marks.free

        by : (is_some (collision (docs (root_of s.past o)) o) ≡ true) ⊎ (is_some (collision (docs (root_of s.past o)) o) ≡ false) → is_some (collision (docs (root_of s.past o)) o) ≡ false
        by (inl h) = let e = some_of (collision (docs (root_of s.past o)) o) h in absurd (not_new e.0 (marks.only (root_of s.past o) o e.0 e.1))
        by (inr h) = h

    whole : (o : Revision) → is_committed s.past o ≡ true → IsWhole (t.writers o)
    whole o = at_writer (λ x v. is_committed s.past x ≡ true → IsWhole v) s.writers r w o
        (λ h. not_both (is_committed s.past r) h may.going.uncommitted)
        (λ k h. sound.whole o h)

    -- a mark that is made is a collision
    made : (b : Revision) (g : Met) → g.other ≡ b → In g (f ∷ rest) → ((h : Met) × In h rest × (h.other ≡ b)) ⊎ (is_some (collision (docs (root_of s.past b)) b) ≡ true)
    made b g e (inl k) = inr (subst (λ (x : Revision). is_some (collision (docs (root_of s.past x)) x) ≡ true) (ap (λ (x : Met). x.other) (sym k) ∙ e) marks.adds)
    made b g e (inr k) = inl (g, k, e)

    noticed_later : (a b : Revision) → Noticed s a b → Noticed t a b
    noticed_later a b (inl seen) = inl seen
    noticed_later a b (inr (inl g)) = inr (at_writer (λ x v. In g.0 (s.writers x).due → ((h : Met) × In h v.due × (h.other ≡ b)) ⊎ (is_some (collision (docs (root_of s.past b)) b) ≡ true)) s.writers r w a
        (λ h. made b g.0 g.2 (subst (λ (fs : List Met). In g.0 fs) may.next h))
        (λ k h. inl (g.0, h, g.2)) g.1)
    noticed_later a b (inr (inr c)) = inr (inr (marks.keeps (root_of s.past b) b c))

    both_later : (a b : Revision) → Noticed s a b ⊎ Noticed s b a → Noticed t a b ⊎ Noticed t b a
    both_later a b (inl h) = inl (noticed_later a b h)
    both_later a b (inr h) = inr (noticed_later b a h)

    stood : (o : Revision) (q : Path) (m : Mark) → MarkStands t o q m → MarkStands s o q m
    stood o q m h = record { written = rw same_written at h.written; going = rw same_undoing at h.going; mark = h.mark }

    pub mark_keeps : Sound t
    mark_keeps = record {
      ordered = λ q. marks.ordered q (sound.ordered q);
      committed_drawn = sound.committed_drawn;
      refused_drawn = sound.refused_drawn;
      ended_drawn = sound.ended_drawn;
      settled = sound.settled;
      start = sound.start;
      new = sound.new;
      bounds = record { settled = sound.bounds.settled; below = sound.bounds.below; swept = sound.bounds.swept };
      moved = sound.moved;
      entries = λ o q m free h k. same_marks q o m ∙ sound.entries o q m free (rw same_written at h) k;
      origin = λ o q m h. is_of q o m (sound.origin o q m (sym (same_marks q o m) ∙ h));
      edits = sound.edits;
      rooted = λ o q m fresh other h. marks.keeps_roots q o (root_of s.past o) (sound.rooted o q m fresh other (sym (same_marks q o m) ∙ h));
      unrooted = λ o q h. unrooted o q (sound.unrooted o q (marks.only_roots q o h));
      once = λ o. rw (same_written, same_left) (sound.once o);
      listed = listed;
      stopped = stopped;
      refusal = λ o item x h. cause_later _ s.past o item x refl refl (sound.refusal o item x h);
      covered = λ o q m h going. rw (same_written, same_left) (sound.covered o q m h (rw same_undoing at going));
      refused = λ o h. rw same_undoing (sound.refused o h);
      ended = λ o h. ended o h (sound.ended o h);
      due = due_of;
      caused = λ q x o item h. caused q x (o, item) (marks.only q x (o, item) h);
      status = λ o k h. marks.notes (root_of s.past o) o ∙ sound.status o k h;
      only_committed = λ q o h. sound.only_committed q o (sym (marks.notes q o) ∙ h);
      whole = whole;
      unmarked = unmarked;
      noticed = λ a o q m n apart sa so c. both_later a o (sound.noticed a o q m n apart (stood a q m sa) (stood o q n so) c);
    }
