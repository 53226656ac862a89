-- A draw keeps what holds.
use Rattle.std.proofs.Common.{◌≡◌, Bool, true, false, cond, ◌⊎◌, inl, inr, Some, List, [], ◌++◌, refl, sym, ap, subst, ◌∙◌, is_some}
use mathlib.Core.Bool.{false≢true}
use Rattle.jr_path.specs.declared.path.Path.{Path}
use Rattle.jr_path.specs.declared.path.Item.{Item}
use Rattle.jr_rev.specs.declared.revision.Revision.{Revision}
use Rattle.jr_rev.specs.Revisions.{is_same}
use Rattle.oak_clash.specs.declared.mark.Mark.{Mark}
use Rattle.oak_clash.specs.Clashes.{clash}
use Rattle.oak_machine.specs.declared.event.Draw.{Draw}
use Rattle.oak_machine.specs.declared.event.Event.TheVariants as event
use Rattle.oak_machine.specs.Sessions.{is_stopped}
use Rattle.oak_machine.specs.Commits.{draw_of, marks_of, is_drawn, is_refused, is_in_flight, is_in_base}
use Rattle.oak_commit.specs.Clashing.{Met, collision, Writer}
use Rattle.core_clash.specs.Views.{In, Once, mark_at, NamesItems}
use Rattle.core_clash.specs.Core.{Core}
use Rattle.core_clash.specs.Sound.{Sound, TurnedToUndo, AreBelow, AreDocumentsListed, Noticed, MarkStands, IsOf, IsRooted, IsWriterOf, marked_in}
use Rattle.core_clash.specs.Collecting.{SeesBounded}
use Rattle.core_keep.specs.Journal.{is_bounded, is_swept}
use Rattle.core_clash.specs.Core.{Core, root_of, MayDrawAnew, core_drawn}
use Rattle.core_clash.specs.Sound.{Sound, TurnedToUndo, AreDocumentsListed, Noticed, MarkStands, IsOf, IsMarkDue, Cause}
use Rattle.core_clash.proofs.Basics.{not_both, decide, is_same_self, at_writer, writer_mine, writer_other, some_is}
use Rattle.core_clash.proofs.Pasts.{cause_later, due_later, live_drawn, marks_drawn, still_drawn}

module _ (s : Core) (d : Draw) (left : List Path) where
  abbrev r : Revision
  r = d.revision

  abbrev w : Writer
  w = record { paths = left; left = left; written = []; due = []; undoing = false; wants = false }

  abbrev pub t : Core
  t = core_drawn s d left

  module _ (sound : Sound s) (may : MayDrawAnew s d left) (above : SeesBounded s.past d.base) where
    -- a drawn revision is another than r
    old : (o : Revision) → is_drawn s.past o ≡ true → is_same o r ≡ false
    old o h = by (decide o r)
      where
        by : (o ≡ r) ⊎ (is_same o r ≡ false) → is_same o r ≡ false
        by (inl e) = not_both (is_drawn s.past r) (rw e at h) may.begins.fresh
        by (inr f) = f

    -- and its draw stays
    stays : (o : Revision) → is_same o r ≡ false → draw_of t.past o ≡ draw_of s.past o
    stays o f = ap (λ b. cond b (Some d) (draw_of s.past o)) f

    draw_here : draw_of t.past r ≡ Some d
    draw_here = ap (λ b. cond b (Some d) (draw_of s.past r)) (is_same_self r)

    marks_stay : (o : Revision) → is_same o r ≡ false → marks_of t.past o ≡ marks_of s.past o
    marks_stay o f = rw (stays o f) refl

    base_stays : (a o : Revision) → is_same a r ≡ false → is_in_base t.past a o ≡ is_in_base s.past a o
    base_stays a o f = rw (stays a f) refl

    root_stays : (o : Revision) → is_same o r ≡ false → root_of t.past o ≡ root_of s.past o
    root_stays o f = rw (stays o f) refl

    still : (o : Revision) → is_drawn s.past o ≡ true → is_drawn t.past o ≡ true
    still o h = still_drawn (is_same o r) d s.past o h

    settled : (a o : Revision) → is_in_flight t.past o ≡ true → is_in_base t.past a o ≡ false
    settled a o h = by (decide a r) (decide o r)
      where
        by : (a ≡ r) ⊎ (is_same a r ≡ false) → (o ≡ r) ⊎ (is_same o r ≡ false) → is_in_base t.past a o ≡ false
        by (inl e) (inl k) = rw (e, k) may.begins.itself
        by (inl e) (inr k) = rw e (may.begins.settled o (rw (stays o k) at h))
        by (inr f) (inl k) = base_stays a o f ∙ (rw k (may.begins.later a))
        by (inr f) (inr k) = base_stays a o f ∙ sound.settled a o (rw (stays o k) at h)

    start : (o : Revision) → is_drawn t.past o ≡ true → (q : Revision) → s.old q ≡ true → is_in_base t.past o q ≡ true
    start o h q old = by (decide o r)
      where
        by : (o ≡ r) ⊎ (is_same o r ≡ false) → is_in_base t.past o q ≡ true
        by (inl e) = rw (e, draw_here) (may.sees_old q old)
        by (inr f) = base_stays o q f ∙ sound.start o (rw (stays o f) at h) q old

    new : (o : Revision) → is_drawn t.past o ≡ true → s.old o ≡ false
    new o h = by (decide o r)
      where
        by : (o ≡ r) ⊎ (is_same o r ≡ false) → s.old o ≡ false
        by (inl e) = rw e may.new
        by (inr f) = sound.new o (rw (stays o f) at h)

    -- bounds see nothing new, and the new base sees what they see
    bounds : AreBelow t.past
    bounds = record { settled = λ o h. settled_by o h (decide o r); below = λ a o h k. below a o h k (decide a r); swept = sound.bounds.swept }
      where
        fresh : (test : Bool) → is_bounded s.past r ≡ test → is_bounded s.past r ≡ false
        fresh true h = not_both (is_in_base t.past r r) (rw draw_here (above r h)) may.begins.itself
        fresh false h = h

        settled_by : (o : Revision) → is_in_flight t.past o ≡ true → (o ≡ r) ⊎ (is_same o r ≡ false) → is_bounded s.past o ≡ false
        settled_by o h (inl e) = subst (λ (x : Revision). is_bounded s.past x ≡ false) (sym e) (fresh (is_bounded s.past r) refl)
        settled_by o h (inr f) = sound.bounds.settled o (rw (stays o f) at h)

        below : (a o : Revision) → is_in_flight t.past a ≡ true → is_bounded s.past o ≡ true → (a ≡ r) ⊎ (is_same a r ≡ false) → is_in_base t.past a o ≡ true
        below a o h k (inl e) = rw (e, draw_here) (above o k)
        below a o h k (inr f) = base_stays a o f ∙ sound.bounds.below a o (rw (stays a f) at h) k

    entries : (o : Revision) (q : Path) (m : Mark) → is_bounded s.past o ≡ false → In q (t.writers o).written → In (mark_at q m) (marks_of t.past o) → marked_in (s.docs q) (s.moved q) o m ≡ true
    entries o q m = at_writer (λ x v. is_bounded s.past x ≡ false → In q v.written → In (mark_at q m) (marks_of t.past x) → marked_in (s.docs q) (s.moved q) x m ≡ true) s.writers r w o
        (λ free h k. absurd h)
        (λ f free h k. sound.entries o q m free h (rw (marks_stay o f) at k))

    is_of : (q : Path) (o : Revision) (m : Mark) → IsOf s q o m → IsOf t q o m
    is_of q o m (inl e) = inl e
    is_of q o m (inr h) =
        let f = old o (marks_drawn s.past o (mark_at q m) h.1) in
        inr (subst (λ (v : Writer). In q v.written) (sym (writer_other s.writers r w o f)) h.0, rw (marks_stay o f) h.1)

    edits : (o : Revision) (e : Draw) → draw_of t.past o ≡ Some e → NamesItems e.marks e.edit.writes
    edits o e h = by (decide o r)
      where
        by : (o ≡ r) ⊎ (is_same o r ≡ false) → NamesItems e.marks e.edit.writes
        by (inl k) = subst (λ (x : Draw). NamesItems x.marks x.edit.writes) (sym (some_is (sym (subst (λ (x : Revision). draw_of t.past x ≡ Some d) (sym k) draw_here) ∙ h))) may.entries
        by (inr f) = sound.edits o e (sym (stays o f) ∙ h)

    rooted : (o : Revision) (q : Path) (m : Mark) → is_swept s.past o ≡ false → s.old o ≡ false → marked_in (s.docs q) (s.moved q) o m ≡ true → IsRooted (s.docs q) o (root_of t.past o)
    rooted o q m fresh other h = subst (λ (x : Path). IsRooted (s.docs q) o x) (sym (root_stays o (by (sound.origin o q m h)))) (sound.rooted o q m fresh other h)
      where
        by : IsOf s q o m → is_same o r ≡ false
        by (inl e) = not_both (s.old o) e other
        by (inr k) = old o (marks_drawn s.past o (mark_at q m) k.1)

    unrooted : (o : Revision) (q : Path) → IsWriterOf s q o → IsWriterOf t q o
    unrooted o q (inl e) = inl e
    unrooted o q (inr h) = inr (subst (λ (v : Writer). In q v.written) (sym (writer_other s.writers r w o (old o h.1))) h.0, still o h.1)

    once : (o : Revision) → Once ((t.writers o).written ++ (t.writers o).left)
    once o = at_writer (λ x v. Once (v.written ++ v.left)) s.writers r w o may.once (λ f. sound.once o)

    listed : (o : Revision) → is_stopped s.past o.cluster ≡ false → AreDocumentsListed (t.writers o)
    listed o = at_writer (λ x v. is_stopped s.past x.cluster ≡ false → AreDocumentsListed v) s.writers r w o (λ on. record { gone = []; all = refl; none = λ h. refl }) (λ f. sound.listed o)

    stopped : (o : Revision) → (t.writers o).undoing ≡ true → TurnedToUndo s.past o (t.writers o)
    stopped o = at_writer (λ x v. v.undoing ≡ true → TurnedToUndo s.past x v) s.writers r w o (λ h. absurd (false≢true h)) (λ f h. sound.stopped o h)

    covered : (o : Revision) (q : Path) (m : Mark) → In (mark_at q m) (marks_of t.past o) → (t.writers o).undoing ≡ false → In q (t.writers o).written ⊎ In q (t.writers o).left
    covered o q m = at_writer (λ x v. In (mark_at q m) (marks_of t.past x) → v.undoing ≡ false → In q v.written ⊎ In q v.left) s.writers r w o
        (λ h g. inr (may.covers q m (rw draw_here at h)))
        (λ f h g. sound.covered o q m (rw (marks_stay o f) at h) g)

    -- the writer of a drawn revision stays
    writer_stays : (o : Revision) → is_drawn s.past o ≡ true → t.writers o ≡ s.writers o
    writer_stays o h = writer_other s.writers r w o (old o h)

    due_of : (o : Revision) (g : Met) → In g (t.writers o).due → IsMarkDue t.past o g
    due_of o g = at_writer (λ x v. In g v.due → IsMarkDue t.past x g) s.writers r w o
        (λ h. absurd h)
        (λ f h. let k = sound.due o g h in due_later (event.Draw d) s.past o g (stays o f) (stays g.other (old g.other k.cause.other)) k)

    caused : (q : Path) (x o : Revision) (item : Item) → Cause s.past x item o → Cause t.past x item o
    caused q x o item c = cause_later (event.Draw d) s.past x item o (stays x (old x (live_drawn s.past x o c.live))) (stays o (old o c.other)) c

    noticed_later : (a b : Revision) → is_same a r ≡ false → is_same b r ≡ false → Noticed s a b → Noticed t a b
    noticed_later a b f k (inl seen) = inl (base_stays a b f ∙ seen)
    noticed_later a b f k (inr (inl g)) = inr (inl (g.0, subst (λ (v : Writer). In g.0 v.due) (sym (writer_other s.writers r w a f)) g.1, g.2))
    noticed_later a b f k (inr (inr c)) = inr (inr (subst (λ (x : Path). is_some (collision (s.docs x) b) ≡ true) (sym (root_stays b k)) c))

    -- who has written something is another
    wrote : (o : Revision) (q : Path) → In q (t.writers o).written → is_same o r ≡ false
    wrote o q h = by (decide o r)
      where
        by : (o ≡ r) ⊎ (is_same o r ≡ false) → is_same o r ≡ false
        by (inl e) = absurd (subst (λ (v : Writer). In q v.written) (writer_mine s.writers r w) (subst (λ (x : Revision). In q (t.writers x).written) e h))
        by (inr f) = f

    stood : (o : Revision) (q : Path) (m : Mark) → is_same o r ≡ false → MarkStands t o q m → MarkStands s o q m
    stood o q m f h =
        let e = writer_other s.writers r w o f in
        record { written = subst (λ (v : Writer). In q v.written) e h.written; going = subst (λ (v : Writer). v.undoing ≡ false) e h.going; mark = rw (marks_stay o f) at h.mark }

    noticed : (a o : Revision) (q : Path) (m n : Mark) → (a ≡ o → ⊥) → MarkStands t a q m → MarkStands t o q n → clash m n ≡ true → Noticed t a o ⊎ Noticed t o a
    noticed a o q m n apart sa so c = by (sound.noticed a o q m n apart (stood a q m f sa) (stood o q n k so) c)
      where
        f : is_same a r ≡ false
        f = wrote a q sa.written

        k : is_same o r ≡ false
        k = wrote o q so.written

        by : Noticed s a o ⊎ Noticed s o a → Noticed t a o ⊎ Noticed t o a
        by (inl h) = inl (noticed_later a o f k h)
        by (inr h) = inr (noticed_later o a k f h)

    pub draw_keeps : Sound t
    draw_keeps = record {
      ordered = sound.ordered;
      committed_drawn = λ o h. still o (sound.committed_drawn o h);
      refused_drawn = λ o h. still o (sound.refused_drawn o h);
      ended_drawn = λ o h. still o (sound.ended_drawn o h);
      settled = settled;
      start = start;
      new = new;
      bounds = bounds;
      moved = sound.moved;
      entries = entries;
      origin = λ o q m h. is_of q o m (sound.origin o q m h);
      edits = edits;
      rooted = rooted;
      unrooted = λ o q h. unrooted o q (sound.unrooted o q h);
      once = once;
      listed = listed;
      stopped = stopped;
      refusal = λ o item x h. caused (root_of s.past o) o x item (sound.refusal o item x h);
      covered = covered;
      refused = λ o h. rw (writer_stays o (sound.refused_drawn o h)) (sound.refused o h);
      ended = λ o h. rw (writer_stays o (sound.ended_drawn o h)) (sound.ended o h);
      due = due_of;
      caused = λ q x o i h. caused q x o i (sound.caused q x o i h);
      status = λ o f h. rw (root_stays o (old o (sound.committed_drawn o h))) (sound.status o f h);
      only_committed = sound.only_committed;
      whole = λ o h. rw (writer_stays o (sound.committed_drawn o h)) (sound.whole o h);
      unmarked = λ o h. rw (root_stays o (old o (sound.committed_drawn o h))) (sound.unmarked o h);
      noticed = noticed;
    }
