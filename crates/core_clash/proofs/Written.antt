-- A write keeps what holds.
use Rattle.std.proofs.Common.{◌≡◌, ℕ, true, false, not, ◌||◌, ◌⊎◌, inl, inr, Some, Option, List, [], ◌∷◌, ◌++◌, refl, sym, ap, subst, ◌∙◌, is_some, append_assoc}
use Rattle.jr_path.specs.declared.path.Path.{Path}
use Rattle.jr_path.specs.declared.path.Item.{Item}
use Rattle.jr_rev.specs.declared.revision.Revision.{Revision}
use Rattle.jr_rev.specs.Revisions.{is_same}
use Rattle.jr_rev.specs.Vectors.{sees}
use Rattle.oak_clash.specs.declared.mark.Mark.{Mark}
use Rattle.oak_clash.specs.declared.mark.Mark.TheVariants.{Exists, Guard, Touch, Prop}
use Rattle.oak_clash.specs.Clashes.{clash, commit_root}
use Rattle.oak_machine.specs.declared.event.Draw.{Draw}
use Rattle.oak_machine.specs.declared.event.Event.TheVariants as event
use Rattle.oak_machine.specs.declared.event.StepKind.TheVariants as kind
use Rattle.oak_machine.specs.Sessions.{is_stopped}
use Rattle.oak_machine.specs.Commits.{marks_of, is_drawn, is_committed, is_refused, is_ended, is_in_flight, is_in_base}
use Rattle.std.proofs.lemmas.Cmp.{eq_by_cmp_equiv, nat_list_cmp_total}
use Rattle.oak_commit.specs.Clashing.{Met, marked, collision, Writer}
use Rattle.core_read.specs.Holds.{root_entry}
use Rattle.oak_clash.specs.declared.mark.MarkAt.{MarkAt}
use Rattle.core_clash.specs.Views.{In, Once, mark_at}
use Rattle.core_clash.specs.Core.{Core, Docs, with_writer, root_of, IsDone, MayWrite}
use Rattle.oak_commit.specs.Looking.{whole}
use Rattle.core_clash.specs.Sound.{Sound, TurnedToUndo, AreDocumentsListed, Noticed, MarkStands, IsWhole, IsOf, IsMarkDue, Cause, IsRooted, IsWriterOf, has_moved, marked_in}
use Rattle.core_clash.proofs.Basics.{test, not_both, decide, at_writer, writer_mine, writer_other, none_in, In-left, In-right, In-append, and_true, or_left, or_right, or_cases, once_apart, other_revision}
use Rattle.core_clash.proofs.Pasts.{cause_later, due_later, live_now, marks_drawn, in_flight}
use Rattle.core_clash.proofs.Effects.{Writes, Meeting, IsMet, AreMarksOf}
use Rattle.core_clash.proofs.Whole.{marked_carry, whole_from, whole_to}
use Rattle.core_keep.specs.Journal.{is_bounded, is_swept}
use Rattle.std.specs.List.{list_any}

pub clash_swap : (m n : Mark) → clash m n ≡ true → clash n m ≡ true
clash_swap Exists Exists h = refl
clash_swap Exists Guard h = refl
clash_swap Exists Touch h = refl
clash_swap Exists (Prop n) h = refl
clash_swap Guard Exists h = refl
clash_swap Guard Guard h = refl
clash_swap Guard Touch h = refl
clash_swap Guard (Prop n) h = refl
clash_swap Touch Exists h = refl
clash_swap Touch Guard h = refl
clash_swap Touch Touch h = h
clash_swap Touch (Prop n) h = h
clash_swap (Prop m) Exists h = refl
clash_swap (Prop m) Guard h = refl
clash_swap (Prop m) Touch h = h
clash_swap (Prop m) (Prop n) h = (eq_by_cmp_equiv nat_list_cmp_total).symm n m ∙ h

pub swap_sum : {A B : Type 0} → A ⊎ B → B ⊎ A
swap_sum (inl a) = inr a
swap_sum (inr b) = inl b

module _ (s : Core) (d : Draw) (p : Path) (rest : List Path) (number : ℕ) (docs : Docs) (due : List Met) where
  abbrev r : Revision
  r = d.revision

  abbrev w : Writer
  w = record (s.writers r) { left = rest; written = (s.writers r).written ++ p ∷ []; due = due }

  abbrev pub t : Core
  t = record { number = number; docs = docs; moved = s.moved; old = s.old; past = event.Went d.session kind.Write ∷ s.past; writers = with_writer s.writers r w }

  module _ (sound : Sound s) (may : MayWrite s d p rest) (writes : Writes s.docs docs r p d.marks) (meets : Meeting d.base r p d.marks (whole p (s.docs p) (s.moved p)) due) where
    marks_are : marks_of s.past r ≡ d.marks
    marks_are = rw may.going.draw refl

    base_is : (o : Revision) → is_in_base s.past r o ≡ sees d.base o
    base_is o = rw may.going.draw refl

    drawn : is_drawn s.past r ≡ true
    drawn = rw may.going.draw refl

    still_written : (o : Revision) (q : Path) → In q (s.writers o).written → In q (t.writers o).written
    still_written o q = at_writer (λ x v. In q (s.writers x).written → In q v.written) s.writers r w o (λ h. In-left q _ (p ∷ []) h) (λ f h. h)

    keeps : (q : Path) (o : Revision) (m : Mark) → marked_in (s.docs q) (s.moved q) o m ≡ true → marked_in (docs q) (s.moved q) o m ≡ true
    keeps q o m = marked_carry (s.docs q) (docs q) (s.moved q) o m (writes.keeps q o m)

    entries : (o : Revision) (q : Path) (m : Mark) → is_bounded s.past o ≡ false → In q (t.writers o).written → In (mark_at q m) (marks_of s.past o) → marked_in (docs q) (s.moved q) o m ≡ true
    entries o q m = at_writer (λ x v. is_bounded s.past x ≡ false → In q v.written → In (mark_at q m) (marks_of s.past x) → marked_in (docs q) (s.moved q) x m ≡ true) s.writers r w o
        (λ free h k. by free k (In-append q (s.writers r).written (p ∷ []) h))
        (λ f free h k. keeps q o m (sound.entries o q m free h k))
      where
        by : is_bounded s.past r ≡ false → In (mark_at q m) (marks_of s.past r) → In q (s.writers r).written ⊎ In q (p ∷ []) → marked_in (docs q) (s.moved q) r m ≡ true
        by free k (inl h) = keeps q r m (sound.entries r q m free h k)
        by free k (inr (inl e)) = subst (λ (x : Path). marked_in (docs x) (s.moved x) r m ≡ true) (sym e) (or_left (marked (docs p) r m) _ (writes.adds m (subst (λ (x : Path). In (mark_at x m) d.marks) e (rw marks_are at k))))
        by free k (inr (inr h)) = absurd h

    -- a mark that is there was, or it is one of these
    only : (q : Path) (o : Revision) (m : Mark) → marked_in (docs q) (s.moved q) o m ≡ true → (marked_in (s.docs q) (s.moved q) o m ≡ true) ⊎ ((q ≡ p) × (o ≡ r) × In (mark_at p m) d.marks)
    only q o m h = by (or_cases (marked (docs q) o m) _ h)
      where
        here : (marked (s.docs q) o m ≡ true) ⊎ ((q ≡ p) × (o ≡ r) × In (mark_at p m) d.marks) → (marked_in (s.docs q) (s.moved q) o m ≡ true) ⊎ ((q ≡ p) × (o ≡ r) × In (mark_at p m) d.marks)
        here (inl k) = inl (or_left (marked (s.docs q) o m) _ k)
        here (inr k) = inr k

        by : (marked (docs q) o m ≡ true) ⊎ (list_any (has_moved o m) (s.moved q) ≡ true) → (marked_in (s.docs q) (s.moved q) o m ≡ true) ⊎ ((q ≡ p) × (o ≡ r) × In (mark_at p m) d.marks)
        by (inl k) = here (writes.only q o m k)
        by (inr k) = inl (or_right (marked (s.docs q) o m) _ k)

    -- whom the base doesn't see no bound sees
    unbounded : (o : Revision) → is_in_base s.past r o ≡ false → is_bounded s.past o ≡ false
    unbounded o outside = by (test (is_bounded s.past o))
      where
        by : (is_bounded s.past o ≡ true) ⊎ (is_bounded s.past o ≡ false) → is_bounded s.past o ≡ false
        by (inl h) = not_both (is_in_base s.past r o) (sound.bounds.below r o (in_flight s.past r d may.going.draw may.going.unended) h) outside
        by (inr f) = f

    is_of : (q : Path) (o : Revision) (m : Mark) → (marked_in (s.docs q) (s.moved q) o m ≡ true) ⊎ ((q ≡ p) × (o ≡ r) × In (mark_at p m) d.marks) → IsOf t q o m
    is_of q o m (inl h) = by (sound.origin o q m h)
      where
        by : IsOf s q o m → IsOf t q o m
        by (inl e) = inl e
        by (inr k) = inr (still_written o q k.0, k.1)
    is_of q o m (inr h) = inr (
      rw (h.0, h.1) (subst (λ (v : Writer). In p v.written) (sym (writer_mine s.writers r w)) (In-right p (s.writers r).written (p ∷ []) (inl refl))),
      rw (h.0, h.1, marks_are) h.2,
    )

    -- what is still to write isn't written
    unwritten : In p (s.writers r).written → ⊥
    unwritten h = once_apart p (s.writers r).written rest (subst (λ (xs : List Path). Once ((s.writers r).written ++ xs)) may.next (sound.once r)) h

    -- it wasn't there from the beginning
    not_start : s.old r ≡ true → ⊥
    not_start e = not_both (s.old r) e (sound.new r drawn)

    no_root : is_some (root_entry (s.docs p) r) ≡ false
    no_root = by (test (is_some (root_entry (s.docs p) r)))
      where
        none : IsWriterOf s p r → ⊥
        none (inl e) = not_start e
        none (inr h) = unwritten h.0

        by : (is_some (root_entry (s.docs p) r) ≡ true) ⊎ (is_some (root_entry (s.docs p) r) ≡ false) → is_some (root_entry (s.docs p) r) ≡ false
        by (inl h) = absurd (none (sound.unrooted r p h))
        by (inr f) = f

    kept_root : (q : Path) (o : Revision) → (q ≡ p → o ≡ r → ⊥) → ((q ≡ p) × (o ≡ r)) ⊎ IsRooted (docs q) o (root_of s.past o) → IsRooted (docs q) o (root_of s.past o)
    kept_root q o elsewhere (inl h) = absurd (elsewhere h.0 h.1)
    kept_root q o elsewhere (inr h) = h

    rooted : (o : Revision) (q : Path) (m : Mark) → is_swept s.past o ≡ false → s.old o ≡ false → marked_in (docs q) (s.moved q) o m ≡ true → IsRooted (docs q) o (root_of s.past o)
    rooted o q m fresh other h = by (only q o m h)
      where
        here : In (mark_at p m) d.marks → IsRooted (docs p) r (root_of s.past r)
        here k = subst (λ (ms : List MarkAt). IsRooted (docs p) r (commit_root ms)) (sym marks_are) (writes.adds_root m k no_root)

        away : IsOf s q o m → q ≡ p → o ≡ r → ⊥
        away (inl e) here same = not_both (s.old o) e other
        away (inr k) here same = unwritten (subst (λ (x : Path). In x (s.writers r).written) here (subst (λ (x : Revision). In q (s.writers x).written) same k.0))

        by : (marked_in (s.docs q) (s.moved q) o m ≡ true) ⊎ ((q ≡ p) × (o ≡ r) × In (mark_at p m) d.marks) → IsRooted (docs q) o (root_of s.past o)
        by (inl k) = kept_root q o (away (sound.origin o q m k)) (writes.keeps_roots q o (root_of s.past o) (sound.rooted o q m fresh other k))
        by (inr (e, same, k)) = subst (λ (x : Revision). IsRooted (docs q) x (root_of s.past x)) (sym same) (subst (λ (x : Path). IsRooted (docs x) r (root_of s.past r)) (sym e) (here k))

    unrooted : (o : Revision) (q : Path) → ((q ≡ p) × (o ≡ r)) ⊎ (is_some (root_entry (s.docs q) o) ≡ true) → IsWriterOf t q o
    unrooted o q (inl h) = inr (
      rw (h.0, h.1) (subst (λ (v : Writer). In p v.written) (sym (writer_mine s.writers r w)) (In-right p (s.writers r).written (p ∷ []) (inl refl))),
      rw h.1 drawn,
    )
    unrooted o q (inr h) = by (sound.unrooted o q h)
      where
        by : IsWriterOf s q o → IsWriterOf t q o
        by (inl e) = inl e
        by (inr k) = inr (still_written o q k.0, k.1)

    once : (o : Revision) → Once ((t.writers o).written ++ (t.writers o).left)
    once o = at_writer (λ x v. Once (v.written ++ v.left)) s.writers r w o
        (rw (append_assoc (s.writers r).written (p ∷ []) rest) (subst (λ (xs : List Path). Once ((s.writers r).written ++ xs)) may.next (sound.once r)))
        (λ f. sound.once o)

    listed : (o : Revision) → is_stopped s.past o.cluster ≡ false → AreDocumentsListed (t.writers o)
    listed o = at_writer (λ x v. is_stopped s.past x.cluster ≡ false → AreDocumentsListed v) s.writers r w o
        (λ on. let l = sound.listed r on in record {
          gone = l.gone;
          all = rw (append_assoc (s.writers r).written (p ∷ []) rest) (subst (λ (xs : List Path). l.gone ++ ((s.writers r).written ++ xs) ≡ (s.writers r).paths) may.next l.all);
          none = l.none;
        })
        (λ f. sound.listed o)

    stopped : (o : Revision) → (t.writers o).undoing ≡ true → TurnedToUndo s.past o (t.writers o)
    stopped o = at_writer (λ x v. v.undoing ≡ true → TurnedToUndo s.past x v) s.writers r w o (λ h. not_both _ h may.going.going) (λ f h. sound.stopped o h)

    covered : (o : Revision) (q : Path) (m : Mark) → In (mark_at q m) (marks_of s.past o) → (t.writers o).undoing ≡ false → In q (t.writers o).written ⊎ In q (t.writers o).left
    covered o q m h = at_writer (λ x v. In (mark_at q m) (marks_of s.past x) → v.undoing ≡ false → In q v.written ⊎ In q v.left) s.writers r w o
        (λ k going. by (subst (λ (xs : List Path). In q (s.writers r).written ⊎ In q xs) may.next (sound.covered r q m k may.going.going)))
        (λ f k going. sound.covered o q m k going) h
      where
        by : In q (s.writers r).written ⊎ In q (p ∷ rest) → In q ((s.writers r).written ++ p ∷ []) ⊎ In q rest
        by (inl h) = inl (In-left q _ (p ∷ []) h)
        by (inr (inl e)) = inl (In-right q (s.writers r).written (p ∷ []) (inl e))
        by (inr (inr h)) = inr h

    refused : (o : Revision) → is_refused s.past o ≡ true → (t.writers o).undoing ≡ true
    refused o = at_writer (λ x v. is_refused s.past x ≡ true → v.undoing ≡ true) s.writers r w o
        (λ h. not_both (s.writers r).undoing (sound.refused r h) may.going.going)
        (λ f h. sound.refused o h)

    ended : (o : Revision) → is_ended s.past o ≡ true → (is_committed s.past o ≡ true) ⊎ (((t.writers o).undoing ≡ true) × ((t.writers o).written ≡ []))
    ended o = at_writer (λ x v. is_ended s.past x ≡ true → (is_committed s.past x ≡ true) ⊎ ((v.undoing ≡ true) × (v.written ≡ []))) s.writers r w o
        (λ h. not_both (is_ended s.past r) h may.going.unended)
        (λ f h. sound.ended o h)

    -- who has a mark there is committed or in flight
    is_live : (o : Revision) (q : Path) → is_drawn s.past o ≡ true → In q (s.writers o).written → (is_committed s.past o || is_in_flight s.past o) ≡ true
    is_live o q drawn h = by (test (is_ended s.past o))
      where
        by : (is_ended s.past o ≡ true) ⊎ (is_ended s.past o ≡ false) → (is_committed s.past o || is_in_flight s.past o) ≡ true
        by (inr f) = or_right (is_committed s.past o) _ (and_true (is_drawn s.past o) _ drawn (ap (λ b. not b) f))
        by (inl e) = done (sound.ended o e)
          where
            done : IsDone s o → (is_committed s.past o || is_in_flight s.past o) ≡ true
            done (inl c) = or_left (is_committed s.past o) _ c
            done (inr u) = absurd (none_in q _ u.1 h)

    is_due : (f : Met) → IsMet d.base r p d.marks (whole p (s.docs p) (s.moved p)) f → IsMarkDue t.past r f
    is_due f m = by (sound.origin f.other p m.mark.0 (whole_from p f.other (s.docs p) (s.moved p) m.mark.0 m.mark.1))
      where
        not_start : {A : Type 0} → s.old f.other ≡ true → A
        not_start e = not_both (sees d.base f.other) (sym (base_is f.other) ∙ sound.start r drawn f.other e) m.outside

        its : (n : Mark) → IsOf s p f.other n → In (mark_at p n) (marks_of s.past f.other)
        its n (inl e) = not_start e
        its n (inr h) = h.1

        by : IsOf s p f.other m.mark.0 → IsMarkDue t.past r f
        by (inl e) = not_start e
        by (inr h) =
            let other : is_drawn s.past f.other ≡ true = marks_drawn s.past f.other (mark_at p m.mark.0) h.1 in
            let are : AreMarksOf (whole p (s.docs p) (s.moved p)) f.other p (marks_of s.past f.other) = (λ n k. whole_to p f.other (s.docs p) (s.moved p) n (sound.entries f.other p n (unbounded f.other (base_is f.other ∙ m.outside)) h.0 k), λ n k. its n (sound.origin f.other p n (whole_from p f.other (s.docs p) (s.moved p) n k))) in
            record {
              cause = record { another = λ same. m.apart (sym same); other = other; met = rw marks_are (m.mine (marks_of s.past f.other) are); outside = base_is f.other ∙ m.outside; live = live_now (event.Went d.session kind.Write) s.past r f.other drawn (is_live f.other p other h.0) };
              theirs = rw marks_are (m.theirs (marks_of s.past f.other) are);
            }

    due_of : (o : Revision) (f : Met) → In f (t.writers o).due → IsMarkDue t.past o f
    due_of o f = at_writer (λ x v. In f v.due → IsMarkDue t.past x f) s.writers r w o
        (λ h. is_due f (meets.each f h))
        (λ k h. due_later _ s.past o f refl refl (sound.due o f h))

    caused : (q : Path) (x o : Revision) (item : Item) → collision (docs q) x ≡ Some (o, item) → Cause t.past x item o
    caused q x o item h = cause_later _ s.past x item o refl refl (sound.caused q x o item (sym (writes.collisions q x) ∙ h))

    is_whole : (o : Revision) → is_committed s.past o ≡ true → IsWhole (t.writers o)
    is_whole o = at_writer (λ x v. is_committed s.past x ≡ true → IsWhole v) s.writers r w o
        (λ h. not_both (is_committed s.past r) h may.going.uncommitted)
        (λ f h. sound.whole o h)

    noticed_later : (a b : Revision) → Noticed s a b → Noticed t a b
    noticed_later a b (inl seen) = inl seen
    noticed_later a b (inr (inl f)) = inr (inl (f.0, at_writer (λ x v. In f.0 (s.writers x).due → In f.0 v.due) s.writers r w a (λ h. absurd (none_in f.0 _ may.unmet h)) (λ k h. h) f.1, f.2))
    noticed_later a b (inr (inr c)) = inr (inr (ap (λ (x : Option (Revision × Item)). is_some x) (writes.collisions (root_of s.past b) b) ∙ c))

    both_later : (a b : Revision) → Noticed s a b ⊎ Noticed s b a → Noticed t a b ⊎ Noticed t b a
    both_later a b (inl h) = inl (noticed_later a b h)
    both_later a b (inr h) = inr (noticed_later b a h)

    stood : (o : Revision) (q : Path) (m : Mark) → is_same o r ≡ false → MarkStands t o q m → MarkStands s o q m
    stood o q m f h =
        let e = writer_other s.writers r w o f in
        record { written = subst (λ (v : Writer). In q v.written) e h.written; going = subst (λ (v : Writer). v.undoing ≡ false) e h.going; mark = h.mark }

    -- the writer notices whom it meets
    meets_other : (o : Revision) (q : Path) (m n : Mark) → (r ≡ o → ⊥) → MarkStands t r q m → MarkStands s o q n → clash m n ≡ true → Noticed t r o ⊎ Noticed t o r
    meets_other o q m n apart sr so c = by (In-append q (s.writers r).written (p ∷ []) (subst (λ (v : Writer). In q v.written) (writer_mine s.writers r w) sr.written))
      where
        by_due : (f : Met) × In f due × (f.other ≡ o) → (f : Met) × In f (t.writers r).due × (f.other ≡ o)
        by_due f = (f.0, subst (λ (v : Writer). In f.0 v.due) (sym (writer_mine s.writers r w)) f.1, f.2)

        unseen : q ≡ p → (is_in_base s.past r o ≡ true) ⊎ (is_in_base s.past r o ≡ false) → Noticed t r o
        unseen e (inl seen) = inl seen
        unseen e (inr f) = inr (inl (by_due (meets.all o m n apart (sym (base_is o) ∙ f) (subst (λ (x : Path). In (mark_at x m) d.marks) e (rw marks_are at sr.mark)) (whole_to p o (s.docs p) (s.moved p) n (subst (λ (x : Path). marked_in (s.docs x) (s.moved x) o n ≡ true) e (sound.entries o q n (unbounded o f) so.written so.mark))) c)))

        by : In q (s.writers r).written ⊎ In q (p ∷ []) → Noticed t r o ⊎ Noticed t o r
        by (inl h) = both_later r o (sound.noticed r o q m n apart (record { written = h; going = may.going.going; mark = sr.mark }) so c)
        by (inr (inl e)) = inl (unseen e (test (is_in_base s.past r o)))
        by (inr (inr h)) = absurd h

    noticed : (a o : Revision) (q : Path) (m n : Mark) → (a ≡ o → ⊥) → MarkStands t a q m → MarkStands t o q n → clash m n ≡ true → Noticed t a o ⊎ Noticed t o a
    noticed a o q m n apart sa so c = by (decide a r) (decide o r)
      where
        by : (a ≡ r) ⊎ (is_same a r ≡ false) → (o ≡ r) ⊎ (is_same o r ≡ false) → Noticed t a o ⊎ Noticed t o a
        by (inl e) (inl k) = absurd (apart (e ∙ sym k))
        by (inl e) (inr k) = rw e (meets_other o q m n (rw e at apart) (rw e at sa) (stood o q n k so) c)
        by (inr e) (inl k) = rw k (swap_sum (meets_other a q n m (λ x. apart (sym x ∙ sym k)) (rw k at so) (stood a q m e sa) (clash_swap m n c)))
        by (inr e) (inr k) = both_later a o (sound.noticed a o q m n apart (stood a q m e sa) (stood o q n k so) c)

    pub write_keeps : Sound t
    write_keeps = record {
      ordered = λ q. writes.ordered q (sound.ordered q);
      committed_drawn = sound.committed_drawn;
      refused_drawn = sound.refused_drawn;
      ended_drawn = sound.ended_drawn;
      settled = sound.settled;
      start = sound.start;
      new = sound.new;
      bounds = record { settled = sound.bounds.settled; below = sound.bounds.below; swept = sound.bounds.swept };
      moved = sound.moved;
      entries = entries;
      origin = λ o q m h. is_of q o m (only q o m h);
      edits = sound.edits;
      rooted = rooted;
      unrooted = λ o q h. unrooted o q (writes.only_roots q o h);
      once = once;
      listed = listed;
      stopped = stopped;
      refusal = λ o item x h. cause_later _ s.past o item x refl refl (sound.refusal o item x h);
      covered = covered;
      refused = refused;
      ended = ended;
      due = due_of;
      caused = caused;
      status = λ o f h. writes.notes (root_of s.past o) o ∙ sound.status o f h;
      only_committed = λ q o h. sound.only_committed q o (sym (writes.notes q o) ∙ h);
      whole = is_whole;
      unmarked = λ o h. ap (λ (x : Option (Revision × Item)). is_some x) (writes.collisions (root_of s.past o) o) ∙ sound.unmarked o h;
      noticed = noticed;
    }
