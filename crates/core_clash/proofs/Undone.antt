-- Documents that are undone: by their committer, or by a recovery of its node.
use Rattle.std.proofs.Common.{◌≡◌, ℕ, true, false, ◌⊎◌, inl, inr, not, cond, Option, List, [], ◌∷◌, ◌++◌, refl, sym, ap, subst, ◌∙◌, is_some, append_assoc}
use Rattle.std.specs.List.{list_any}
use Rattle.jr_path.specs.declared.path.Path.{Path}
use Rattle.jr_path.specs.declared.path.Item.{Item}
use Rattle.jr_rev.specs.declared.revision.Revision.{Revision}
use Rattle.jr_rev.specs.Revisions.{is_same}
use Rattle.oak_clash.specs.declared.mark.Mark.{Mark}
use Rattle.oak_clash.specs.Clashes.{clash}
use Rattle.oak_machine.specs.declared.event.Draw.{Draw}
use Rattle.oak_machine.specs.declared.event.Event.TheVariants as event
use Rattle.oak_machine.specs.declared.event.StepKind.TheVariants as kind
use Rattle.oak_machine.specs.Sessions.{is_stopped}
use Rattle.oak_machine.specs.Commits.{marks_of, is_committed, is_drawn, is_refused, is_ended, is_in_base}
use Rattle.oak_commit.specs.Clashing.{Met, marked, noted, Writer}
use Rattle.core_read.specs.Holds.{root_entry}
use Rattle.core_keep.specs.Journal.{is_bounded, is_swept}
use Rattle.core_clash.specs.Views.{In, Once, mark_at}
use Rattle.core_clash.specs.Core.{Core, Docs, IsDead, MayDrop, MayUndo, after_drop, cleared, is_path, root_of, with_writer, without_path}
use Rattle.core_clash.specs.Sound.{Sound, TurnedToUndo, AreDocumentsListed, Noticed, MarkStands, IsWhole, IsOf, IsMarkDue, IsRooted, IsWriterOf, has_moved, marked_in}
use Rattle.core_clash.proofs.Basics.{not_both, decide, other_revision, at_writer, writer_mine, writer_other, In-left, is_path_self, or_cases, same_path, test}
use Rattle.core_clash.proofs.Pasts.{in_flight}
use Rattle.core_clash.proofs.Effects.{Undoes}
use Rattle.core_clash.proofs.Finished.{event_keeps, finish_keeps}
use Rattle.core_clash.proofs.Whole.{marked_carry}

-- documents have nothing of r at q
abbrev pub IsFreeAt : Docs → Revision → Path → Type 0
IsFreeAt docs r q = ((m : Mark) → marked (docs q) r m ≡ true → ⊥) × (is_some (root_entry (docs q) r) ≡ true → ⊥)

-- w is the writer of r now: it undoes, and has written what it had, but for documents that have nothing of r any more, and p is such
pub record LeavesOut (s : Core) (docs : Docs) (r : Revision) (p : Path) (w : Writer) : Type 0 where
  pub drawn : is_drawn s.past r ≡ true
  pub uncommitted : is_committed s.past r ≡ false
  pub other : s.old r ≡ false
  pub undoing : w.undoing ≡ true
  pub due : (f : Met) → In f w.due → In f (s.writers r).due
  pub fewer : (q : Path) → In q w.written → In q (s.writers r).written
  pub gone : In p w.written → ⊥
  pub left : (q : Path) → In q (s.writers r).written → IsFreeAt docs r q ⊎ In q w.written
  pub once : Once (w.written ++ w.left)
  pub listed : is_stopped s.past r.cluster ≡ false → AreDocumentsListed w
  pub turned : TurnedToUndo s.past r w
  pub ended : is_ended s.past r ≡ true → w.written ≡ []

module _ (s : Core) (r : Revision) (p : Path) (w : Writer) (number : ℕ) (docs : Docs) where
  abbrev pub left_out : Core
  left_out = record { number = number; docs = docs; moved = s.moved; old = s.old; past = s.past; writers = with_writer s.writers r w }

  abbrev t : Core
  t = left_out

  module _ (sound : Sound s) (leaves : LeavesOut s docs r p w) (undoes : Undoes s.docs docs p r) where
    never : {A : Type 0} → is_committed s.past r ≡ true → A
    never h = not_both (is_committed s.past r) h leaves.uncommitted

    goes : (o : Revision) → (t.writers o).undoing ≡ false → is_same o r ≡ false
    goes o h = by (decide o r)
      where
        by : (o ≡ r) ⊎ (is_same o r ≡ false) → is_same o r ≡ false
        by (inl e) = not_both w.undoing leaves.undoing (rw (e, writer_mine s.writers r w) at h)
        by (inr f) = f

    kept : (q : Path) (o : Revision) (m : Mark) → (q ≡ p → o ≡ r → ⊥) → marked_in (s.docs q) (s.moved q) o m ≡ true → marked_in (docs q) (s.moved q) o m ≡ true
    kept q o m elsewhere = marked_carry (s.docs q) (docs q) (s.moved q) o m (λ h. by (undoes.keeps q o m h))
      where
        by : ((q ≡ p) × (o ≡ r)) ⊎ (marked (docs q) o m ≡ true) → marked (docs q) o m ≡ true
        by (inl h) = absurd (elsewhere h.0 h.1)
        by (inr h) = h

    only : (q : Path) (o : Revision) (m : Mark) → marked_in (docs q) (s.moved q) o m ≡ true → marked_in (s.docs q) (s.moved q) o m ≡ true
    only q o m = marked_carry (docs q) (s.docs q) (s.moved q) o m (undoes.only q o m)

    -- what documents have nothing of hasn't moved either
    gone : (q : Path) (m : Mark) → (marked (docs q) r m ≡ true → ⊥) → marked_in (docs q) (s.moved q) r m ≡ true → ⊥
    gone q m free h = by (or_cases (marked (docs q) r m) _ h)
      where
        moved : (s.old r ≡ true) ⊎ (is_committed s.past r ≡ true) → ⊥
        moved (inl e) = not_both (s.old r) e leaves.other
        moved (inr c) = never c

        by : (marked (docs q) r m ≡ true) ⊎ (list_any (has_moved r m) (s.moved q) ≡ true) → ⊥
        by (inl k) = free k
        by (inr k) = moved (sound.moved r q m k)

    entries : (o : Revision) (q : Path) (m : Mark) → is_bounded s.past o ≡ false → In q (t.writers o).written → In (mark_at q m) (marks_of s.past o) → marked_in (docs q) (s.moved q) o m ≡ true
    entries o q m = at_writer (λ x v. is_bounded s.past x ≡ false → In q v.written → In (mark_at q m) (marks_of s.past x) → marked_in (docs q) (s.moved q) x m ≡ true) s.writers r w o
        (λ free h k. kept q r m (λ e same. leaves.gone (subst (λ (x : Path). In x w.written) e h)) (sound.entries r q m free (leaves.fewer q h) k))
        (λ f free h k. kept q o m (λ e same. other_revision o r f same) (sound.entries o q m free h k))

    is_of : (q : Path) (o : Revision) (m : Mark) → marked_in (docs q) (s.moved q) o m ≡ true → IsOf s q o m → IsOf t q o m
    is_of q o m there (inl e) = inl e
    is_of q o m there (inr h) = inr (
      at_writer (λ x v. marked_in (docs q) (s.moved q) x m ≡ true → In q (s.writers x).written → In q v.written) s.writers r w o
          (λ k l. behind k (leaves.left q l)) (λ f k l. l) there h.0,
      h.1,
    )
      where
        behind : marked_in (docs q) (s.moved q) r m ≡ true → IsFreeAt docs r q ⊎ In q w.written → In q w.written
        behind k (inl free) = absurd (gone q m (free.0 m) k)
        behind k (inr l) = l

    kept_root : (q : Path) (o : Revision) → (q ≡ p → o ≡ r → ⊥) → ((q ≡ p) × (o ≡ r)) ⊎ IsRooted (docs q) o (root_of s.past o) → IsRooted (docs q) o (root_of s.past o)
    kept_root q o elsewhere (inl h) = absurd (elsewhere h.0 h.1)
    kept_root q o elsewhere (inr h) = h

    rooted : (o : Revision) (q : Path) (m : Mark) → is_swept s.past o ≡ false → s.old o ≡ false → marked_in (docs q) (s.moved q) o m ≡ true → IsRooted (docs q) o (root_of s.past o)
    rooted o q m fresh other h = kept_root q o
        (λ e same. gone p m (undoes.gone m) (subst (λ (x : Path). marked_in (docs x) (s.moved x) r m ≡ true) e (subst (λ (x : Revision). marked_in (docs q) (s.moved q) x m ≡ true) same h)))
        (undoes.keeps_roots q o (root_of s.past o) (sound.rooted o q m fresh other (only q o m h)))

    unrooted : (o : Revision) (q : Path) → is_some (root_entry (docs q) o) ≡ true → IsWriterOf s q o → IsWriterOf t q o
    unrooted o q there (inl e) = inl e
    unrooted o q there (inr h) = inr (
      at_writer (λ x v. is_some (root_entry (docs q) x) ≡ true → In q (s.writers x).written → In q v.written) s.writers r w o
          (λ k l. behind k (leaves.left q l)) (λ f k l. l) there h.0,
      h.1,
    )
      where
        behind : is_some (root_entry (docs q) r) ≡ true → IsFreeAt docs r q ⊎ In q w.written → In q w.written
        behind k (inl free) = absurd (free.1 k)
        behind k (inr l) = l

    covered : (o : Revision) (q : Path) (m : Mark) → In (mark_at q m) (marks_of s.past o) → (t.writers o).undoing ≡ false → In q (t.writers o).written ⊎ In q (t.writers o).left
    covered o q m k going = let e = writer_other s.writers r w o (goes o going) in rw e (sound.covered o q m k (rw e at going))

    ended : (o : Revision) → is_ended s.past o ≡ true → (is_committed s.past o ≡ true) ⊎ (((t.writers o).undoing ≡ true) × ((t.writers o).written ≡ []))
    ended o = at_writer (λ x v. is_ended s.past x ≡ true → (is_committed s.past x ≡ true) ⊎ ((v.undoing ≡ true) × (v.written ≡ []))) s.writers r w o
        (λ h. inr (leaves.undoing, leaves.ended h))
        (λ f h. sound.ended o h)

    due_of : (o : Revision) (g : Met) → In g (t.writers o).due → IsMarkDue s.past o g
    due_of o g = at_writer (λ x v. In g v.due → IsMarkDue s.past x g) s.writers r w o (λ h. sound.due r g (leaves.due g h)) (λ k h. sound.due o g h)

    status : (o : Revision) → is_committed s.past o ≡ true → (o ≡ r) ⊎ (noted (docs (root_of s.past o)) o ≡ true) → noted (docs (root_of s.past o)) o ≡ true
    status o h (inl e) = never (rw e at h)
    status o h (inr k) = k

    noticed_later : (a b : Revision) → is_same a r ≡ false → Noticed s a b → Noticed t a b
    noticed_later a b k (inl seen) = inl seen
    noticed_later a b k (inr (inl f)) = inr (inl (f.0, rw (writer_other s.writers r w a k) f.1, f.2))
    noticed_later a b k (inr (inr c)) = inr (inr (ap (λ (x : Option (Revision × Item)). is_some x) (undoes.collisions (root_of s.past b) b) ∙ c))

    noticed : (a o : Revision) (q : Path) (m n : Mark) → (a ≡ o → ⊥) → MarkStands t a q m → MarkStands t o q n → clash m n ≡ true → Noticed t a o ⊎ Noticed t o a
    noticed a o q m n apart sa so c = by (sound.noticed a o q m n apart (stood a m sa) (stood o n so) c)
      where
        stood : (x : Revision) (l : Mark) → MarkStands t x q l → MarkStands s x q l
        stood x l h =
            let e = writer_other s.writers r w x (goes x h.going) in
            record { written = rw e at h.written; going = rw e at h.going; mark = h.mark }

        by : Noticed s a o ⊎ Noticed s o a → Noticed t a o ⊎ Noticed t o a
        by (inl h) = inl (noticed_later a o (goes a sa.going) h)
        by (inr h) = inr (noticed_later o a (goes o so.going) h)

    pub leaves_keeps : Sound left_out
    leaves_keeps = record {
      ordered = λ q. undoes.ordered q (sound.ordered q);
      committed_drawn = sound.committed_drawn;
      refused_drawn = sound.refused_drawn;
      ended_drawn = sound.ended_drawn;
      settled = sound.settled;
      start = sound.start;
      new = sound.new;
      bounds = sound.bounds;
      moved = sound.moved;
      entries = entries;
      origin = λ o q m h. is_of q o m h (sound.origin o q m (only q o m h));
      edits = sound.edits;
      rooted = rooted;
      unrooted = λ o q h. unrooted o q h (sound.unrooted o q (undoes.only_roots q o h));
      once = λ o. at_writer (λ x v. Once (v.written ++ v.left)) s.writers r w o leaves.once (λ f. sound.once o);
      listed = λ o. at_writer (λ x v. is_stopped s.past x.cluster ≡ false → AreDocumentsListed v) s.writers r w o leaves.listed (λ f. sound.listed o);
      stopped = λ o. at_writer (λ x v. v.undoing ≡ true → TurnedToUndo s.past x v) s.writers r w o (λ h. leaves.turned) (λ f. sound.stopped o);
      refusal = sound.refusal;
      covered = covered;
      refused = λ o. at_writer (λ x v. is_refused s.past x ≡ true → v.undoing ≡ true) s.writers r w o (λ h. leaves.undoing) (λ f. sound.refused o);
      ended = ended;
      due = due_of;
      caused = λ q x o i h. sound.caused q x o i (sym (undoes.collisions q x) ∙ h);
      status = λ o k h. status o h (undoes.keeps_notes (root_of s.past o) o (sound.status o k h));
      only_committed = λ q o h. sound.only_committed q o (undoes.only_notes q o h);
      whole = λ o. at_writer (λ x v. is_committed s.past x ≡ true → IsWhole v) s.writers r w o never (λ f. sound.whole o);
      unmarked = λ o h. ap (λ (x : Option (Revision × Item)). is_some x) (undoes.collisions (root_of s.past o) o) ∙ sound.unmarked o h;
      noticed = noticed;
    }

-- ---- by its committer

module _ (s : Core) (d : Draw) (p : Path) (rest : List Path) (number : ℕ) (docs : Docs) where
  abbrev r : Revision
  r = d.revision

  abbrev w : Writer
  w = record (s.writers r) { written = rest }

  module _ (sound : Sound s) (may : MayUndo s d p rest) (undoes : Undoes s.docs docs p r) where
    -- p and those behind it, each once
    once_here : Once ((p ∷ rest) ++ (s.writers r).left)
    once_here = subst (λ (xs : List Path). Once (xs ++ (s.writers r).left)) may.next (sound.once r)

    behind : (q : Path) → In q (p ∷ rest) → IsFreeAt docs r q ⊎ In q rest
    behind q (inl e) = inl (subst (λ (x : Path). IsFreeAt docs r x) (sym e) (undoes.gone, undoes.gone_root))
    behind q (inr h) = inr h

    drawn : is_drawn s.past r ≡ true
    drawn = rw may.draw refl

    uncommitted : is_committed s.past r ≡ false
    uncommitted = by (is_committed s.past r) refl
      where
        by : (b : _) → is_committed s.past r ≡ b → b ≡ false
        by true h = not_both (s.writers r).undoing may.undoing (sound.whole r h).going
        by false h = refl

    leaves : LeavesOut s docs r p w
    leaves = record {
      drawn = drawn;
      uncommitted = uncommitted;
      other = sound.new r drawn;
      undoing = may.undoing;
      due = λ f h. h;
      fewer = λ q h. subst (λ (xs : List Path). In q xs) (sym may.next) (inr h);
      gone = λ h. once_here.0 (In-left p rest _ h);
      left = λ q h. behind q (subst (λ (xs : List Path). In q xs) may.next h);
      once = once_here.1;
      listed = λ on. let l = sound.listed r on in record {
        gone = l.gone ++ p ∷ [];
        all = rw (append_assoc l.gone (p ∷ []) (rest ++ (s.writers r).left)) (subst (λ (xs : List Path). l.gone ++ (xs ++ (s.writers r).left) ≡ (s.writers r).paths) may.next l.all);
        none = λ h. not_both (s.writers r).undoing may.undoing h;
      };
      turned = sound.stopped r may.undoing;
      ended = λ h. not_both (is_ended s.past r) h may.unended;
    }

    pub undo_keeps : Sound (record { number = number; docs = docs; moved = s.moved; old = s.old; past = event.Went d.session kind.Undo ∷ s.past; writers = with_writer s.writers r w })
    undo_keeps = event_keeps (left_out s r p w number docs) (event.Went d.session kind.Undo) refl (leaves_keeps s r p w number docs sound leaves undoes)

-- ---- by a recovery

-- what is left without one of the paths
in_without : (p q : Path) (ps : List Path) → In q ps → (q ≡ p) ⊎ In q (without_path p ps)
in_without p q [] h = absurd h
in_without p q (x ∷ ps) h = by (test (is_path x p)) h (λ i. in_without p q ps i)
  where
    rest : (is_path x p ≡ true) ⊎ (is_path x p ≡ false) → (q ≡ p) ⊎ In q (without_path p ps) → (q ≡ p) ⊎ In q (cond (not (is_path x p)) (x ∷ without_path p ps) (without_path p ps))
    rest b (inl e) = inl e
    rest (inl t) (inr i) = inr (rw t i)
    rest (inr f) (inr i) = inr (rw f (inr i))

    by : (is_path x p ≡ true) ⊎ (is_path x p ≡ false) → In q (x ∷ ps) → (In q ps → (q ≡ p) ⊎ In q (without_path p ps)) → (q ≡ p) ⊎ In q (cond (not (is_path x p)) (x ∷ without_path p ps) (without_path p ps))
    by b (inr i) more = rest b (more i)
    by (inl t) (inl e) more = inl (e ∙ same_path x p t)
    by (inr f) (inl e) more = inr (rw f (inl e))

pub without_in : (p q : Path) (ps : List Path) → In q (without_path p ps) → In q ps × (is_path q p ≡ false)
without_in p q [] h = absurd h
without_in p q (x ∷ ps) h = by (test (is_path x p)) h (λ i. without_in p q ps i)
  where
    by : (is_path x p ≡ true) ⊎ (is_path x p ≡ false) → In q (cond (not (is_path x p)) (x ∷ without_path p ps) (without_path p ps)) → (In q (without_path p ps) → In q ps × (is_path q p ≡ false)) → In q (x ∷ ps) × (is_path q p ≡ false)
    by (inl t) i more = let m = more (rw t at i) in (inr m.0, m.1)
    by (inr f) i more = here (rw f at i) more f
      where
        here : In q (x ∷ without_path p ps) → (In q (without_path p ps) → In q ps × (is_path q p ≡ false)) → is_path x p ≡ false → In q (x ∷ ps) × (is_path q p ≡ false)
        here (inl e) more f = (inl e, subst (λ (y : Path). is_path y p ≡ false) (sym e) f)
        here (inr i) more f = let m = more i in (inr m.0, m.1)

once_without : (p : Path) (ps left : List Path) → Once (ps ++ left) → Once (without_path p ps ++ left)
once_without p [] left once = once
once_without p (x ∷ ps) left once = by (is_path x p) (once_without p ps left once.1)
  where
    fewer : (ys : List Path) → In x (without_path p ys ++ left) → In x (ys ++ left)
    fewer [] h = h
    fewer (y ∷ ys) h = grown (is_path y p) h (λ i. fewer ys i)
      where
        grown : (b : _) → In x (cond (not b) (y ∷ without_path p ys) (without_path p ys) ++ left) → (In x (without_path p ys ++ left) → In x (ys ++ left)) → In x (y ∷ (ys ++ left))
        grown true i more = inr (more i)
        grown false (inl e) more = inl e
        grown false (inr i) more = inr (more i)

    by : (b : _) → Once (without_path p ps ++ left) → Once (cond (not b) (x ∷ without_path p ps) (without_path p ps) ++ left)
    by true rest = rest
    by false rest = ((λ i. once.0 (fewer ps i)), rest)

module _ (s : Core) (d : Draw) (sound : Sound s) (dead : IsDead s.past d) where
  abbrev q : Revision
  q = d.revision

  dead_drawn : is_drawn s.past q ≡ true
  dead_drawn = rw dead.draw refl

  still : (w : List Path) (p : Path) → w ≡ [] → without_path p w ≡ []
  still w p e = ap (without_path p) e

  -- what has ended and isn't committed has written nothing that isn't undone
  none_written : is_ended s.past q ≡ true → (s.writers q).written ≡ []
  none_written h = by (sound.ended q h)
    where
      by : (is_committed s.past q ≡ true) ⊎ (((s.writers q).undoing ≡ true) × ((s.writers q).written ≡ [])) → (s.writers q).written ≡ []
      by (inl c) = not_both (is_committed s.past q) c dead.uncommitted
      by (inr u) = u.1

  module _ (p : Path) (number : ℕ) (docs : Docs) (undoes : Undoes s.docs docs p q) where
    cleared_out : LeavesOut s docs q p (cleared (s.writers q) p)
    cleared_out = record {
      drawn = dead_drawn;
      uncommitted = dead.uncommitted;
      other = sound.new d.revision (rw dead.draw refl);
      undoing = refl;
      due = λ f h. absurd h;
      fewer = λ x h. (without_in p x (s.writers q).written h).0;
      gone = λ h. not_both (is_path p p) (is_path_self p) (without_in p p (s.writers q).written h).1;
      left = λ x h. by x (in_without p x (s.writers q).written h);
      once = once_without p (s.writers q).written (s.writers q).left (sound.once q);
      listed = λ on. not_both (is_stopped s.past q.cluster) dead.stopped on;
      turned = inr (inr dead.stopped);
      ended = λ h. still (s.writers q).written p (none_written h);
    }
      where
        by : (x : Path) → (x ≡ p) ⊎ In x (without_path p (s.writers q).written) → IsFreeAt docs q x ⊎ In x (without_path p (s.writers q).written)
        by x (inl e) = inl (subst (λ (y : Path). IsFreeAt docs q y) (sym e) (undoes.gone, undoes.gone_root))
        by x (inr h) = inr h

    -- a dead revision is undone in the document of p
    pub clear_keeps : Sound (record { number = number; docs = docs; moved = s.moved; old = s.old; past = s.past; writers = with_writer s.writers q (cleared (s.writers q) p) })
    clear_keeps = leaves_keeps s q p (cleared (s.writers q) p) number docs sound cleared_out undoes

-- what has nothing left in the documents ends
module _ (s : Core) (d : Draw) (sound : Sound s) (may : MayDrop s d) where
  abbrev o : Revision
  o = d.revision

  abbrev v : Writer
  v = record (s.writers o) { written = []; due = []; undoing = true }

  free : (x : Path) → IsFreeAt s.docs o x
  free x = ((λ m h. not_both (marked (s.docs x) o m) h (may.cleared.marks x m)), (λ h. not_both (is_some (root_entry (s.docs x) o)) h (may.cleared.roots x)))

  -- nothing changes
  unchanged : Undoes s.docs s.docs [] o
  unchanged = record {
    ordered = λ x h. h;
    keeps = λ x y m h. inr h;
    only = λ x y m h. h;
    gone = (free []).0;
    keeps_notes = λ x y h. inr h;
    only_notes = λ x y h. h;
    collisions = λ x y. refl;
    keeps_roots = λ x y root h. inr h;
    only_roots = λ x y h. h;
    gone_root = (free []).1;
  }

  once_left : (xs left : List Path) → Once (xs ++ left) → Once left
  once_left [] left once = once
  once_left (x ∷ xs) left once = once_left xs left once.1

  dropped_out : LeavesOut s s.docs o [] v
  dropped_out = record {
    drawn = rw may.dead.draw refl;
    uncommitted = may.dead.uncommitted;
    other = sound.new d.revision (rw may.dead.draw refl);
    undoing = refl;
    due = λ f h. absurd h;
    fewer = λ x h. absurd h;
    gone = λ h. h;
    left = λ x h. inl (free x);
    once = once_left (s.writers o).written (s.writers o).left (sound.once o);
    listed = λ on. not_both (is_stopped s.past o.cluster) may.dead.stopped on;
    turned = inr (inr may.dead.stopped);
    ended = λ h. refl;
  }

  pub drop_keeps : Sound (after_drop s d)
  drop_keeps = finish_keeps (left_out s o [] v s.number s.docs) d (leaves_keeps s o [] v s.number s.docs sound dropped_out unchanged)
      (record { draw = may.dead.draw; unended = may.unended; done = inr (ap (λ (x : Writer). x.undoing) (writer_mine s.writers o v), ap (λ (x : Writer). x.written) (writer_mine s.writers o v)) })
