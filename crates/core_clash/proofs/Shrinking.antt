-- What is dead stays dead, and what is undone of it stays undone.
use Rattle.std.proofs.Common.{◌≡◌, ◌+◌, Bool, true, false, cond, ◌||◌, ◌⊎◌, inl, inr, Some, None, Option, Ok, Err, Result, List, [], ◌∷◌, ◌++◌, refl, sym, ap, subst, ◌∙◌, is_some}
use Rattle.jr_path.specs.declared.path.Path.{Path}
use Rattle.jr_rev.specs.declared.revision.Revision.{Revision}
use Rattle.jr_rev.specs.Revisions.{is_same}
use Rattle.oak_clash.specs.declared.mark.Mark.{Mark}
use Rattle.oak_doc.specs.declared.document.Document.{Document}
use Rattle.oak_doc.specs.declared.update.OpFault.{OpFault}
use Rattle.oak_doc.specs.declared.update.OpFault.TheVariants as fault
use Rattle.oak_doc.specs.declared.update.Kept.TheVariants as kept
use Rattle.oak_doc.specs.Updates.{updated}
use Rattle.oak_machine.specs.declared.event.Draw.{Draw}
use Rattle.oak_machine.specs.declared.event.Event.{Event}
use Rattle.oak_machine.specs.declared.event.Event.TheVariants as event
use Rattle.oak_machine.specs.History.{Past}
use Rattle.oak_machine.specs.Commits.{draw_of, is_committed, is_drawn}
use Rattle.oak_machine.specs.Sessions.{is_stopped}
use Rattle.oak_commit.specs.Clashing.{Met, Writer, mark_op, marked, noted}
use Rattle.oak_commit.specs.Writing.{last_op}
use Rattle.oak_machine.specs.Commits.{marks_of}
use Rattle.core_read.specs.Holds.{root_entry}
use Rattle.core_keep.specs.Journal.{is_swept}
use Rattle.core_clash.specs.Views.{In}
use Rattle.core_clash.specs.Core.{Core, IsDead, core_cleared, cleared, is_path, is_quiet, core_lasted, core_marked, root_of, with_writer}
use Rattle.core_clash.specs.Sound.{IsOf, IsWriterOf, Sound, marked_in}
use Rattle.core_clash.specs.Steps.{IsUndoneAt, Step}
use Rattle.core_clash.specs.Steps.Step.{draw, write, mark, last, want, undo, finish, bound, prune, remove, split, clear, dropped, other}
use Rattle.core_clash.proofs.Basics.{at_writer, decide, is_path_self, not_both, or_left, or_right, other_revision, writer_mine}
use Rattle.core_clash.proofs.Undone.{without_in}

never : {A : Type 0} → false ≡ true → A
never h = not_both true refl (sym h)

-- ---- what is written

-- a change of one writer, which writes nothing more
fewer : (s : Core) (o : Revision) (w : Writer) (r : Revision) (p : Path) → (In p w.written → In p (s.writers o).written) → In p (with_writer s.writers o w r).written → In p (s.writers r).written
fewer s o w r p h = at_writer (λ x v. In p v.written → In p (s.writers x).written) s.writers o w r h (λ f i. i)

-- a change of the writer of another cluster node's revision
elsewhere : (s : Core) (o : Revision) (w : Writer) (r : Revision) (p : Path) → is_stopped s.past o.cluster ≡ false → is_stopped s.past r.cluster ≡ true → In p (with_writer s.writers o w r).written → In p (s.writers r).written
elsewhere s o w r p running stopped = at_writer (λ x v. is_stopped s.past x.cluster ≡ true → In p v.written → In p (s.writers x).written) s.writers o w r (λ t i. not_both (is_stopped s.past o.cluster) t running) (λ f t i. i) stopped

marked_fewer : (s : Core) (d : Draw) (f : Met) (rest : List Met) (x : Result Document OpFault) (r : Revision) (p : Path) → In p ((core_marked s d f rest x).writers r).written → In p (s.writers r).written
marked_fewer s d f rest (Ok doc) r p = fewer s d.revision _ r p (λ i. i)
marked_fewer s d f rest (Err g) r p = fewer s d.revision _ r p (λ i. i)

lasted_fewer : (s : Core) (d : Draw) (x : Result Document OpFault) (r : Revision) (p : Path) → In p ((core_lasted s d x).writers r).written → In p (s.writers r).written
lasted_fewer s d (Ok doc) r p i = i
lasted_fewer s d (Err (fault.Unmet c (kept.Entry o item))) r p i = fewer s d.revision _ r p (λ i. i) i
lasted_fewer s d (Err (fault.Unmet c (kept.Number n))) r p i = i
lasted_fewer s d (Err (fault.Unmet c kept.Nothing)) r p i = i
lasted_fewer s d (Err fault.Absent) r p i = i
lasted_fewer s d (Err fault.Memory) r p i = i

pub shrinks : {s t : Core} → Step s t → (r : Revision) → is_stopped s.past r.cluster ≡ true → (p : Path) → In p (t.writers r).written → In p (s.writers r).written
shrinks {s} (draw d left may above) r stopped p = fewer s d.revision _ r p (λ i. absurd i)
shrinks {s} (write d q rest may) r stopped p = elsewhere s d.revision _ r p may.going.running stopped
shrinks {s} (mark d f rest may) r stopped p = marked_fewer s d f rest (updated (s.docs (root_of s.past f.other)) (mark_op (root_of s.past f.other) f.other d.revision f.theirs) (s.number + 1)) r p
shrinks {s} (last d may) r stopped p = lasted_fewer s d (updated (s.docs (root_of s.past d.revision)) (last_op d.revision (marks_of s.past d.revision)) (s.number + 1)) r p
shrinks {s} (want d going) r stopped p = fewer s d.revision _ r p (λ i. i)
shrinks {s} (undo d q rest may) r stopped p = fewer s d.revision _ r p (λ i. subst (λ (ps : List Path). In p ps) (sym may.next) (inr i))
shrinks {s} (finish d may) r stopped p = λ i. i
shrinks {s} (bound m v may) r stopped p = λ i. i
shrinks {s} (prune e m v q old op keep quiet may) r stopped p = λ i. i
shrinks {s} (remove e m v q old quiet may) r stopped p = λ i. i
shrinks {s} (split e read pin q old entry first quiet may) r stopped p = λ i. i
shrinks {s} (clear e d q quiet dead) r stopped p = fewer s d.revision _ r p (λ i. (without_in q p (s.writers d.revision).written i).0)
shrinks {s} (dropped d may) r stopped p = fewer s d.revision _ r p (λ i. absurd i)
shrinks {s} (other e quiet) r stopped p = λ i. i

-- ---- what is dead

-- an event that leaves it dead
pub record IsKeptDead (past : Past) (d : Draw) (e : Event) : Type 0 where
  pub draw : draw_of (e ∷ past) d.revision ≡ draw_of past d.revision
  pub commits : is_committed (e ∷ past) d.revision ≡ is_committed past d.revision
  pub stays : is_stopped past d.revision.cluster ≡ true → is_stopped (e ∷ past) d.revision.cluster ≡ true

with_event : (past : Past) (d : Draw) (e : Event) → IsKeptDead past d e → IsDead past d → IsDead (e ∷ past) d
with_event past d e keeps dead = record { stopped = keeps.stays dead.stopped; draw = keeps.draw ∙ dead.draw; uncommitted = keeps.commits ∙ dead.uncommitted }

-- one of another revision
kept_by : (past : Past) (d : Draw) (e : Event) → is_quiet e ≡ true → IsKeptDead past d e
kept_by past d (event.Draw f) quiet = never quiet
kept_by past d (event.Commit r) quiet = never quiet
kept_by past d (event.Refuse r item o) quiet = never quiet
kept_by past d (event.End r) quiet = never quiet
kept_by past d (event.Bound m t) quiet = never quiet
kept_by past d (event.Stop k) quiet = record { draw = refl; commits = refl; stays = λ h. or_right _ _ h }
kept_by past d (event.Login s v) quiet = record { draw = refl; commits = refl; stays = λ h. h }
kept_by past d (event.Refresh s v) quiet = record { draw = refl; commits = refl; stays = λ h. h }
kept_by past d (event.Head k v) quiet = record { draw = refl; commits = refl; stays = λ h. h }
kept_by past d (event.Out k r) quiet = record { draw = refl; commits = refl; stays = λ h. h }
kept_by past d (event.In k v) quiet = record { draw = refl; commits = refl; stays = λ h. h }
kept_by past d (event.Sweep k r) quiet = record { draw = refl; commits = refl; stays = λ h. h }
kept_by past d (event.Checkpoint i v) quiet = record { draw = refl; commits = refl; stays = λ h. h }
kept_by past d (event.Attach s i) quiet = record { draw = refl; commits = refl; stays = λ h. h }
kept_by past d (event.Detach s) quiet = record { draw = refl; commits = refl; stays = λ h. h }
kept_by past d (event.Release i) quiet = record { draw = refl; commits = refl; stays = λ h. h }
kept_by past d (event.Split s path e) quiet = record { draw = refl; commits = refl; stays = λ h. h }
kept_by past d (event.Collected s c) quiet = record { draw = refl; commits = refl; stays = λ h. h }
kept_by past d (event.Went s k) quiet = record { draw = refl; commits = refl; stays = λ h. h }
kept_by past d (event.Said s i text) quiet = record { draw = refl; commits = refl; stays = λ h. h }
kept_by past d (event.Recover k) quiet = record { draw = refl; commits = refl; stays = λ h. h }

refused_dead : (past : Past) (d : Draw) (e : Event) → draw_of (e ∷ past) d.revision ≡ draw_of past d.revision → is_committed (e ∷ past) d.revision ≡ is_committed past d.revision → is_stopped (e ∷ past) d.revision.cluster ≡ is_stopped past d.revision.cluster → IsDead past d → IsDead (e ∷ past) d
refused_dead past d e draws commits stops = with_event past d e (record { draw = draws; commits = commits; stays = λ h. stops ∙ h })

marked_dead : (s : Core) (f : Draw) (g : Met) (rest : List Met) (x : Result Document OpFault) (d : Draw) → IsDead s.past d → IsDead (core_marked s f g rest x).past d
marked_dead s f g rest (Ok doc) d = refused_dead s.past d _ refl refl refl
marked_dead s f g rest (Err y) d = refused_dead s.past d _ refl refl refl

lasted_dead : (s : Core) (f : Draw) → is_stopped s.past f.revision.cluster ≡ false → (x : Result Document OpFault) (d : Draw) → IsDead s.past d → IsDead (core_lasted s f x).past d
lasted_dead s f running (Ok doc) d dead = refused_dead s.past d (event.Commit f.revision) refl (ap (λ b. b || is_committed s.past d.revision) (apart (decide d.revision f.revision))) refl dead
  where
    apart : (d.revision ≡ f.revision) ⊎ (is_same d.revision f.revision ≡ false) → is_same d.revision f.revision ≡ false
    apart (inl e) = not_both (is_stopped s.past d.revision.cluster) dead.stopped (subst (λ (r : Revision). is_stopped s.past r.cluster ≡ false) (sym e) running)
    apart (inr n) = n
lasted_dead s f running (Err (fault.Unmet c (kept.Entry o item))) d dead = refused_dead s.past d (event.Refuse f.revision item o) refl refl refl dead
lasted_dead s f running (Err (fault.Unmet c (kept.Number n))) d dead = dead
lasted_dead s f running (Err (fault.Unmet c kept.Nothing)) d dead = dead
lasted_dead s f running (Err fault.Absent) d dead = dead
lasted_dead s f running (Err fault.Memory) d dead = dead

-- another draw
drawn_dead : (past : Past) (f d : Draw) → is_drawn past f.revision ≡ false → IsDead past d → IsDead (event.Draw f ∷ past) d
drawn_dead past f d fresh dead = refused_dead past d (event.Draw f) (by (decide d.revision f.revision)) refl refl dead
  where
    by : (d.revision ≡ f.revision) ⊎ (is_same d.revision f.revision ≡ false) → draw_of (event.Draw f ∷ past) d.revision ≡ draw_of past d.revision
    by (inl e) = not_both (is_drawn past d.revision) (ap (λ (o : Option Draw). is_some o) dead.draw) (subst (λ (r : Revision). is_drawn past r ≡ false) (sym e) fresh)
    by (inr n) = ap (λ b. cond b (Some f) (draw_of past d.revision)) n

pub stays_dead : {s t : Core} → Step s t → (d : Draw) → IsDead s.past d → IsDead t.past d
stays_dead {s} (draw f left may above) d dead = drawn_dead s.past f d may.begins.fresh dead
stays_dead {s} (write f q rest may) d dead = refused_dead s.past d _ refl refl refl dead
stays_dead {s} (mark f g rest may) d dead = marked_dead s f g rest (updated (s.docs (root_of s.past g.other)) (mark_op (root_of s.past g.other) g.other f.revision g.theirs) (s.number + 1)) d dead
stays_dead {s} (last f may) d dead = lasted_dead s f may.going.running (updated (s.docs (root_of s.past f.revision)) (last_op f.revision (marks_of s.past f.revision)) (s.number + 1)) d dead
stays_dead {s} (want f going) d dead = dead
stays_dead {s} (undo f q rest may) d dead = refused_dead s.past d _ refl refl refl dead
stays_dead {s} (finish f may) d dead = refused_dead s.past d _ refl refl refl dead
stays_dead {s} (bound m v may) d dead = refused_dead s.past d _ refl refl refl dead
stays_dead {s} (prune e m v q old op keep quiet may) d dead = with_event s.past d e (kept_by s.past d e quiet) dead
stays_dead {s} (remove e m v q old quiet may) d dead = with_event s.past d e (kept_by s.past d e quiet) dead
stays_dead {s} (split e read pin q old entry first quiet may) d dead = with_event s.past d e (kept_by s.past d e quiet) dead
stays_dead {s} (clear e f q quiet is) d dead = with_event s.past d e (kept_by s.past d e quiet) dead
stays_dead {s} (dropped f may) d dead = refused_dead s.past d _ refl refl refl dead
stays_dead {s} (other e quiet) d dead = with_event s.past d e (kept_by s.past d e quiet) dead

-- ---- what is undone

pub undone_begins : (s : Core) (e : Event) (d : Draw) (p : Path) → IsUndoneAt (core_cleared s e d p) d.revision p
undone_begins s e d p h = not_both (is_path p p) (is_path_self p) (without_in p p (s.writers d.revision).written (subst (λ (w : Writer). In p w.written) (writer_mine s.writers d.revision (cleared (s.writers d.revision) p)) h)).1

pub undone_stays : {s t : Core} → Step s t → (r : Revision) (p : Path) → is_stopped s.past r.cluster ≡ true → IsUndoneAt s r p → IsUndoneAt t r p
undone_stays one r p stopped free h = free (shrinks one r stopped p h)

module _ (s : Core) (sound : Sound s) (d : Draw) (dead : IsDead s.past d) (p : Path) (free : IsUndoneAt s d.revision p) where
  -- what was drawn wasn't there from the beginning
  not_old : s.old d.revision ≡ true → ⊥
  not_old e = not_both (s.old d.revision) e (sound.new d.revision (rw dead.draw refl))

  none_of : (m : Mark) → IsOf s p d.revision m → ⊥
  none_of m (inl e) = not_old e
  none_of m (inr h) = free h.0

  no_writer : IsWriterOf s p d.revision → ⊥
  no_writer (inl e) = not_old e
  no_writer (inr h) = free h.0

  pub undone_marks : (m : Mark) → marked (s.docs p) d.revision m ≡ false
  undone_marks m = by (marked (s.docs p) d.revision m) refl
    where
      by : (b : Bool) → marked (s.docs p) d.revision m ≡ b → b ≡ false
      by true h = absurd (none_of m (sound.origin d.revision p m (or_left _ _ h)))
      by false h = refl

  pub undone_roots : is_some (root_entry (s.docs p) d.revision) ≡ false
  undone_roots = by (is_some (root_entry (s.docs p) d.revision)) refl
    where
      by : (b : Bool) → is_some (root_entry (s.docs p) d.revision) ≡ b → b ≡ false
      by true h = absurd (no_writer (sound.unrooted d.revision p h))
      by false h = refl

-- ---- statuses

module _ (s : Core) (sound : Sound s) (r : Revision) (unswept : is_swept s.past r ≡ false) (later : s.old r ≡ false) where
  committed : (s.old r ≡ true) ⊎ (is_committed s.past r ≡ true) → is_committed s.past r ≡ true
  committed (inl e) = not_both (s.old r) e later
  committed (inr h) = h

  pub status_is : noted (s.docs (root_of s.past r)) r ≡ is_committed s.past r
  status_is = by (noted (s.docs (root_of s.past r)) r) refl (is_committed s.past r) refl
    where
      by : (b : Bool) → noted (s.docs (root_of s.past r)) r ≡ b → (c : Bool) → is_committed s.past r ≡ c → b ≡ c
      by true h true k = refl
      by false h false k = refl
      by true h false k = not_both (is_committed s.past r) (committed (sound.only_committed (root_of s.past r) r h)) k
      by false h true k = not_both (noted (s.docs (root_of s.past r)) r) (sound.status r unswept k) h
