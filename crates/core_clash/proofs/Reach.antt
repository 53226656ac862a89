-- What holds of all that can be reached.
use Rattle.std.proofs.Common.{◌≡◌, ℕ, ◌+◌, Bool, true, false, ◌||◌, ◌⊎◌, inl, inr, Some, Option, Ok, Err, Result, List, [], refl, sym, ap, subst, ◌∙◌, is_some}
use mathlib.Core.Bool.{false≢true}
use Rattle.jr_path.specs.declared.path.Item.{Item}
use Rattle.jr_path.specs.declared.path.Path.{Path}
use Rattle.jr_rev.specs.declared.revision.Revision.{Revision}
use Rattle.oak_doc.specs.declared.document.Document.{Document}
use Rattle.oak_doc.specs.declared.update.OpFault.{OpFault}
use Rattle.oak_doc.specs.declared.update.OpFault.TheVariants as fault
use Rattle.oak_doc.specs.declared.update.Kept.TheVariants as kept
use Rattle.oak_doc.specs.declared.update.Cond.TheVariants.{NoCollision}
use Rattle.oak_doc.specs.Updates.{updated, after_changes}
use Rattle.oak_machine.specs.declared.event.Draw.{Draw}
use Rattle.oak_machine.specs.declared.event.Event.{Event}
use Rattle.oak_machine.specs.declared.event.Event.TheVariants as event
use Rattle.oak_commit.specs.Writing.{last_op}
use Rattle.oak_commit.specs.Clashing.{Met, marked, noted, collision, mark_op}
use Rattle.oak_machine.specs.Commits.{marks_of}
use Rattle.oak_clash.specs.declared.mark.Mark.{Mark}
use Rattle.core_clash.proofs.Basics.{or_cases}
use Rattle.core_read.specs.Commits.{Sight}
use Rattle.core_clash.specs.Core.{Core, Docs, Moved, root_of, MayMark, MayLast, core_after_mark, core_last, core_marked, core_lasted, after_event, is_quiet}
use Rattle.core_clash.specs.Sound.{Sound, marked_in}
use Rattle.core_clash.specs.Steps.{Step, draw, write, mark, last, want, undo, finish, bound, prune, remove, split, clear, dropped, other, IsCoreStart, at_start, Reached, begun, more, EndsWell}
use Rattle.core_clash.proofs.Pasts.{in_flight}
use Rattle.core_clash.proofs.Updates.{mark_is, last_is}
use Rattle.core_clash.proofs.Undoing.{undoes}
use Rattle.core_clash.proofs.Drawn.{draw_keeps}
use Rattle.core_clash.proofs.Dropped.{bound_keeps, prune_drops, remove_drops, split_drops}
use Rattle.core_clash.proofs.Wanted.{want_keeps}
use Rattle.core_clash.proofs.Undone.{clear_keeps, drop_keeps, undo_keeps}
use Rattle.core_clash.proofs.Finished.{finish_keeps, event_keeps}
use Rattle.core_clash.proofs.Steps.{write_step, mark_step, last_step, may_commit, may_refuse_at_mark, may_refuse_at_last}

never : {A : Type 0} → false ≡ true → A
never h = absurd (false≢true h)

start_sound : (old : Sight) (number : ℕ) (docs : Docs) (moved : Moved) → IsCoreStart old docs moved → Sound (at_start old number docs moved)
start_sound old number docs moved is = record {
  ordered = is.ordered;
  committed_drawn = λ r h. never h;
  refused_drawn = λ r h. never h;
  ended_drawn = λ r h. never h;
  settled = λ r o h. never h;
  start = λ r h. never h;
  new = λ r h. never h;
  bounds = record { settled = λ o h. never h; below = λ r o h k. never h; swept = λ o h. never h };
  moved = λ r p m h. inl (is.listed p r m h);
  entries = λ r p m free h k. absurd h;
  origin = λ r p m h. inl (there p r m h);
  edits = λ r d h. never (ap (λ (x : Option Draw). is_some x) h);
  rooted = λ r p m fresh other h. never (sym other ∙ there p r m h);
  unrooted = λ r p h. inl (is.roots p r h);
  once = λ r. tt;
  listed = λ r on. record { gone = []; all = refl; none = λ h. refl };
  stopped = λ r h. never h;
  refusal = λ r item o h. never (ap (λ (x : Option (Item × Revision)). is_some x) h);
  covered = λ r p m h g. absurd h;
  refused = λ r h. never h;
  ended = λ r h. never h;
  due = λ r f h. absurd h;
  caused = λ p r o item h. never (ap (λ (x : Option (Revision × Item)). is_some x) (sym (is.collisions p r) ∙ h));
  status = λ r fresh h. never h;
  only_committed = λ p r h. inl (is.notes p r h);
  whole = λ r h. never h;
  unmarked = λ r h. never h;
  noticed = λ r o p m n apart sr so c. absurd sr.written;
}
  where
    there : (p : Path) (r : Revision) (m : Mark) → marked_in (docs p) (moved p) r m ≡ true → old r ≡ true
    there p r m h = elim (or_cases (marked (docs p) r m) _ h) [ inl k ↦ is.marks p r m k | inr k ↦ is.listed p r m k ]

    only : (b : Bool) → (b || false) ≡ true → b ≡ true
    only true h = refl
    only false h = never h

step_sound : {s t : Core} → Step s t → Sound s → Sound t
step_sound {s} (draw d left may above) sound = draw_keeps s d left sound may above
step_sound {s} (write d p rest may) sound = write_step s d p rest sound may
step_sound {s} (mark d f rest may) sound = mark_step s d f rest sound may
step_sound {s} (last d may) sound = last_step s d sound may
step_sound {s} (want d going) sound = want_keeps s d sound going
step_sound {s} (undo d p rest may) sound = undo_keeps s d p rest (s.number + 1) _ sound may (undoes s.docs p d.revision (s.number + 1) (sound.ordered p))
step_sound {s} (finish d may) sound = finish_keeps s d sound may
step_sound {s} (bound m t may) sound = bound_keeps s m t sound may
step_sound {s} (prune e m t p old op keep quiet may) sound = event_keeps _ e quiet (prune_drops s m t p old op keep sound may (s.number + 1))
step_sound {s} (remove e m t p old quiet may) sound = event_keeps _ e quiet (remove_drops s m t p old sound may (s.number + 1))
step_sound {s} (split e read pin p old entry first quiet may) sound = event_keeps _ e quiet (split_drops s read pin p old entry first (s.number + 1) sound may)
step_sound {s} (clear e d p quiet dead) sound = event_keeps _ e quiet (clear_keeps s d sound dead p (s.number + 1) _ (undoes s.docs p d.revision (s.number + 1) (sound.ordered p)))
step_sound {s} (dropped d may) sound = drop_keeps s d sound may
step_sound {s} (other e quiet) sound = event_keeps s e quiet sound

pub reached_sound : (s : Core) → Reached s → Sound s
reached_sound s (begun old number docs moved is) = start_sound old number docs moved is
reached_sound t (more {s} reached one) = step_sound one (reached_sound s reached)

mark_ends : (s : Core) (d : Draw) (f : Met) (rest : List Met) → Sound s → MayMark s d f rest → EndsWell s.past → EndsWell (core_after_mark s d f rest).past
mark_ends s d f rest sound may well = by (mark_is (s.docs (root_of s.past f.other)) s.past d.revision f (s.number + 1))
  where
    by : ((noted (s.docs (root_of s.past f.other)) f.other ≡ false) × (updated (s.docs (root_of s.past f.other)) (mark_op (root_of s.past f.other) f.other d.revision f.theirs) (s.number + 1) ≡ Ok (after_changes (s.docs (root_of s.past f.other)) (mark_op (root_of s.past f.other) f.other d.revision f.theirs) (s.number + 1)))) ⊎ ((g : OpFault) × (updated (s.docs (root_of s.past f.other)) (mark_op (root_of s.past f.other) f.other d.revision f.theirs) (s.number + 1) ≡ Err g)) → EndsWell (core_after_mark s d f rest).past
    by (inl h) = subst (λ (x : Result Document OpFault). EndsWell (core_marked s d f rest x).past) (sym h.1) (tt, well)
    by (inr h) = subst (λ (x : Result Document OpFault). EndsWell (core_marked s d f rest x).past) (sym h.1) (may_refuse_at_mark s d f rest sound may, well)

last_ends : (s : Core) (d : Draw) → Sound s → MayLast s d → EndsWell s.past → EndsWell (core_last s d).past
last_ends s d sound may well = by (last_is (s.docs (root_of s.past d.revision)) s.past d.revision (s.number + 1))
  where
    by : ((is_some (collision (s.docs (root_of s.past d.revision)) d.revision) ≡ false) × (updated (s.docs (root_of s.past d.revision)) (last_op d.revision (marks_of s.past d.revision)) (s.number + 1) ≡ Ok (after_changes (s.docs (root_of s.past d.revision)) (last_op d.revision (marks_of s.past d.revision)) (s.number + 1)))) ⊎ ((e : Revision × Item) × (collision (s.docs (root_of s.past d.revision)) d.revision ≡ Some e) × (updated (s.docs (root_of s.past d.revision)) (last_op d.revision (marks_of s.past d.revision)) (s.number + 1) ≡ Err (fault.Unmet (NoCollision d.revision) (kept.Entry e.0 e.1)))) → EndsWell (core_last s d).past
    by (inl h) = subst (λ (x : Result Document OpFault). EndsWell (core_lasted s d x).past) (sym h.1) (may_commit s d sound may h.0, well)
    by (inr h) = subst (λ (x : Result Document OpFault). EndsWell (core_lasted s d x).past) (sym h.2) (may_refuse_at_last s d h.0.0 h.0.1 sound may h.1, well)

event_ends : (s : Core) (e : Event) → is_quiet e ≡ true → EndsWell s.past → EndsWell (after_event s e).past
event_ends s (event.Draw d) quiet well = never quiet
event_ends s (event.Commit r) quiet well = never quiet
event_ends s (event.Refuse r item o) quiet well = never quiet
event_ends s (event.End r) quiet well = never quiet
event_ends s (event.Bound m t) quiet well = never quiet
event_ends s e quiet well = (tt, well)

step_ends : {s t : Core} → Step s t → Sound s → EndsWell s.past → EndsWell t.past
step_ends {s} (draw d left may above) sound well = (tt, well)
step_ends {s} (write d p rest may) sound well = (tt, well)
step_ends {s} (mark d f rest may) sound well = mark_ends s d f rest sound may well
step_ends {s} (last d may) sound well = last_ends s d sound may well
step_ends {s} (want d going) sound well = well
step_ends {s} (undo d p rest may) sound well = (tt, well)
step_ends {s} (finish d may) sound well = (in_flight s.past d.revision d may.draw may.unended, well)
step_ends {s} (bound m t may) sound well = (tt, well)
step_ends {s} (prune e m t p old op keep quiet may) sound well = event_ends s e quiet well
step_ends {s} (remove e m t p old quiet may) sound well = event_ends s e quiet well
step_ends {s} (split e read pin p old entry first quiet may) sound well = event_ends s e quiet well
step_ends {s} (clear e d p quiet dead) sound well = event_ends s e quiet well
step_ends {s} (dropped d may) sound well = (in_flight s.past d.revision d may.dead.draw may.unended, well)
step_ends {s} (other e quiet) sound well = event_ends s e quiet well

-- each commit and each refusal of what can be reached may follow the events before it
pub reached_ends : (s : Core) → Reached s → EndsWell s.past
reached_ends s (begun old number docs moved is) = tt
reached_ends t (more {s} reached one) = step_ends one (reached_sound s reached) (reached_ends s reached)
