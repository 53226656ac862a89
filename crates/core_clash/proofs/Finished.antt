-- An end keeps what holds, and any event that no step of a commit appends.
use Rattle.std.proofs.Common.{◌≡◌, Bool, true, false, not, ◌||◌, ◌&&◌, ◌⊎◌, ◌∷◌, inl, inr, refl, sym, subst}
use mathlib.Core.Bool.{false≢true}
use Rattle.jr_rev.specs.declared.revision.Revision.{Revision}
use Rattle.jr_rev.specs.Revisions.{is_same}
use Rattle.oak_machine.specs.declared.event.Draw.{Draw}
use Rattle.oak_machine.specs.declared.event.Event.{Event}
use Rattle.oak_machine.specs.declared.event.Event.TheVariants as event
use Rattle.oak_machine.specs.Commits.{is_drawn, is_ended}
use Rattle.oak_machine.specs.Sessions.{is_stopped}
use Rattle.std.specs.Prelude.{◌==◌}
use Rattle.core_clash.specs.Core.{Core, IsDone, MayFinish, core_finished, after_event, is_quiet}
use Rattle.core_clash.specs.Sound.{Sound, TurnedToUndo}
use Rattle.core_clash.proofs.Basics.{same_revision, or_cases, or_right}
use Rattle.core_clash.proofs.Pasts.{cause_later, due_later}

module _ (s : Core) (d : Draw) where
  abbrev r : Revision
  r = d.revision

  abbrev pub t : Core
  t = core_finished s d

  module _ (sound : Sound s) (may : MayFinish s d) where
    of_ended : (P : Revision → Type 0) → P r → ((o : Revision) → is_ended s.past o ≡ true → P o) → (o : Revision) → is_ended t.past o ≡ true → P o
    of_ended P here there o h = by (or_cases (is_same o r) _ h)
      where
        by : (is_same o r ≡ true) ⊎ (is_ended s.past o ≡ true) → P o
        by (inl e) = subst P (sym (same_revision o r e)) here
        by (inr h) = there o h

    flew : (a b c : Bool) → (a && not (b || c)) ≡ true → (a && not c) ≡ true
    flew true false c h = h
    flew true true c h = absurd (false≢true h)
    flew false b c h = absurd (false≢true h)

    pub finish_keeps : Sound t
    finish_keeps = record {
      ordered = sound.ordered;
      committed_drawn = sound.committed_drawn;
      refused_drawn = sound.refused_drawn;
      ended_drawn = of_ended (λ o. is_drawn s.past o ≡ true) (rw may.draw refl) sound.ended_drawn;
      settled = λ a o h. sound.settled a o (flew (is_drawn s.past o) (is_same o r) (is_ended s.past o) h);
      start = sound.start;
      new = sound.new;
      bounds = record { settled = λ o h. sound.bounds.settled o (flew (is_drawn s.past o) (is_same o r) (is_ended s.past o) h); below = λ a o h. sound.bounds.below a o (flew (is_drawn s.past a) (is_same a r) (is_ended s.past a) h); swept = sound.bounds.swept };
      moved = sound.moved;
      entries = sound.entries;
      origin = sound.origin;
      edits = sound.edits;
      rooted = sound.rooted;
      unrooted = sound.unrooted;
      once = sound.once;
      listed = sound.listed;
      stopped = sound.stopped;
      refusal = λ o item x h. cause_later _ s.past o item x refl refl (sound.refusal o item x h);
      covered = sound.covered;
      refused = sound.refused;
      ended = of_ended (IsDone s) may.done sound.ended;
      due = λ o f h. due_later _ s.past o f refl refl (sound.due o f h);
      caused = λ q x o i h. cause_later _ s.past x i o refl refl (sound.caused q x o i h);
      status = sound.status;
      only_committed = sound.only_committed;
      whole = sound.whole;
      unmarked = sound.unmarked;
      noticed = λ a o q m n apart sa so c. sound.noticed a o q m n apart (record { written = sa.written; going = sa.going; mark = sa.mark }) (record { written = so.written; going = so.going; mark = so.mark }) c;
    }

-- an event that no step of a commit appends keeps what holds
pub event_keeps : (s : Core) (e : Event) → is_quiet e ≡ true → Sound s → Sound (after_event s e)
event_keeps s (event.Draw d) q sound = absurd (false≢true q)
event_keeps s (event.Commit r) q sound = absurd (false≢true q)
event_keeps s (event.Refuse r item o) q sound = absurd (false≢true q)
event_keeps s (event.End r) q sound = absurd (false≢true q)
event_keeps s (event.Bound m t) q sound = absurd (false≢true q)
event_keeps s (event.Stop k) q sound = record {
  ordered = sound.ordered;
  committed_drawn = sound.committed_drawn;
  refused_drawn = sound.refused_drawn;
  ended_drawn = sound.ended_drawn;
  settled = sound.settled;
  start = sound.start;
  new = sound.new;
  bounds = record { settled = sound.bounds.settled; below = sound.bounds.below; swept = sound.bounds.swept };
  moved = sound.moved;
  entries = sound.entries;
  origin = sound.origin;
  edits = sound.edits;
  rooted = sound.rooted;
  unrooted = sound.unrooted;
  once = sound.once;
  listed = λ o on. sound.listed o (goes_on (k == o.cluster) _ on);
  stopped = λ o h. turned o (sound.stopped o h);
  refusal = λ o item x h. cause_later _ s.past o item x refl refl (sound.refusal o item x h);
  covered = sound.covered;
  refused = sound.refused;
  ended = sound.ended;
  due = λ o f h. due_later _ s.past o f refl refl (sound.due o f h);
  caused = λ p x o i h. cause_later _ s.past x i o refl refl (sound.caused p x o i h);
  status = sound.status;
  only_committed = sound.only_committed;
  whole = sound.whole;
  unmarked = sound.unmarked;
  noticed = λ a o p m n apart sa so c. sound.noticed a o p m n apart (record { written = sa.written; going = sa.going; mark = sa.mark }) (record { written = so.written; going = so.going; mark = so.mark }) c;
}
  where
    goes_on : (a b : Bool) → (a || b) ≡ false → b ≡ false
    goes_on true b h = absurd (false≢true (sym h))
    goes_on false b h = h

    turned : (o : Revision) → TurnedToUndo s.past o (s.writers o) → TurnedToUndo (event.Stop k ∷ s.past) o (s.writers o)
    turned o (inl h) = inl h
    turned o (inr (inl h)) = inr (inl h)
    turned o (inr (inr h)) = inr (inr (or_right (k == o.cluster) (is_stopped s.past o.cluster) h))
event_keeps s e q sound = record {
  ordered = sound.ordered;
  committed_drawn = sound.committed_drawn;
  refused_drawn = sound.refused_drawn;
  ended_drawn = sound.ended_drawn;
  settled = sound.settled;
  start = sound.start;
  new = sound.new;
  bounds = record { settled = sound.bounds.settled; below = sound.bounds.below; swept = sound.bounds.swept };
  moved = sound.moved;
  entries = sound.entries;
  origin = sound.origin;
  edits = sound.edits;
  rooted = sound.rooted;
  unrooted = sound.unrooted;
  once = sound.once;
  listed = sound.listed;
  stopped = sound.stopped;
  refusal = λ o item x h. cause_later _ s.past o item x refl refl (sound.refusal o item x h);
  covered = sound.covered;
  refused = sound.refused;
  ended = sound.ended;
  due = λ o f h. due_later _ s.past o f refl refl (sound.due o f h);
  caused = λ p x o i h. cause_later _ s.past x i o refl refl (sound.caused p x o i h);
  status = sound.status;
  only_committed = sound.only_committed;
  whole = sound.whole;
  unmarked = sound.unmarked;
  noticed = λ a o p m n apart sa so c. sound.noticed a o p m n apart (record { written = sa.written; going = sa.going; mark = sa.mark }) (record { written = so.written; going = so.going; mark = so.mark }) c;
}
