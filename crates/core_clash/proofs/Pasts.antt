-- What stays while events are added.
use Rattle.std.proofs.Common.{◌≡◌, Bool, true, false, cond, ◌||◌, not, Some, None, Option, [], ◌∷◌, refl, ap, ◌∙◌, is_some}
use mathlib.Core.Bool.{false≢true}
use Rattle.jr_path.specs.declared.path.Item.{Item}
use Rattle.jr_rev.specs.declared.revision.Revision.{Revision}
use Rattle.jr_rev.specs.Revisions.{is_same}
use Rattle.oak_clash.specs.declared.mark.MarkAt.{MarkAt}
use Rattle.std.specs.Option.{option_map_or}
use Rattle.oak_machine.specs.declared.event.Draw.{Draw}
use Rattle.oak_machine.specs.declared.event.Event.{Event}
use Rattle.oak_machine.specs.declared.event.Event.TheVariants as event
use Rattle.oak_machine.specs.History.{Past}
use Rattle.oak_machine.specs.Commits.{draw_of, marks_of, is_drawn, is_committed, is_ended, is_in_flight, is_refused, refusal_of}
use Rattle.oak_machine.specs.Runs.{was_live_beside}
use Rattle.oak_commit.specs.Clashing.{Met}
use Rattle.core_clash.specs.Views.{In}
use Rattle.core_clash.specs.Sound.{Cause, IsMarkDue}
use Rattle.core_clash.proofs.Basics.{or_left, or_right, and_true, and_both}

-- a later draw hides no earlier one
pub still_drawn : (b : Bool) (d : Draw) (past : Past) (r : Revision) → is_drawn past r ≡ true → is_some (cond b (Some d) (draw_of past r)) ≡ true
still_drawn true d past r h = refl
still_drawn false d past r h = h

-- who has marks is drawn
pub marks_drawn : (past : Past) (r : Revision) (x : MarkAt) → In x (marks_of past r) → is_drawn past r ≡ true
marks_drawn past r x h = by (draw_of past r) h
  where
    by : (d : Option Draw) → In x (option_map_or (λ d. d.marks) d []) → is_some d ≡ true
    by None h = absurd h
    by (Some d) h = refl

pub live_drawn : (past : Past) (r o : Revision) → was_live_beside past r o ≡ true → is_drawn past r ≡ true
live_drawn [] r o h = absurd (false≢true h)
live_drawn (e ∷ past) r o h = (and_both (is_drawn (e ∷ past) r) _ h).0

pub live_later : (e : Event) (past : Past) (r o : Revision) → draw_of (e ∷ past) r ≡ draw_of past r → was_live_beside past r o ≡ true → was_live_beside (e ∷ past) r o ≡ true
live_later e past r o k h =
    and_true (is_drawn (e ∷ past) r) _ (ap (λ (d : Option Draw). is_some d) k ∙ live_drawn past r o h)
    (or_right (is_committed (e ∷ past) o || is_in_flight (e ∷ past) o) _ h)

-- who is drawn or committed and in flight now, is live beside a drawn one
pub live_now : (e : Event) (past : Past) (r o : Revision) → is_drawn (e ∷ past) r ≡ true → (is_committed (e ∷ past) o || is_in_flight (e ∷ past) o) ≡ true → was_live_beside (e ∷ past) r o ≡ true
live_now e past r o drawn h = and_true (is_drawn (e ∷ past) r) _ drawn (or_left (is_committed (e ∷ past) o || is_in_flight (e ∷ past) o) _ h)

abbrev pub KeepsDraw : Event → Past → Revision → Type 0
KeepsDraw e past r = draw_of (e ∷ past) r ≡ draw_of past r

pub cause_later : (e : Event) (past : Past) (r : Revision) (item : Item) (o : Revision) → KeepsDraw e past r → KeepsDraw e past o → Cause past r item o → Cause (e ∷ past) r item o
cause_later e past r item o kr ko c = record { another = c.another; other = rw ko c.other; met = rw (kr, ko) c.met; outside = rw kr c.outside; live = live_later e past r o kr c.live }

-- what is refused is refused for something
pub refused_for : (past : Past) (r : Revision) → is_refused past r ≡ true → (c : Item × Revision) × (refusal_of past r ≡ Some c)
refused_for [] r h = absurd (false≢true h)
refused_for (event.Refuse q item o ∷ past) r h = by (is_same r q) (refused_for past r) h
  where
    by : (b : Bool) → (is_refused past r ≡ true → (c : Item × Revision) × (refusal_of past r ≡ Some c)) → (b || is_refused past r) ≡ true → (c : Item × Revision) × (cond b (Some (item, o)) (refusal_of past r) ≡ Some c)
    by true rest k = ((item, o), refl)
    by false rest k = rest k
refused_for (e ∷ past) r h = refused_for past r h

pub due_later : (e : Event) (past : Past) (r : Revision) (f : Met) → KeepsDraw e past r → KeepsDraw e past f.other → IsMarkDue past r f → IsMarkDue (e ∷ past) r f
due_later e past r f kr ko c = record { cause = cause_later e past r f.mine f.other kr ko c.cause; theirs = rw (kr, ko) c.theirs }

pub in_flight : (past : Past) (r : Revision) (d : Draw) → draw_of past r ≡ Some d → is_ended past r ≡ false → is_in_flight past r ≡ true
in_flight past r d draw unended = and_true (is_drawn past r) _ (ap (λ (o : Option Draw). is_some o) draw) (ap (λ b. not b) unended)
