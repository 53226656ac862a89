-- What lets readers at each held pin read on lets readers of changes do so: documents that change, a Commit, and each other event.
use Rattle.std.proofs.Common.{◌≡◌, Bool, true, false, cond, Some, None, List, ◌∷◌, refl, sym, ap, ◌∙◌, is_some}
use Rattle.std.specs.Option.{option_map_or}
use Rattle.std.specs.Ordering.{is_eq, eq_by_cmp}
use Rattle.std.specs.Cmp.{tied_itself}
use mathlib.Core.Bool.{false≢true}
use Rattle.jr_rev.specs.declared.revision.Revision.{Revision}
use Rattle.jr_rev.specs.declared.vector.RevVec.{RevVec}
use Rattle.jr_rev.specs.declared.vector.Pin.{Pin}
use Rattle.jr_rev.specs.Revisions.{is_before, revision_cmp}
use Rattle.jr_rev.specs.Vectors.{sees}
use Rattle.jr_rev.proofs.Order.{revision_total}
use Rattle.jr_tree.specs.declared.edit.Write.{Write}
use Rattle.oak_machine.specs.declared.event.Draw.{Draw}
use Rattle.oak_machine.specs.declared.event.Event.{Event}
use Rattle.oak_machine.specs.declared.event.Event.TheVariants as event
use Rattle.oak_machine.specs.Commits.{draw_of, is_commit_of, is_in_base}
use Rattle.oak_machine.specs.History.{Past}
use Rattle.oak_machine.specs.Runs.{MayCommit}
use Rattle.oak_read.specs.Meaning.{Documents}
use Rattle.core_begun.proofs.Committed.{committed}
use Rattle.core_read.proofs.Latest.{same_revision}
use Rattle.core_begun.specs.Told.{edit_since}
use Rattle.core_read.specs.World.{Progress}
use Rattle.core_begun.specs.Kept.{IsHeldSince, IsKeptSince}
use Rattle.core_watch.proofs.GoingOn.{on_event}
use Rattle.core_watch.specs.Reading.{ReadsOn}
use Rattle.core_changes.proofs.Telling.{between_held}
use Rattle.core_changes.specs.Instants.{AreHeld}
use Rattle.core_changes.specs.Observing.{ObservesOn}
use Rattle.oak_machine.specs.declared.event.Start.{Start}

pub edit_stays : (past : Past) (e : Event) → ((r : Revision) → is_commit_of r e ≡ false) → (q : Revision) → edit_since (e ∷ past) q ≡ edit_since past q
edit_stays past (event.Commit r) none q = absurd (false≢true (sym (none r) ∙ ap is_eq (tied_itself revision_total r)))
edit_stays past e none q = refl

pub base_stays : (past : Past) (e : Event) → ((d : Draw) → e ≡ event.Draw d → edit_since past d.revision ≡ None) → (r : Revision) (ws : List Write) → edit_since past r ≡ Some ws → (q : Revision) → is_in_base (e ∷ past) r q ≡ is_in_base past r q
base_stays past (event.Draw d) new r ws e q = by (eq_by_cmp revision_cmp r d.revision) refl
  where
    by : (b : Bool) → eq_by_cmp revision_cmp r d.revision ≡ b → option_map_or (λ d. sees d.base q) (cond b (Some d) (draw_of past r)) false ≡ is_in_base past r q
    by false h = refl
    by true h = absurd (false≢true (ap is_some (sym (new d refl) ∙ (ap (edit_since past) (sym (same_revision r d.revision h)) ∙ e))))
base_stays past e new r ws k q = refl

module _ (start : Start) where
  module _ (from : RevVec) (pin : Pin) (ds : Documents) (past : Past) (done : Progress) (world : IsKeptSince start ds past done) where
    -- an event that is no Commit, and no Draw of a revision that is committed
    pub step_event : (e : Event) → ((r : Revision) → is_commit_of r e ≡ false) → ((d : Draw) → e ≡ event.Draw d → edit_since past d.revision ≡ None) → ObservesOn start from pin ds ds past (e ∷ past)
    step_event e none new = record {
      told = world.told;
      edits = λ r s. edit_stays past e none r;
      bases = λ r ws k q. base_stays past e new r ws k q;
      reads = λ v between. on_event start (record { base = v; sweep = pin.sweep }) ds past done world e none;
    }

    -- documents change, and the journal stays
    pub step_documents : (now : Documents) → AreHeld start past from pin → ((v : RevVec) → IsHeldSince start past v pin.sweep → ReadsOn start (record { base = v; sweep = pin.sweep }) ds now past past) → ObservesOn start from pin ds now past past
    step_documents now held on = record {
      told = world.told;
      edits = λ r s. refl;
      bases = λ r ws k q. refl;
      reads = λ v between. on v (between_held start past from pin held v between);
    }

    -- a Commit comes
    pub step_commit : (now : Documents) (r : Revision) (dr : Draw) → AreHeld start past from pin → draw_of past r ≡ Some dr → MayCommit past r → ((v : RevVec) → IsHeldSince start past v pin.sweep → ReadsOn start (record { base = v; sweep = pin.sweep }) ds now past (event.Commit r ∷ past))
        → ObservesOn start from pin ds now past (event.Commit r ∷ past)
    step_commit now r dr held drawn may on = record {
      told = world.told;
      edits = λ q s. committed start.tree past r dr drawn q ∙ by q s (eq_by_cmp revision_cmp q r) refl;
      bases = λ q ws k o. refl;
      reads = λ v between. on v (between_held start past from pin held v between);
    }
      where
        by : (q : Revision) → sees pin.base q ≡ true → (b : Bool) → eq_by_cmp revision_cmp q r ≡ b → cond b (Some dr.edit.writes) (edit_since past q) ≡ edit_since past q
        by q s false h = refl
        by q s true h = absurd (false≢true (sym (held.to.base.settled r may.open_.in_flight) ∙ (ap (sees pin.base) (sym (same_revision q r h)) ∙ s)))
