-- What changed since a session's cursor stays what it was while others act.
use Rattle.std.proofs.Common.{◌≡◌, ℕ, ◌++◌, None, Some, Option, List, refl, sym, ap, ◌∙◌, subst}
use Rattle.jr_tree.specs.declared.shared.CommitChanges.{CommitChanges}
use Rattle.oak_machine.specs.History.{History, Past}
use Rattle.oak_machine.specs.Laws.{AreOthers, after}
use Rattle.oak_machine.specs.Runs.{AreNodes, IsRun}
use Rattle.oak_port.specs.Ports.{Shown}
use Rattle.jcr_observe.specs.declared.event.JcrEvent.{JcrEvent}
use Rattle.jcr_observe.specs.Observed.{observed_events}
use Rattle.jcr_trans.specs.declared.command.Command.{Command}
use Rattle.jcr_trans.specs.declared.command.Command.TheVariants as command
use Rattle.jcr_law.specs.declared.law.JcrLaw.{JcrLaw}
use Rattle.jcr_law.specs.declared.state.Cursor.{Cursor}
use Rattle.jcr_law.specs.Growing.{changes_same, seen_edits}
use Rattle.jcr_law.specs.Lasting.{says_of, starts_of}
use Rattle.jcr_law.specs.Queries.{events_reply, events_since}
use Rattle.jcr_law.specs.Starting.{call_has_base}
use Rattle.jcr_law.specs.State.{Call, call_of}
use Rattle.jcr_steps.specs.declared.errand.Errand.{Errand}
use Rattle.jcr_steps.specs.declared.errand.Errand.TheVariants as errand
use Rattle.jcr_run.specs.Standing.{AreSince, IsBeside, IsCalled, IsKeptFor}
use Rattle.jcr_run.proofs.Waiting.{all_same, shown_beside}

-- ---- by pasts

module _ (law : JcrLaw) (h : History) (s : ℕ) (added : Past) (nodes : AreNodes h.clusters h.sessions)
    (later : IsRun (starts_of law) (says_of law) (after added h)) (others : AreOthers s added h.past)
    (c : Call) (is : call_of law h.begin h.past s ≡ Some c) where
  -- the commits that the base sees
  seen : seen_edits (added ++ h.past) c.who.base ≡ seen_edits h.past c.who.base
  seen = (all_same law h s added nodes later others).edits c.who.base (call_has_base law h.begin h.past s c is)

  pub since_still : (o : Option (List CommitChanges)) → AreSince h c o → AreSince (after added h) c o
  since_still None is = tt
  since_still (Some commits) (x, there, same) =
      (x, there, same ∙ sym (changes_same h.begin h.past (added ++ h.past) c.who.base seen x.at))

  events_still : (o : Option Cursor) → events_since h.begin (added ++ h.past) c.who.base o ≡ events_since h.begin h.past c.who.base o
  events_still None = refl
  events_still (Some x) = ap (observed_events x.filter) (changes_same h.begin h.past (added ++ h.past) c.who.base seen x.at)

  pub kept_still : (m : Command) (e : Errand) → IsKeptFor h c m e → IsKeptFor (after added h) c m e
  kept_still command.BackWrite errand.Write kept = tt
  kept_still command.BackRead errand.Read kept = tt
  kept_still command.Sweep errand.Sweep kept = tt
  kept_still command.Checkpoint (errand.Checkpoint reply) kept = kept
  kept_still (command.Release id) (errand.Release reply) kept = kept
  kept_still (command.Observe p deep mask) (errand.Observe filter) kept = kept
  kept_still command.Events (errand.Events reply) kept =
      kept ∙ ap (λ (es : List JcrEvent). events_reply es) (sym (events_still c.state.cursor))
  kept_still m e kept = absurd kept

-- ---- by what a port shows

module _ (law : JcrLaw) (old new : Shown) (beside : IsBeside law old new) (nodes : AreNodes old.history.clusters old.history.sessions)
    (c : Call) (is : IsCalled law old c) where
  later_beside : IsRun (starts_of law) (says_of law) (after beside.others old.history)
  later_beside = subst (λ (h : History). IsRun (starts_of law) (says_of law) h) beside.grows.grown beside.grows.run

  pub since_beside : (o : Option (List CommitChanges)) → AreSince old.history c o → AreSince new.history c o
  since_beside o since = shown_beside law old new beside (λ h n. AreSince h c o)
      (since_still law old.history old.session beside.others nodes later_beside beside.grows.theirs c is o since)

  pub kept_beside : (m : Command) (e : Errand) → IsKeptFor old.history c m e → IsKeptFor new.history c m e
  kept_beside m e kept = shown_beside law old new beside (λ h n. IsKeptFor h c m e)
      (kept_still law old.history old.session beside.others nodes later_beside beside.grows.theirs c is m e kept)
