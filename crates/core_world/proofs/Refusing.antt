-- A committer is refused, or wants memory, and turns to undoing.
use Rattle.std.proofs.Common.{◌≡◌, ℕ, true, false, Some, Option, List, [], ◌∷◌, refl, sym, ap}
use Rattle.jr_path.specs.declared.path.Path.{Path}
use Rattle.jr_path.specs.declared.path.Item.{Item}
use Rattle.jr_rev.specs.declared.revision.Revision.{Revision}
use Rattle.oak_commit.specs.Clashing.{Writer}
use Rattle.oak_machine.specs.Sessions.{is_stopped}
use Rattle.oak_machine.specs.declared.event.Event.TheVariants as event
use Rattle.oak_machine.specs.History.{Past}
use Rattle.oak_read.specs.Meaning.{documents_in}
use Rattle.oak_store.specs.Tables.{Table}
use Rattle.core_clash.specs.Core.{with_writer}
use Rattle.core_clash.specs.Sessions.{Running}
use Rattle.core_clash.specs.Sound.{Cause}
use Rattle.core_clash.proofs.Basics.{at_writer}
use Rattle.core_clash.proofs.Refused.{refuse_keeps}
use Rattle.core_clash.proofs.Wanted.{want_keeps}
use Rattle.core_world.specs.States.{core_in, with_session}
use Rattle.core_world.specs.Steps.{paths_to_write}
use Rattle.core_world.specs.Kept.{AreCommitting}
use Rattle.core_world.proofs.Committers.{at_session, theirs_step}
use Rattle.core_world.proofs.Progress.{is_among}
use Rattle.core_world.proofs.Working.{goes, mine, world_by, world_of}
use Rattle.oak_machine.specs.declared.event.Start.{Start}
use Rattle.core_begun.proofs.Events.{kept_idle}
use Rattle.core_begun.specs.Kept.{IsKeptSince}
use Rattle.core_begun.specs.Told.{IsToldSince}

-- a writer that stands with the same documents written has the same progress
pub same_progress : (writers : Revision → Writer) (r : Revision) (w : Writer) → w.written ≡ (writers r).written → (q : Revision) (p : Path) → is_among (writers q).written p ≡ is_among (with_writer writers r w q).written p
same_progress writers r w same q p = at_writer (λ y v. is_among (writers y).written p ≡ is_among v.written p) writers r w q (ap (λ (ps : List Path). is_among ps p) (sym same)) (λ k. refl)

module _ (start : Start) (past : Past) (t : Table) (running : ℕ → Option Running) (a : AreCommitting start past t running) (told : IsToldSince start past) (s : ℕ) (x : Running) (here : running s ≡ Some x) (uncommitted : x.committed ≡ false) (going : x.writer.undoing ≡ false) where
  abbrev r : Revision
  r = x.draw.revision

  abbrev turned : Writer → Writer
  turned w = record w { due = []; undoing = true }

  module _ (item : Item) (o : Revision) (cause : Cause past x.draw.revision item o) where
    abbrev later : Past
    later = event.Refuse x.draw.revision item o ∷ past

    readable : IsKeptSince start (documents_in t.documents) later (λ q. is_among (a.writers q).written)
    readable = kept_idle start (documents_in t.documents) past _ (event.Refuse x.draw.revision item o) refl (world_of start past t running a told)

    pub refuse_commits : AreCommitting start later t (with_session running s (Some (record { draw = x.draw; writer = turned x.writer; committed = x.committed })))
    refuse_commits = record {
      writers = with_writer a.writers r (turned (a.writers r));
      sound = refuse_keeps (core_in start past t a.writers) x.draw item o a.sound (goes start past t running a told s x here uncommitted going) cause;
      theirs = theirs_step past a.writers running a.theirs s x here (turned (a.writers r)) (turned x.writer) (ap turned (mine start past t running a told s x here).writer) x.committed later (λ q. refl) (λ q. refl) (λ q k. refl) (mine start past t running a told s x here).committed;
      listed = at_session (λ q (y : Running). y.writer.paths ≡ paths_to_write y.draw.marks) running s _ (a.listed s x here) (λ q y f h. a.listed q y h);
      kept = world_by start (documents_in t.documents) later _ (λ q. is_among (with_writer a.writers r (turned (a.writers r)) q).written) (same_progress a.writers r (turned (a.writers r)) refl) readable;
      unstopped = at_session (λ q (y : Running). is_stopped past y.draw.revision.cluster ≡ false) running s _ (a.unstopped s x here) (λ q y f h. a.unstopped q y h);
    }

  abbrev wanting : Writer → Writer
  wanting w = record w { due = []; undoing = true; wants = true }

  pub want_commits : AreCommitting start past t (with_session running s (Some (record { draw = x.draw; writer = wanting x.writer; committed = x.committed })))
  want_commits = record {
    writers = with_writer a.writers r (wanting (a.writers r));
    sound = want_keeps (core_in start past t a.writers) x.draw a.sound (goes start past t running a told s x here uncommitted going);
    theirs = theirs_step past a.writers running a.theirs s x here (wanting (a.writers r)) (wanting x.writer) (ap wanting (mine start past t running a told s x here).writer) x.committed past (λ q. refl) (λ q. refl) (λ q k. refl) (mine start past t running a told s x here).committed;
    listed = at_session (λ q (y : Running). y.writer.paths ≡ paths_to_write y.draw.marks) running s _ (a.listed s x here) (λ q y f h. a.listed q y h);
    kept = world_by start (documents_in t.documents) past _ (λ q. is_among (with_writer a.writers r (wanting (a.writers r)) q).written) (same_progress a.writers r (wanting (a.writers r)) refl) (world_of start past t running a told);
    unstopped = at_session (λ q (y : Running). is_stopped past y.draw.revision.cluster ≡ false) running s _ (a.unstopped s x here) (λ q y f h. a.unstopped q y h);
  }
