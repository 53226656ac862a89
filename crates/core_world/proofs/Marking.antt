-- A committer marks a collision on the commit root of another.
use Rattle.std.proofs.Common.{◌≡◌, inl, ℕ, false, Some, Option, List, ◌∷◌, refl, sym, ap, subst, ◌∙◌}
use Rattle.jr_path.specs.declared.path.Path.{Path}
use Rattle.jr_path.specs.declared.path.DocId.TheVariants as id
use Rattle.jr_rev.specs.declared.revision.Revision.{Revision}
use Rattle.oak_commit.specs.Clashing.{Met, Writer, mark_op, noted}
use Rattle.oak_doc.specs.declared.document.Document.{Document}
use Rattle.oak_doc.specs.declared.update.UpdateOp.{UpdateOp}
use Rattle.oak_doc.specs.Updates.{after_changes}
use Rattle.oak_machine.specs.Sessions.{is_stopped}
use Rattle.oak_machine.specs.declared.event.Event.TheVariants as event
use Rattle.oak_machine.specs.declared.event.StepKind.TheVariants as kind
use Rattle.oak_machine.specs.History.{Past}
use Rattle.oak_read.specs.Meaning.{documents_in}
use Rattle.oak_store.specs.Tables.{Table, next_number, with_document}
use Rattle.core_read.proofs.Committing.{markings_all}
use Rattle.core_read.proofs.Updates.{update_same}
use Rattle.core_watch.proofs.GoingOn.{on_mark}
use Rattle.core_watch.proofs.StayingOn.{formers_mark}
use Rattle.core_world.proofs.Letting.{LetsRead, lets_event, lets_then, lets_change}
use Rattle.core_read.specs.Holds.{IsSameBut}
use Rattle.core_clash.specs.Core.{Docs, MayMark, root_of, with_writer}
use Rattle.core_clash.specs.Sessions.{Running}
use Rattle.core_clash.specs.Sound.{Cause, Sound}
use Rattle.core_clash.specs.Views.{In}
use Rattle.core_clash.proofs.Marked.{mark_keeps}
use Rattle.core_clash.proofs.Updates.{marks}
use Rattle.core_world.specs.States.{core_in, moved_in, nodes_in, with_session}
use Rattle.core_world.specs.Steps.{paths_to_write}
use Rattle.core_world.specs.Kept.{AreCommitting}
use Rattle.core_world.proofs.Committers.{at_session, theirs_step}
use Rattle.core_world.proofs.Progress.{is_among}
use Rattle.core_world.proofs.Refusing.{same_progress}
use Rattle.core_world.proofs.Tables.{moved_stays, put_main, put_node}
use Rattle.core_world.proofs.Working.{goes, kept_name, mine, world_by, world_of}
use Rattle.oak_machine.specs.declared.event.Start.{Start}
use Rattle.core_begun.proofs.World.{kept_mark_op}
use Rattle.core_begun.proofs.Events.{kept_idle}
use Rattle.core_begun.specs.Kept.{IsKeptSince}
use Rattle.core_begun.specs.Told.{IsToldSince}
use Rattle.jr_rev.specs.Vectors.{sees}

module _ (start : Start) (past : Past) (t : Table) (running : ℕ → Option Running) (a : AreCommitting start past t running) (told : IsToldSince start past) (s : ℕ) (x : Running) (here : running s ≡ Some x) (uncommitted : x.committed ≡ false) (going : x.writer.undoing ≡ false)
    (f : Met) (rest : List Met) (next : x.writer.due ≡ f ∷ rest) where
  abbrev r : Revision
  r = x.draw.revision

  abbrev root : Path
  root = root_of past f.other

  abbrev op : UpdateOp
  op = mark_op root f.other r f.theirs

  abbrev n : ℕ
  n = next_number t

  abbrev doc : Document
  doc = after_changes (nodes_in t root) op n

  abbrev now : Table
  now = with_document t (id.Node root) doc n

  abbrev noticing : Writer → Writer
  noticing w = record w { due = rest }

  abbrev later : Past
  later = event.Went x.draw.session kind.Mark ∷ past

  pub may_mark : MayMark (core_in start past t a.writers) x.draw f rest
  may_mark = record { going = goes start past t running a told s x here uncommitted going; next = ap (λ (w : Writer). w.due) (mine start past t running a told s x here).writer ∙ next }

  -- why it is refused, where the other is committed
  pub mark_cause : Cause past x.draw.revision f.mine f.other
  mark_cause = (a.sound.due r f (subst (λ (fs : List Met). In f fs) (sym may_mark.next) (inl refl))).cause

  same_but : IsSameBut r root (nodes_in t root) doc
  same_but = update_same r root (nodes_in t root) op n refl (kept_name start (documents_in t.documents) past _ a.kept root) (markings_all r op.changes refl)

  module _ (free : noted (nodes_in t (root_of past f.other)) f.other ≡ false) where
    sound : Sound (core_in start later now (with_writer a.writers r (noticing (a.writers r))))
    sound = subst (λ (docs : Docs). Sound (record { old = sees start.at; number = n; docs = docs; moved = moved_in now; past = later; writers = with_writer a.writers r (noticing (a.writers r)) })) (sym (put_node t root doc n))
        (subst (λ (moved : Path → List Document). Sound (record { old = sees start.at; number = n; docs = Rattle.core_clash.specs.Core.with_document (nodes_in t) root doc; moved = moved; past = later; writers = with_writer a.writers r (noticing (a.writers r)) })) (sym (moved_stays t now root doc (put_main t root doc n) same_but.whole))
        (mark_keeps (core_in start past t a.writers) x.draw f rest n (Rattle.core_clash.specs.Core.with_document (nodes_in t) root doc) a.sound may_mark (marks (nodes_in t) past r f n free)))

    marked_world : IsKeptSince start (documents_in now.documents) past (λ q. is_among (a.writers q).written)
    marked_world = kept_mark_op start (documents_in t.documents) (documents_in now.documents) past _ (world_of start past t running a told) root op n refl refl (put_main t root doc n)

    readable : IsKeptSince start (documents_in now.documents) later (λ q. is_among (a.writers q).written)
    readable = kept_idle start (documents_in now.documents) past _ (event.Went x.draw.session kind.Mark) refl marked_world

    pub mark_commits : AreCommitting start later now (with_session running s (Some (record { draw = x.draw; writer = noticing x.writer; committed = x.committed })))
    mark_commits = record {
      writers = with_writer a.writers r (noticing (a.writers r));
      sound = sound;
      theirs = theirs_step past a.writers running a.theirs s x here (noticing (a.writers r)) (noticing x.writer) (ap noticing (mine start past t running a told s x here).writer) x.committed later (λ q. refl) (λ q. refl) (λ q k. refl) (mine start past t running a told s x here).committed;
      listed = at_session (λ q (y : Running). y.writer.paths ≡ paths_to_write y.draw.marks) running s _ (a.listed s x here) (λ q y f h. a.listed q y h);
      kept = world_by start (documents_in now.documents) later _ (λ q. is_among (with_writer a.writers r (noticing (a.writers r)) q).written) (same_progress a.writers r (noticing (a.writers r)) refl) readable;
      unstopped = at_session (λ q (y : Running). is_stopped past y.draw.revision.cluster ≡ false) running s _ (a.unstopped s x here) (λ q y f h. a.unstopped q y h);
    }

    -- readers read on
    pub mark_lets : LetsRead start t now past later
    mark_lets = lets_then start t now now past later _ marked_world
        (lets_change start t now past told (λ pin held. on_mark start pin (documents_in t.documents) (documents_in now.documents) past _ (world_of start past t running a told) held root op n refl refl (put_main t root doc n))
        (λ formers l. formers_mark start (documents_in t.documents) (documents_in now.documents) past _ (world_of start past t running a told) root op n refl refl (put_main t root doc n) formers l))
        (lets_event start now past _ marked_world (event.Went x.draw.session kind.Mark) (λ q. refl) (λ q. refl) (λ q. refl))
