-- A committer writes a document.
use Rattle.std.proofs.Common.{◌≡◌, inl, ℕ, Bool, true, false, ◌||◌, Some, Option, List, [], ◌∷◌, ◌++◌, refl, sym, ap, subst, ◌∙◌}
use Rattle.std.specs.Ordering.{eq_by_cmp}
use Rattle.std.specs.List.{flat_map, list_all}
use Rattle.jr_path.specs.Names.{path_cmp}
use Rattle.jr_path.specs.declared.path.Path.{Path}
use Rattle.jr_path.specs.declared.path.DocId.TheVariants as id
use Rattle.jr_rev.specs.declared.revision.Revision.{Revision}
use Rattle.oak_clash.specs.declared.mark.Mark.{Mark}
use Rattle.oak_clash.specs.declared.mark.Mark.TheVariants.{Exists, Guard, Touch, Prop}
use Rattle.oak_clash.specs.declared.mark.MarkAt.{MarkAt}
use Rattle.oak_clash.specs.Clashes.{commit_root, marks_at}
use Rattle.oak_commit.specs.Clashing.{Writer, found}
use Rattle.oak_commit.specs.Writing.{marking_of, markings_at, write_op}
use Rattle.oak_doc.specs.declared.document.Document.{Document}
use Rattle.oak_doc.specs.declared.update.UpdateOp.{UpdateOp}
use Rattle.oak_doc.specs.Updates.{after_changes}
use Rattle.oak_machine.specs.Sessions.{is_stopped}
use Rattle.oak_machine.specs.declared.event.Event.TheVariants as event
use Rattle.oak_machine.specs.declared.event.StepKind.TheVariants as kind
use Rattle.oak_machine.specs.History.{Past}
use Rattle.oak_read.specs.Meaning.{documents_in}
use Rattle.oak_store.specs.Tables.{Table, next_number, with_document}
use Rattle.core_read.specs.Committing.{IsWriteOp, is_marking}
use Rattle.core_read.specs.Holds.{IsSameBut}
use Rattle.core_read.proofs.Committing.{op_all}
use Rattle.core_read.proofs.Entries.{first, second, both}
use Rattle.core_read.proofs.Roots.{below_root}
use Rattle.core_read.proofs.Updates.{update_same}
use Rattle.core_keep.specs.Journal.{with_progress}
use Rattle.core_clash.specs.Core.{Docs, MayWrite, with_writer}
use Rattle.oak_commit.specs.Looking.{whole}
use Rattle.core_clash.specs.Sessions.{Running}
use Rattle.core_clash.specs.Sound.{AreDocumentsListed, Sound}
use Rattle.core_clash.specs.Views.{In, Once, mark_at}
use Rattle.core_clash.proofs.Basics.{In-right, is_in, once_apart}
use Rattle.core_clash.proofs.Meetings.{meeting}
use Rattle.core_clash.proofs.Updates.{writes, write_is}
use Rattle.core_clash.proofs.Written.{write_keeps}
use Rattle.core_watch.proofs.GoingOn.{on_write}
use Rattle.core_watch.proofs.StayingOn.{formers_write}
use Rattle.core_world.proofs.Letting.{LetsRead, lets_event, lets_then, lets_change}
use Rattle.core_world.specs.States.{core_in, moved_in, nodes_in, with_session}
use Rattle.core_world.specs.Steps.{after_update, paths_to_write, with_result}
use Rattle.core_world.specs.Kept.{AreCommitting}
use Rattle.core_world.proofs.Committers.{at_session, theirs_step}
use Rattle.core_world.proofs.Paths.{HasMark, path_marked}
use Rattle.core_world.proofs.Progress.{among_more, is_among, not_among, progress_with}
use Rattle.core_world.proofs.Tables.{moved_stays, put_main, put_node}
use Rattle.core_world.proofs.Working.{flies, goes, kept_name, mine, pending, world_by, world_of}
use Rattle.oak_machine.specs.declared.event.Start.{Start}
use Rattle.core_begun.proofs.World.{kept_write_op}
use Rattle.core_begun.proofs.Events.{kept_idle}
use Rattle.core_begun.specs.Kept.{IsKeptSince}
use Rattle.core_begun.specs.Told.{IsToldSince}
use Rattle.jr_rev.specs.Vectors.{sees}

-- ---- marks that are entries of no item

pub all_append : {X : Type 0} (test : X → Bool) (xs ys : List X) → list_all test xs ≡ true → list_all test ys ≡ true → list_all test (xs ++ ys) ≡ true
all_append test [] ys h k = k
all_append test (x ∷ xs) ys h k = both _ _ (first _ _ h) (all_append test xs ys (second _ _ h) k)

pub all_flat : {X Y : Type 0} (test : Y → Bool) (f : X → List Y) → ((x : X) → list_all test (f x) ≡ true) → (xs : List X) → list_all test (flat_map f xs) ≡ true
all_flat test f h [] = refl
all_flat test f h (x ∷ xs) = all_append test (f x) (flat_map f xs) (h x) (all_flat test f h xs)

marking_mark : (r : Revision) (m : Mark) → list_all is_marking (marking_of r m) ≡ true
marking_mark r Exists = refl
marking_mark r Guard = refl
marking_mark r Touch = refl
marking_mark r (Prop n) = refl

markings_mark : (r : Revision) (p : Path) (ms : List MarkAt) → list_all is_marking (markings_at r p ms) ≡ true
markings_mark r p ms = all_flat is_marking (marking_of r) (marking_mark r) (marks_at p ms)

-- ---- the write

module _ (start : Start) (past : Past) (t : Table) (running : ℕ → Option Running) (a : AreCommitting start past t running) (told : IsToldSince start past) (s : ℕ) (x : Running) (here : running s ≡ Some x) (uncommitted : x.committed ≡ false) (going : x.writer.undoing ≡ false)
    (p : Path) (rest : List Path) (unmet : x.writer.due ≡ []) (next : x.writer.left ≡ p ∷ rest) where
  abbrev r : Revision
  r = x.draw.revision

  abbrev op : UpdateOp
  op = write_op x.draw.revision x.draw.edit.writes x.draw.marks p

  abbrev n : ℕ
  n = next_number t

  abbrev doc : Document
  doc = after_changes (nodes_in t p) op n

  abbrev now : Table
  now = with_document t (id.Node p) doc n

  -- what a writer is then
  abbrev wrote : Writer → Writer
  wrote w = record w { left = rest; written = w.written ++ p ∷ []; due = found x.draw.base x.draw.revision p x.draw.marks (whole p (nodes_in t p) (moved_in t p)) }

  abbrev later : Past
  later = event.Went x.draw.session kind.Write ∷ past

  may : MayWrite (core_in start past t a.writers) x.draw p rest
  may = record {
    going = goes start past t running a told s x here uncommitted going;
    unmet = ap (λ (w : Writer). w.due) (mine start past t running a told s x here).writer ∙ unmet;
    next = ap (λ (w : Writer). w.left) (mine start past t running a told s x here).writer ∙ next;
  }

  made : after_update t op ≡ now
  made = ap (with_result t (id.Node p)) (write_is (nodes_in t p) x.draw p n)

  -- p is a marked path, and not written yet
  in_left : In p (a.writers r).left
  in_left = subst (λ (ps : List Path). In p ps) (sym may.next) (inl refl)

  listing : AreDocumentsListed (a.writers r)
  listing = a.sound.listed r (a.unstopped s x here)

  marked : HasMark x.draw.marks p
  marked = path_marked x.draw.marks p (subst (λ (ps : List Path). In p ps) (listing.all ∙ (ap (λ (w : Writer). w.paths) (mine start past t running a told s x here).writer ∙ a.listed s x here))
      (In-right p listing.gone _ (In-right p (a.writers r).written (a.writers r).left in_left)))

  new : is_among (a.writers r).written p ≡ false
  new = not_among (a.writers r).written p (once_apart p (a.writers r).written rest (subst (λ (ps : List Path). Once ((a.writers r).written ++ ps)) may.next (a.sound.once r)))

  abbrev wop : IsWriteOp op r x.draw.edit.writes (commit_root x.draw.marks) p (markings_at r p x.draw.marks)
  wop = record { at = refl; changes = refl; marking = markings_mark r p x.draw.marks; below = below_root x.draw.marks (mark_at p marked.mark) (is_in (mark_at p marked.mark) x.draw.marks marked.in_marks) }

  same_but : IsSameBut r p (nodes_in t p) doc
  same_but = update_same r p (nodes_in t p) op n refl (kept_name start (documents_in t.documents) past _ a.kept p)
      (op_all op r x.draw.edit.writes (commit_root x.draw.marks) p (markings_at r p x.draw.marks) (nodes_in t p) n wop (kept_name start (documents_in t.documents) past _ a.kept p) ((a.kept.partly r x.draw may.going.draw (flies start past t running a told s x here) (pending start past t running a told s x here uncommitted)).left p new))

  sound : Sound (core_in start later now (with_writer a.writers r (wrote (a.writers r))))
  sound = subst (λ (docs : Docs). Sound (record { old = sees start.at; number = n; docs = docs; moved = moved_in now; past = later; writers = with_writer a.writers r (wrote (a.writers r)) })) (sym (put_node t p doc n))
      (subst (λ (moved : Path → List Document). Sound (record { old = sees start.at; number = n; docs = Rattle.core_clash.specs.Core.with_document (nodes_in t) p doc; moved = moved; past = later; writers = with_writer a.writers r (wrote (a.writers r)) })) (sym (moved_stays t now p doc (put_main t p doc n) same_but.whole))
      (write_keeps (core_in start past t a.writers) x.draw p rest n (Rattle.core_clash.specs.Core.with_document (nodes_in t) p doc) (found x.draw.base r p x.draw.marks (whole p (nodes_in t p) (moved_in t p))) a.sound may
      (writes (nodes_in t) x.draw p n (a.sound.ordered p) (a.sound.edits r x.draw may.going.draw)) (meeting x.draw.base r p x.draw.marks (whole p (nodes_in t p) (moved_in t p)))))

  written_world : IsKeptSince start (documents_in now.documents) past (with_progress (λ q. is_among (a.writers q).written) r (λ q. eq_by_cmp path_cmp q p || is_among (a.writers r).written q))
  written_world = kept_write_op start (documents_in t.documents) (documents_in now.documents) past _ (world_of start past t running a told) r x.draw may.going.draw (flies start past t running a told s x here) (pending start past t running a told s x here uncommitted) p op n (markings_at r p x.draw.marks)
      wop
      new (put_main t p doc n)

  -- readers read on
  pub write_lets : LetsRead start t (after_update t op) past later
  write_lets = subst (λ (u : Table). LetsRead start t u past later) (sym made)
      (lets_then start t now now past later _ written_world
      (lets_change start t now past told (λ pin held. on_write start pin (documents_in t.documents) (documents_in now.documents) past _ (world_of start past t running a told) held r x.draw may.going.draw (flies start past t running a told s x here) (pending start past t running a told s x here uncommitted) p (markings_at r p x.draw.marks) op n wop new (put_main t p doc n))
      (λ formers l. formers_write start (documents_in t.documents) (documents_in now.documents) past _ (world_of start past t running a told) r x.draw may.going.draw (flies start past t running a told s x here) (pending start past t running a told s x here uncommitted) p (markings_at r p x.draw.marks) op n wop new (put_main t p doc n) formers l))
      (lets_event start now past _ written_world (event.Went x.draw.session kind.Write) (λ q. refl) (λ q. refl) (λ q. refl)))

  readable : IsKeptSince start (documents_in now.documents) later (with_progress (λ q. is_among (a.writers q).written) r (λ q. eq_by_cmp path_cmp q p || is_among (a.writers r).written q))
  readable = kept_idle start (documents_in now.documents) past _ (event.Went x.draw.session kind.Write) refl written_world

  pub write_commits : AreCommitting start later (after_update t op) (with_session running s (Some (record { draw = x.draw; writer = wrote x.writer; committed = x.committed })))
  write_commits = subst (λ (u : Table). AreCommitting start later u (with_session running s (Some (record { draw = x.draw; writer = wrote x.writer; committed = x.committed })))) (sym made) (record {
    writers = with_writer a.writers r (wrote (a.writers r));
    sound = sound;
    theirs = theirs_step past a.writers running a.theirs s x here (wrote (a.writers r)) (wrote x.writer) (ap wrote (mine start past t running a told s x here).writer) x.committed later (λ q. refl) (λ q. refl) (λ q k. refl) (mine start past t running a told s x here).committed;
    listed = at_session (λ q (y : Running). y.writer.paths ≡ paths_to_write y.draw.marks) running s _ (a.listed s x here) (λ q y f h. a.listed q y h);
    kept = world_by start (documents_in now.documents) later _ (λ q. is_among (with_writer a.writers r (wrote (a.writers r)) q).written) (progress_with a.writers r (wrote (a.writers r)) _ (λ q. sym (among_more (a.writers r).written p q))) readable;
    unstopped = at_session (λ q (y : Running). is_stopped past y.draw.revision.cluster ≡ false) running s _ (a.unstopped s x here) (λ q y f h. a.unstopped q y h);
  })
