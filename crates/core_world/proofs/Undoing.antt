-- A revision is undone in a document: by its committer, or by a recovery of its cluster node.
use Rattle.std.proofs.Common.{◌≡◌, ℕ, Bool, true, false, cond, not, ◌&&◌, ◌||◌, ◌⊎◌, inl, inr, Some, None, Option, List, ◌∷◌, ◌++◌, refl, sym, ap, subst, ◌∙◌, []}
use Rattle.std.specs.Ordering.{eq_by_cmp}
use mathlib.Core.Bool.{false≢true}
use Rattle.jr_path.specs.Names.{path_cmp}
use Rattle.jr_path.specs.declared.path.Path.{Path}
use Rattle.jr_path.specs.declared.path.DocId.{DocId}
use Rattle.jr_path.specs.declared.path.DocId.TheVariants as id
use Rattle.jr_rev.specs.declared.revision.Revision.{Revision}
use Rattle.jr_rev.specs.Revisions.{is_same}
use Rattle.jr_tree.specs.declared.edit.Write.{Write}
use Rattle.oak_clash.specs.Clashes.{commit_root}
use Rattle.oak_commit.specs.Clashing.{Writer, undo_op}
use Rattle.oak_doc.specs.declared.document.Document.{Document}
use Rattle.oak_machine.specs.Sessions.{is_stopped}
use Rattle.oak_machine.specs.declared.event.Draw.{Draw}
use Rattle.oak_machine.specs.declared.event.Event.TheVariants as event
use Rattle.oak_machine.specs.declared.event.StepKind.TheVariants as kind
use Rattle.oak_machine.specs.History.{Past}
use Rattle.oak_machine.specs.Commits.{draw_of, is_ended, is_in_flight}
use Rattle.oak_read.specs.Meaning.{Documents, documents_in}
use Rattle.oak_store.specs.Tables.{Table, after_undo, next_number}
use Rattle.core_read.specs.Committing.{IsPartly, IsUnwritten}
use Rattle.core_keep.specs.Journal.{with_progress}
use Rattle.core_watch.proofs.GoingOn.{on_undo}
use Rattle.core_watch.proofs.StayingOn.{formers_undo}
use Rattle.core_world.proofs.Letting.{LetsRead, lets_event, lets_then, lets_change, lets_same}
use Rattle.core_clash.specs.Core.{IsDead, MayUndo, cleared, with_writer, without_path}
use Rattle.core_clash.specs.Sessions.{IsTheirs, Running}
use Rattle.core_clash.specs.Views.{AreOrdered, In, Once}
use Rattle.core_clash.proofs.Basics.{In-left, decide, same_path, writer_other}
use Rattle.core_clash.proofs.Finished.{event_keeps}
use Rattle.core_clash.proofs.Pasts.{in_flight}
use Rattle.core_clash.proofs.Undone.{clear_keeps, undo_keeps}
use Rattle.core_world.specs.States.{core_in, nodes_in, with_session}
use Rattle.core_world.specs.Steps.{paths_to_write}
use Rattle.core_world.specs.Kept.{AreCommitting}
use Rattle.core_world.proofs.Committers.{at_session, theirs_step}
use Rattle.core_world.proofs.Progress.{among_less, is_among, progress_with}
use Rattle.core_world.proofs.Freed.{effect, sound_undone}
use Rattle.core_world.proofs.Tables.{undo_main, undo_none}
use Rattle.core_world.proofs.Working.{flies, mine, pending, world_by, world_of}
use Rattle.oak_machine.specs.declared.event.Start.{Start}
use Rattle.core_begun.proofs.Told.{no_edit}
use Rattle.core_begun.proofs.World.{kept_undo_op}
use Rattle.core_begun.proofs.Events.{kept_idle}
use Rattle.core_begun.specs.Kept.{IsKeptSince}
use Rattle.core_begun.specs.Told.{edit_since, IsToldSince}

once_first : (p : Path) (rest left : List Path) → Once ((p ∷ rest) ++ left) → In p rest → ⊥
once_first p rest left once h = once.0 (In-left p rest left h)

-- a document that isn't there has nothing written
pub none_unwritten : (r : Revision) → IsUnwritten None r
none_unwritten r = record { node = refl; prop = λ n. refl; root = refl }

module _ (ds : Documents) (r : Revision) (ws : List Write) (root p : Path) (done : Path → Bool) (none : ds (id.Node p) ≡ None) where
  less : IsPartly ds r ws root done → IsPartly ds r ws root (λ q. not (eq_by_cmp path_cmp q p) && done q)
  less part = record { written_ = λ q h. part.written_ q (and_second (not (eq_by_cmp path_cmp q p)) (done q) h); left = λ q. by q (eq_by_cmp path_cmp q p) refl }
    where
      and_second : (b c : Bool) → (b && c) ≡ true → c ≡ true
      and_second true c h = h
      and_second false c h = absurd (false≢true h)

      by : (q : Path) (b : Bool) → eq_by_cmp path_cmp q p ≡ b → (not b && done q) ≡ false → IsUnwritten (ds (id.Node q)) r
      by q true k h = subst (λ (o : Option Document). IsUnwritten o r) (sym (ap (λ (y : Path). ds (id.Node y)) (Rattle.core_clash.proofs.Basics.same_path q p k) ∙ none)) (none_unwritten r)
      by q false k h = part.left q h

-- a revision in flight that isn't committed is undone in a document
module _ (start : Start) (past : Past) (t : Table) (running : ℕ → Option Running) (a : AreCommitting start past t running) (told : IsToldSince start past) (d : Draw) (drawn : draw_of past d.revision ≡ Some d) (flying : is_in_flight past d.revision ≡ true) (open_ : edit_since past d.revision ≡ None) (p : Path) where
  abbrev r : Revision
  r = d.revision

  abbrev n : ℕ
  n = next_number t

  abbrev now : Table
  now = after_undo t (id.Node p) d.revision

  -- the document is in order, where it is there
  sorted_at : (f : Document) → nodes_in t p ≡ Some f → AreOrdered p (Some f)
  sorted_at f is = subst (λ (o : Option Document). AreOrdered p o) is (a.sound.ordered p)

  abbrev pub less_at : Path → Bool
  less_at q = not (eq_by_cmp path_cmp q p) && is_among (a.writers r).written q

  pub undone_world : IsKeptSince start (documents_in now.documents) past (with_progress (λ q. is_among (a.writers q).written) r less_at)
  undone_world = by (nodes_in t p) refl
    where
      by : (o : Option Document) → nodes_in t p ≡ o → IsKeptSince start (documents_in now.documents) past (with_progress (λ q. is_among (a.writers q).written) r less_at)
      by None is = subst (λ (es : List (DocId × Document)). IsKeptSince start (documents_in es) past (with_progress (λ q. is_among (a.writers q).written) r less_at)) (sym (undo_none t p r is))
          (record { first = a.kept.first; keeps = a.kept.keeps; told = told; separate = a.kept.separate; bounded = a.kept.bounded; swept = a.kept.swept; partly = λ q f at flying none. each q f at flying none (is_same q r) refl })
        where
          each : (q : Revision) (f : Draw) → draw_of past q ≡ Some f → is_in_flight past q ≡ true → edit_since past q ≡ None → (b : Bool) → is_same q r ≡ b → IsPartly (documents_in t.documents) q f.edit.writes (commit_root f.marks) (λ y. cond b (less_at y) (is_among (a.writers q).written y))
          each q f at flying none false k = a.kept.partly q f at flying none
          each q f at flying none true k = subst (λ (v : Revision). IsPartly (documents_in t.documents) q f.edit.writes (commit_root f.marks) (λ y. not (eq_by_cmp path_cmp y p) && is_among (a.writers v).written y)) (Rattle.core_clash.proofs.Basics.same_revision q r k)
              (less (documents_in t.documents) q f.edit.writes (commit_root f.marks) p (is_among (a.writers q).written) is (a.kept.partly q f at flying none))
      by (Some f) is = kept_undo_op start (documents_in t.documents) (documents_in now.documents) past _ (world_of start past t running a told) r d drawn flying open_ p (undo_op r p) n
          f is (sorted_at f is).1 refl (undo_main t p r f is)

  -- readers read on
  undone_lets : LetsRead start t now past past
  undone_lets = by (nodes_in t p) refl
    where
      by : (o : Option Document) → nodes_in t p ≡ o → LetsRead start t now past past
      by None is = lets_same start t now past (undo_none t p r is)
      by (Some f) is =
          lets_change start t now past told (λ pin held. on_undo start pin (documents_in t.documents) (documents_in now.documents) past _ (world_of start past t running a told) held r d drawn flying open_ p f (undo_op r p) n is (sorted_at f is).1 refl (undo_main t p r f is))
          (λ formers l. formers_undo start (documents_in t.documents) (documents_in now.documents) past _ (world_of start past t running a told) r d drawn flying open_ p f (undo_op r p) n is (sorted_at f is).1 refl (undo_main t p r f is) formers l)

  -- whichever session's event it is
  pub lets_undone : (s : ℕ) → LetsRead start t now past (event.Went s kind.Undo ∷ past)
  lets_undone s = lets_then start t now now past (event.Went s kind.Undo ∷ past) _ undone_world undone_lets (lets_event start now past _ undone_world (event.Went s kind.Undo) (λ q. refl) (λ q. refl) (λ q. refl))

  pub world_undone : (s : ℕ) → IsKeptSince start (documents_in now.documents) (event.Went s kind.Undo ∷ past) (with_progress (λ q. is_among (a.writers q).written) r less_at)
  world_undone s = kept_idle start (documents_in now.documents) past _ (event.Went s kind.Undo) refl undone_world

-- ---- by its start committer

module _ (start : Start) (past : Past) (t : Table) (running : ℕ → Option Running) (a : AreCommitting start past t running) (told : IsToldSince start past) (s : ℕ) (x : Running) (here : running s ≡ Some x) (uncommitted : x.committed ≡ false) (undoing : x.writer.undoing ≡ true)
    (p : Path) (rest : List Path) (next : x.writer.written ≡ p ∷ rest) where
  abbrev o : Revision
  o = x.draw.revision

  abbrev less_done : Writer → Writer
  less_done w = record w { written = rest }

  abbrev later : Past
  later = event.Went x.draw.session kind.Undo ∷ past

  abbrev left_table : Table
  left_table = after_undo t (id.Node p) x.draw.revision

  its : IsTheirs past a.writers s x
  its = mine start past t running a told s x here

  open_draw : edit_since past o ≡ None
  open_draw = pending start past t running a told s x here uncommitted

  in_air : is_in_flight past o ≡ true
  in_air = flies start past t running a told s x here

  may : MayUndo (core_in start past t a.writers) x.draw p rest
  may = record { draw = its.draw; unended = its.unended; undoing = ap (λ (w : Writer). w.undoing) its.writer ∙ undoing; next = ap (λ (w : Writer). w.written) its.writer ∙ next }

  -- p stands once
  gone : In p rest → ⊥
  gone = once_first p rest (a.writers o).left (subst (λ (ps : List Path). Once (ps ++ (a.writers o).left)) may.next (a.sound.once o))

  -- what is written then
  shrinks : (q : Path) → (not (eq_by_cmp path_cmp q p) && is_among (a.writers o).written q) ≡ is_among rest q
  shrinks q = ap (λ (ps : List Path). not (eq_by_cmp path_cmp q p) && is_among ps q) may.next ∙ among_less rest p q gone

  pub undo_commits : AreCommitting start later left_table (with_session running s (Some (record { draw = x.draw; writer = less_done x.writer; committed = x.committed })))
  undo_commits = record {
    writers = with_writer a.writers o (less_done (a.writers o));
    sound = sound_undone t a.sound.ordered p x.draw.revision start later _
        (undo_keeps (core_in start past t a.writers) x.draw p rest (next_number t) _ a.sound may (effect t a.sound.ordered p x.draw.revision));
    theirs = theirs_step past a.writers running a.theirs s x here (less_done (a.writers o)) (less_done x.writer) (ap less_done its.writer) x.committed later (λ q. refl) (λ q. refl) (λ q k. refl) its.committed;
    listed = at_session (λ q (y : Running). y.writer.paths ≡ paths_to_write y.draw.marks) running s _ (a.listed s x here) (λ q y f h. a.listed q y h);
    kept = world_by start (documents_in left_table.documents) later _ (λ q. is_among (with_writer a.writers o (less_done (a.writers o)) q).written) (progress_with a.writers o (less_done (a.writers o)) _ shrinks) (world_undone start past t running a told x.draw its.draw in_air open_draw p x.draw.session);
    unstopped = at_session (λ q (y : Running). is_stopped past y.draw.revision.cluster ≡ false) running s _ (a.unstopped s x here) (λ q y f h. a.unstopped q y h);
  }

  pub undo_lets : LetsRead start t left_table past later
  undo_lets = lets_undone start past t running a told x.draw its.draw in_air open_draw p x.draw.session

-- ---- by a recovery

-- whether it is left, without one of the paths
among_without : (p : Path) (ps : List Path) (q : Path) → (not (eq_by_cmp path_cmp q p) && is_among ps q) ≡ is_among (without_path p ps) q
among_without p [] q = and_end (not (eq_by_cmp path_cmp q p))
  where
    and_end : (b : Bool) → (b && false) ≡ false
    and_end true = refl
    and_end false = refl
among_without p (x ∷ ps) q = by (eq_by_cmp path_cmp x p) refl (eq_by_cmp path_cmp q x) refl (among_without p ps q)
  where
    -- p itself isn't left
    itself : (b : Bool) → eq_by_cmp path_cmp q p ≡ true → (not (eq_by_cmp path_cmp q p) && b) ≡ false
    itself b e = ap (λ c. not c && b) e

    by : (b : Bool) → eq_by_cmp path_cmp x p ≡ b → (c : Bool) → eq_by_cmp path_cmp q x ≡ c → (not (eq_by_cmp path_cmp q p) && is_among ps q) ≡ is_among (without_path p ps) q
        → (not (eq_by_cmp path_cmp q p) && (c || is_among ps q)) ≡ is_among (cond (not b) (x ∷ without_path p ps) (without_path p ps)) q
    by true e true f more =
        let same : eq_by_cmp path_cmp q p ≡ true = ap (λ (y : Path). eq_by_cmp path_cmp y p) (same_path q x f) ∙ e in
        itself true same ∙ (sym (itself (is_among ps q) same) ∙ more)
    by true e false f more = more
    by false e true f more = ap (λ b. not b && true) (ap (λ (y : Path). eq_by_cmp path_cmp y p) (same_path q x f) ∙ e) ∙ sym (ap (λ b. b || is_among (without_path p ps) q) f)
    by false e false f more = more ∙ sym (ap (λ b. b || is_among (without_path p ps) q) f)

-- no committer at work is that of a stopped node
module _ (start : Start) (past : Past) (t : Table) (running : ℕ → Option Running) (a : AreCommitting start past t running) (d : Draw) (dead : IsDead past d) where
  pub not_dead : (q : ℕ) (y : Running) → running q ≡ Some y → is_same y.draw.revision d.revision ≡ false
  not_dead q y h = by (decide y.draw.revision d.revision)
    where
      by : (y.draw.revision ≡ d.revision) ⊎ (is_same y.draw.revision d.revision ≡ false) → is_same y.draw.revision d.revision ≡ false
      by (inl e) = absurd (false≢true (sym (a.unstopped q y h) ∙ (ap (λ (r : Revision). is_stopped past r.cluster) e ∙ dead.stopped)))
      by (inr f) = f

module _ (start : Start) (past : Past) (t : Table) (running : ℕ → Option Running) (a : AreCommitting start past t running) (told : IsToldSince start past) (d : Draw) (dead : IsDead past d) (unended : is_ended past d.revision ≡ false) (p : Path) (s : ℕ) where
  abbrev v : Revision
  v = d.revision

  flew : is_in_flight past v ≡ true
  flew = in_flight past v d dead.draw unended

  never_said : edit_since past v ≡ None
  never_said = no_edit past v dead.uncommitted

  abbrev clear_table : Table
  clear_table = after_undo t (id.Node p) d.revision

  abbrev clear_past : Past
  clear_past = event.Went s kind.Undo ∷ past

  abbrev clear_writers : Revision → Writer
  clear_writers = with_writer a.writers v (cleared (a.writers v) p)

  pub clear_commits : AreCommitting start clear_past clear_table running
  clear_commits = record {
    writers = clear_writers;
    sound = sound_undone t a.sound.ordered p d.revision start clear_past clear_writers
        (event_keeps _ (event.Went s kind.Undo) refl
        (clear_keeps (core_in start past t a.writers) d a.sound dead p (next_number t) _ (effect t a.sound.ordered p d.revision)));
    theirs = λ q y h.
        let theirs = a.theirs q y h in
        record { session = theirs.session; draw = theirs.draw; unended = theirs.unended; committed = theirs.committed; writer = writer_other a.writers v (cleared (a.writers v) p) y.draw.revision (not_dead start past t running a d dead q y h) ∙ theirs.writer };
    listed = a.listed;
    kept = world_by start (documents_in clear_table.documents) clear_past _ (λ q. is_among (clear_writers q).written) (progress_with a.writers v (cleared (a.writers v) p) _ (among_without p (a.writers v).written)) (world_undone start past t running a told d dead.draw flew never_said p s);
    unstopped = a.unstopped;
  }

  pub clear_lets : LetsRead start t clear_table past clear_past
  clear_lets = lets_undone start past t running a told d dead.draw flew never_said p s
