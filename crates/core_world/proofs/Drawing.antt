-- A session draws a revision.
use Rattle.std.proofs.Common.{◌≡◌, ℕ, Bool, true, false, cond, Some, None, Option, List, ◌∷◌, is_some, refl, sym, ap, ◌∙◌, ◌||◌}
use Rattle.std.specs.Option.{option_map_or}
use mathlib.Core.Bool.{false≢true}
use Rattle.jr_rev.specs.Vectors.{sees}
use Rattle.jr_rev.specs.declared.revision.Revision.{Revision}
use Rattle.jr_rev.specs.Revisions.{is_before, is_same}
use Rattle.oak_machine.specs.Sessions.{is_stopped}
use Rattle.oak_machine.specs.declared.event.Draw.{Draw}
use Rattle.oak_machine.specs.declared.event.Event.TheVariants as event
use Rattle.oak_machine.specs.History.{Past, Begin}
use Rattle.oak_machine.specs.Commits.{draw_of, is_committed, is_drawn, is_ended}
use Rattle.oak_machine.specs.Laws.{Says, Starts, StartsProper}
use Rattle.oak_machine.specs.Runs.{AreNodes, IsRunOf}
use Rattle.oak_read.specs.Meaning.{documents_in}
use Rattle.oak_store.specs.Tables.{Table}
use Rattle.core_read.specs.Holds.{the_start}
use Rattle.core_keep.specs.Journal.{is_bounded, is_swept, with_progress}
use Rattle.core_heads.proofs.Runs.{fresh_run}
use Rattle.core_clash.specs.Collecting.{SeesBounded}
use Rattle.core_clash.specs.Core.{MayDrawAnew, with_writer}
use Rattle.core_clash.specs.Sessions.{IsTheirs, Running}
use Rattle.core_clash.proofs.Basics.{decide, is_same_self, not_both, writer_mine, writer_other, or_right}
use Rattle.core_clash.proofs.Begin.{may_begin}
use Rattle.core_clash.proofs.Drawn.{draw_keeps}
use Rattle.core_world.specs.States.{core_in, with_session}
use Rattle.core_world.specs.Steps.{beginning, paths_to_write}
use Rattle.core_world.specs.Kept.{AreCommitting}
use Rattle.core_world.proofs.Committers.{at_session}
use Rattle.core_world.proofs.Paths.{mark_path, paths_once}
use Rattle.core_world.proofs.Progress.{is_among, progress_with}
use Rattle.core_world.proofs.Working.{world_by, world_of}
use Rattle.core_begun.proofs.Runs.{told_run}
use Rattle.core_begun.proofs.Events.{kept_draw}
use Rattle.core_begun.specs.Kept.{IsKeptSince, bounded_since, swept_since}
use Rattle.core_begun.proofs.Told.{no_edit}
use Rattle.core_begun.specs.Told.{IsToldSince, start_in}

or_neither : (a b : Bool) → a ≡ false → b ≡ false → (a || b) ≡ false
or_neither true b h k = absurd (false≢true (sym h))
or_neither false b h k = k

module _ (starts : Starts) (says : Says) (proper : StartsProper starts) (clusters : ℕ) (sessions : List ℕ) (begin : Begin) (nodes : AreNodes clusters sessions)
    (past : Past) (t : Table) (running : ℕ → Option Running) (a : AreCommitting (start_in clusters begin) past t running) (d : Draw) (run : IsRunOf starts says clusters sessions begin (event.Draw d ∷ past)) (bounded : SeesBounded past d.base) where
  abbrev later : Past
  later = event.Draw d ∷ past

  told : IsToldSince (start_in clusters begin) past
  told = told_run starts says proper clusters sessions nodes begin past run.1

  told_later : IsToldSince (start_in clusters begin) later
  told_later = told_run starts says proper clusters sessions nodes begin later run

  fresh : draw_of past d.revision ≡ None
  fresh = (fresh_run clusters sessions nodes begin starts says d past run).fresh

  -- what is told of drawn revisions is not told of this one
  not_yet : (b : Bool) → (b ≡ true → is_drawn past d.revision ≡ true) → b ≡ false
  not_yet false f = refl
  not_yet true f = absurd (false≢true (sym (ap (λ (o : Option Draw). is_some o) fresh) ∙ f refl))

  unended : is_ended past d.revision ≡ false
  unended = not_yet (is_ended past d.revision) (a.sound.ended_drawn d.revision)

  uncommitted : is_committed past d.revision ≡ false
  uncommitted = not_yet (is_committed past d.revision) (a.sound.committed_drawn d.revision)

  drawn_now : draw_of later d.revision ≡ Some d
  drawn_now = ap (λ b. cond b (Some d) (draw_of past d.revision)) (is_same_self d.revision)

  may : MayDrawAnew (core_in (start_in clusters begin) past t a.writers) d (paths_to_write d.marks)
  may = may_begin clusters sessions nodes starts says proper (core_in (start_in clusters begin) past t a.writers) begin d (paths_to_write d.marks) (λ o h. h) run (mark_path d.marks) (paths_once d.marks)

  -- no bound sees it yet
  unbounded : bounded_since (start_in clusters begin) past d.revision ≡ false
  unbounded = or_neither (sees (start_in clusters begin).at d.revision) _ may.new (by (is_bounded past d.revision) refl)
    where
      by : (b : Bool) → is_bounded past d.revision ≡ b → b ≡ false
      by false h = refl
      by true h = absurd (false≢true (sym may.begins.itself ∙ (ap (λ (o : Option Draw). option_map_or (λ (e : Draw). sees e.base d.revision) o false) drawn_now ∙ bounded d.revision h)))

  unswept : swept_since (start_in clusters begin) past d.revision ≡ false
  unswept = or_neither (sees (start_in clusters begin).at d.revision) _ may.new (by (is_swept past d.revision) refl)
    where
      by : (b : Bool) → is_swept past d.revision ≡ b → b ≡ false
      by false h = refl
      by true h = absurd (false≢true (sym unbounded ∙ or_right (sees (start_in clusters begin).at d.revision) _ (a.sound.bounds.swept d.revision h)))

  readable : IsKeptSince (start_in clusters begin) (documents_in t.documents) later (with_progress (λ q. is_among (a.writers q).written) d.revision (λ p. false))
  readable = kept_draw (start_in clusters begin) (documents_in t.documents) past _ (world_of (start_in clusters begin) past t running a told) d fresh (no_edit past d.revision uncommitted) told_later unbounded unswept

  -- a revision that was drawn before is another
  other : (r : Revision) (e : Draw) → draw_of past r ≡ Some e → is_same r d.revision ≡ false
  other r e drawn = by (is_same r d.revision) refl
    where
      by : (b : Bool) → is_same r d.revision ≡ b → b ≡ false
      by false k = refl
      by true k = absurd (false≢true (ap (λ (o : Option Draw). is_some o) (sym fresh ∙ (ap (draw_of past) (sym (Rattle.core_clash.proofs.Basics.same_revision r d.revision k)) ∙ drawn))))

  theirs : (q : ℕ) (y : Running) → with_session running d.session (Some (beginning d)) q ≡ Some y → IsTheirs later (with_writer a.writers d.revision (beginning d).writer) q y
  theirs = at_session (IsTheirs later (with_writer a.writers d.revision (beginning d).writer)) running d.session (beginning d)
      (record { session = refl; draw = drawn_now; unended = unended; committed = uncommitted; writer = writer_mine a.writers d.revision (beginning d).writer })
      (λ q y f h.
      let its = a.theirs q y h in
      let apart = other y.draw.revision y.draw its.draw in
      record {
        session = its.session;
        draw = ap (λ b. cond b (Some d) (draw_of past y.draw.revision)) apart ∙ its.draw;
        unended = its.unended;
        committed = its.committed;
        writer = writer_other a.writers d.revision (beginning d).writer y.draw.revision apart ∙ its.writer;
      })

  -- its cluster node wasn't stopped
  running_now : is_stopped past d.revision.cluster ≡ false
  running_now = sym (ap (λ o. option_map_or (is_stopped past) o false) run.0.cluster) ∙ run.0.running

  pub draw_commits : AreCommitting (start_in clusters begin) later t (with_session running d.session (Some (beginning d)))
  draw_commits = record {
    writers = with_writer a.writers d.revision (beginning d).writer;
    sound = draw_keeps (core_in (start_in clusters begin) past t a.writers) d (paths_to_write d.marks) a.sound may bounded;
    theirs = theirs;
    listed = at_session (λ q (y : Running). y.writer.paths ≡ paths_to_write y.draw.marks) running d.session (beginning d) refl (λ q y f h. a.listed q y h);
    kept = world_by (start_in clusters begin) (documents_in t.documents) later _ (λ q. is_among (with_writer a.writers d.revision (beginning d).writer q).written) (progress_with a.writers d.revision (beginning d).writer (λ p. false) (λ p. refl)) readable;
    unstopped = at_session (λ q (y : Running). is_stopped past y.draw.revision.cluster ≡ false) running d.session (beginning d) running_now (λ q y f h. a.unstopped q y h);
  }
