-- A revision ends, with its committer; and events that touch no committer.
use Rattle.core_keep.specs.Journal.{is_swept}
use Rattle.std.proofs.Common.{◌≡◌, inl, inr, ℕ, Bool, true, false, ◌||◌, Some, None, Option, List, ◌∷◌, refl, sym, ap, ◌∙◌}
use mathlib.Core.Bool.{false≢true}
use Rattle.jr_path.specs.declared.path.Path.{Path}
use Rattle.jr_rev.specs.declared.revision.Revision.{Revision}
use Rattle.oak_commit.specs.Clashing.{Writer, noted}
use Rattle.oak_doc.specs.declared.document.Document.{Document}
use Rattle.oak_machine.specs.declared.event.Event.{Event}
use Rattle.oak_machine.specs.declared.event.Event.TheVariants as event
use Rattle.oak_machine.specs.History.{Past}
use Rattle.oak_machine.specs.Commits.{is_committed, is_ended, is_in_flight}
use Rattle.oak_machine.specs.Sessions.{is_stop_of, is_stopped}
use Rattle.oak_read.specs.Meaning.{documents_in}
use Rattle.oak_store.specs.Tables.{Table}
use Rattle.core_read.specs.Holds.{has_revision}
use Rattle.core_keep.specs.Journal.{is_idle}
use Rattle.core_clash.specs.Core.{IsDone, MayFinish, is_quiet, root_of}
use Rattle.core_clash.specs.Sessions.{IsTheirs, Running}
use Rattle.core_clash.proofs.Finished.{event_keeps, finish_keeps}
use Rattle.core_world.specs.States.{core_in, nodes_in, with_session}
use Rattle.core_world.specs.Steps.{IsThrough, paths_to_write}
use Rattle.core_world.specs.Kept.{AreCommitting}
use Rattle.core_world.proofs.Committers.{at_others, of_others}
use Rattle.core_world.proofs.Progress.{is_among}
use Rattle.core_world.proofs.Working.{flies, mine, world_of}
use Rattle.oak_machine.specs.declared.event.Start.{Start}
use Rattle.core_begun.proofs.World.{unsaid_at}
use Rattle.core_begun.proofs.Events.{kept_end, kept_idle}
use Rattle.core_begun.specs.Kept.{IsKeptSince}
use Rattle.core_begun.specs.Told.{edit_since, IsToldSince}
use Rattle.core_begun.proofs.Sound.{found as edit_is}

-- what a document notes as committed it has
noted_said : (o : Option Document) (r : Revision) → noted o r ≡ has_revision o r
noted_said None r = refl
noted_said (Some d) r = refl

module _ (start : Start) (past : Past) (t : Table) (running : ℕ → Option Running) (a : AreCommitting start past t running) (told : IsToldSince start past) where
  -- what is committed, and no bound has swept, has an edit
  pub committed_edit : {A : Type 0} (r : Revision) → is_swept past r ≡ false → is_committed past r ≡ true → edit_since past r ≡ None → A
  committed_edit r fresh c none = absurd (false≢true (sym ((a.kept.keeps (root_of past r)).unsaid r (edit_is past r ∙ none) (a.sound.new r (a.sound.committed_drawn r c))) ∙ (sym (noted_said (nodes_in t (root_of past r)) r) ∙ a.sound.status r fresh c)))

  -- no bound has swept what is in flight
  pub unswept : (r : Revision) → is_in_flight past r ≡ true → is_swept past r ≡ false
  unswept r flies = by (is_swept past r) refl
    where
      by : (b : Bool) → is_swept past r ≡ b → b ≡ false
      by false h = refl
      by true h = absurd (false≢true (sym (a.sound.bounds.settled r flies) ∙ a.sound.bounds.swept r h))

  module _ (s : ℕ) (x : Running) (here : running s ≡ Some x) (through : IsThrough x) where
    abbrev r : Revision
    r = x.draw.revision

    abbrev later : Past
    later = event.End x.draw.revision ∷ past

    done : IsDone (core_in start past t a.writers) r
    done = by through
      where
        by : IsThrough x → IsDone (core_in start past t a.writers) r
        by (inl c) = inl ((mine start past t running a told s x here).committed ∙ c)
        by (inr u) = inr (ap (λ (w : Writer). w.undoing) (mine start past t running a told s x here).writer ∙ u.0, ap (λ (w : Writer). w.written) (mine start past t running a told s x here).writer ∙ u.1)

    pub may_finish : MayFinish (core_in start past t a.writers) x.draw
    may_finish = let m = mine start past t running a told s x here in record { draw = m.draw; unended = m.unended; done = done }

    nothing_left : edit_since past r ≡ None → (p : Path) → is_among (a.writers r).written p ≡ false
    nothing_left none p = by done
      where
        by : IsDone (core_in start past t a.writers) r → is_among (a.writers r).written p ≡ false
        by (inl c) = committed_edit r (unswept r (flies start past t running a told s x here)) c none
        by (inr u) = ap (λ (ps : List Path). is_among ps p) u.1

    readable : IsKeptSince start (documents_in t.documents) later (λ q. is_among (a.writers q).written)
    readable = kept_end start (documents_in t.documents) past _ (world_of start past t running a told) r x.draw may_finish.draw (flies start past t running a told s x here) nothing_left

    theirs : (q : ℕ) (y : Running) → with_session running s None q ≡ Some y → IsTheirs later a.writers q y
    theirs = at_others (IsTheirs later a.writers) running s
        (λ q y f h.
        let its = a.theirs q y h in
        let other = of_others past a.writers s q x y (mine start past t running a told s x here) its f in
        record { session = its.session; draw = its.draw; unended = ap (λ b. b || is_ended past y.draw.revision) other ∙ its.unended; committed = its.committed; writer = its.writer })

    pub finish_commits : AreCommitting start later t (with_session running s None)
    finish_commits = record {
      writers = a.writers;
      sound = finish_keeps (core_in start past t a.writers) x.draw a.sound may_finish;
      theirs = theirs;
      listed = at_others (λ q (y : Running). y.writer.paths ≡ paths_to_write y.draw.marks) running s (λ q y f h. a.listed q y h);
      kept = readable;
      unstopped = at_others (λ q (y : Running). is_stopped past y.draw.revision.cluster ≡ false) running s (λ q y f h. a.unstopped q y h);
    }

-- ---- other events

theirs_quiet : (e : Event) (past : Past) (writers : Revision → Writer) (q : ℕ) (y : Running) → is_quiet e ≡ true → IsTheirs past writers q y → IsTheirs (e ∷ past) writers q y
theirs_quiet (event.Draw d) past writers q y h its = absurd (false≢true h)
theirs_quiet (event.Commit r) past writers q y h its = absurd (false≢true h)
theirs_quiet (event.End r) past writers q y h its = absurd (false≢true h)
theirs_quiet e past writers q y h its = record { session = its.session; draw = its.draw; unended = its.unended; committed = its.committed; writer = its.writer }

clash_quiet : (e : Event) → is_quiet e ≡ true → is_idle e ≡ true
clash_quiet (event.Draw d) h = h
clash_quiet (event.Commit r) h = h
clash_quiet (event.End r) h = h
clash_quiet (event.Bound m t) h = h
clash_quiet e h = refl

pub quiet_commits : (start : Start) (past : Past) (t : Table) (running : ℕ → Option Running) → AreCommitting start past t running → IsToldSince start past → (e : Event) → is_quiet e ≡ true → ((k : ℕ) → is_stop_of k e ≡ false) → AreCommitting start (e ∷ past) t running
quiet_commits start past t running a told e quiet on =
    let readable : IsKeptSince start (documents_in t.documents) (e ∷ past) (λ q. is_among (a.writers q).written) = kept_idle start (documents_in t.documents) past _ e (clash_quiet e quiet) (world_of start past t running a told) in
    record {
      writers = a.writers;
      sound = event_keeps (core_in start past t a.writers) e quiet a.sound;
      theirs = λ q y h. theirs_quiet e past a.writers q y quiet (a.theirs q y h);
      listed = a.listed;
      kept = readable;
      unstopped = λ q y h. ap (λ b. b || is_stopped past y.draw.revision.cluster) (on y.draw.revision.cluster) ∙ a.unstopped q y h;
    }
