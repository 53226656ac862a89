-- A committer commits.
use Rattle.std.proofs.Common.{◌≡◌, ◌⊎◌, inl, inr, ℕ, true, false, ◌||◌, Some, Option, List, [], ◌∷◌, is_some, refl, sym, ap, subst, ◌∙◌}
use Rattle.std.specs.List.{list_any}
use Rattle.jr_path.specs.declared.path.Path.{Path}
use Rattle.jr_path.specs.declared.path.DocId.TheVariants as id
use Rattle.jr_rev.specs.declared.revision.Revision.{Revision}
use Rattle.oak_clash.specs.declared.mark.Mark.{Mark}
use Rattle.oak_clash.specs.declared.mark.Mark.TheVariants.{Exists, Prop}
use Rattle.oak_clash.specs.declared.mark.MarkAt.{MarkAt}
use Rattle.oak_clash.specs.Clashes.{commit_root}
use Rattle.oak_commit.specs.Clashing.{Writer, collision}
use Rattle.oak_commit.specs.Writing.{last_op}
use Rattle.oak_doc.specs.declared.document.Document.{Document}
use Rattle.oak_doc.specs.declared.update.UpdateOp.{UpdateOp}
use Rattle.oak_doc.specs.Updates.{after_changes}
use Rattle.oak_machine.specs.Sessions.{is_stopped}
use Rattle.oak_machine.specs.declared.event.Draw.{Draw}
use Rattle.oak_machine.specs.declared.event.Event.TheVariants as event
use Rattle.oak_machine.specs.History.{Past}
use Rattle.oak_machine.specs.Commits.{is_committed, marks_of}
use Rattle.oak_machine.specs.Runs.{MayCommit}
use Rattle.oak_read.specs.Meaning.{documents_in}
use Rattle.oak_store.specs.Tables.{Table, next_number, with_document}
use Rattle.core_read.specs.Holds.{is_at_path}
use Rattle.core_read.specs.Told.{IsIn}
use Rattle.core_read.proofs.Updates.{last_same}
use Rattle.core_keep.specs.Steps.{IsMainAt}
use Rattle.core_watch.proofs.GoingOn.{on_last}
use Rattle.core_watch.proofs.StayingOn.{formers_last}
use Rattle.core_world.proofs.Letting.{LetsRead, lets_on}
use Rattle.core_read.specs.Holds.{IsSameBut}
use Rattle.core_clash.specs.Core.{Docs, MayLast, root_of}
use Rattle.core_clash.specs.Sessions.{IsTheirs, Running}
use Rattle.core_clash.specs.Sound.{Sound}
use Rattle.core_clash.specs.Views.{In, mark_at}
use Rattle.core_clash.proofs.Basics.{is_same_self}
use Rattle.core_clash.proofs.Committed.{commit_keeps}
use Rattle.core_clash.proofs.Steps.{may_commit}
use Rattle.core_clash.proofs.Updates.{notes}
use Rattle.core_world.specs.States.{core_in, moved_in, nodes_in, with_session}
use Rattle.core_world.specs.Steps.{paths_to_write}
use Rattle.core_world.specs.Kept.{AreCommitting}
use Rattle.core_world.proofs.Committers.{at_session, of_others}
use Rattle.core_world.proofs.Ids.{IsWrittenIn, written_at}
use Rattle.core_world.proofs.Paths.{in_is}
use Rattle.core_world.proofs.Progress.{among_in, is_among}
use Rattle.core_world.proofs.Tables.{moved_stays, put_main, put_node}
use Rattle.core_world.proofs.Working.{goes, kept_name, mine, world_of}
use Rattle.jr_rev.specs.declared.vector.Pin.{Pin}
use Rattle.jr_rev.specs.Vectors.{sees}
use Rattle.core_changes.proofs.Steps.{step_commit}
use Rattle.oak_machine.specs.declared.event.Start.{Start}
use Rattle.core_begun.proofs.Events.{kept_last}
use Rattle.core_begun.specs.Kept.{IsKeptSince, IsHeldSince}
use Rattle.core_begun.specs.Told.{edit_since, IsToldSince}

module _ (start : Start) (past : Past) (t : Table) (running : ℕ → Option Running) (a : AreCommitting start past t running) (told : IsToldSince start past) (s : ℕ) (x : Running) (here : running s ≡ Some x) (uncommitted : x.committed ≡ false) (going : x.writer.undoing ≡ false)
    (unmet : x.writer.due ≡ []) (none_left : x.writer.left ≡ []) where
  abbrev r : Revision
  r = x.draw.revision

  abbrev core : Rattle.core_clash.specs.Core.Core
  core = core_in start past t a.writers

  pub may_last : MayLast (core_in start past t a.writers) x.draw
  may_last = record {
    going = goes start past t running a told s x here uncommitted going;
    unmet = ap (λ (w : Writer). w.due) (mine start past t running a told s x here).writer ∙ unmet;
    none_left = ap (λ (w : Writer). w.left) (mine start past t running a told s x here).writer ∙ none_left;
  }

  -- the marks of its draw
  marks_are : marks_of past r ≡ x.draw.marks
  marks_are = ap (λ (o : Option Draw). Rattle.std.specs.Option.option_map_or (λ (d : Draw). d.marks) o []) may_last.going.draw

  -- each node that the edit writes is written
  has_mark : (p : Path) (m : Mark) → IsIn (mark_at p m) x.draw.marks → is_among (a.writers r).written p ≡ true
  has_mark p m h = by (a.sound.covered r p m (subst (λ (ms : List MarkAt). In (mark_at p m) ms) (sym marks_are) (in_is (mark_at p m) x.draw.marks h)) may_last.going.going)
    where
      by : In p (a.writers r).written ⊎ In p (a.writers r).left → is_among (a.writers r).written p ≡ true
      by (inl k) = among_in (a.writers r).written p k
      by (inr k) = absurd (subst (λ (ps : List Path). In p ps) may_last.none_left k)

  all_written : (p : Path) → list_any (is_at_path p) x.draw.edit.writes ≡ true → is_among (a.writers r).written p ≡ true
  all_written p h = by (written_at p x.draw.edit.writes h)
    where
      by : IsWrittenIn p x.draw.edit.writes → is_among (a.writers r).written p ≡ true
      by (inl k) = has_mark p Exists ((told.draws r x.draw may_last.going.draw).covers.node p k)
      by (inr k) = has_mark p (Prop k.0) ((told.draws r x.draw may_last.going.draw).covers.prop p k.0 k.1)

  abbrev op : List MarkAt → UpdateOp
  op ms = last_op x.draw.revision ms

  abbrev doc : List MarkAt → Document
  doc ms = after_changes (nodes_in t (commit_root ms)) (last_op x.draw.revision ms) (next_number t)

  abbrev now : Table
  now = with_document t (id.Node (commit_root x.draw.marks)) (doc x.draw.marks) (next_number t)

  abbrev later : Past
  later = event.Commit x.draw.revision ∷ past

  module _ (free : is_some (collision (nodes_in t (commit_root x.draw.marks)) x.draw.revision) ≡ false) where
    free_there : is_some (collision (nodes_in t (root_of past r)) r) ≡ false
    free_there = subst (λ (ms : List MarkAt). is_some (collision (nodes_in t (commit_root ms)) r) ≡ false) (sym marks_are) free

    pub commit_follows : MayCommit past x.draw.revision
    commit_follows = may_commit (core_in start past t a.writers) x.draw a.sound may_last free_there

    sound_at : (ms : List MarkAt) → marks_of past r ≡ ms → Sound (record { old = sees start.at; number = next_number t; docs = Rattle.core_clash.specs.Core.with_document (nodes_in t) (commit_root ms) (doc ms); moved = moved_in t; past = later; writers = a.writers })
    sound_at ms is = subst (λ (ms : List MarkAt). Sound (record { old = sees start.at; number = next_number t; docs = Rattle.core_clash.specs.Core.with_document (nodes_in t) (commit_root ms) (doc ms); moved = moved_in t; past = later; writers = a.writers })) is
        (commit_keeps (core_in start past t a.writers) x.draw (next_number t) (Rattle.core_clash.specs.Core.with_document (nodes_in t) (root_of past r) (doc (marks_of past r))) a.sound may_last (notes (nodes_in t) past r (next_number t) free_there))

    main : IsMainAt (documents_in t.documents) (documents_in now.documents) (commit_root x.draw.marks) (doc x.draw.marks)
    main = put_main t (commit_root x.draw.marks) (doc x.draw.marks) (next_number t)

    same_but : IsSameBut r (commit_root x.draw.marks) (nodes_in t (commit_root x.draw.marks)) (doc x.draw.marks)
    same_but = last_same r (commit_root x.draw.marks) (nodes_in t (commit_root x.draw.marks)) (op x.draw.marks) (next_number t) refl (kept_name start (documents_in t.documents) past _ a.kept (commit_root x.draw.marks)) refl

    sound : Sound (core_in start later now a.writers)
    sound = subst (λ (docs : Docs). Sound (record { old = sees start.at; number = next_number t; docs = docs; moved = moved_in now; past = later; writers = a.writers })) (sym (put_node t (commit_root x.draw.marks) (doc x.draw.marks) (next_number t)))
        (subst (λ (moved : Path → List Document). Sound (record { old = sees start.at; number = next_number t; docs = Rattle.core_clash.specs.Core.with_document (nodes_in t) (commit_root x.draw.marks) (doc x.draw.marks); moved = moved; past = later; writers = a.writers })) (sym (moved_stays t now (commit_root x.draw.marks) (doc x.draw.marks) main same_but.whole)) (sound_at x.draw.marks marks_are))

    readable : IsKeptSince start (documents_in now.documents) later (λ q. is_among (a.writers q).written)
    readable = kept_last start (documents_in t.documents) (documents_in now.documents) past _ (world_of start past t running a told) r x.draw may_last.going.draw commit_follows all_written (op x.draw.marks) (next_number t) refl refl main

    theirs : (q : ℕ) (y : Running) → with_session running s (Some (record { draw = x.draw; writer = x.writer; committed = true })) q ≡ Some y → IsTheirs later a.writers q y
    theirs = at_session (IsTheirs later a.writers) running s _
        (let m = mine start past t running a told s x here in record { session = m.session; draw = m.draw; unended = m.unended; committed = ap (λ b. b || is_committed past r) (is_same_self r); writer = m.writer })
        (λ q y f h.
        let its = a.theirs q y h in
        let other = of_others past a.writers s q x y (mine start past t running a told s x here) its f in
        record { session = its.session; draw = its.draw; unended = its.unended; committed = ap (λ b. b || is_committed past y.draw.revision) other ∙ its.committed; writer = its.writer })

    pub last_commits : AreCommitting start later now (with_session running s (Some (record { draw = x.draw; writer = x.writer; committed = true })))
    last_commits = record {
      writers = a.writers;
      sound = sound;
      theirs = theirs;
      listed = at_session (λ q (y : Running). y.writer.paths ≡ paths_to_write y.draw.marks) running s _ (a.listed s x here) (λ q y f h. a.listed q y h);
      kept = readable;
      unstopped = at_session (λ q (y : Running). is_stopped past y.draw.revision.cluster ≡ false) running s _ (a.unstopped s x here) (λ q y f h. a.unstopped q y h);
    }

    -- no pin that is held sees the revision
    commit_edits : (pin : Pin) → IsHeldSince start past pin.base pin.sweep → (q : Revision) → sees pin.base q ≡ true → edit_since later q ≡ edit_since past q
    commit_edits pin held q seen =
        (step_commit start pin.base pin (documents_in t.documents) past _ (world_of start past t running a told) (documents_in now.documents) r x.draw
        (record { to = held; used = held.base; above = held.above; below = λ o h. h }) may_last.going.draw commit_follows
        (λ v h. on_last start (record { base = v; sweep = pin.sweep }) (documents_in t.documents) (documents_in now.documents) past _ (world_of start past t running a told) h r x.draw (op x.draw.marks) (next_number t) may_last.going.draw commit_follows refl refl main readable)).edits q seen

    -- readers read on
    pub commit_lets : LetsRead start t now past later
    commit_lets = lets_on start t now past later told commit_edits
        (λ pin held. on_last start pin (documents_in t.documents) (documents_in now.documents) past _ (world_of start past t running a told) held r x.draw (op x.draw.marks) (next_number t) may_last.going.draw commit_follows refl refl main readable)
        (λ formers l. formers_last start (documents_in t.documents) (documents_in now.documents) past _ (world_of start past t running a told) r x.draw (op x.draw.marks) (next_number t) may_last.going.draw commit_follows refl refl main readable formers l) (λ q. refl) (λ q. refl)
