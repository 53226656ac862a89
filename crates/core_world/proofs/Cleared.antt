-- No step of a world brings back what is gone from a document: each but the write of a committer
-- brings nothing of any revision, and no committer at work is that of what is dead.
use Rattle.std.proofs.Common.{◌≡◌, inl, inr, ℕ, Bool, true, false, cond, not, ◌&&◌, ◌||◌}
use Rattle.std.proofs.Common.{Some, None, Option, is_some, is_none, List, ◌∷◌}
use Rattle.std.proofs.Common.{refl, sym, ap, subst, ◌∙◌}
use Rattle.std.specs.Prelude.{Err, Ok}
use Rattle.std.specs.FinMap.{is_sorted}
use Rattle.std.specs.Option.{option_or}
use Rattle.std.specs.Ordering.{eq_by_cmp}
use mathlib.Core.Bool.{false≢true}
use Rattle.jr_path.specs.Ids.{id_cmp}
use Rattle.jr_path.specs.Names.{path_cmp}
use Rattle.jr_path.specs.declared.path.DocId.{DocId}
use Rattle.jr_path.specs.declared.path.DocId.TheVariants as id
use Rattle.jr_path.specs.declared.path.Path.{Path}
use Rattle.jr_rev.specs.declared.revision.Revision.{Revision}
use Rattle.jr_value.specs.declared.value.Property.{Property}
use Rattle.jr_rev.specs.declared.vector.Pin.{Pin}
use Rattle.jr_rev.specs.declared.vector.RevVec.{RevVec}
use Rattle.jr_rev.specs.Revisions.{is_same}
use Rattle.jr_rev.specs.Vectors.{start_of, sees}
use Rattle.oak_clash.specs.declared.mark.Mark.{Mark}
use Rattle.oak_clash.specs.declared.mark.Mark.TheVariants.{Exists, Guard, Touch, Prop}
use Rattle.oak_commit.specs.Clashing.{Met, Writer, has, has_mark, mark_op, marked}
use Rattle.oak_commit.specs.Writing.{last_op, write_op}
use Rattle.oak_doc.specs.declared.document.Document.{Document}
use Rattle.oak_doc.specs.declared.document.PrevEntry.{PrevEntry}
use Rattle.oak_doc.specs.declared.update.OpFault.TheVariants as fault
use Rattle.oak_doc.specs.declared.update.UpdateOp.{UpdateOp}
use Rattle.oak_doc.specs.Updates.{after_changes, is_met, of_revision, update_refusal, values_of_property}
use Rattle.oak_machine.specs.declared.event.Draw.{Draw}
use Rattle.oak_machine.specs.declared.event.Event.{Event}
use Rattle.oak_machine.specs.declared.event.Event.TheVariants as event
use Rattle.oak_machine.specs.Commits.{draw_of, is_committed, is_drawn, is_ended}
use Rattle.oak_machine.specs.Commits.{is_in_base, is_in_flight}
use Rattle.oak_machine.specs.History.{Past}
use Rattle.oak_machine.specs.Laws.{Says, Starts}
use Rattle.oak_machine.specs.Runs.{IsRunOf}
use Rattle.oak_machine.specs.Sessions.{is_stop_of, is_stopped}
use Rattle.oak_read.specs.Meaning.{Documents, documents_in}
use Rattle.oak_store.specs.Tables.{Table, found, next_number, with_document}
use Rattle.core_read.specs.Holds.{root_entry}
use Rattle.core_heads.proofs.Orders.{and_both}
use Rattle.core_heads.proofs.Runs.{fresh_run}
use Rattle.core_clash.specs.Core.{Core, Docs, IsDead, root_of}
use Rattle.core_clash.specs.Sessions.{Running}
use Rattle.core_clash.specs.Sound.{IsOf, IsWriterOf}
use Rattle.core_clash.specs.Views.{In}
use Rattle.core_clash.proofs.Basics.{is_same_self, not_both, or_left, same_path}
use Rattle.core_clash.proofs.Basics.{same_revision, some_of}
use Rattle.core_keep.specs.Dropping.{IsDocumentWithin}
use Rattle.core_keep.specs.Splits.{previous_write}
use Rattle.core_keep.specs.Steps.{IsParted, IsPreviousAt}
use Rattle.core_keep.proofs.Splits.{split_parts}
use Rattle.core_keep.proofs.Unseen.{left_within}
use Rattle.core_world.specs.Collecting.{MayPrune, MaySplit, after_copied, after_pruned}
use Rattle.core_world.specs.Collecting.{after_removed, after_split, split_now}
use Rattle.core_world.specs.Freed.{HasNothing}
use Rattle.core_world.specs.Kept.{AreCommitting, AreSessionsKept, IsClearedOf, has_written}
use Rattle.core_world.specs.States.{State, core_in, nodes_in, origin}
use Rattle.core_world.specs.Steps.{after_last, after_mark, after_update, after_write}
use Rattle.core_world.specs.Steps.{after_write_in_want, with_result}
use Rattle.core_world.proofs.Collects.{taken_is}
use Rattle.core_world.proofs.Freed.{false_where, update_brings, write_brings}
use Rattle.core_world.proofs.Progress.{among_in}
use Rattle.core_world.proofs.Recovered.{revision_is}
use Rattle.core_world.proofs.Splitting.{previous_from}
use Rattle.core_world.proofs.Tabled.{last_table, mark_table}
use Rattle.core_world.proofs.Tables.{put_is, put_node}
use Rattle.core_world.proofs.Undoing.{not_dead}
use Rattle.core_world.proofs.Working.{not_start}
use Rattle.core_begun.specs.Told.{IsToldSince}

-- ---- a document with no more than it had

-- each mark and the commit root of r were there
record HasNoMore (r : Revision) (old d : Document) : Type 0 where
  marks : (m : Mark) → has_mark d r m ≡ true → has_mark old r m ≡ true
  root : has d.commit_root r ≡ true → has old.commit_root r ≡ true

no_more : (r : Revision) (old d : Document) → HasNoMore r old d → HasNothing (Some old) r
    → HasNothing (Some d) r
no_more r old d less free = record {
  marks = λ m. false_where (has_mark d r m)
      (λ h. not_both (has_mark old r m) (less.marks m h) (free.marks m));
  root = false_where (has d.commit_root r)
      (λ h. not_both (has old.commit_root r) (less.root h) free.root);
}

-- a node's document is put in the place of one that had as much
module _ (t : Table) (at : Path) (old d : Document) (there : nodes_in t at ≡ Some old) where
  put_brings : (r : Revision) → HasNoMore r old d → (n : ℕ) (p : Path) → HasNothing (nodes_in t p) r
      → HasNothing (nodes_in (with_document t (id.Node at) d n) p) r
  put_brings r less n p free =
      subst (λ (docs : Docs). HasNothing (docs p) r) (sym (put_node t at d n))
      (by (eq_by_cmp path_cmp p at) refl)
    where
      by : (b : Bool) → eq_by_cmp path_cmp p at ≡ b
          → HasNothing (cond b (Some d) (nodes_in t p)) r
      by false h = free
      by true h = no_more r old d less (subst (λ (o : Option Document). HasNothing o r)
          (ap (nodes_in t) (same_path p at h) ∙ there) free)

module _ (w : State) (s : ℕ) (p : Path) (r : Revision)
    (free : HasNothing (nodes_in w.table p) r) where
  abbrev n : ℕ
  n = next_number w.table

  -- ---- a collection

  module _ (m t : RevVec) (at : Path) (old : Document) (op : UpdateOp)
      (may : MayPrune w m t at old op) where
    abbrev pruned : Document
    pruned = after_changes (Some old) op (next_number w.table)

    within : IsDocumentWithin old pruned
    within = left_within (documents_in w.table.documents) at m t may.bound.below old op n may.keys
        may.numbers may.order may.garbage

    pruned_less : HasNoMore r old pruned
    pruned_less = record { marks = marks; root = within.roots r }
      where
        marks : (k : Mark) → has_mark pruned r k ≡ true → has_mark old r k ≡ true
        marks Exists h = within.deleted r h
        marks Guard h = within.guard r h
        marks Touch h = within.touched r h
        marks (Prop name) h = within.props name r h

    pub prune_brings : HasNothing (nodes_in (after_pruned w s at old op).table p) r
    prune_brings = put_brings w.table at old pruned may.there r pruned_less n p free

  -- a document goes
  pub removal_brings : (i : DocId) → is_sorted id_cmp w.table.documents ≡ true
      → HasNothing (nodes_in (after_removed w s i).table p) r
  removal_brings i sorted = subst (λ (o : Option Document). HasNothing o r)
      (sym (taken_is w.table i (id.Node p) sorted)) (by (eq_by_cmp id_cmp (id.Node p) i))
    where
      by : (b : Bool) → HasNothing (cond b None (nodes_in w.table p)) r
      by true = record { marks = λ m. refl; root = refl }
      by false = free

  -- ---- a split

  module _ (read : Documents) (pin : Pin) (at : Path) (old : Document) (e : PrevEntry)
      (may : MaySplit w read pin at old e) where
    abbrev left : Document
    left = split_now w read pin old e

    abbrev fresh : Document
    fresh = after_changes None (previous_write read pin old) may.first

    parts : IsParted old left fresh
    parts = split_parts read pin old e may.first n may.order

    first_of : {X : Type 0} (a b : Option X) → is_some a ≡ true → is_some (option_or a b) ≡ true
    first_of None b h = absurd (false≢true h)
    first_of (Some x) b h = refl

    split_less : HasNoMore r old left
    split_less = record {
      marks = marks;
      root = λ h. ap (λ (es : List (Revision × ℕ)). has es r) (sym parts.roots) ∙ h;
    }
      where
        marks : (k : Mark) → has_mark left r k ≡ true → has_mark old r k ≡ true
        marks Exists h = ap (λ (es : List (Revision × Bool)). has es r) (sym parts.deleted) ∙ h
        marks Guard h = ap (λ es. has es r) (sym parts.guard) ∙ h
        marks Touch h = ap (λ es. has es r) (sym parts.touched) ∙ h
        marks (Prop name) h =
            ap (λ (o : Option (Option Property)). is_some o) (sym (parts.props name r))
            ∙ first_of (of_revision (values_of_property left.props name) r)
            (of_revision (values_of_property fresh.props name) r) h

    pub split_brings : HasNothing (nodes_in (after_split w s read pin at old e).table p) r
    split_brings = put_brings w.table at old left may.there r split_less n p free

  -- the write of a previous document
  pub copy_brings : (at : Path) (k : ℕ) (x : Document)
      → HasNothing (nodes_in (after_copied w s at k x).table p) r
  copy_brings at k x = subst (λ (o : Option Document). HasNothing o r) (sym (change.node p)) free
    where
      now : Table
      now = with_document w.table (id.Prev k at) x (next_number w.table)

      change : IsPreviousAt (documents_in w.table.documents) (documents_in now.documents) at k
      change = previous_from (documents_in w.table.documents) (documents_in now.documents) at k
          (Some x) (put_is w.table (id.Prev k at) x (next_number w.table))

  -- ---- updates of the settings, marks and last writes

  pub settings_bring : (op : UpdateOp) → op.id ≡ id.Settings
      → HasNothing (nodes_in (after_update w.table op) p) r
  settings_bring op at =
      by (is_none (found w.table op.id) && not op.create) (is_met (found w.table op.id) op.cond)
    where
      made : Document
      made = after_changes (found w.table op.id) op (next_number w.table)

      put : (i : DocId) → i ≡ id.Settings
          → nodes_in (with_document w.table i made (next_number w.table)) p ≡ nodes_in w.table p
      put i e = subst
          (λ (j : DocId).
          nodes_in (with_document w.table j made (next_number w.table)) p ≡ nodes_in w.table p)
          (sym e) (put_is w.table id.Settings made (next_number w.table) (id.Node p))

      by : (a b : Bool) → HasNothing (nodes_in (with_result w.table op.id (cond a (Err fault.Absent)
          (cond b (Ok made) (Err (update_refusal (found w.table op.id) op.cond))))) p) r
      by true b = free
      by false true = subst (λ (o : Option Document). HasNothing o r) (sym (put op.id at)) free
      by false false = free

  pub mark_brings : (x : Running) (f : Met) (rest : List Met)
      → HasNothing (nodes_in (after_mark w s x f rest).table p) r
  mark_brings x f rest =
      let op = mark_op (root_of w.past f.other) f.other x.draw.revision f.theirs in
      subst (λ (u : Table). HasNothing (nodes_in u p) r) (sym (mark_table w s x f rest))
      (update_brings r w.table op p refl free)

  pub last_brings : (x : Running) → HasNothing (nodes_in (after_last w s x).table p) r
  last_brings x = subst (λ (u : Table). HasNothing (nodes_in u p) r) (sym (last_table w s x))
      (update_brings r w.table (last_op x.draw.revision x.draw.marks) p refl free)

-- ---- the write of a committer

-- it isn't that of what is dead
module _ (w : State) (a : AreCommitting (origin w) w.past w.table w.running) (s : ℕ) (x : Running)
    (here : w.running s ≡ Some x) where
  other : (d : Draw) → IsDead w.past d → is_same d.revision x.draw.revision ≡ false
  other d dead = false_where (is_same d.revision x.draw.revision) (λ h.
      not_both (is_same x.draw.revision d.revision)
      (subst (λ (y : Revision). is_same y d.revision ≡ true)
      (same_revision d.revision x.draw.revision h) (is_same_self d.revision))
      (not_dead (origin w) w.past w.table w.running a d dead s x here))

  pub step_brings : (d : Draw) → IsDead w.past d → (p : Path)
      → HasNothing (nodes_in w.table p) d.revision → (q : Path) (rest : List Path)
      → HasNothing (nodes_in (after_write w s x q rest).table p) d.revision
      × HasNothing (nodes_in (after_write_in_want w s x q rest).table p) d.revision
  step_brings d dead p free q rest =
      let o = x.draw.revision in
      let ws = x.draw.edit.writes in
      let now = update_brings d.revision w.table (write_op o ws x.draw.marks q) p
      (write_brings d.revision o ws x.draw.marks q (other d dead)) free in
      (now, now)

-- ---- what is dead stays so

or_then : (a b : Bool) → b ≡ true → (a || b) ≡ true
or_then true b h = refl
or_then false b h = h

module _ (starts : Starts) (says : Says) (w : State) (kept : AreSessionsKept starts says w) where
  dead_before : (e : Event) (past : Past) (d : Draw)
      → IsRunOf starts says w.clusters w.sessions w.begin (e ∷ past) → IsDead past d
      → IsDead (e ∷ past) d
  dead_before (event.Draw f) past d run dead = record {
    stopped = dead.stopped;
    draw = by (is_same d.revision f.revision) refl;
    uncommitted = dead.uncommitted;
  }
    where
      fresh : draw_of past f.revision ≡ None
      fresh = (fresh_run w.clusters w.sessions kept.nodes w.begin starts says f past run).fresh

      by : (b : Bool) → is_same d.revision f.revision ≡ b
          → cond (is_same d.revision f.revision) (Some f) (draw_of past d.revision) ≡ Some d
      by false h = ap (λ b. cond b (Some f) (draw_of past d.revision)) h ∙ dead.draw
      by true h = absurd (false≢true (ap (λ (o : Option Draw). is_some o) (sym fresh
          ∙ (ap (draw_of past) (sym (same_revision d.revision f.revision h)) ∙ dead.draw))))
  dead_before (event.Commit q) past d run dead = record {
    stopped = dead.stopped;
    draw = dead.draw;
    uncommitted = by (is_same d.revision q) refl;
  }
    where
      by : (b : Bool) → is_same d.revision q ≡ b
          → (is_same d.revision q || is_committed past d.revision) ≡ false
      by false h = ap (λ b. b || is_committed past d.revision) h ∙ dead.uncommitted
      by true h = not_both (is_stopped past q.cluster)
          (subst (λ (x : Revision). is_stopped past x.cluster ≡ true)
          (same_revision d.revision q h) dead.stopped)
          run.0.open_.running
  dead_before (event.Stop k) past d run dead = record {
    stopped = or_then (is_stop_of d.revision.cluster (event.Stop k))
        (is_stopped past d.revision.cluster) dead.stopped;
    draw = dead.draw;
    uncommitted = dead.uncommitted;
  }
  dead_before e past d run dead = record {
    stopped = dead.stopped;
    draw = dead.draw;
    uncommitted = dead.uncommitted;
  }

  pub dead_stays : (e : Event) (past : Past) (d : Draw) → w.past ≡ e ∷ past → IsDead past d
      → IsDead w.past d
  dead_stays e past d at dead = subst (λ (x : Past). IsDead x d) (sym at) (dead_before e past d
      (subst (λ (x : Past). IsRunOf starts says w.clusters w.sessions w.begin x) at kept.run) dead)

-- ---- what is gone from every document may end

-- what is in flight of a stopped cluster node and isn't committed is dead
module _ (w : State) (a : AreCommitting (origin w) w.past w.table w.running) (k : ℕ)
    (stopped : is_stopped w.past k ≡ true) where
  flying_dead : (d : Draw) → d.revision.cluster ≡ k → draw_of w.past d.revision ≡ Some d
      → is_in_flight w.past d.revision ≡ true → is_committed w.past d.revision ≡ false
      → IsDead w.past d
  flying_dead d of drawn flies uncommitted = record {
    stopped = ap (is_stopped w.past) of ∙ stopped;
    draw = drawn;
    uncommitted = uncommitted;
  }

  pub clears : ((d : Draw) (p : Path) → IsDead w.past d → d.revision.cluster ≡ k
      → HasNothing (nodes_in w.table p) d.revision) → IsClearedOf w k
  clears gone r of flies uncommitted = record {
    marks = λ p m. subst (λ (x : Revision). marked (nodes_in w.table p) x m ≡ false) same
        ((free p).marks m);
    roots = λ p. subst (λ (x : Revision). is_some (root_entry (nodes_in w.table p) x) ≡ false) same
        (free p).root;
  }
    where
      d : (f : Draw) × (draw_of w.past r ≡ Some f)
      d = some_of (draw_of w.past r)
          (and_both (is_drawn w.past r) (not (is_ended w.past r)) flies).0

      same : d.0.revision ≡ r
      same = revision_is w.past r d.0 d.1

      its : d.0.revision.cluster ≡ k
      its = ap (λ (x : Revision). x.cluster) same ∙ of

      dead : IsDead w.past d.0
      dead = flying_dead d.0 its (ap (draw_of w.past) same ∙ d.1)
          (ap (is_in_flight w.past) same ∙ flies) (ap (is_committed w.past) same ∙ uncommitted)

      free : (p : Path) → HasNothing (nodes_in w.table p) d.0.revision
      free p = gone d.0 p dead its

-- ---- what a committer hasn't written has nothing of it

module _ (w : State) (a : AreCommitting (origin w) w.past w.table w.running) (r : Revision)
    (later : sees (origin w).at r ≡ false) (p : Path) where
  abbrev core : Core
  core = core_in (origin w) w.past w.table a.writers

  pub unwritten_free : has_written (a.writers r) p ≡ false → HasNothing (nodes_in w.table p) r
  unwritten_free unwritten = record {
    marks = λ m. false_where (marked (nodes_in w.table p) r m)
        (λ h. of_mark m (a.sound.origin r p m (or_left (marked (nodes_in w.table p) r m) _ h)));
    root = false_where (is_some (root_entry (nodes_in w.table p) r))
        (λ h. of_root (a.sound.unrooted r p h));
  }
    where
      never : In p (a.writers r).written → ⊥
      never i = not_both (has_written (a.writers r) p) (among_in (a.writers r).written p i)
          unwritten

      of_mark : (m : Mark) → IsOf core p r m → ⊥
      of_mark m (inl e) = false≢true (sym later ∙ e)
      of_mark m (inr i) = never i.0

      of_root : IsWriterOf core p r → ⊥
      of_root (inl e) = false≢true (sym later ∙ e)
      of_root (inr i) = never i.0

module _ (w : State) (a : AreCommitting (origin w) w.past w.table w.running) (told : IsToldSince (origin w) w.past) (s : ℕ)
    (x : Running) where
  pub unwritten_at_work : w.running s ≡ Some x → (p : Path) → has_written x.writer p ≡ false
      → HasNothing (nodes_in w.table p) x.draw.revision
  unwritten_at_work here p unwritten = unwritten_free w a x.draw.revision
      (not_start (origin w) w.past w.table w.running a told s x here) p
      (ap (λ (y : Writer). has_written y p) (a.theirs s x here).writer ∙ unwritten)
