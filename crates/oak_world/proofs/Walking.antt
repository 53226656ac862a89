-- What a step of a session keeps, and what the session is told by it.
use mathlib.Core.Bool.{false≢true}
use Rattle.std.proofs.Common.{◌≡◌, ◌⊎◌, inl, inr, ℕ, Bool, true, false, cond, not, ◌&&◌, Option, Some, None, List, [], ◌∷◌, ◌++◌, map, drop, is_some, refl, sym, ap, subst, ◌∙◌}
use Rattle.std.specs.Prelude.{◌==◌, slice_get, reverse}
use Rattle.std.specs.List.{list_any}
use Rattle.std.specs.Option.{option_map_or, unwrap_or}
use Rattle.jr_path.specs.declared.path.Path.{Path}
use Rattle.jr_path.specs.declared.path.Item.{Item}
use Rattle.jr_path.specs.declared.path.DocId.{DocId}
use Rattle.jr_path.specs.Ids.{names_of}
use Rattle.jr_rev.specs.declared.revision.Revision.{Revision}
use Rattle.jr_rev.specs.declared.vector.Pin.{Pin}
use Rattle.jr_rev.specs.declared.vector.RevVec.{RevVec}
use Rattle.jr_rev.specs.Revisions.{is_before, is_same}
use Rattle.jr_rev.specs.Vectors.{sees}
use Rattle.jr_tree.specs.declared.edit.Edit.{Edit}
use Rattle.jr_tree.specs.Trees.{Nodes, dated_children_of, node_at}
use Rattle.jr_tree.specs.declared.shared.CommitChanges.{CommitChanges}
use Rattle.oak_changes.specs.declared.changes.ChangesReader.{ChangesReader}
use Rattle.oak_changes.specs.declared.changes.Step.TheVariants as observed
use Rattle.oak_changes.specs.Reading as changes
use Rattle.oak_clash.specs.declared.mark.MarkAt.{MarkAt}
use Rattle.oak_clash.specs.Clashes.{commit_root, marked_paths}
use Rattle.oak_commit.specs.Clashing.{Met, found, mark_op}
use Rattle.oak_commit.specs.Committing.{Committing, begun, is_past, refused, roots_in, wanting, with_undone, written}
use Rattle.oak_commit.specs.Kept.{undoes}
use Rattle.oak_commit.specs.Stages.{stage_of}
use Rattle.oak_commit.specs.declared.outcome.CommitEnd.{CommitEnd}
use Rattle.oak_commit.specs.declared.outcome.CommitEnd.TheVariants as end
use Rattle.oak_commit.specs.declared.stage.Stage.{Stage}
use Rattle.oak_commit.specs.declared.stage.Stage.TheVariants as stage
use Rattle.oak_commit.specs.Looking.{whole}
use Rattle.oak_commit.specs.Writing.{last_op, write_op}
use Rattle.oak_commit.specs.declared.look.Look.{Look}
use Rattle.oak_doc.specs.Updates.{updated}
use Rattle.oak_store.specs.Tables.{next_number}
use Rattle.oak_doc.specs.declared.document.Document.{Document}
use Rattle.oak_doc.specs.declared.update.OpFault.{OpFault}
use Rattle.oak_doc.specs.declared.update.OpFault.TheVariants as fault
use Rattle.oak_doc.specs.declared.update.Kept.TheVariants as keeps
use Rattle.std.specs.Prelude.{Result, Ok, Err}
use Rattle.oak_machine.specs.declared.event.Draw.{Draw}
use Rattle.oak_machine.specs.declared.event.Event.TheVariants as event
use Rattle.oak_machine.specs.declared.event.StepKind.{StepKind}
use Rattle.oak_machine.specs.declared.event.StepKind.TheVariants as kind
use Rattle.oak_machine.specs.History.{begin_tree, History, Past}
use Rattle.oak_machine.specs.Changed.{changes_between}
use Rattle.oak_machine.specs.Commits.{is_ended, tree_at}
use Rattle.oak_machine.specs.Heads.{head_of, local}
use Rattle.oak_machine.specs.Laws.{AreOthers, Says, Starts, StartsProper, StartsWrite, after, is_revision_of}
use Rattle.oak_machine.specs.Runs.{IsNode, IsRunOf}
use Rattle.oak_machine.specs.Sessions.{base_of, has_login, is_attached, is_stopped, is_stopped_under}
use Rattle.oak_machine.specs.Steps.{is_appended_by, is_kind, moves_head, where_test}
use Rattle.oak_node.specs.Heads.{AwaitsEarlier, finished, next_draw}
use Rattle.oak_node.specs.Memory.{NodeState, own_entry}
use Rattle.oak_node.specs.Pins.{pin_now}
use Rattle.oak_read.specs.declared.reader.Reader.{Reader}
use Rattle.oak_read.specs.declared.reader.ReadOut.TheVariants as out
use Rattle.oak_read.specs.declared.reader.Step.{Step}
use Rattle.oak_read.specs.declared.reader.Step.TheVariants as step
use Rattle.oak_read.specs.Meaning.{commit_root_of}
use Rattle.oak_read.specs.Reading.{IsTable, answer, due}
use Rattle.core_read.proofs.Latest.{at_most_both, before_itself, not_before}
use Rattle.core_heads.specs.Sound.{IsSound}
use Rattle.core_heads.proofs.Runs.{sound_run}
use Rattle.core_heads.proofs.Steps.{later_end}
use Rattle.core_changes.proofs.Instants.{reply_keeps}
use Rattle.core_clash.specs.Core.{root_of}
use Rattle.core_clash.specs.Sessions.{IsTheirs, Running}
use Rattle.core_clash.specs.Sound.{IsRooted}
use Rattle.core_clash.specs.Views.{In}
use Rattle.core_clash.proofs.Basics.{is_same_self, or_left, same_revision}
use Rattle.core_clash.proofs.Pasts.{in_flight}
use Rattle.core_nodes.specs.Nodes.{IsMemoryOf, base_of_pin, cursor_owner}
use Rattle.core_nodes.proofs.Events.{end_run}
use Rattle.core_nodes.proofs.Memories.{own_is}
use Rattle.core_nodes.proofs.Waits.{flying_is}
use Rattle.core_watch.specs.Moments.{IsReaderFor}
use Rattle.core_watch.specs.Standing.{path_read}
use Rattle.core_watch.proofs.Moments.{fed_keeps}
use Rattle.core_world.specs.Kept.{AreLayersKept, IsKept}
use Rattle.core_world.specs.States.{State, base_in, history_in, memory_at, memory_of, moved_in, node_of, nodes_in, with_session}
use Rattle.core_world.specs.Steps.{IsThrough, after_draw, after_finish, after_last, after_leave, after_login, after_mark, after_refresh, after_undoing, after_want, after_write, after_write_in_want, draw_in, lasted_by, marked_by, with_observer, with_reader}
use Rattle.core_world.proofs.Commits.{its, on_its_node}
use Rattle.core_world.proofs.Flights.{number_itself}
use Rattle.core_world.proofs.Lives.{its_head}
use Rattle.core_world.proofs.Loads.{children_given, node_given}
use Rattle.core_world.proofs.Numbering.{last_numbers, mark_numbers, undo_numbers, write_numbers}
use Rattle.core_world.proofs.Readers.{live_is}
use Rattle.core_world.proofs.Rising.{draw_rises, finish_rises, last_rises, leave_rises, login_rises, mark_rises, refresh_rises, undo_rises, write_in_want_rises, write_rises}
use Rattle.core_world.proofs.Truths.{met_rooted}
use Rattle.core_world.proofs.Whole.{base_above, changes_whole, draw_whole, feed_whole, finish_whole, gone_whole, last_whole, layers_of, leave_whole, login_whole, mark_whole, read_whole, refresh_whole, undo_whole, unnotice_whole, want_whole, write_in_want_whole, write_whole}
use Rattle.oak_port.specs.declared.task.StepOut.{StepOut}
use Rattle.oak_port.specs.declared.task.StepOut.TheVariants as answers
use Rattle.oak_port.specs.declared.task.Task.TheVariants as task
use Rattle.oak_port.specs.declared.task.TaskEnd.{TaskEnd}
use Rattle.oak_port.specs.declared.task.TaskEnd.TheVariants as ends
use Rattle.oak_port.specs.Ports.{AreOfStep, Awaiting, HoldsBack, Idle, IsFinish, Makes as Tells, Starting, Undoing, Work as Shows, Writing, is_by_due, is_due, tree_of}
use Rattle.oak_step.specs.declared.work.Work.{Work}
use Rattle.oak_step.specs.declared.work.Work.TheVariants as work
use Rattle.oak_world.specs.Acting.{is_tidying}
use Rattle.oak_world.specs.Kept.{IsAtWork, May, Scene, scene}
use Rattle.oak_world.specs.Looks.{AreListedOnce, IsLooking}
use Rattle.oak_step.specs.Parts.{EndsSo, changes_on, end_of_reading, read_on}
use Rattle.oak_saves.specs.Saves.{committed, fed_previous, mark_made}
use Rattle.oak_world.specs.Seen.{shown_by, shown_work, task_of}
use Rattle.oak_step.specs.Works.{kind_due, kind_of_stage}
use Rattle.oak_world.specs.Steps.{IsPresent, MakesState, MakesCommit, MakesUpdate, MayUpdate}
use Rattle.oak_world.specs.Worlds.{observing_of, once_looked, reading_of, running_as, running_of}
use Rattle.oak_world.proofs.Looking.{SamePrevious, ended_found, ended_written, once_alone, once_found, once_outcome, once_written, outcome_found, outcome_written, revision_found, revision_written, update_previous, want_same, whole_rooted}
use Rattle.oak_world.proofs.Changing.{last_formers, last_plain, mark_formers, mark_plain, plain_changes, plainly, untouched, undo_plain, write_plain}
use Rattle.oak_world.proofs.Lookers.{looks_found_on, written_looks}
use Rattle.oak_saves.proofs.Feeding.{stage_last, stage_mark, stage_write}
use Rattle.oak_saves.proofs.Stages.{finish_stage}
use Rattle.oak_world.proofs.Pinning.{pin_base}
use Rattle.oak_world.proofs.StepsOf.{IsPlainStepOf, apart_one, chosen, flipped, holds_still, kind_told, none_stopped, numbers_stay, refused_stays, with_true}
use Rattle.oak_world.proofs.Upkeeping.{upkeep_step}
use Rattle.oak_world.proofs.Staying.{come_left, same_roots}

-- ---- the end of a revision

-- the events of an end, with the head where that moved
abbrev ends_with : Bool → ℕ → RevVec → Revision → Past
ends_with b k v r = cond b (event.Head k v ∷ event.End r ∷ []) (event.End r ∷ [])

is_finish : (b : Bool) (k : ℕ) (v : RevVec) (r : Revision) → IsFinish r (ends_with b k v r)
is_finish true k v r = inr (k, v, refl)
is_finish false k v r = inl refl

ends_grown : (b : Bool) (k : ℕ) (v : RevVec) (r : Revision) (past : Past) → cond b (event.Head k v ∷ event.End r ∷ past) (event.End r ∷ past) ≡ ends_with b k v r ++ past
ends_grown true k v r past = refl
ends_grown false k v r past = refl

ends_apart : (b : Bool) (k : ℕ) (v : RevVec) (r : Revision) (past : Past) (q : ℕ) → AreOthers q (ends_with b k v r) past
ends_apart true k v r past q = refl
ends_apart false k v r past q = refl

ends_attached : (b : Bool) (k : ℕ) (v : RevVec) (r : Revision) (past : Past) (q : ℕ) → is_attached past q ≡ is_attached (ends_with b k v r ++ past) q
ends_attached true k v r past q = refl
ends_attached false k v r past q = refl

ends_unstopped : (b : Bool) (k : ℕ) (v : RevVec) (r : Revision) (past : Past) (q : ℕ) → is_stopped past q ≡ false → is_stopped (ends_with b k v r ++ past) q ≡ false
ends_unstopped true k v r past q h = h
ends_unstopped false k v r past q h = h

ends_by_due : (b : Bool) (k : ℕ) (v : RevVec) (r : Revision) (due : Option StepKind) → is_by_due due (ends_with b k v r) ≡ true
ends_by_due true k v r due = refl
ends_by_due false k v r due = refl

ended_now : (b : Bool) (k : ℕ) (v : RevVec) (r : Revision) (past : Past) → is_ended (ends_with b k v r ++ past) r ≡ true
ended_now true k v r past = or_left _ _ (is_same_self r)
ended_now false k v r past = or_left _ _ (is_same_self r)

three : (a b c : Bool) → a ≡ true → b ≡ true → c ≡ true → (a && b && c) ≡ true
three true true true h k l = refl
three false b c h k l = cc
three true false c h k l = cc
three true true false h k l = cc

two : (a b : Bool) → a ≡ true → b ≡ true → (a && b) ≡ true
two true true h k = refl
two false b h k = cc
two true false h k = cc

ends_told : (h : History) (s : ℕ) (b : Bool) (k : ℕ) (v : RevVec) (r : Revision) → is_revision_of h.past s r ≡ true → moves_head h r ≡ b → (r.cluster == k) ≡ true → is_appended_by h s kind.Finish (reverse (ends_with b k v r)) ≡ true
ends_told h s true k v r mine moving node = kind_told kind.Finish (is_revision_of h.past s r && moves_head h r && r.cluster == k) (three _ _ _ mine moving node)
ends_told h s false k v r mine moving node = kind_told kind.Finish (is_revision_of h.past s r && not (moves_head h r)) (two _ _ mine (ap not moving))

-- ---- what is shown of a commit

-- an undoing goes on
undoing_tells : (h : History) (s : ℕ) (r : Revision) (o : Option CommitEnd) → undoes o ≡ true → Tells h s (shown_by r o) (answers.Went kind.Undo) (event.Went s kind.Undo ∷ []) (shown_by r o)
undoing_tells h s r None k = cc
undoing_tells h s r (Some (end.Committed o)) k = cc
undoing_tells h s r (Some (end.Clash item o)) k = (refl, refl, refl)
undoing_tells h s r (Some end.Memory) k = (refl, refl, refl)

-- a committed revision ends
deciding_tells : (h : History) (s : ℕ) (r : Revision) (o : Option CommitEnd) (own : Past) → is_past o ≡ true → IsFinish r own → Tells h s (shown_by r o) (answers.Went kind.Finish) own (Awaiting r)
deciding_tells h s r None own past f = cc
deciding_tells h s r (Some (end.Committed o)) own past f = (refl, f, refl)
deciding_tells h s r (Some (end.Clash item o)) own past f = cc
deciding_tells h s r (Some end.Memory) own past f = cc

-- one that isn't committed ends
undone_tells : (h : History) (s : ℕ) (r : Revision) (e : CommitEnd) (own : Past) → is_past (Some e) ≡ false → IsFinish r own → Tells h s (shown_by r (Some e)) (answers.Ready (ends.Commit e)) own Idle
undone_tells h s r (end.Committed o) own past f = cc
undone_tells h s r (end.Clash item o) own past f = (refl, f, refl)
undone_tells h s r end.Memory own past f = (refl, f, refl)

undone_of_step : (h : History) (s : ℕ) (r : Revision) (e : CommitEnd) (own : Past) → is_past (Some e) ≡ false → is_appended_by h s kind.Finish (reverse own) ≡ true → AreOfStep h s (shown_by r (Some e)) (answers.Ready (ends.Commit e)) own
undone_of_step h s r (end.Committed o) own past k = cc
undone_of_step h s r (end.Clash item o) own past k = k
undone_of_step h s r end.Memory own past k = k

not_past : (o : Option CommitEnd) → undoes o ≡ true → is_past o ≡ false
not_past None h = refl
not_past (Some (end.Committed r)) h = cc
not_past (Some (end.Clash item o)) h = refl
not_past (Some end.Memory) h = refl

-- ---- the commit roots of what was met

module _ (base : RevVec) (r : Revision) (p : Path) (marks : List MarkAt) (root : Revision → Path) where
  rooted_all : (d : Document) (fs : List Met) → ((f : Met) → In f fs → IsRooted (Some d) f.other (root f.other)) → roots_in (Some d) fs ≡ map (λ f. root f.other) fs
  rooted_all d fs rooted = same_roots (λ f. names_of (commit_root_of d f.other)) (λ f. root f.other) fs (λ f i. ap (λ (o : Option DocId). names_of (unwrap_or o (commit_root_of d f.other))) (rooted f i))

  roots_met : (d : Option Document) → ((f : Met) → In f (found base r p marks d) → IsRooted d f.other (root f.other)) → roots_in d (found base r p marks d) ≡ map (λ f. root f.other) (found base r p marks d)
  roots_met None rooted = refl
  roots_met (Some d) rooted = rooted_all d (found base r p marks (Some d)) rooted

-- ---- what a reader gives

same_end : (a b : TaskEnd) → Some a ≡ Some b → a ≡ b
same_end a b h = cc

-- ---- a step

module _ (starts : Starts) (says : Says) (proper : StartsProper starts) (writes : StartsWrite starts) (w : State) (kept : IsKept starts says w) (s : ℕ) (there : is_some (slice_get w.sessions s) ≡ true) (few : slice_get w.sessions (cursor_owner s) ≡ None) (none_halted : (k : ℕ) → is_stopped w.past k ≡ false) (lists : AreListedOnce w.table) where
  -- its cluster node isn't stopped
  on_now : is_stopped_under w.sessions w.past s ≡ false
  on_now = none_stopped w.sessions w.past none_halted s

  abbrev h : History
  h = history_in w

  abbrev layers : AreLayersKept starts says w
  layers = layers_of starts says w kept

  abbrev StepOf : Work → State → Work → StepOut → Type 0
  StepOf v u x o = IsPlainStepOf starts says s w v u x o

  -- ---- sessions

  login_step : (pin : Pin) → pin ≡ pin_now (memory_of w s) → has_login w.past s ≡ false → StepOf work.Login (after_login w s) work.Rest (answers.Ready (ends.Pinned pin))
  login_step pin is first = record {
    own = event.Login s (memory_of w s).head ∷ [];
    grown = refl;
    kept = login_whole starts says proper w kept s on_now there first;
    may = tt;
    apart = apart_one w.past s (event.Login s (memory_of w s).head) (λ q k. flipped q s k);
    attached = chosen s false (is_attached w.past s);
    unstopped = λ q k. k;
    changes = untouched w _ refl refl;
    numbers = numbers_stay w.table;
    holds = login_rises starts says proper w layers s on_now there first;
    tells = (ap (λ (p : Pin). event.Login s p.base ∷ []) (sym is), refl);
    of_step = kind_told kind.Login (s == s) (number_itself s);
    as_due = refl;
  }

  leave_step : IsPresent h s → w.running s ≡ None → w.reading s ≡ None → w.observing s ≡ None → StepOf work.End (after_leave w s) work.Rest (answers.Ready ends.Ended)
  leave_step come idle unread unobserved = record {
    own = event.Went s kind.End ∷ [];
    grown = refl;
    kept = leave_whole starts says proper w kept s on_now few come.login come.stays idle unread unobserved;
    may = tt;
    apart = apart_one w.past s (event.Went s kind.End) (λ q k. flipped q s k);
    attached = refl;
    unstopped = λ q k. k;
    changes = untouched w _ refl refl;
    numbers = numbers_stay w.table;
    holds = leave_rises starts says proper w layers s come.login on_now few come.stays idle unread unobserved;
    tells = (refl, refl);
    of_step = kind_told kind.End (s == s && true) (with_true (s == s) (number_itself s));
    as_due = refl;
  }

  refresh_step : (pin : Pin) → pin ≡ pin_now (memory_of w s) → IsPresent h s → w.running s ≡ None → w.reading s ≡ None → w.observing s ≡ None → StepOf work.Refresh (after_refresh w s) work.Rest (answers.Ready (ends.Pinned pin))
  refresh_step pin is come idle unread unobserved = record {
    own = event.Refresh s (memory_of w s).head ∷ [];
    grown = refl;
    kept = refresh_whole starts says proper w kept s on_now come.login come.stays idle unread unobserved;
    may = tt;
    apart = apart_one w.past s (event.Refresh s (memory_of w s).head) (λ q k. flipped q s k);
    attached = chosen s false (is_attached w.past s);
    unstopped = λ q k. k;
    changes = untouched w _ refl refl;
    numbers = numbers_stay w.table;
    holds = refresh_rises starts says proper w layers s come.login on_now come.stays idle unread unobserved;
    tells = (ap (λ (p : Pin). event.Refresh s p.base ∷ []) (sym is), refl);
    of_step = kind_told kind.Pin (s == s) (number_itself s);
    as_due = refl;
  }

  -- the head of the session's node, of which r is
  head_is : (r : Revision) → slice_get w.sessions s ≡ Some r.cluster → (memory_of w s).head ≡ head_of w.clusters w.begin w.past r.cluster
  head_is r on = its_head starts says proper w kept.sessions s there ∙ ap (head_of w.clusters w.begin w.past) (ap (λ o. unwrap_or o 0) on)

  -- and its memory is that of the past
  memory_is : (r : Revision) → slice_get w.sessions s ≡ Some r.cluster → IsMemoryOf w.begin w.clusters w.past r.cluster (memory_of w s)
  memory_is r on = subst (λ (j : ℕ). IsMemoryOf w.begin w.clusters w.past r.cluster (memory_at w.memories j)) (sym (ap (λ o. unwrap_or o 0) on)) (kept.sessions.memories.memory r.cluster (kept.sessions.nodes.node s r.cluster on))

  -- what r awaits by the memory is in flight by the past
  held_back : (r q : Revision) → AwaitsEarlier (memory_of w s) r q → slice_get w.sessions s ≡ Some r.cluster → HoldsBack w.past q r
  held_back r q awaits on =
      let flies = (flying_is w.begin w.clusters w.sessions kept.sessions.nodes w.past (sound_run w.clusters w.sessions kept.sessions.nodes w.begin starts says w.past kept.sessions.run) r.cluster (kept.sessions.nodes.node s r.cluster on) (memory_of w s) (memory_is r on) q).0 awaits.flying in
      record { node = flies.0; earlier = awaits.earlier; flying = flies.1 }

  waits_step : (r q : Revision) → AwaitsEarlier (memory_of w s) r q → IsPresent h s → is_ended w.past r ≡ true → slice_get w.sessions s ≡ Some r.cluster → StepOf (work.Move r) w (work.Move r) (answers.Wait q)
  waits_step r q awaits come ended on = record {
    own = [];
    grown = refl;
    kept = kept;
    may = (come, ended, on);
    apart = λ q k. refl;
    attached = refl;
    unstopped = λ q k. k;
    changes = untouched w _ refl refl;
    numbers = numbers_stay w.table;
    holds = holds_still w;
    tells = (refl, refl, ap (λ (v : RevVec). sees v r) (sym (head_is r on)) ∙ awaits.unseen, held_back r q awaits on);
    of_step = refl;
    as_due = refl;
  }

  moves_step : (r o : Revision) → o ≡ r → sees (memory_of w s).head r ≡ true → IsPresent h s → slice_get w.sessions s ≡ Some r.cluster → w.running s ≡ None → w.reading s ≡ None → w.observing s ≡ None → StepOf (work.Move r) (after_refresh w s) work.Rest (answers.Ready (ends.Commit (end.Committed o)))
  moves_step r o is seen come on idle unread unobserved = record {
    own = event.Refresh s (memory_of w s).head ∷ [];
    grown = refl;
    kept = refresh_whole starts says proper w kept s on_now come.login come.stays idle unread unobserved;
    may = tt;
    apart = apart_one w.past s (event.Refresh s (memory_of w s).head) (λ q k. flipped q s k);
    attached = chosen s false (is_attached w.past s);
    unstopped = λ q k. k;
    changes = untouched w _ refl refl;
    numbers = numbers_stay w.table;
    holds = refresh_rises starts says proper w layers s come.login on_now come.stays idle unread unobserved;
    tells = (ap end.Committed is, ap (λ (v : RevVec). sees v r) (sym (head_is r on)) ∙ seen, (memory_of w s).head, seen, refl, refl);
    of_step = kind_told kind.Pin (s == s) (number_itself s);
    as_due = refl;
  }

  -- ---- loads

  module _ (table : IsTable w.table.documents) (r : Reader) (here : w.reading s ≡ Some r) (come : IsPresent h s) where
    abbrev next : Reader
    next = read_on w.table r

    read_kept : IsKept starts says (with_reader w s (Some next))
    read_kept = read_whole starts says proper w kept s r here table

    for_same : IsReaderFor r.pin r.parent (path_read r) next
    for_same = fed_keeps r (answer w.table.documents (due r))

    same_task : Starting (task_of next.parent (path_read next)) ≡ Starting (task_of r.parent (path_read r))
    same_task = ap (λ (o : Option Path). Starting (task_of o (path_read next))) for_same.same_kind ∙ ap (λ (p : Path). Starting (task_of r.parent p)) for_same.same_path

    goes_on : (parent : Option Path) (p : Path) (x : Shows) → x ≡ Starting (task_of parent p) → Tells h s (Starting (task_of parent p)) (answers.Went kind.Read) [] x
    goes_on None p x is = (refl, refl, is)
    goes_on (Some q) p x is = (refl, refl, is)

    pub read_step : StepOf (work.Read r) (with_reader w s (Some next)) (work.Read next) (answers.Went kind.Read)
    read_step = record {
      own = [];
      grown = refl;
      kept = read_kept;
      may = come;
      apart = λ q k. refl;
      attached = refl;
      unstopped = λ q k. k;
      changes = untouched w _ refl refl;
      numbers = numbers_stay w.table;
      holds = holds_still w;
      tells = goes_on r.parent (path_read r) (shown_work (work.Read next)) same_task;
      of_step = refl;
      as_due = refl;
    }

    gone_tells : (parent : Option Path) (p : Path) → Tells h s (Starting (task_of parent p)) answers.Memory [] Idle
    gone_tells None p = (refl, refl)
    gone_tells (Some q) p = (refl, refl)

    pub gone_step : StepOf (work.Read r) (with_reader w s None) work.Rest answers.Memory
    gone_step = record {
      own = [];
      grown = refl;
      kept = gone_whole starts says proper w kept s;
      may = tt;
      apart = λ q k. refl;
      attached = refl;
      unstopped = λ q k. k;
      changes = untouched w _ refl refl;
      numbers = numbers_stay w.table;
      holds = holds_still w;
      tells = gone_tells r.parent (path_read r);
      of_step = refl;
      as_due = refl;
    }

    -- the reader that is fed reads at the session's base
    next_here : with_session w.reading s (Some next) s ≡ Some next
    next_here = ap (λ b. cond b (Some next) (w.reading s)) (number_itself s)

    tree_is : tree_at w.begin w.past next.pin.base ≡ tree_of w.begin w.past s
    tree_is = sym (ap (λ (o : Option RevVec). option_map_or (tree_at w.begin w.past) o (begin_tree w.begin)) (live_is w.past s next.pin.base (read_kept.sessions.readers.at_base s next next_here)).base)

    module _ (e : TaskEnd) where
      given : (parent : Option Path) → next.parent ≡ parent → (st : Step) → next.step ≡ st → end_of_reading st ≡ Some e → Tells h s (Starting (task_of parent (path_read r))) (answers.Ready e) [] Idle
      given None is (step.Done (out.Node n)) done gives =
          subst (λ (x : TaskEnd). Tells h s (Starting (task.Load (path_read r))) (answers.Ready x) [] Idle) (same_end (ends.Node n) e gives) (
            node_given starts says proper (with_reader w s (Some next)) read_kept.sessions s next next_here (out.Node n) is done
                ∙ (ap (λ (t : Nodes). node_at t (path_read next)) tree_is
                ∙ ap (λ (p : Path). node_at (tree_of w.begin w.past s) p) for_same.same_path),
            refl,
            refl,
          )
      given None is (step.Done (out.Children ns)) done gives = absurd (node_given starts says proper (with_reader w s (Some next)) read_kept.sessions s next next_here (out.Children ns) is done)
      given (Some p) is (step.Done (out.Node n)) done gives = absurd (children_given starts says proper (with_reader w s (Some next)) read_kept.sessions s next next_here p (out.Node n) is done)
      given (Some p) is (step.Done (out.Children ns)) done gives =
          subst (λ (x : TaskEnd). Tells h s (Starting (task.List (path_read r))) (answers.Ready x) [] Idle) (same_end (ends.Children ns) e gives) (
            children_given starts says proper (with_reader w s (Some next)) read_kept.sessions s next next_here p (out.Children ns) is done
                ∙ (ap (λ (t : Nodes). dated_children_of t p) tree_is
                ∙ ap (λ (q : Path). dated_children_of (tree_of w.begin w.past s) q) (sym (ap (λ (o : Option Path). unwrap_or o next.at) is) ∙ for_same.same_path)),
            refl,
            refl,
          )
      given parent is st done gives = cc

      last_read : (parent : Option Path) (p : Path) → AreOfStep h s (Starting (task_of parent p)) (answers.Ready e) []
      last_read None p = refl
      last_read (Some q) p = refl

      pub given_step : end_of_reading next.step ≡ Some e → StepOf (work.Read r) (with_reader w s None) work.Rest (answers.Ready e)
      given_step gives = record {
        own = [];
        grown = refl;
        kept = gone_whole starts says proper w kept s;
        may = tt;
        apart = λ q k. refl;
        attached = refl;
        unstopped = λ q k. k;
        changes = untouched w _ refl refl;
        numbers = numbers_stay w.table;
        holds = holds_still w;
        tells = given r.parent for_same.same_kind next.step refl gives;
        of_step = last_read r.parent (path_read r);
        as_due = refl;
      }

  -- ---- what commits changed

  module _ (table : IsTable w.table.documents) (r : ChangesReader) (here : w.observing s ≡ Some r) (come : IsPresent h s) (detached : is_attached w.past s ≡ false) where
    abbrev then : ChangesReader
    then = changes_on w.table r

    then_kept : IsKept starts says (with_observer w s (Some then))
    then_kept = feed_whole starts says proper w kept writes s r here table

    -- a session still reads since that vector, up to that pin
    then_same : (then.from ≡ r.from) × (then.pin ≡ r.pin)
    then_same = reply_keeps r (answer w.table.documents (changes.due r))

    pub changes_step : StepOf (work.Changes r) (with_observer w s (Some then)) (work.Changes then) (answers.Went kind.Read)
    changes_step = record {
      own = [];
      grown = refl;
      kept = then_kept;
      may = (come, detached);
      apart = λ q k. refl;
      attached = refl;
      unstopped = λ q k. k;
      changes = untouched w _ refl refl;
      numbers = numbers_stay w.table;
      holds = holds_still w;
      tells = (refl, refl, ap (λ (v : RevVec). Starting (task.Changes v)) then_same.0);
      of_step = refl;
      as_due = refl;
    }

    pub unobserved_step : StepOf (work.Changes r) (with_observer w s None) work.Rest answers.Memory
    unobserved_step = record {
      own = [];
      grown = refl;
      kept = unnotice_whole starts says proper w kept s;
      may = tt;
      apart = λ q k. refl;
      attached = refl;
      unstopped = λ q k. k;
      changes = untouched w _ refl refl;
      numbers = numbers_stay w.table;
      holds = holds_still w;
      tells = (refl, refl);
      of_step = refl;
      as_due = refl;
    }

    then_here : with_session w.observing s (Some then) s ≡ Some then
    then_here = ap (λ b. cond b (Some then) (w.observing s)) (number_itself s)

    -- its pin is the session's own, at the session's base, since that is not attached
    own_base : base_of w.past s ≡ Some r.pin.base
    own_base = sym (pin_base starts says proper w kept.sessions s there detached none_halted come.stays) ∙ ap base_of_pin (kept.pinned.observes s r here)

    module _ (commits : List CommitChanges) (gives : then.step ≡ observed.Done commits) where
      told_is : commits ≡ changes_between w.begin w.past r.from r.pin.base
      told_is =
          changes_whole starts says proper (with_observer w s (Some then)) then_kept s then commits then_here gives
          ∙ (ap (λ (v : RevVec). changes_between w.begin w.past v then.pin.base) then_same.0
          ∙ ap (λ (p : Pin). changes_between w.begin w.past r.from p.base) then_same.1)

      pub told_step : StepOf (work.Changes r) (with_observer w s None) work.Rest (answers.Ready (ends.Changes commits))
      told_step = record {
        own = [];
        grown = refl;
        kept = unnotice_whole starts says proper w kept s;
        may = tt;
        apart = λ q k. refl;
        attached = refl;
        unstopped = λ q k. k;
        changes = untouched w _ refl refl;
        numbers = numbers_stay w.table;
        holds = holds_still w;
        tells = (r.pin.base, own_base, told_is, refl, refl);
        of_step = refl;
        as_due = refl;
      }

  -- a committer that looks at no previous document is at work
  at_rest : (y : Scene) (d : Committing) → IsPresent y.history s → d.ended ≡ false → d.looking ≡ None → d.roots ≡ map (λ (f : Met). root_of y.history.past f.other) d.writer.due → IsAtWork y s d
  at_rest y d come unended none roots = record {
    come = come;
    unended = unended;
    roots = subst (λ (e : Committing). e.roots ≡ map (λ (f : Met). root_of y.history.past f.other) e.writer.due) (sym (once_alone y.table d none)) roots;
    looks = λ k is. absurd (never d.looking k none is);
  }
    where
      never : (o : Option Look) (k : Look) → o ≡ None → o ≡ Some k → ⊥
      never o k a b = let e : None ≡ Some k = sym a ∙ b in cc

  -- ---- the draw of a commit

  draw_step : (edit : Edit) (marks : List MarkAt) → IsPresent h s → is_attached w.past s ≡ false → starts h s edit marks → w.running s ≡ None
      → StepOf (work.Plan edit marks) (after_draw w s edit marks (marked_paths marks)) (work.Commit (begun (next_draw (memory_of w s)) (base_in w s) edit marks)) (answers.Went kind.Draw)
  draw_step edit marks come apart_now lawful idle = record {
    own = event.Draw (draw_in w s edit marks) ∷ [];
    grown = refl;
    kept = draw_whole starts says proper w kept s edit marks on_now come.login come.stays apart_now idle lawful;
    may = at_rest _ (begun (next_draw (memory_of w s)) (base_in w s) edit marks) (record { login = come.login; stays = come.stays }) refl refl refl;
    apart = apart_one w.past s (event.Draw (draw_in w s edit marks)) (λ q k. flipped q s k);
    attached = refl;
    unstopped = λ q k. k;
    changes = untouched w _ refl refl;
    numbers = numbers_stay w.table;
    holds = draw_rises starts says proper w layers s edit marks on_now come.login come.stays apart_now idle lawful (base_above starts says proper w kept s on_now come.login come.stays);
    tells = (draw_in w s edit marks, record { session = refl; edit_is = refl; marks_are = refl }, refl, refl, refl);
    of_step = kind_told kind.Draw (s == s) (number_itself s);
    as_due = refl;
  }

  -- ---- a commit

  -- a commit turns to undoing for want of memory, whatever it looks at
  module _ (c : Committing) (here : w.running s ≡ Some (running_as s (once_looked w.table c))) (at : IsAtWork (scene w.table w.formers h) s c) (going : c.outcome ≡ None) where
    -- what is told of one that writes
    told_writing : (o : StepOut) (own : Past) (y : Shows) → Tells h s (Writing c.revision) o own y → Tells h s (shown_work (work.Commit c)) o own y
    told_writing o own y t = subst (λ (z : Shows). Tells h s z o own y) (ap (shown_by c.revision) (sym going)) t

    want_kept : IsKept starts says (after_want w s (running_as s c))
    want_kept = subst (λ (u : State). IsKept starts says u) (want_same w s w.table c)
        (want_whole starts says proper w kept s (running_as s (once_looked w.table c)) here (ap is_past (once_outcome w.table c ∙ going)) (ap undoes (once_outcome w.table c ∙ going)))

    -- the commit gives up
    want_step : StepOf (work.Commit c) (after_want w s (running_as s c)) (work.Commit (wanting c)) answers.Memory
    want_step = record {
      own = [];
      grown = refl;
      kept = want_kept;
      may = at_rest _ (wanting c) at.come at.unended refl refl;
      apart = λ q k. refl;
      attached = refl;
      unstopped = λ q k. k;
      changes = untouched w _ refl refl;
      numbers = numbers_stay w.table;
      holds = holds_still w;
      tells = told_writing answers.Memory [] (shown_work (work.Commit (wanting c))) (refl, refl);
      of_step = refl;
      as_due = refl;
    }

    -- a previous document is looked at
    module _ (k : Look) (is : c.looking ≡ Some k) where
      abbrev found_on : Committing
      found_on = fed_previous w.table c

      looks : IsLooking c k
      looks = (at.looks k is).form

      look_step : StepOf (work.Commit c) w (work.Commit found_on) (answers.Went kind.Read)
      look_step = record {
        own = [];
        grown = refl;
        kept = kept;
        may = record {
          come = at.come;
          unended = ended_found w.table c k is looks ∙ at.unended;
          roots = subst (λ (e : Committing). e.roots ≡ map (λ (f : Met). root_of w.past f.other) e.writer.due) (sym (once_found w.table c k is looks)) at.roots;
          looks = looks_found_on w.table w.formers kept.sessions.readers.told.copies c k is (at.looks k is);
        };
        apart = λ q k. refl;
        attached = refl;
        unstopped = λ q k. k;
        changes = untouched w _ refl refl;
        numbers = numbers_stay w.table;
        holds = holds_still w;
        tells = told_writing (answers.Went kind.Read) [] (shown_work (work.Commit found_on)) (inr (inl (refl, refl, inl (ap (λ (r : Revision). shown_by r found_on.outcome) (revision_found w.table c k is looks) ∙ ap (shown_by c.revision) (outcome_found w.table c k is looks ∙ going)))));
        of_step = refl;
        as_due = refl;
      }

      look_in_want_step : StepOf (work.Commit c) (after_want w s (running_as s c)) (work.Commit (wanting found_on)) (answers.Went kind.Read)
      look_in_want_step = record {
        own = [];
        grown = refl;
        kept = want_kept;
        may = at_rest _ (wanting found_on) at.come (ended_found w.table c k is looks ∙ at.unended) refl refl;
        apart = λ q k. refl;
        attached = refl;
        unstopped = λ q k. k;
        changes = untouched w _ refl refl;
        numbers = numbers_stay w.table;
        holds = holds_still w;
        tells = told_writing (answers.Went kind.Read) [] (shown_work (work.Commit (wanting found_on))) (inr (inl (refl, refl, inr (ap (λ (r : Revision). Undoing r end.Memory) (revision_found w.table c k is looks)))));
        of_step = refl;
        as_due = refl;
      }

  module _ (c : Committing) (here : w.running s ≡ Some (running_as s c)) (at : IsAtWork (scene w.table w.formers h) s c) (looked : c.looking ≡ None) where
    roots_here : c.roots ≡ map (λ (f : Met). root_of w.past f.other) c.writer.due
    roots_here = subst (λ (e : Committing). e.roots ≡ map (λ (f : Met). root_of w.past f.other) e.writer.due) (once_alone w.table c looked) at.roots

    abbrev x : Running
    x = running_as s c

    mine : IsTheirs w.past kept.sessions.committing.writers s (running_as s c)
    mine = its starts says proper w kept.sessions s (running_as s c) here

    its_session : (q : ℕ) (b : Bool) → (s == q) ≡ b → is_revision_of w.past q c.revision ≡ b
    its_session q b is = ap (λ (o : Option Draw). option_map_or (λ d. d.session == q) o false) mine.draw ∙ is

    revision_mine : is_revision_of w.past s c.revision ≡ true
    revision_mine = its_session s true (number_itself s)

    -- an event of its revision, which is no other session's
    apart_refusal : (item : Item) (o : Revision) (q : ℕ) → (q == s) ≡ false → AreOthers q (event.Refuse c.revision item o ∷ []) w.past
    apart_refusal item o = apart_one w.past s (event.Refuse c.revision item o) (λ q k. its_session q false (flipped q s k))

    apart_went : (k : StepKind) (q : ℕ) → (q == s) ≡ false → AreOthers q (event.Went s k ∷ []) w.past
    apart_went k = apart_one w.past s (event.Went s k) (λ q m. flipped q s m)

    -- ---- before its commit point

    module _ (going : c.outcome ≡ None) where
      uncommitted : is_past c.outcome ≡ false
      uncommitted = ap is_past going

      unundone : undoes c.outcome ≡ false
      unundone = ap undoes going

      -- what is told of one that writes
      writing : (o : StepOut) (own : Past) (y : Shows) → Tells h s (Writing c.revision) o own y → Tells h s (shown_work (work.Commit c)) o own y
      writing o own y t = subst (λ (z : Shows). Tells h s z o own y) (ap (shown_by c.revision) (sym going)) t

      still_writing : (d : Committing) → d.revision ≡ c.revision → d.outcome ≡ c.outcome → shown_work (work.Commit d) ≡ Writing c.revision
      still_writing d same out = ap (λ (r : Revision). shown_by r d.outcome) same ∙ ap (shown_by c.revision) (out ∙ going)

      refusal_tells : (k : StepKind) → (k ≡ kind.Mark) ⊎ (k ≡ kind.Last) → (item : Item) (o : Revision) (d : Committing) → d ≡ refused c item o → Tells h s (shown_work (work.Commit c)) (answers.Went k) (event.Refuse c.revision item o ∷ []) (shown_work (work.Commit d))
      refusal_tells k mark item o d is = writing (answers.Went k) (event.Refuse c.revision item o ∷ []) (shown_work (work.Commit d)) (inr (inr (inr (inr (item, o, mark, refl, ap (λ (y : Committing). shown_work (work.Commit y)) is)))))

      -- a mark
      module _ (f : Met) (rest : List Met) (due_is : c.writer.due ≡ f ∷ rest) where
        mark_kept : IsKept starts says (after_mark w s x f rest)
        mark_kept = mark_whole starts says proper w kept s x f rest here uncommitted unundone due_is

        mark_grown : (own : Past) → (after_mark w s x f rest).past ≡ own ++ w.past → history_in (after_mark w s x f rest) ≡ after own h
        mark_grown own is = by (updated (nodes_in w.table (root_of w.past f.other)) (mark_op (root_of w.past f.other) f.other x.draw.revision f.theirs) (next_number w.table)) ∙ ap (λ (past : Past). record h { past = past }) is
          where
            by : (result : Result Document OpFault) → history_in (marked_by w s x f rest result) ≡ record h { past = (marked_by w s x f rest result).past }
            by (Ok d) = refl
            by (Err e) = refl

        pub marked_step : (d : Committing) → (after_mark w s x f rest).past ≡ event.Went s kind.Mark ∷ w.past → d ≡ mark_made c rest → StepOf (work.Commit c) (after_mark w s x f rest) (work.Commit d) (answers.Went kind.Mark)
        marked_step d past is = subst (λ (y : Committing). StepOf (work.Commit c) (after_mark w s x f rest) (work.Commit y) (answers.Went kind.Mark)) (sym is) (record {
          own = event.Went s kind.Mark ∷ [];
          grown = mark_grown (event.Went s kind.Mark ∷ []) past;
          kept = mark_kept;
          may = at_rest _ (mark_made c rest) (record { login = at.come.login; stays = at.come.stays }) at.unended looked (ap (drop 1) roots_here ∙ ap (λ (fs : List Met). drop 1 (map (λ m. root_of w.past m.other) fs)) due_is);
          apart = apart_went kind.Mark;
          attached = refl;
          unstopped = λ q k. k;
          changes = plainly w _ (mark_plain w s x f rest) (mark_formers w s x f rest);
          numbers = λ n. mark_numbers w n s x f rest;
          holds = mark_rises starts says proper w layers s x here uncommitted unundone f rest due_is;
          tells = writing (answers.Went kind.Mark) (event.Went s kind.Mark ∷ []) (shown_work (work.Commit (mark_made c rest))) (inr (inr (inl (refl, refl, still_writing (mark_made c rest) refl refl))));
          of_step = kind_told kind.Mark (s == s && true) (with_true (s == s) (number_itself s));
          as_due = ap (λ (y : Stage). is_due kind.Mark (kind_of_stage y)) (stage_mark c going looked f rest due_is);
        })

        pub mark_refused_step : (d : Committing) → (after_mark w s x f rest).past ≡ event.Refuse c.revision f.mine f.other ∷ w.past → d ≡ refused c f.mine f.other → StepOf (work.Commit c) (after_mark w s x f rest) (work.Commit d) (answers.Went kind.Mark)
        mark_refused_step d past is = subst (λ (y : Committing). StepOf (work.Commit c) (after_mark w s x f rest) (work.Commit y) (answers.Went kind.Mark)) (sym is) (record {
          own = event.Refuse c.revision f.mine f.other ∷ [];
          grown = mark_grown (event.Refuse c.revision f.mine f.other ∷ []) past;
          kept = mark_kept;
          may = at_rest _ (refused c f.mine f.other) (record { login = at.come.login; stays = at.come.stays }) at.unended looked refl;
          apart = apart_refusal f.mine f.other;
          attached = refl;
          unstopped = λ q k. k;
          changes = plainly w _ (mark_plain w s x f rest) (mark_formers w s x f rest);
          numbers = λ n. mark_numbers w n s x f rest;
          holds = mark_rises starts says proper w layers s x here uncommitted unundone f rest due_is;
          tells = refusal_tells kind.Mark (inl refl) f.mine f.other (refused c f.mine f.other) refl;
          of_step = ap (λ t. list_any (is_kind kind.Mark) (where_test t (kind.Mark ∷ kind.Last ∷ []))) revision_mine;
          as_due = refl;
        })

      -- a document
      module _ (p : Path) (rest : List Path) (unmet : c.writer.due ≡ []) (left : c.writer.left ≡ p ∷ rest) where
        -- what was in the document, with what moved put back
        abbrev stood : Option Document
        stood = whole p (nodes_in w.table p) (moved_in w.table p)

        -- the committer behind the write
        abbrev behind : Committing
        behind = written c p rest (nodes_in w.table p)

        roots_stood : roots_in stood (found c.base c.revision p c.marks stood) ≡ map (λ (f : Met). root_of w.past f.other) (found c.base c.revision p c.marks stood)
        roots_stood = roots_met c.base c.revision p c.marks (root_of w.past) stood (λ f i. whole_rooted p (moved_in w.table p) (nodes_in w.table p) f.other (root_of w.past f.other) (met_rooted starts says proper w kept.sessions s x here p f i))

        documents : SamePrevious w.table (after_write w s x p rest).table
        documents = update_previous w.table (write_op c.revision c.edit.writes c.marks p) refl

        pub wrote_step : StepOf (work.Commit c) (after_write w s x p rest) (work.Commit behind) (answers.Went kind.Write)
        wrote_step = record {
          own = event.Went s kind.Write ∷ [];
          grown = refl;
          kept = write_whole starts says proper w kept s x p rest here uncommitted unundone unmet left;
          may = record {
            come = record { login = at.come.login; stays = at.come.stays };
            unended = ended_written c p rest (nodes_in w.table p) ∙ at.unended;
            roots = subst (λ (e : Committing). e.roots ≡ map (λ (f : Met). root_of w.past f.other) e.writer.due) (sym (once_written c p rest w.table (after_write w s x p rest).table documents)) roots_stood;
            looks = written_looks starts says w kept (after_write w s x p rest) (plain_changes w _ (plainly w _ (write_plain w s x p) refl)) s c here going p rest lists;
          };
          apart = apart_went kind.Write;
          attached = refl;
          unstopped = λ q k. k;
          changes = plainly w _ (write_plain w s x p) refl;
          numbers = λ n. (write_numbers w n s x p rest).0;
          holds = write_rises starts says proper w layers s x here uncommitted unundone p rest unmet left;
          tells = writing (answers.Went kind.Write) (event.Went s kind.Write ∷ []) (shown_work (work.Commit behind)) (inl (refl, refl, inl (still_writing behind (revision_written c p rest (nodes_in w.table p)) (outcome_written c p rest (nodes_in w.table p)))));
          of_step = kind_told kind.Write (s == s && true) (with_true (s == s) (number_itself s));
          as_due = ap (λ (y : Stage). is_due kind.Write (kind_of_stage y)) (stage_write c going looked p rest unmet left);
        }

        pub wrote_in_want_step : StepOf (work.Commit c) (after_write_in_want w s x p rest) (work.Commit (wanting behind)) (answers.Went kind.Write)
        wrote_in_want_step = record {
          own = event.Went s kind.Write ∷ [];
          grown = refl;
          kept = write_in_want_whole starts says proper w kept s x p rest here uncommitted unundone unmet left;
          may = at_rest _ (wanting behind) (record { login = at.come.login; stays = at.come.stays }) (ended_written c p rest (nodes_in w.table p) ∙ at.unended) refl refl;
          apart = apart_went kind.Write;
          attached = refl;
          unstopped = λ q k. k;
          changes = plainly w _ (write_plain w s x p) refl;
          numbers = λ n. (write_numbers w n s x p rest).1;
          holds = write_in_want_rises starts says proper w layers s x here uncommitted unundone p rest unmet left;
          tells = writing (answers.Went kind.Write) (event.Went s kind.Write ∷ []) (shown_work (work.Commit (wanting behind))) (inl (refl, refl, inr (ap (λ (r : Revision). Undoing r end.Memory) (revision_written c p rest (nodes_in w.table p)))));
          of_step = kind_told kind.Write (s == s && true) (with_true (s == s) (number_itself s));
          as_due = ap (λ (y : Stage). is_due kind.Write (kind_of_stage y)) (stage_write c going looked p rest unmet left);
        }

      -- the last write
      module _ (unmet : c.writer.due ≡ []) (none_left : c.writer.left ≡ []) where
        last_kept : IsKept starts says (after_last w s x)
        last_kept = last_whole starts says proper w kept s x here uncommitted unundone unmet none_left

        last_grown : (own : Past) → (after_last w s x).past ≡ own ++ w.past → history_in (after_last w s x) ≡ after own h
        last_grown own is = by (updated (nodes_in w.table (commit_root x.draw.marks)) (last_op x.draw.revision x.draw.marks) (next_number w.table)) ∙ ap (λ (past : Past). record h { past = past }) is
          where
            by : (result : Result Document OpFault) → history_in (lasted_by w s x result) ≡ record h { past = (lasted_by w s x result).past }
            by (Ok d) = refl
            by (Err (fault.Unmet k (keeps.Entry o item))) = refl
            by (Err (fault.Unmet k (keeps.Number n))) = refl
            by (Err (fault.Unmet k keeps.Nothing)) = refl
            by (Err fault.Absent) = refl
            by (Err fault.Memory) = refl

        pub committed_step : (d : Committing) → (after_last w s x).past ≡ event.Commit c.revision ∷ w.past → d ≡ committed c → StepOf (work.Commit c) (after_last w s x) (work.Commit d) (answers.Went kind.Last)
        committed_step d past is = subst (λ (y : Committing). StepOf (work.Commit c) (after_last w s x) (work.Commit y) (answers.Went kind.Last)) (sym is) (record {
          own = event.Commit c.revision ∷ [];
          grown = last_grown (event.Commit c.revision ∷ []) past;
          kept = last_kept;
          may = at_rest _ (committed c) (record { login = at.come.login; stays = at.come.stays }) at.unended looked roots_here;
          apart = apart_one w.past s (event.Commit c.revision) (λ q k. its_session q false (flipped q s k));
          attached = refl;
          unstopped = λ q k. k;
          changes = plainly w _ (last_plain w s x) (last_formers w s x);
          numbers = λ n. last_numbers w n s x;
          holds = last_rises starts says proper w layers s x here uncommitted unundone unmet none_left;
          tells = writing (answers.Went kind.Last) (event.Commit c.revision ∷ []) (shown_work (work.Commit (committed c))) (inr (inr (inr (inl (refl, refl, refl)))));
          of_step = kind_told kind.Last (is_revision_of w.past s c.revision) revision_mine;
          as_due = ap (λ (y : Stage). is_due kind.Last (kind_of_stage y)) (stage_last c going looked unmet none_left);
        })

        pub last_refused_step : (d : Committing) (item : Item) (o : Revision) → (after_last w s x).past ≡ event.Refuse c.revision item o ∷ w.past → d ≡ refused c item o → StepOf (work.Commit c) (after_last w s x) (work.Commit d) (answers.Went kind.Last)
        last_refused_step d item o past is = subst (λ (y : Committing). StepOf (work.Commit c) (after_last w s x) (work.Commit y) (answers.Went kind.Last)) (sym is) (record {
          own = event.Refuse c.revision item o ∷ [];
          grown = last_grown (event.Refuse c.revision item o ∷ []) past;
          kept = last_kept;
          may = at_rest _ (refused c item o) (record { login = at.come.login; stays = at.come.stays }) at.unended looked refl;
          apart = apart_refusal item o;
          attached = refl;
          unstopped = λ q k. k;
          changes = plainly w _ (last_plain w s x) (last_formers w s x);
          numbers = λ n. last_numbers w n s x;
          holds = last_rises starts says proper w layers s x here uncommitted unundone unmet none_left;
          tells = refusal_tells kind.Last (inr refl) item o (refused c item o) refl;
          of_step = ap (λ t. list_any (is_kind kind.Last) (where_test t (kind.Mark ∷ kind.Last ∷ []))) revision_mine;
          as_due = refl;
        })

    -- ---- while it undoes

    undone_step : (p : Path) (rest : List Path) → undoes c.outcome ≡ true → c.writer.written ≡ p ∷ rest → StepOf (work.Commit c) (after_undoing w s x p rest) (work.Commit (with_undone c)) (answers.Went kind.Undo)
    undone_step p rest undoing next = record {
      own = event.Went s kind.Undo ∷ [];
      grown = refl;
      kept = undo_whole starts says proper w kept s x p rest here (not_past c.outcome undoing) undoing next;
      may = at_rest _ (with_undone c) (record { login = at.come.login; stays = at.come.stays }) at.unended looked roots_here;
      apart = apart_went kind.Undo;
      attached = refl;
      unstopped = λ q k. k;
      changes = plainly w _ (undo_plain w.table p c.revision) refl;
      numbers = λ n. undo_numbers w n s x p rest;
      holds = undo_rises starts says proper w layers s x here p rest (not_past c.outcome undoing) undoing next;
      tells = undoing_tells h s c.revision c.outcome undoing;
      of_step = kind_told kind.Undo (s == s && true) (with_true (s == s) (number_itself s));
      as_due = refl;
    }

    -- ---- the end

    module _ (finish : stage_of c ≡ stage.Finish) where
      through : IsThrough (running_as s c)
      through = (finish_stage c finish).through

      abbrev memory : NodeState
      memory = memory_of w s

      abbrev done : NodeState
      done = finished (memory_of w s) c.revision

      abbrev moved : Bool
      moved = is_before (own_entry (memory_of w s)) (own_entry (finished (memory_of w s) c.revision))

      abbrev own_ends : Past
      own_ends = ends_with moved (node_of w s) done.head c.revision

      on : slice_get w.sessions s ≡ Some c.revision.cluster
      on = on_its_node starts says proper w kept.sessions s x here

      at_node : node_of w s ≡ c.revision.cluster
      at_node = ap (λ o. unwrap_or o 0) on

      node : IsNode w.clusters (node_of w s)
      node = subst (IsNode w.clusters) (sym at_node) (kept.sessions.nodes.node s c.revision.cluster on)

      -- the head moves where the memory's does
      moves : moves_head h c.revision ≡ moved
      moves = sym (rises ∙ by (is_same (local w.begin later k) (local w.begin w.past k)) refl)
        where
          k : ℕ
          k = c.revision.cluster

          later : Past
          later = event.End c.revision ∷ w.past

          run : IsRunOf starts says w.clusters w.sessions w.begin later
          run = (in_flight w.past c.revision x.draw mine.draw mine.unended, kept.sessions.run)

          is_node : IsNode w.clusters k
          is_node = kept.sessions.nodes.node s k on

          sound : IsSound w.clusters w.sessions w.begin w.past
          sound = sound_run w.clusters w.sessions kept.sessions.nodes w.begin starts says w.past kept.sessions.run

          its_memory : IsMemoryOf w.begin w.clusters w.past k memory
          its_memory = subst (λ (j : ℕ). IsMemoryOf w.begin w.clusters w.past k (memory_at w.memories j)) (sym at_node) (kept.sessions.memories.memory k is_node)

          rises : moved ≡ is_before (local w.begin w.past k) (local w.begin later k)
          rises =
              ap (λ e. is_before e (own_entry done)) (own_is w.begin w.clusters w.sessions kept.sessions.nodes w.past sound k is_node memory its_memory)
              ∙ ap (is_before (local w.begin w.past k)) (own_is w.begin w.clusters w.sessions kept.sessions.nodes later (sound_run w.clusters w.sessions kept.sessions.nodes w.begin starts says later run) k is_node done (end_run w.begin starts says w.clusters w.sessions kept.sessions.nodes c.revision w.past run memory its_memory))

          before : (b : Bool) → is_before (local w.begin w.past k) (local w.begin later k) ≡ b → is_same (local w.begin later k) (local w.begin w.past k) ≡ false → b ≡ true
          before true e apart = refl
          before false e apart =
              let same : local w.begin w.past k ≡ local w.begin later k = at_most_both (local w.begin w.past k) (local w.begin later k) ((later_end w.clusters w.sessions kept.sessions.nodes w.begin w.past sound c.revision).locals k) (not_before (local w.begin w.past k) (local w.begin later k) e) in
              sym apart ∙ (ap (λ (r : Revision). is_same r (local w.begin w.past k)) (sym same) ∙ is_same_self (local w.begin w.past k))

          by : (b : Bool) → is_same (local w.begin later k) (local w.begin w.past k) ≡ b → is_before (local w.begin w.past k) (local w.begin later k) ≡ not b
          by true same = ap (is_before (local w.begin w.past k)) (same_revision (local w.begin later k) (local w.begin w.past k) same) ∙ before_itself (local w.begin w.past k)
          by false apart = before (is_before (local w.begin w.past k) (local w.begin later k)) refl apart

      finish_kept : IsKept starts says (after_finish w s x)
      finish_kept = finish_whole starts says proper w kept s x here through

      finish_grown : history_in (after_finish w s x) ≡ after own_ends h
      finish_grown = ap (λ (past : Past). record h { past = past }) (ends_grown moved (node_of w s) done.head c.revision w.past)

      finish_told : is_appended_by h s kind.Finish (reverse own_ends) ≡ true
      finish_told = ends_told h s moved (node_of w s) done.head c.revision revision_mine moves (ap (λ (k : ℕ). c.revision.cluster == k) at_node ∙ number_itself c.revision.cluster)

      come_on : IsPresent (after own_ends h) s
      come_on = come_left h s own_ends (ends_apart moved (node_of w s) done.head c.revision w.past s) at.come

      finished_step : (v : Work) (o : StepOut) → EndsSo c v o → StepOf (work.Commit c) (after_finish w s x) v o
      finished_step v (answers.Went kind.Finish) ends_so = subst (λ (y : Work). StepOf (work.Commit c) (after_finish w s x) y (answers.Went kind.Finish)) (sym ends_so.1) (record {
        own = own_ends;
        grown = finish_grown;
        kept = finish_kept;
        may = (come_on, ended_now moved (node_of w s) done.head c.revision w.past, on);
        apart = λ q k. ends_apart moved (node_of w s) done.head c.revision w.past q;
        attached = ends_attached moved (node_of w s) done.head c.revision w.past s;
        unstopped = ends_unstopped moved (node_of w s) done.head c.revision w.past;
        changes = untouched w _ refl refl;
        numbers = numbers_stay w.table;
        holds = finish_rises starts says proper w layers s x here through;
        tells = deciding_tells h s c.revision c.outcome own_ends ends_so.0 (is_finish moved (node_of w s) done.head c.revision);
        of_step = finish_told;
        as_due = ends_by_due moved (node_of w s) done.head c.revision (kind_due (work.Commit c));
      })
      finished_step v (answers.Ready (ends.Commit e)) ends_so =
          let past : is_past (Some e) ≡ false = ap is_past (sym ends_so.0) ∙ ends_so.1 in
          subst (λ (y : Work). StepOf (work.Commit c) (after_finish w s x) y (answers.Ready (ends.Commit e))) (sym ends_so.2) (record {
            own = own_ends;
            grown = finish_grown;
            kept = finish_kept;
            may = tt;
            apart = λ q k. ends_apart moved (node_of w s) done.head c.revision w.past q;
            attached = ends_attached moved (node_of w s) done.head c.revision w.past s;
            unstopped = ends_unstopped moved (node_of w s) done.head c.revision w.past;
            changes = untouched w _ refl refl;
            numbers = numbers_stay w.table;
            holds = finish_rises starts says proper w layers s x here through;
            tells = subst (λ (y : Option CommitEnd). Tells h s (shown_by c.revision y) (answers.Ready (ends.Commit e)) own_ends Idle) (sym ends_so.0) (undone_tells h s c.revision e own_ends past (is_finish moved (node_of w s) done.head c.revision));
            of_step = subst (λ (y : Option CommitEnd). AreOfStep h s (shown_by c.revision y) (answers.Ready (ends.Commit e)) own_ends) (sym ends_so.0) (undone_of_step h s c.revision e own_ends past finish_told);
            as_due = ends_by_due moved (node_of w s) done.head c.revision (kind_due (work.Commit c));
          })
      finished_step v _ ends_so = absurd ends_so

  -- ---- all

  -- a step to a state and a committer that are equal to those of a step
  at_both : (v : Work) (o : StepOut) (t : State) (d : Committing) (u : State) (e : Committing) → u ≡ t → e ≡ d → StepOf v t (work.Commit d) o → StepOf v u (work.Commit e) o
  at_both v o t d u e same is f = subst (λ (y : State). StepOf v y (work.Commit e) o) (sym same) (subst (λ (y : Committing). StepOf v t (work.Commit y) o) (sym is) f)

  module _ (c : Committing) (here : w.running s ≡ Some (running_as s c)) (at : IsAtWork (scene w.table w.formers h) s c) (looked : c.looking ≡ None) (u : State) (d : Committing) where
    mark_any : MakesUpdate s w c u d kind.Mark → StepOf (work.Commit c) u (work.Commit d) (answers.Went kind.Mark)
    mark_any g = subst (λ (y : State). StepOf (work.Commit c) y (work.Commit d) (answers.Went kind.Mark)) (sym g.4) (by g.5)
      where
        by : ((u.past ≡ event.Went s kind.Mark ∷ w.past) × (d ≡ mark_made c g.1)) ⊎ ((u.past ≡ event.Refuse c.revision g.0.mine g.0.other ∷ w.past) × (d ≡ refused c g.0.mine g.0.other)) → StepOf (work.Commit c) (after_mark w s (running_as s c) g.0 g.1) (work.Commit d) (answers.Went kind.Mark)
        by (inl e) = marked_step c here at looked g.2.going g.0 g.1 g.3 d (ap (λ (y : State). y.past) (sym g.4) ∙ e.0) e.1
        by (inr e) = mark_refused_step c here at looked g.2.going g.0 g.1 g.3 d (ap (λ (y : State). y.past) (sym g.4) ∙ e.0) e.1

    write_any : MakesUpdate s w c u d kind.Write → StepOf (work.Commit c) u (work.Commit d) (answers.Went kind.Write)
    write_any g = by g.5
      where
        by : ((u ≡ after_write w s (running_as s c) g.0 g.1) × (d ≡ written c g.0 g.1 (nodes_in w.table g.0))) ⊎ ((u ≡ after_write_in_want w s (running_as s c) g.0 g.1) × (d ≡ wanting (written c g.0 g.1 (nodes_in w.table g.0)))) → StepOf (work.Commit c) u (work.Commit d) (answers.Went kind.Write)
        by (inl e) = at_both (work.Commit c) (answers.Went kind.Write) (after_write w s (running_as s c) g.0 g.1) (written c g.0 g.1 (nodes_in w.table g.0)) u d e.0 e.1 (wrote_step c here at looked g.2.going g.0 g.1 g.3 g.4)
        by (inr e) = at_both (work.Commit c) (answers.Went kind.Write) (after_write_in_want w s (running_as s c) g.0 g.1) (wanting (written c g.0 g.1 (nodes_in w.table g.0))) u d e.0 e.1 (wrote_in_want_step c here at looked g.2.going g.0 g.1 g.3 g.4)

    last_any : MakesUpdate s w c u d kind.Last → StepOf (work.Commit c) u (work.Commit d) (answers.Went kind.Last)
    last_any g = subst (λ (y : State). StepOf (work.Commit c) y (work.Commit d) (answers.Went kind.Last)) (sym g.3) (by g.4)
      where
        by : ((u.past ≡ event.Commit c.revision ∷ w.past) × (d ≡ committed c)) ⊎ ((item : Item) × (o : Revision) × (u.past ≡ event.Refuse c.revision item o ∷ w.past) × (d ≡ refused c item o)) → StepOf (work.Commit c) (after_last w s (running_as s c)) (work.Commit d) (answers.Went kind.Last)
        by (inl e) = committed_step c here at looked g.0.going g.1 g.2 d (ap (λ (y : State). y.past) (sym g.3) ∙ e.0) e.1
        by (inr e) = last_refused_step c here at looked g.0.going g.1 g.2 d e.0 e.1 (ap (λ (y : State). y.past) (sym g.3) ∙ e.2) e.3

    update_any : (k : StepKind) → MakesUpdate s w c u d k → StepOf (work.Commit c) u (work.Commit d) (answers.Went k)
    update_any kind.Mark g = mark_any g
    update_any kind.Write g = write_any g
    update_any kind.Last g = last_any g
    update_any kind.Undo g = at_both (work.Commit c) (answers.Went kind.Undo) (after_undoing w s (running_as s c) g.0 g.1) (with_undone c) u d g.4 g.5 (undone_step c here at looked g.0 g.1 g.2 g.3)
    update_any kind.Read g = absurd (never g.0 (sym looked ∙ g.2))
      where
        never : (k : Look) → None ≡ Some k → ⊥
        never k e = cc
    update_any _ g = absurd g

  -- the commit gives up for want of memory
  wants_step : (c : Committing) → w.running s ≡ Some (running_as s (once_looked w.table c)) → IsAtWork (scene w.table w.formers h) s c → c.outcome ≡ None → (u : State) (v : Work) (o : StepOut) → o ≡ answers.Memory → u ≡ after_want w s (running_as s c) → v ≡ work.Commit (wanting c) → StepOf (work.Commit c) u v o
  wants_step c runs at going u v o answer same is =
      subst (λ (y : Work). StepOf (work.Commit c) u y o) (sym is) (subst (λ (y : StepOut). StepOf (work.Commit c) u (work.Commit (wanting c)) y) (sym answer)
      (subst (λ (y : State). StepOf (work.Commit c) y (work.Commit (wanting c)) answers.Memory) (sym same) (want_step c runs at going)))

  -- a committer that looks at no previous document
  alone_step : (c : Committing) → w.running s ≡ Some (running_as s (once_looked w.table c)) → IsAtWork (scene w.table w.formers h) s c → c.looking ≡ None → (u : State) (v : Work) (o : StepOut) → MakesCommit s w c u v o → StepOf (work.Commit c) u v o
  alone_step c runs at looked u v o m = by m
    where
      here : w.running s ≡ Some (running_as s c)
      here = runs ∙ ap (λ (e : Committing). Some (running_as s e)) (once_alone w.table c looked)

      by : MakesCommit s w c u v o → StepOf (work.Commit c) u v o
      by (inl m) = subst (λ (y : Work). StepOf (work.Commit c) u y o) (sym m.3) (subst (λ (y : StepOut). StepOf (work.Commit c) u (work.Commit m.2) y) (sym m.1) (update_any c here at looked u m.2 m.0 m.4))
      by (inr (inl m)) = subst (λ (y : State). StepOf (work.Commit c) y v o) (sym m.1) (finished_step c here at looked m.0 v o m.2)
      by (inr (inr m)) = wants_step c runs at m.1 u v o m.0 m.2 m.3

  -- one that looks at a previous document
  module _ (c : Committing) (runs : w.running s ≡ Some (running_as s (once_looked w.table c))) (at : IsAtWork (scene w.table w.formers h) s c) (k : Look) (is : c.looking ≡ Some k) (u : State) where
    going_on : c.outcome ≡ None
    going_on = (at.looks k is).form.going

    unlooked : {A : Type 0} → MayUpdate c → A
    unlooked may = absurd (never (sym may.looked ∙ is))
      where
        never : None ≡ Some k → ⊥
        never e = cc

    look_any : (d : Committing) → MakesUpdate s w c u d kind.Read → StepOf (work.Commit c) u (work.Commit d) (answers.Went kind.Read)
    look_any d g = by g.3
      where
        by : ((u ≡ w) × (d ≡ fed_previous w.table c)) ⊎ ((u ≡ after_want w s (running_as s c)) × (d ≡ wanting (fed_previous w.table c))) → StepOf (work.Commit c) u (work.Commit d) (answers.Went kind.Read)
        by (inl e) = at_both (work.Commit c) (answers.Went kind.Read) w (fed_previous w.table c) u d e.0 e.1 (look_step c runs at going_on k is)
        by (inr e) = at_both (work.Commit c) (answers.Went kind.Read) (after_want w s (running_as s c)) (wanting (fed_previous w.table c)) u d e.0 e.1 (look_in_want_step c runs at going_on k is)

    looking_update : (d : Committing) (x : StepKind) → MakesUpdate s w c u d x → StepOf (work.Commit c) u (work.Commit d) (answers.Went x)
    looking_update d kind.Mark g = unlooked g.2
    looking_update d kind.Write g = unlooked g.2
    looking_update d kind.Read g = look_any d g
    looking_update d kind.Last g = unlooked g.0
    looking_update d kind.Undo g = absurd (false≢true (sym (ap undoes going_on) ∙ g.2))
    looking_update d _ g = absurd g

    looking_step : (v : Work) (o : StepOut) → MakesCommit s w c u v o → StepOf (work.Commit c) u v o
    looking_step v o (inl m) = subst (λ (y : Work). StepOf (work.Commit c) u y o) (sym m.3) (subst (λ (y : StepOut). StepOf (work.Commit c) u (work.Commit m.2) y) (sym m.1) (looking_update m.2 m.0 m.4))
    looking_step v o (inr (inl m)) = absurd (false≢true (sym (ap is_some going_on) ∙ (finish_stage c m.0).settled))
    looking_step v o (inr (inr m)) = wants_step c runs at going_on u v o m.0 m.2 m.3

  commit_step : (c : Committing) → w.running s ≡ Some (running_as s (once_looked w.table c)) → IsAtWork (scene w.table w.formers h) s c → (u : State) (v : Work) (o : StepOut) → MakesCommit s w c u v o → StepOf (work.Commit c) u v o
  commit_step c runs at u v o m = by c.looking refl
    where
      by : (l : Option Look) → c.looking ≡ l → StepOf (work.Commit c) u v o
      by None none = alone_step c runs at none u v o m
      by (Some k) is = looking_step c runs at k is u v o m

  -- a step to a state and a work that are equal to those of a step
  at_those : (v : Work) (o : StepOut) (t : State) (y : Work) (u : State) (x : Work) → u ≡ t → x ≡ y → StepOf v t y o → StepOf v u x o
  at_those v o t y u x same is f = subst (λ (z : State). StepOf v z x o) (sym same) (subst (λ (z : Work). StepOf v t z o) (sym is) f)

  -- nothing is done
  still_step : (v : Work) → Tells h s (shown_work v) answers.Memory [] Idle → is_by_due (kind_due v) [] ≡ true → (u : State) (x : Work) → u ≡ w → x ≡ work.Rest → StepOf v u x answers.Memory
  still_step v tells due u x same is = at_those v answers.Memory w work.Rest u x same is (record { own = []; grown = refl; kept = kept; may = tt; apart = λ q k. refl; attached = refused_stays v (is_attached w.past s); unstopped = λ q k. k; changes = untouched w _ refl refl; numbers = numbers_stay w.table; holds = holds_still w; tells = tells; of_step = refl; as_due = due })

  -- a step of a session that may do what it does, but for splits and collections: it changes the documents plainly
  pub any_step : IsTable w.table.documents → (v : Work) → is_tidying v ≡ false → w.running s ≡ running_of w.table s v → w.reading s ≡ reading_of v → w.observing s ≡ observing_of v → May starts (scene w.table w.formers h) s v → (u : State) (x : Work) (o : StepOut) → MakesState s w v u x o → StepOf v u x o
  any_step table work.Login plain runs reads observes may u x (answers.Ready (ends.Pinned pin)) m = at_those work.Login (answers.Ready (ends.Pinned pin)) (after_login w s) work.Rest u x m.0 m.1 (login_step pin m.2 may)
  any_step table work.Login plain runs reads observes may u x answers.Memory m = still_step work.Login (refl, refl) refl u x m.0 m.1
  any_step table work.Login plain runs reads observes may u x _ m = absurd m
  any_step table work.End plain runs reads observes may u x (answers.Ready ends.Ended) m = at_those work.End (answers.Ready ends.Ended) (after_leave w s) work.Rest u x m.0 m.1 (leave_step may runs reads observes)
  any_step table work.End plain runs reads observes may u x answers.Memory m = still_step work.End (refl, refl) refl u x m.0 m.1
  any_step table work.End plain runs reads observes may u x _ m = absurd m
  any_step table work.Refresh plain runs reads observes may u x (answers.Ready (ends.Pinned pin)) m = at_those work.Refresh (answers.Ready (ends.Pinned pin)) (after_refresh w s) work.Rest u x m.0 m.1 (refresh_step pin m.2 may.0 runs reads observes)
  any_step table work.Refresh plain runs reads observes may u x answers.Memory m = still_step work.Refresh (refl, refl) refl u x m.0 m.1
  any_step table work.Refresh plain runs reads observes may u x _ m = absurd m
  any_step table (work.Read r) plain runs reads observes may u x (answers.Went kind.Read) m = at_those (work.Read r) (answers.Went kind.Read) (with_reader w s (Some (read_on w.table r))) (work.Read (read_on w.table r)) u x m.0 m.1 (read_step table r reads may)
  any_step table (work.Read r) plain runs reads observes may u x (answers.Ready e) m = at_those (work.Read r) (answers.Ready e) (with_reader w s None) work.Rest u x m.0 m.1 (given_step table r reads may e m.2)
  any_step table (work.Read r) plain runs reads observes may u x answers.Memory m = at_those (work.Read r) answers.Memory (with_reader w s None) work.Rest u x m.0 m.1 (gone_step table r reads may)
  any_step table (work.Read r) plain runs reads observes may u x _ m = absurd m
  any_step table (work.Changes r) plain runs reads observes may u x (answers.Went kind.Read) m = at_those (work.Changes r) (answers.Went kind.Read) (with_observer w s (Some (changes_on w.table r))) (work.Changes (changes_on w.table r)) u x m.0 m.1 (changes_step table r observes may.0 may.1)
  any_step table (work.Changes r) plain runs reads observes may u x (answers.Ready (ends.Changes commits)) m = at_those (work.Changes r) (answers.Ready (ends.Changes commits)) (with_observer w s None) work.Rest u x m.0 m.1 (told_step table r observes may.0 may.1 commits m.2)
  any_step table (work.Changes r) plain runs reads observes may u x answers.Memory m = at_those (work.Changes r) answers.Memory (with_observer w s None) work.Rest u x m.0 m.1 (unobserved_step table r observes may.0 may.1)
  any_step table (work.Changes r) plain runs reads observes may u x _ m = absurd m
  any_step table (work.Plan edit marks) plain runs reads observes may u x (answers.Went kind.Draw) m =
      at_those (work.Plan edit marks) (answers.Went kind.Draw) (after_draw w s edit marks (marked_paths marks)) (work.Commit (begun (next_draw (memory_of w s)) (base_in w s) edit marks)) u x m.0 m.1 (draw_step edit marks may.0 may.1 may.2 runs)
  any_step table (work.Plan edit marks) plain runs reads observes may u x answers.Memory m = still_step (work.Plan edit marks) (refl, refl) refl u x m.0 m.1
  any_step table (work.Plan edit marks) plain runs reads observes may u x _ m = absurd m
  any_step table (work.Commit c) plain runs reads observes may u x o m = commit_step c runs may u x o m
  any_step table (work.Move r) plain runs reads observes may u x (answers.Wait q) m = at_those (work.Move r) (answers.Wait q) w (work.Move r) u x m.0 m.1 (waits_step r q m.2 may.0 may.1 may.2)
  any_step table (work.Move r) plain runs reads observes may u x (answers.Ready (ends.Commit (end.Committed o))) m = at_those (work.Move r) (answers.Ready (ends.Commit (end.Committed o))) (after_refresh w s) work.Rest u x m.0 m.1 (moves_step r o m.2 m.3 may.0 may.2 runs reads observes)
  any_step table (work.Move r) plain runs reads observes may u x _ m = absurd m
  any_step table (work.Upkeep k) plain runs reads observes may u x o m = upkeep_step starts says proper w kept s there none_halted may.0 few observes runs reads k may.1 u x o m
  any_step table work.Rest plain runs reads observes may u x o m = absurd m
  any_step table (work.Tidy y) plain runs reads observes may u x o m = absurd (false≢true (sym plain))
  any_step table (work.Told e) plain runs reads observes may u x o m = absurd m
