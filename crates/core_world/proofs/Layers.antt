-- Each step of a session and of its commit keeps all that a world keeps.
use Rattle.std.proofs.Common.{◌≡◌, ℕ, List, [], ◌∷◌, length, true, Some, None, is_some, refl}
use Rattle.std.specs.Prelude.{IsTrue, IsFalse, slice_get}
use mathlib.Core.Bool.{false≢true}
use Rattle.std.specs.declared.alloc.Global.{Global}
use Rattle.jr_path.specs.declared.path.Path.{Path}
use Rattle.jr_path.specs.Lists.{Text}
use Rattle.jr_rev.specs.declared.vector.Pin.{Pin}
use Rattle.jr_tree.specs.declared.edit.Edit.{Edit}
use Rattle.oak_clash.specs.Clashes.{marked_paths}
use Rattle.oak_clash.specs.declared.mark.MarkAt.{MarkAt}
use Rattle.oak_commit.specs.Clashing.{Met}
use Rattle.oak_machine.specs.declared.event.Event.{Event}
use Rattle.oak_machine.specs.declared.event.Event.TheVariants as event
use Rattle.oak_machine.specs.declared.event.StepKind.{StepKind}
use Rattle.oak_machine.specs.declared.event.StepKind.TheVariants as kind
use Rattle.oak_machine.specs.Laws.{Says, Starts, StartsProper, StartsWrite}
use Rattle.oak_machine.specs.Runs.{AreNodes, MayFollow, is_task_end}
use Rattle.oak_machine.specs.Sessions.{has_left, has_login, is_attached, is_stopped_under, next_index}
use Rattle.oak_machine.specs.Steps.{is_kind}
use Rattle.oak_node.specs.Pins.{pin_of}
use Rattle.oak_read.specs.declared.reader.Reader.{Reader}
use Rattle.oak_read.specs.Reading.{IsTable, answer, children_reader, due, fed, node_reader}
use Rattle.core_clash.specs.Sessions.{Running}
use Rattle.core_nodes.specs.Nodes.{cursor_owner}
use Rattle.core_clash.specs.Collecting.{SeesBounded}
use Rattle.core_world.specs.States.{base_in, origin}
use Rattle.core_world.specs.Kept.{IsAboveBounds, AreLayersKept, IsBetweenPins}
use Rattle.core_world.specs.Start.{start_state}
use Rattle.core_world.specs.States.{State, actor_pin, history_in, memory_of}
use Rattle.core_world.specs.Steps.{IsThrough, after_draw, after_finish, after_last, after_leave, after_login, after_mark, after_observe, after_refresh, after_said, after_task_end, after_undoing, after_want, after_went, after_write, after_write_in_want, draw_in, with_reader, with_observer}
use Rattle.core_world.proofs.Attaching.{actor_live, actor_pair}
use Rattle.core_world.proofs.Begun.{start_kept}
use Rattle.core_world.proofs.Commits.{last_keeps, mark_keeps, undo_keeps, want_keeps, write_in_want_keeps, write_keeps}
use Rattle.core_world.proofs.Draws.{draw_keeps, finish_keeps}
use Rattle.core_world.proofs.Lives.{leave_keeps, login_keeps, node_alive, observe_keeps, refresh_keeps, said_keeps, session_there, task_end_keeps, went_keeps}
use Rattle.core_world.proofs.Loads.{gone_keeps, list_keeps, load_keeps, read_keeps, feed_keeps, notice_keeps, unnotice_keeps}
use Rattle.core_world.proofs.Rooted.{finish_rooted, last_rooted, mark_rooted, start_rooted, undo_rooted, write_rooted}
use Rattle.core_world.proofs.Roots.{root_quiet}
use Rattle.core_world.proofs.Setting.{finish_set, last_set, mark_set, settings_quiet, start_set, undo_set, write_set}
use Rattle.jr_rev.specs.declared.vector.RevVec.{RevVec}
use Rattle.oak_changes.specs.declared.changes.ChangesReader.{ChangesReader}
use Rattle.oak_changes.specs.Reading.{changes_reader, due as due_changes, fed as fed_changes}

pub start_whole : (starts : Starts) (says : Says) (clusters : ℕ) (sessions : List ℕ) → AreNodes clusters sessions → AreLayersKept starts says (start_state clusters sessions)
start_whole starts says clusters sessions nodes = record { sessions = start_kept starts says clusters sessions nodes; root = start_rooted clusters (length sessions) nodes.eight nodes.some; settings = start_set sessions clusters (length sessions) }

module _ (starts : Starts) (says : Says) (proper : StartsProper starts) (w : State) (kept : AreLayersKept starts says w) where
  pub login_whole : (s : ℕ) → IsFalse (is_stopped_under w.sessions w.past s) → IsTrue (is_some (slice_get w.sessions s)) → IsFalse (has_login w.past s) → AreLayersKept starts says (after_login w s)
  login_whole s on there first = record { sessions = login_keeps starts says proper w kept.sessions s on there first; root = root_quiet w.clusters w.begin w.past w.table (event.Login s (memory_of w s).head) refl kept.root; settings = settings_quiet w.sessions w.past w.table w.table (event.Login s (memory_of w s).head) refl refl kept.settings }

  pub refresh_whole : (s : ℕ) → IsFalse (is_stopped_under w.sessions w.past s) → IsTrue (has_login w.past s) → IsFalse (has_left w.past s) → w.running s ≡ None → w.reading s ≡ None → w.observing s ≡ None → AreLayersKept starts says (after_refresh w s)
  refresh_whole s on login stays none unread unobserved = record { sessions = refresh_keeps starts says proper w kept.sessions s on login stays none unread unobserved; root = root_quiet w.clusters w.begin w.past w.table (event.Refresh s (memory_of w s).head) refl kept.root; settings = settings_quiet w.sessions w.past w.table w.table (event.Refresh s (memory_of w s).head) refl refl kept.settings }

  pub leave_whole : (s : ℕ) → IsFalse (is_stopped_under w.sessions w.past s) → slice_get w.sessions (cursor_owner s) ≡ None → IsTrue (has_login w.past s) → IsFalse (has_left w.past s) → w.running s ≡ None → w.reading s ≡ None → w.observing s ≡ None → AreLayersKept starts says (after_leave w s)
  leave_whole s on few login stays none unread unobserved = record { sessions = leave_keeps starts says proper w kept.sessions s on few login stays none unread unobserved; root = root_quiet w.clusters w.begin w.past w.table (event.Went s kind.End) refl kept.root; settings = settings_quiet w.sessions w.past w.table w.table (event.Went s kind.End) refl refl kept.settings }

  pub observe_whole : (s : ℕ) (pin : Pin) → slice_get w.sessions (cursor_owner s) ≡ None → IsTrue (has_login w.past s) → IsFalse (has_left w.past s) → w.reading s ≡ None → w.observing s ≡ None → pin_of (memory_of w s) s ≡ Some pin → AreLayersKept starts says (after_observe w s pin)
  observe_whole s pin few login stays unread unobserved has = record { sessions = observe_keeps starts says proper w kept.sessions s few login stays unread unobserved pin has; root = root_quiet w.clusters w.begin w.past w.table (event.Went s kind.Pin) refl kept.root; settings = settings_quiet w.sessions w.past w.table w.table (event.Went s kind.Pin) refl refl kept.settings }

  pub said_whole : (s i : ℕ) (text : Text) → i ≡ next_index w.past s → says (history_in w) s i text → AreLayersKept starts says (after_said w s i text)
  said_whole s i text next lawful = record { sessions = said_keeps starts says proper w kept.sessions s i text next lawful; root = root_quiet w.clusters w.begin w.past w.table (event.Said s i text) refl kept.root; settings = settings_quiet w.sessions w.past w.table w.table (event.Said s i text) refl refl kept.settings }

  pub task_end_whole : (s : ℕ) (e : Event) → is_task_end s e ≡ true → MayFollow starts says (history_in w) e → AreLayersKept starts says (after_task_end w e)
  task_end_whole s (event.Split t path end) own may = record { sessions = task_end_keeps starts says proper w kept.sessions s (event.Split t path end) own may; root = root_quiet w.clusters w.begin w.past w.table (event.Split t path end) refl kept.root; settings = settings_quiet w.sessions w.past w.table w.table (event.Split t path end) refl refl kept.settings }
  task_end_whole s (event.Collected t end) own may = record { sessions = task_end_keeps starts says proper w kept.sessions s (event.Collected t end) own may; root = root_quiet w.clusters w.begin w.past w.table (event.Collected t end) refl kept.root; settings = settings_quiet w.sessions w.past w.table w.table (event.Collected t end) refl refl kept.settings }
  task_end_whole s _ own may = absurd (false≢true own)

  pub went_whole : (s : ℕ) (k : StepKind) → IsFalse (is_kind k kind.End) → IsFalse (is_kind k kind.Pin) → IsTrue (has_login w.past s) → IsFalse (has_left w.past s) → AreLayersKept starts says (after_went w s k)
  went_whole s k other apart login stays = record { sessions = went_keeps starts says proper w kept.sessions s k other apart login stays; root = root_quiet w.clusters w.begin w.past w.table (event.Went s k) refl kept.root; settings = settings_quiet w.sessions w.past w.table w.table (event.Went s k) refl refl kept.settings }

  pub load_whole : (s : ℕ) (a : Global) (pin : Pin) (p : Path) → IsFalse (is_stopped_under w.sessions w.past s) → IsTrue (has_login w.past s) → IsFalse (has_left w.past s) → actor_pin w s ≡ Some pin → IsAboveBounds (origin w) w.past pin → AreLayersKept starts says (with_reader w s (Some (node_reader a pin p)))
  load_whole s a pin p on login stays has above = record { sessions = load_keeps starts says proper w kept.sessions s a pin p on (actor_live starts says proper w kept s login stays (node_alive starts says proper w kept.sessions s (session_there starts says proper w kept.sessions s login) on) pin has) (actor_pair starts says proper w kept s login stays pin has) above; root = kept.root; settings = kept.settings }

  pub list_whole : (s : ℕ) (a : Global) (pin : Pin) (p : Path) → IsFalse (is_stopped_under w.sessions w.past s) → IsTrue (has_login w.past s) → IsFalse (has_left w.past s) → actor_pin w s ≡ Some pin → IsAboveBounds (origin w) w.past pin → AreLayersKept starts says (with_reader w s (Some (children_reader a pin p)))
  list_whole s a pin p on login stays has above = record { sessions = list_keeps starts says proper w kept.sessions s a pin p on (actor_live starts says proper w kept s login stays (node_alive starts says proper w kept.sessions s (session_there starts says proper w kept.sessions s login) on) pin has) (actor_pair starts says proper w kept s login stays pin has) above; root = kept.root; settings = kept.settings }

  pub read_whole : (s : ℕ) (r : Reader) → w.reading s ≡ Some r → IsTable w.table.documents → AreLayersKept starts says (with_reader w s (Some (fed r (answer w.table.documents (due r)))))
  read_whole s r here table = record { sessions = read_keeps starts says proper w kept.sessions s r here table; root = kept.root; settings = kept.settings }

  pub gone_whole : (s : ℕ) → AreLayersKept starts says (with_reader w s None)
  gone_whole s = record { sessions = gone_keeps starts says proper w kept.sessions s; root = kept.root; settings = kept.settings }

  pub notice_whole : (s : ℕ) (a : Global) (from : RevVec) (pin : Pin) → IsFalse (is_stopped_under w.sessions w.past s) → slice_get w.sessions (cursor_owner s) ≡ None → IsBetweenPins (origin w) w.past s (changes_reader a from pin) → AreLayersKept starts says (with_observer w s (Some (changes_reader a from pin)))
  notice_whole s a from pin on few between = record { sessions = notice_keeps starts says proper w kept.sessions s a from pin on few between; root = kept.root; settings = kept.settings }

  pub feed_whole : StartsWrite starts → (s : ℕ) (r : ChangesReader) → w.observing s ≡ Some r → IsTable w.table.documents → AreLayersKept starts says (with_observer w s (Some (fed_changes r (answer w.table.documents (due_changes r)))))
  feed_whole writes s r here table = record { sessions = feed_keeps starts says proper w kept.sessions s r here writes table; root = kept.root; settings = kept.settings }

  pub unnotice_whole : (s : ℕ) → AreLayersKept starts says (with_observer w s None)
  unnotice_whole s = record { sessions = unnotice_keeps starts says proper w kept.sessions s; root = kept.root; settings = kept.settings }

  pub draw_whole : (s : ℕ) (edit : Edit) (marks : List MarkAt) → IsFalse (is_stopped_under w.sessions w.past s) → IsTrue (has_login w.past s) → IsFalse (has_left w.past s) → IsFalse (is_attached w.past s) → w.running s ≡ None → starts (history_in w) s edit marks → SeesBounded w.past (base_in w s) → AreLayersKept starts says (after_draw w s edit marks (marked_paths marks))
  draw_whole s edit marks on login stays detached none lawful bounded = record { sessions = draw_keeps starts says proper w kept.sessions s (node_alive starts says proper w kept.sessions s (session_there starts says proper w kept.sessions s login) on) login stays on detached none edit marks lawful bounded; root = root_quiet w.clusters w.begin w.past w.table (event.Draw (draw_in w s edit marks)) refl kept.root; settings = settings_quiet w.sessions w.past w.table w.table (event.Draw (draw_in w s edit marks)) refl refl kept.settings }

  pub write_whole : (s : ℕ) (x : Running) (p : Path) (rest : List Path) → w.running s ≡ Some x → IsFalse x.committed → IsFalse x.writer.undoing → x.writer.due ≡ [] → x.writer.left ≡ p ∷ rest → AreLayersKept starts says (after_write w s x p rest)
  write_whole s x p rest here uncommitted going unmet next = record { sessions = write_keeps starts says proper w kept.sessions s x here uncommitted going p rest unmet next; root = write_rooted w kept.root s x p rest; settings = write_set w kept.settings s x p }

  pub write_in_want_whole : (s : ℕ) (x : Running) (p : Path) (rest : List Path) → w.running s ≡ Some x → IsFalse x.committed → IsFalse x.writer.undoing → x.writer.due ≡ [] → x.writer.left ≡ p ∷ rest → AreLayersKept starts says (after_write_in_want w s x p rest)
  write_in_want_whole s x p rest here uncommitted going unmet next = record { sessions = write_in_want_keeps starts says proper w kept.sessions s x here uncommitted going p rest unmet next; root = write_rooted w kept.root s x p rest; settings = write_set w kept.settings s x p }

  pub mark_whole : (s : ℕ) (x : Running) (f : Met) (rest : List Met) → w.running s ≡ Some x → IsFalse x.committed → IsFalse x.writer.undoing → x.writer.due ≡ f ∷ rest → AreLayersKept starts says (after_mark w s x f rest)
  mark_whole s x f rest here uncommitted going next = record { sessions = mark_keeps starts says proper w kept.sessions s x here uncommitted going f rest next; root = mark_rooted w kept.root s x f rest; settings = mark_set w kept.settings s x f rest }

  pub last_whole : (s : ℕ) (x : Running) → w.running s ≡ Some x → IsFalse x.committed → IsFalse x.writer.undoing → x.writer.due ≡ [] → x.writer.left ≡ [] → AreLayersKept starts says (after_last w s x)
  last_whole s x here uncommitted going unmet none_left = record { sessions = last_keeps starts says proper w kept.sessions s x here uncommitted going unmet none_left; root = last_rooted w kept.root s x; settings = last_set w kept.settings s x }

  pub want_whole : (s : ℕ) (x : Running) → w.running s ≡ Some x → IsFalse x.committed → IsFalse x.writer.undoing → AreLayersKept starts says (after_want w s x)
  want_whole s x here uncommitted going = record { sessions = want_keeps starts says proper w kept.sessions s x here uncommitted going; root = kept.root; settings = kept.settings }

  pub undo_whole : (s : ℕ) (x : Running) (p : Path) (rest : List Path) → w.running s ≡ Some x → IsFalse x.committed → IsTrue x.writer.undoing → x.writer.written ≡ p ∷ rest → AreLayersKept starts says (after_undoing w s x p rest)
  undo_whole s x p rest here uncommitted undoing next = record { sessions = undo_keeps starts says proper w kept.sessions s x here p rest uncommitted undoing next; root = undo_rooted w kept.root s x p rest; settings = undo_set w kept.settings s x p rest }

  pub finish_whole : (s : ℕ) (x : Running) → w.running s ≡ Some x → IsThrough x → AreLayersKept starts says (after_finish w s x)
  finish_whole s x here through = record { sessions = finish_keeps starts says proper w kept.sessions s x here through; root = finish_rooted w kept.root s x; settings = finish_set w kept.settings s x }
