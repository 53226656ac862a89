-- What a session is shown of a world through a pass of it, and how many steps are left of its task.
use mathlib.Core.Bool.{false≢true}
use Rattle.std.specs.Prelude.{◌≡◌, ℕ, List, [], reverse, is_some, true, Option, None, Some}
use Rattle.std.specs.Borrow.{GName}
use Rattle.std.specs.Option.{option_map_or}
use Rattle.oak_machine.specs.History.{History}
use Rattle.core_world.specs.Start.{start_table}
use Rattle.core_world.specs.States.{State, memory_of}
use Rattle.oak_port.specs.Ports.{Shown}
use Rattle.oak_world.specs.Left.{steps_left}
use Rattle.oak_world.specs.Seen.{shown_work}
use Rattle.oak_step.specs.Works.{kind_due}
use Rattle.jr_shared.specs.Holds.{PassKnown, actor_by}

-- what is there
abbrev pub the : {A : Type 0} (o : Option A) → is_some o ≡ true → A
the None there = absurd (false≢true there)
the (Some x) there = x

module _ {L : Type 0} where
  -- the law of the worlds of a pass that has their frame
  abbrev pub law_by : (v : PassKnown L) → is_some v.frame ≡ true → L
  law_by v framed = (the v.frame framed).law

  -- how many cluster nodes the worlds of the pass have
  abbrev pub clusters_by : PassKnown L → ℕ
  clusters_by v = option_map_or (λ f. f.clusters) v.frame 0

  -- the cluster node of each session of these worlds
  abbrev pub sessions_by : PassKnown L → List ℕ
  sessions_by v = option_map_or (λ f. f.sessions) v.frame []

  -- the history that the pass has seen
  abbrev pub history_by : PassKnown L → History
  history_by v = record {
    clusters = clusters_by v;
    sessions = sessions_by v;
    begin = None;
    past = reverse v.seen;
  }

  -- what session s is shown through a pass to which a reference of this name leads; others may step
  -- the world
  abbrev pub shown_through : GName → PassKnown L → ℕ → Shown
  shown_through name v s = record {
    history = history_by v;
    session = s;
    work = shown_work (actor_by v s).work;
    room = (actor_by v s).reply;
    due = kind_due (actor_by v s).work;
    beside = record { name = name; seats = None };
  }

  -- the state of the world as the pass last saw it, if no event was added since; but for what the
  -- other sessions do
  abbrev pub state_by : PassKnown L → State
  state_by v = record {
    clusters = clusters_by v;
    sessions = sessions_by v;
    begin = None;
    past = reverse v.seen;
    table = option_map_or (λ w. w.table) v.steady (start_table 0 0);
    memories = option_map_or (λ w. w.memories) v.steady [];
    running = λ q. None;
    reading = λ q. None;
    observing = λ q. None;
    formers = λ p k. None;
  }

  -- how many steps of session s are left of its task, if no other event is added
  abbrev pub left_by : PassKnown L → ℕ → ℕ
  left_by v s = steps_left s (state_by v).table (memory_of (state_by v) s) (actor_by v s).work
