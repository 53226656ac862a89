-- The seat of a session, its cluster node and that node's memory, by the fields of a world.
use Rattle.std.proofs.Common.{◌≡◌, ℕ, zero, suc, ◌-◌, ◌<◌, ◌≤◌, Bool, true, cond, Option, Some, List, [], ◌∷◌, length, map, is_some, refl, sym, ap, subst, ◌∙◌, arith}
use Rattle.std.proofs.Math.ListN.{get_or}
use Rattle.std.specs.Prelude.{reverse, slice_get, slice_index_or}
use Rattle.std.specs.Option.{unwrap_or}
use Rattle.std.proofs.lemmas.List.{length-map}
use Rattle.std.proofs.lemmas.Option.{slice_get-get_or, slice_get_within}
use Rattle.jr_rev.specs.Vectors.{no_entries}
use Rattle.oak_machine.specs.declared.event.Journal.{Journal}
use Rattle.oak_machine.specs.Asked.{AreAsked}
use Rattle.oak_machine.specs.Laws.{Asks, Says, Starts, StartsProper}
use Rattle.oak_machine.specs.Runs.{IsNode}
use Rattle.oak_machine.specs.Sessions.{is_attached}
use Rattle.oak_node.specs.Memory.{NodeState, begun}
use Rattle.oak_node.specs.Pins.{pin_of}
use Rattle.oak_store.specs.Tables.{Table}
use Rattle.core_world.specs.States.{actor_pin, memory_at, memory_of, reader_pin}
use Rattle.core_world.proofs.Lives.{its_node, on_node}
use Rattle.oak_world.specs.declared.actor.Actor.{Actor}
use Rattle.oak_world.specs.Kept.{IsAskedWorld, IsWorld}
use Rattle.jr_rev.specs.declared.vector.Pin.{Pin}
use Rattle.oak_port.specs.declared.task.Task.{Task}
use Rattle.oak_step.specs.declared.work.Work.{Work}
use Rattle.oak_step.specs.Works.{Begins, kind_due}
use Rattle.oak_world.specs.Worlds.{ActorState, WorldOf, actor_in, live, node_in, shown_actor, shown_world, state_of, with_formers, work_in}
use Rattle.oak_world.proofs.Calls.{actor_shown}

-- what is read at a place of a list
pub read_at : {X : Type 0} (xs : List X) (i : ℕ) (d x : X) → i < length xs → x ≡ get_or xs i d → slice_get xs i ≡ Some x
read_at xs i d x within is = slice_get-get_or xs i d within ∙ ap Some (sym is)

-- what is read at a number of a list that is there
pub index_there : (xs : List ℕ) (i : ℕ) → is_some (slice_get xs i) ≡ true → slice_get xs i ≡ Some (slice_index_or xs i 0)
index_there [] i h = cc
index_there (x ∷ xs) zero h = refl
index_there (x ∷ xs) (suc i) h = index_there xs i h

module _ (starts : Starts) (says : Says) (proper : StartsProper starts) {L : Type 0} (law : L) (j : Journal) (t : Table) (ms : List NodeState) (actors : List Actor) (is : IsWorld starts says (shown_world law j t ms actors))
    (s : ℕ) (there : is_some (slice_get j.sessions s) ≡ true) where
  abbrev w : WorldOf L
  w = shown_world law j t ms actors

  pub session_on : slice_get j.sessions s ≡ Some (node_in w.history s)
  session_on = on_node starts says proper (with_formers (state_of w) is.formers) is.kept.sessions s there

  pub session_within : s < length j.sessions
  session_within = slice_get_within j.sessions s (node_in w.history s) session_on

  pub actor_within : s < length actors
  actor_within = subst (λ (n : ℕ). s < n) (sym is.seats ∙ length-map actors shown_actor) session_within

  node : IsNode j.clusters (node_in w.history s)
  node = its_node starts says proper (with_formers (state_of w) is.formers) is.kept.sessions s there

  module _ (k : ℕ) (read : slice_get j.sessions s ≡ Some k) where
    pub node_is : node_in w.history s ≡ k
    node_is = ap (λ (o : Option ℕ). unwrap_or o 0) read

    pub node_low : 1 ≤ k
    node_low = subst (λ (n : ℕ). 1 ≤ n) node_is node.0

    pub memory_within : k - 1 < length ms
    memory_within =
        let low : 1 ≤ k = node_low in
        let high : k ≤ j.clusters = subst (λ (n : ℕ). n ≤ j.clusters) node_is node.1 in
        let counted : length ms ≡ j.clusters = is.kept.sessions.memories.counted in
        omega arith

    -- the memory of its node
    pub memory_is : (d m : NodeState) → m ≡ get_or ms (k - 1) d → memory_at ms k ≡ m
    memory_is d m at = ap (λ (o : Option NodeState). unwrap_or o (begun k no_entries)) (read_at ms (k - 1) d m memory_within at)

    pub memory_of_is : (d m : NodeState) → m ≡ get_or ms (k - 1) d → memory_of (state_of w) s ≡ m
    memory_of_is d m at = ap (memory_at ms) node_is ∙ memory_is d m at

-- ---- what is seen of the fields

-- what a world keeps, by what is seen of it
pub world_is : {L : Type 0} (starts : L → Starts) (says : L → Says) (v w : WorldOf L) → v ≡ w → IsWorld (starts v.law) (says v.law) v → IsWorld (starts w.law) (says w.law) w
world_is {L} starts says v w same is = subst (λ (x : WorldOf L). IsWorld (starts x.law) (says x.law) x) same is

-- and that its events were asked for
pub asked_by : {L : Type 0} (asks : L → Asks) (v w : WorldOf L) → v ≡ w → IsAskedWorld (asks v.law) v → AreAsked (asks w.law) (live w.history)
asked_by {L} asks v w same asked = subst (λ (x : WorldOf L). AreAsked (asks x.law) (live x.history)) same asked.made

pub there_by : {L : Type 0} (v w : WorldOf L) (s : ℕ) → v ≡ w → is_some (slice_get w.history.sessions s) ≡ true → is_some (slice_get v.history.sessions s) ≡ true
there_by {L} v w s same there = subst (λ (x : WorldOf L). is_some (slice_get x.history.sessions s) ≡ true) (sym same) there

-- what the session of a seat does
pub actor_there : (actors : List Actor) (s : ℕ) (d a : Actor) → s < length actors → a ≡ get_or actors s d → actor_in (map shown_actor actors) s ≡ shown_actor a
actor_there actors s d a within at = actor_shown actors s a (read_at actors s d a within at)

pub due_there : {L : Type 0} (law : L) (j : Journal) (t : Table) (ms : List NodeState) (actors : List Actor) (w : WorldOf L) → shown_world law j t ms actors ≡ w → (s : ℕ) (d a : Actor) → s < length actors → a ≡ get_or actors s d → kind_due a.work ≡ kind_due (work_in w.actors s)
due_there {L} law j t ms actors w same s d a within at = ap (λ (b : ActorState). kind_due b.work) (sym (actor_there actors s d a within at)) ∙ ap (λ (x : WorldOf L). kind_due (work_in x.actors s)) same

pub reads_there : {L : Type 0} (law : L) (j : Journal) (t : Table) (ms : List NodeState) (actors : List Actor) (w : WorldOf L) → shown_world law j t ms actors ≡ w → (s : ℕ) (d a : Actor) → s < length actors → a ≡ get_or actors s d → a.reads ≡ (actor_in w.actors s).reads
reads_there {L} law j t ms actors w same s d a within at = ap (λ (b : ActorState). b.reads) (sym (actor_there actors s d a within at)) ∙ ap (λ (x : WorldOf L). (actor_in x.actors s).reads) same

pub on_by : {L : Type 0} (v w : WorldOf L) (s k : ℕ) → v ≡ w → slice_get w.history.sessions s ≡ Some k → slice_get v.history.sessions s ≡ Some k
on_by {L} v w s k same on = subst (λ (x : WorldOf L). slice_get x.history.sessions s ≡ Some k) (sym same) on

-- what begins there begins in a world of as many cluster nodes
pub clusters_by : {L : Type 0} (v w : WorldOf L) → v ≡ w → (pin : Option Pin) (t : Task) (x : Work) → Begins v.history.clusters pin t x → Begins w.history.clusters pin t x
clusters_by {L} v w same pin t x begins = subst (λ (y : WorldOf L). Begins y.history.clusters pin t x) same begins

-- the pin of a session
module _ (starts : Starts) (says : Says) (proper : StartsProper starts) {L : Type 0} (law : L) (j : Journal) (t : Table) (ms : List NodeState) (actors : List Actor) (is : IsWorld starts says (shown_world law j t ms actors))
    (w : WorldOf L) (same : shown_world law j t ms actors ≡ w) (s k : ℕ) (on : slice_get w.history.sessions s ≡ Some k) where
  on_node_there : slice_get j.sessions s ≡ Some k
  on_node_there = on_by (shown_world law j t ms actors) w s k same on

  pub seat_there : s < length actors
  seat_there = actor_within starts says proper law j t ms actors is s (ap is_some on_node_there)

  pub memory_there : k - 1 < length ms
  memory_there = memory_within starts says proper law j t ms actors is s (ap is_some on_node_there) k on_node_there

  pub pin_is : (m : NodeState) → m ≡ get_or ms (k - 1) m → (a : Actor) → a ≡ get_or actors s a → cond a.attached (reader_pin t s) (pin_of m s) ≡ actor_pin (state_of w) s
  pin_is m at a seat =
      ap (λ (b : Bool). cond b (reader_pin t s) (pin_of m s)) (sym (ap (λ (b : ActorState). b.attached) (actor_there actors s a a seat_there seat)) ∙ is.attached s)
      ∙ (ap (λ (n : NodeState). cond (is_attached (reverse j.events.list) s) (reader_pin t s) (pin_of n s)) (sym (memory_of_is starts says proper law j t ms actors is s (ap is_some on_node_there) k on_node_there m m at))
      ∙ ap (λ (x : WorldOf L). actor_pin (state_of x) s) same)

  -- the memory of its node
  pub its_memory : (m : NodeState) → m ≡ get_or ms (k - 1) m → m ≡ memory_of (state_of w) s
  its_memory m at = sym (memory_of_is starts says proper law j t ms actors is s (ap is_some on_node_there) k on_node_there m m at) ∙ ap (λ (x : WorldOf L). memory_of (state_of x) s) same
