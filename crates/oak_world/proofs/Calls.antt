-- What a world keeps, by its fields, after the calls of one of its sessions.
use Rattle.std.proofs.Common.{◌≡◌, inl, inr, ℕ, zero, suc, ◌+◌, ◌^◌, ◌<◌, ◌≤◌, Bool, true, false, cond, Option, Some, None, List, [], ◌∷◌, ◌++◌, length, map, is_some, refl, sym, ap, subst, ◌∙◌, arith}
use Rattle.std.specs.Prelude.{reverse, slice_get, slice_set}
use Rattle.std.specs.Option.{option_map, unwrap_or}
use Rattle.std.specs.Borrow.{GName}
use Rattle.std.proofs.lemmas.List.{length-reverse, reverse-append, reverse-reverse}
use Rattle.std.proofs.lemmas.Option.{get_or_from_slice_get, slice_get-map, slice_get_within}
use Rattle.oak_commit.specs.Clashing.{Met}
use Rattle.oak_commit.specs.Committing.{Committing}
use Rattle.oak_commit.specs.declared.look.Look.{Look}
use Rattle.jr_path.specs.Lists.{Text}
use Rattle.jr_rev.specs.declared.revision.Revision.{Revision}
use Rattle.jr_rev.specs.Vectors.{no_entries, raised}
use Rattle.oak_machine.specs.declared.event.Event.{Event}
use Rattle.oak_machine.specs.declared.event.Journal.{Journal}
use Rattle.oak_machine.specs.Recorded.{Recorded}
use Rattle.oak_machine.specs.History.{Past}
use Rattle.oak_machine.specs.Laws.{Says, Starts, StartsProper, StartsWrite}
use Rattle.oak_machine.specs.Runs.{IsNode, StartsLast}
use Rattle.oak_node.specs.Heads.{learned}
use Rattle.oak_node.specs.Memory.{NodeState}
use Rattle.oak_read.specs.Reading.{IsTable}
use Rattle.oak_store.specs.Tables.{Table}
use Rattle.core_clash.specs.Core.{root_of}
use Rattle.core_world.specs.States.{memory_at, with_memory}
use Rattle.core_world.specs.Steps.{swept_to}
use Rattle.core_world.proofs.Lives.{its_node}
use Rattle.oak_port.specs.declared.task.StepOut.{StepOut}
use Rattle.oak_port.specs.Ports.{Steps as StepSeen}
use Rattle.oak_world.specs.declared.actor.Actor.{Actor}
use Rattle.oak_step.specs.declared.work.Work.{Work}
use Rattle.oak_step.specs.declared.work.Work.TheVariants as work
use Rattle.oak_tidy.specs.Replies.{all_parts}
use Rattle.oak_tidy.specs.Tidyings.{CanTidy}
use Rattle.oak_world.specs.Acting.{Acts, ActsOnAll, ActsOnOne, CanAct, is_tidying}
use Rattle.oak_world.specs.Kept.{ArePlaced, IsPlaced, IsWorld, May, Scene, scene}
use Rattle.oak_world.specs.Looks.{IsLooking}
use Rattle.oak_step.specs.Parts.{CanStep, Steps, needed}
use Rattle.oak_saves.specs.Saves.{Parts, parts}
use Rattle.oak_world.specs.Steps.{MakesState, StepsIn, attached_after, reads_after}
use Rattle.oak_world.specs.Seen.{shown_at}
use Rattle.oak_world.specs.Worlds.{ActorState, IsAtRest, WorldOf, actor_in, idle, live, node_in, once_looked, parts_at, reply_events, said_in, shown_actor, shown_world, state_of, with_formers, with_parts, with_reply, with_work, work_in}
use Rattle.oak_world.proofs.Keeping.{can_by, node, seat, step_keeps, step_seen, tidied_looks}
use Rattle.oak_world.proofs.Looking.{SamePrevious, running_same}
use Rattle.oak_world.proofs.Placing.{own_places, placed_set}
use Rattle.oak_world.proofs.States.{LeavesLooks, memory_same}
use Rattle.oak_world.proofs.Stepping.{makes, tidies_make}
use Rattle.oak_world.proofs.Sweepers.{learns_alone}

-- a session's seat is set, and so is what is seen of it
pub map_set : {X Y : Type 0} (f : X → Y) (xs : List X) (s : ℕ) (a : X) → map f (slice_set xs s a) ≡ slice_set (map f xs) s (f a)
map_set f [] s a = refl
map_set f (x ∷ xs) zero a = refl
map_set f (x ∷ xs) (suc s) a = ap (λ ys. f x ∷ ys) (map_set f xs s a)

set_same : {X : Type 0} (xs : List X) (s : ℕ) (x : X) → slice_get xs s ≡ Some x → slice_set xs s x ≡ xs
set_same [] s x h = refl
set_same (y ∷ ys) zero x h = let same : x ≡ y = cc in ap (λ z. z ∷ ys) same
set_same (y ∷ ys) (suc s) x h = ap (λ zs. y ∷ zs) (set_same ys s x h)

pub actor_shown : (actors : List Actor) (s : ℕ) (a : Actor) → slice_get actors s ≡ Some a → actor_in (map shown_actor actors) s ≡ shown_actor a
actor_shown actors s a here = ap (λ (o : Option ActorState). unwrap_or o idle) (slice_get-map shown_actor actors s ∙ ap (option_map shown_actor) here)

module _ (starts : Starts) (says : Says) (proper : StartsProper starts) (writes : StartsWrite starts) (last : StartsLast starts says) {L : Type 0} (law : L) (j : Journal) (t : Table) (ms : List NodeState) (actors : List Actor) (is : IsWorld starts says (shown_world law j t ms actors)) (placed : ArePlaced actors j.events.places)
    (s k : ℕ) (on : slice_get j.sessions s ≡ Some k) (a : Actor) (here : slice_get actors s ≡ Some a) where
  abbrev w : WorldOf L
  w = shown_world law j t ms actors

  there : is_some (slice_get j.sessions s) ≡ true
  there = ap is_some on

  within : s < length actors
  within = slice_get_within actors s a here

  seated : s < length w.actors
  seated = seat starts says proper writes last w is s there

  node_is : node_in w.history s ≡ k
  node_is = ap (λ o. unwrap_or o 0) on

  actor_is : actor_in w.actors s ≡ shown_actor a
  actor_is = actor_shown actors s a here

  work_is : work_in w.actors s ≡ a.work
  work_is = ap (λ (b : ActorState). b.work) actor_is

  -- its places are among those of the journal
  pub own_are : a.places ≤ j.events.places
  own_are = subst (λ (b : Actor). b.places ≤ j.events.places) (get_or_from_slice_get actors s a a here) (own_places actors j.events.places s a within placed)

  pub its_placed : IsPlaced a
  its_placed = placed.each s a here

  -- the places, where it keeps more or fewer
  pub set_placed : (b : Actor) (places : ℕ) → IsPlaced b → places + a.places ≡ j.events.places + b.places → ArePlaced (slice_set actors s b) places
  set_placed b places its same = placed_set actors j.events.places places s b a within placed its (ap (λ (x : Actor). places + x.places) (get_or_from_slice_get actors s a a here) ∙ same)

  counted : length ms ≡ j.clusters
  counted = is.kept.sessions.memories.counted

  abbrev seen : Scene
  seen = scene w.table is.formers (live w.history)

  -- what its step takes
  pub can : (IsAtRest (work_in w.actors s) → ⊥) → length j.events.list < 2 ^ 63 → CanAct s k ms j.events.places a.work
  can busy short = subst (λ (v : Work). CanAct s k ms j.events.places v) work_is (by (work_in w.actors s) refl busy (is.may s) need)
    where
      need : needed (work_in w.actors s) ≤ j.events.places
      need =
          let n : needed a.work + cond (is_some a.reply) 1 0 ≤ a.places = its_placed in
          let o = own_are in
          let low : needed a.work ≤ j.events.places = omega (arith, n, o) in
          subst (λ (v : Work). needed v ≤ j.events.places) (sym work_is) low

      few : length w.history.past < 2 ^ 63
      few = let l : length (reverse j.events.list) ≡ length j.events.list = length-reverse j.events.list in subst (λ (n : ℕ). n < 2 ^ 63) (sym l) short

      on_node_here : IsNode (length ms) k
      on_node_here = subst (λ (n : ℕ). IsNode n k) (sym counted) (subst (λ (n : ℕ). IsNode j.clusters n) node_is (node starts says proper writes last w is s there))

      -- on the memory of its cluster node alone
      alone : (v : Work) → is_tidying v ≡ false → work_in w.actors s ≡ v → (IsAtRest v → ⊥) → May starts seen s v → needed v ≤ j.events.places → CanAct s k ms j.events.places v
      alone v plain at busy may low = inr (
        on_node_here,
        subst (λ (n : ℕ). CanStep s (memory_at ms n) j.events.places v) node_is (can_by starts says proper writes last w is s there v busy plain at may j.events.places low few),
      )

      by : (v : Work) → work_in w.actors s ≡ v → (IsAtRest v → ⊥) → May starts seen s v → needed v ≤ j.events.places → CanAct s k ms j.events.places v
      by (work.Tidy x) at busy may low = inl (x, refl, subst (λ (n : ℕ). CanTidy n x) (sym counted) may.1)
      by (work.Told e) at busy may low = absurd (busy tt)
      by work.Rest at busy may low = absurd (busy tt)
      by work.Login at busy may low = alone work.Login refl at busy may low
      by work.End at busy may low = alone work.End refl at busy may low
      by work.Refresh at busy may low = alone work.Refresh refl at busy may low
      by (work.Read r) at busy may low = alone (work.Read r) refl at busy may low
      by (work.Changes r) at busy may low = alone (work.Changes r) refl at busy may low
      by (work.Plan edit marks) at busy may low = alone (work.Plan edit marks) refl at busy may low
      by (work.Commit c) at busy may low = alone (work.Commit c) refl at busy may low
      by (work.Move r) at busy may low = alone (work.Move r) refl at busy may low
      by (work.Upkeep u) at busy may low = alone (work.Upkeep u) refl at busy may low

  -- its step
  module _ (u : Table) (ns : List NodeState) (es : Recorded) (b : Actor) (o : StepOut) where
    abbrev now : WorldOf L
    now = shown_world law (record j { events = es }) u ns (slice_set actors s b)

    -- the world with these parts of the session
    same_world : (n : NodeState) → ns ≡ with_memory ms k n → with_parts w s (parts u n es.list) (shown_actor b) ≡ now
    same_world n is =
        ap (λ (i : ℕ). record (with_parts w s (parts u n es.list) (shown_actor b)) { memories = with_memory ms i n }) node_is
        ∙ (ap (λ (xs : List NodeState). record (with_parts w s (parts u n es.list) (shown_actor b)) { memories = xs }) (sym is)
        ∙ ap (λ (xs : List ActorState). record now { actors = xs }) (sym (map_set shown_actor actors s b)))

    looks : (q : ℕ) (c : Committing) → work_in w.actors q ≡ work.Commit c → (k : Look) → c.looking ≡ Some k → IsLooking c k
    looks q c does k h = ((subst (λ (v : Work). May starts seen q v) does (is.may q)).looks k h).form

    roots : (c : Committing) → work_in w.actors s ≡ work.Commit c → ((once_looked w.table c).roots ≡ map (λ (f : Met). root_of w.history.past f.other) (once_looked w.table c).writer.due) × ((k : Look) → c.looking ≡ Some k → IsLooking c k)
    roots c does = ((subst (λ (v : Work). May starts seen s v) does (is.may s)).roots, looks s c does)

    leaves : (x : Table) → SamePrevious w.table x → LeavesLooks w s seated x
    leaves x same q = running_same w.table x same q (work_in w.actors q) (looks q)

    alone : (r : Revision) → learned (memory_at w.memories (node_in w.history s)) no_entries (raised no_entries r) ≡ swept_to (memory_at w.memories (node_in w.history s)) r
    alone = learns_alone starts says (with_formers (state_of w) is.formers) is.kept (node_in w.history s) (its_node starts says proper (with_formers (state_of w) is.formers) is.kept.sessions s (ap is_some on))

    module _ (made : Acts s k (all_parts t ms j.events.list) a.work (all_parts u ns es.list) b.work o) where
      abbrev Makes : WorldOf L → Type 0
      Makes x = MakesState s (state_of w) (work_in w.actors s) (state_of x) b.work o

      -- on the memory of its cluster node alone
      one_makes : ActsOnOne s k (all_parts t ms j.events.list) a.work (all_parts u ns es.list) b.work o → Makes now
      one_makes m = subst Makes (same_world m.0 m.1) (makes w s seated (parts u m.0 es.list) b.work (shown_actor b) refl leaves alone (work_in w.actors s) refl roots o there_made)
        where
          parts_are : parts_at w s ≡ parts t (memory_at ms k) j.events.list
          parts_are = ap (λ (i : ℕ). parts t (memory_at ms i) (reverse (reverse j.events.list))) node_is ∙ ap (λ (xs : List Event). parts t (memory_at ms k) xs) (reverse-reverse j.events.list)

          there_made : Steps s (node_in w.history s) (parts_at w s) (work_in w.actors s) (parts u m.0 es.list) b.work o
          there_made =
              subst (λ (i : ℕ). Steps s i (parts_at w s) (work_in w.actors s) (parts u m.0 es.list) b.work o) (sym node_is)
              (subst (λ (p : Parts). Steps s k p (work_in w.actors s) (parts u m.0 es.list) b.work o) (sym parts_are)
              (subst (λ (v : Work). Steps s k (parts t (memory_at ms k) j.events.list) v (parts u m.0 es.list) b.work o) (sym work_is) m.2))

      -- over all memories, which stay
      all_makes : ActsOnAll s (all_parts t ms j.events.list) a.work (all_parts u ns es.list) b.work o → Makes now
      all_makes m =
          subst Makes (same_world (memory_at ms k) (m.4 ∙ sym (memory_same ms k)))
          (subst (λ (v : Work). MakesState s (state_of w) v (state_of (with_parts w s (parts u (memory_at ms k) es.list) (shown_actor b))) b.work o) (sym at)
          (tidies_make w s seated (parts u (memory_at ms k) es.list) b.work (shown_actor b) refl m.0 at (ap (memory_at ms) (sym node_is)) (tidied_looks starts says proper writes last w is s there m.0 at) m.2 m.3 j.events.list (sym (reverse-reverse j.events.list)) ns m.4 o m.5))
        where
          at : work_in w.actors s ≡ work.Tidy m.0
          at = work_is ∙ m.1

      makes_now : Makes now
      makes_now = elim made [ inl m ↦ all_makes m | inr m ↦ one_makes m ]

      pub steps_in : b.began ≡ a.began → b.reply ≡ a.reply → b.reads ≡ reads_after a.work o a.reads → b.attached ≡ attached_after a.work o a.attached → StepsIn w s now o
      steps_in began reply reads attached = record {
        does = b.work;
        makes = makes_now;
        actors = map_set shown_actor actors s b ∙ ap (slice_set (map shown_actor actors) s) shown;
        law = refl;
      }
        where
          shown : shown_actor b ≡ record (actor_in w.actors s) { work = b.work; reads = reads_after (work_in w.actors s) o (actor_in w.actors s).reads; attached = attached_after (work_in w.actors s) o (actor_in w.actors s).attached }
          shown =
              ap (λ (x : ℕ). record (shown_actor b) { began = x }) began
              ∙ (ap (λ (x : Option ℕ). record (shown_actor b) { began = a.began; reply = x }) reply
              ∙ (ap (λ (x : ℕ). record (shown_actor b) { began = a.began; reply = a.reply; reads = x }) reads
              ∙ (ap (λ (x : Bool). record (shown_actor b) { began = a.began; reply = a.reply; reads = reads_after a.work o a.reads; attached = x }) attached
              ∙ sym (ap (λ (x : ActorState). record x { work = b.work; reads = reads_after x.work o x.reads; attached = attached_after x.work o x.attached }) actor_is))))

      pub step_keeps_all : b.began ≡ a.began → b.reply ≡ a.reply → b.reads ≡ reads_after a.work o a.reads → b.attached ≡ attached_after a.work o a.attached → IsTable u.documents → IsPlaced b → es.places + a.places ≡ j.events.places + b.places → IsWorld starts says now × ArePlaced (slice_set actors s b) es.places
      step_keeps_all began reply reads attached table its places = (step_keeps starts says proper writes last w is s there now o (steps_in began reply reads attached) table, set_placed b es.places its places)

      pub seen_so : b.began ≡ a.began → b.reply ≡ a.reply → b.reads ≡ reads_after a.work o a.reads → b.attached ≡ attached_after a.work o a.attached → (name : GName) → StepSeen starts says (shown_at name w s) (shown_at name now s) o
      seen_so began reply reads attached name = step_seen starts says proper writes last w is s there now o (steps_in began reply reads attached) name

  -- ---- other calls

  module _ (b : Actor) (es : Recorded) where
    abbrev seated_now : WorldOf L
    seated_now = shown_world law (record j { events = es }) t ms (slice_set actors s b)

    -- what is seen of the seats
    seats_are : (x : ActorState) → shown_actor b ≡ x → map shown_actor (slice_set actors s b) ≡ slice_set (map shown_actor actors) s x
    seats_are x shown = map_set shown_actor actors s b ∙ ap (slice_set (map shown_actor actors) s) shown

    -- the session begins a task
    pub begun_is : (v : Work) → shown_actor b ≡ record (shown_actor a) { work = v; began = length j.events.list } → es.list ≡ j.events.list → seated_now ≡ with_work w s v
    begun_is v shown list =
        ap (λ (xs : List Event). record seated_now { history = record w.history { past = reverse xs } }) list
        ∙ ap (λ (xs : List ActorState). record w { actors = xs }) (seats_are _ (shown ∙ (ap (λ (n : ℕ). record (shown_actor a) { work = v; began = n }) (sym (length-reverse j.events.list)) ∙ sym (ap (λ (x : ActorState). record x { work = v; began = length (reverse j.events.list) }) actor_is))))

    -- room for a reply is kept, or none is
    pub replied_is : (room : Option ℕ) → shown_actor b ≡ record (shown_actor a) { reply = room } → es.list ≡ j.events.list → seated_now ≡ with_reply w s room
    replied_is room shown list =
        ap (λ (xs : List Event). record seated_now { history = record w.history { past = reverse xs } }) list
        ∙ ap (λ (xs : List ActorState). record w { actors = xs }) (seats_are _ (shown ∙ sym (ap (λ (x : ActorState). record x { reply = room }) actor_is)))

    -- its reply is said, and before it how its task ended
    pub said_is : (i : ℕ) (text : Text) → shown_actor b ≡ record (shown_actor a) { work = work.Rest; reply = None } → es.list ≡ j.events.list ++ reverse (reply_events s i text a.work) → seated_now ≡ said_in w s i text
    said_is i text shown list =
        ap (λ (past : Past). record seated_now { history = record w.history { past = past } }) told
        ∙ ap (λ (xs : List ActorState). record (said_in w s i text) { actors = xs }) (seats_are _ (shown ∙ sym (ap (λ (x : ActorState). record x { work = work.Rest; reply = None }) actor_is)))
      where
        told : reverse es.list ≡ reply_events s i text (work_in w.actors s) ++ reverse j.events.list
        told =
            ap reverse list
            ∙ (reverse-append j.events.list (reverse (reply_events s i text a.work))
            ∙ (ap (λ (own : Past). own ++ reverse j.events.list) (reverse-reverse (reply_events s i text a.work))
            ∙ ap (λ (v : Work). reply_events s i text v ++ reverse j.events.list) (sym work_is)))

    -- nothing changes
    pub same_is : shown_actor b ≡ shown_actor a → es.list ≡ j.events.list → seated_now ≡ w
    same_is shown list =
        ap (λ (xs : List Event). record seated_now { history = record w.history { past = reverse xs } }) list
        ∙ ap (λ (xs : List ActorState). record w { actors = xs }) (seats_are (shown_actor a) shown ∙ set_same (map shown_actor actors) s (shown_actor a) (slice_get-map shown_actor actors s ∙ ap (option_map shown_actor) here))
