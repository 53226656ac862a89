-- A recovery in a run: all that the memory of a stopped node has in flight ends, and the node is recovered.
use Rattle.std.specs.Option.{option_map_or}
use Rattle.core_read.proofs.Latest.{same_revision}
use Rattle.std.proofs.Common.{◌≡◌, ℕ, zero, suc, ◌≤◌, Bool, true, false, cond, not, ◌&&◌, ◌||◌, inl, inr, Some, None, List, [], ◌∷◌, ◌++◌, filter, fold, length, reverse, is_some, refl, sym, ap, subst, ◌∙◌, arith}
use Rattle.std.specs.Prelude.{◌==◌, Contains}
use Rattle.std.specs.List.{list_any}
use Rattle.std.proofs.lemmas.Bool.{not-true}
use Rattle.std.proofs.lemmas.List.{append-nil}
use Rattle.std.proofs.lemmas.List.Elements.{filter-append}
use mathlib.Core.Bool.{false≢true}
use mathlib.Core.List.{reverse-cons}
use Rattle.jr_rev.specs.declared.revision.Revision.{Revision}
use Rattle.jr_rev.specs.Revisions.{is_before, is_same}
use Rattle.oak_machine.specs.declared.event.Event.TheVariants as event
use Rattle.oak_machine.specs.History.{Begin, Past}
use Rattle.oak_machine.specs.Commits.{draw_of, is_drawn, is_ended, is_in_flight}
use Rattle.oak_machine.specs.Heads.{draws_by, flying, is_flying, local}
use Rattle.oak_machine.specs.Laws.{Says, Starts}
use Rattle.oak_machine.specs.Runs.{AreNodes, IsNode, IsRunOf}
use Rattle.oak_machine.specs.Sessions.{is_recovered, is_stopped}
use Rattle.oak_node.specs.declared.drawn.Drawn.{Drawn}
use Rattle.oak_node.specs.Heads.{IsInFlight, finished, flying_in}
use Rattle.oak_node.specs.Memory.{NodeState, IsMemory, begins_in_flight}
use Rattle.oak_node.specs.Stops.{with_ends, with_recovery, with_stop}
use Rattle.oak_node.proofs.Recovering.{above_shorter, flying_rest, recovered_is, recovered_memory}
use Rattle.core_heads.specs.Sound.{IsIn}
use Rattle.core_heads.proofs.Locals.{draws_in, in_draws}
use Rattle.core_heads.proofs.Orders.{and_both, filter_in, not_both, same_itself, same_number}
use Rattle.core_heads.proofs.Runs.{sound_run}
use Rattle.core_nodes.specs.Nodes.{ArePinsOf, IsMemoryOf, after_ends, after_recovery, owner_base, revisions_above}
use Rattle.core_nodes.proofs.Events.{apart_run}
use Rattle.core_nodes.proofs.Lists.{flying_of_drawn, reverse_in}
use Rattle.core_nodes.proofs.Memories.{end_kept}
use Rattle.core_nodes.proofs.Pasts.{local_before, recovered_stopped}
use Rattle.core_nodes.proofs.Pins.{pins_kept}
use Rattle.core_nodes.proofs.Waits.{flying_is}

-- ---- lists

-- one filter behind another, where the two together are a third
filter_both : (f g h : Revision → Bool) (rs : List Revision) → ((q : Revision) → IsIn q rs → (f q && g q) ≡ h q) → filter g (filter f rs) ≡ filter h rs
filter_both f g h [] same = refl
filter_both f g h (r ∷ rs) same =
    head (f r)
    ∙ (ap (λ b. cond b (r ∷ filter g (filter f rs)) (filter g (filter f rs))) (same r (inl refl))
    ∙ ap (λ (qs : List Revision). cond (h r) (r ∷ qs) qs) (filter_both f g h rs (λ q i. same q (inr i))))
  where
    head : (a : Bool) → filter g (cond a (r ∷ filter f rs) (filter f rs)) ≡ cond (a && g r) (r ∷ filter g (filter f rs)) (filter g (filter f rs))
    head true = refl
    head false = refl

filter_reverse : (h : Revision → Bool) (rs : List Revision) → filter h (reverse rs) ≡ reverse (filter h rs)
filter_reverse h [] = refl
filter_reverse h (r ∷ rs) =
    ap (filter h) (reverse-cons r rs)
    ∙ (filter-append h (reverse rs) (r ∷ [])
    ∙ (ap (λ (qs : List Revision). qs ++ filter h (r ∷ [])) (filter_reverse h rs)
    ∙ last (h r)))
  where
    last : (b : Bool) → reverse (filter h rs) ++ cond b (r ∷ []) [] ≡ reverse (cond b (r ∷ filter h rs) (filter h rs))
    last true = sym (reverse-cons r (filter h rs))
    last false = append-nil (reverse (filter h rs))

-- of none of them it is true
none_any : (p : Revision → Bool) (rs : List Revision) → ((q : Revision) → IsIn q rs → p q ≡ true → ⊥) → list_any p rs ≡ false
none_any p [] h = refl
none_any p (r ∷ rs) h = by (p r) refl (none_any p rs (λ q i. h q (inr i)))
  where
    by : (b : Bool) → p r ≡ b → list_any p rs ≡ false → (b || list_any p rs) ≡ false
    by true e rest = absurd (h r (inl refl) e)
    by false e rest = rest

same_and : (a d e : Bool) → d ≡ true → ((d && e) ≡ true → a ≡ true) → (a && e) ≡ (d && e)
same_and true true e dr h = refl
same_and false true true dr h = absurd (false≢true (h refl))
same_and false true false dr h = refl
same_and a false e dr h = absurd (false≢true dr)

any_in : (p : Revision → Bool) (rs : List Revision) (q : Revision) → IsIn q rs → p q ≡ true → list_any p rs ≡ true
any_in p [] q i h = absurd i
any_in p (r ∷ rs) q (inl e) h = ap (λ b. b || list_any p rs) (ap p e ∙ h)
any_in p (r ∷ rs) q (inr i) h = by (p r) (any_in p rs q i h)
  where
    by : (b : Bool) → list_any p rs ≡ true → (b || list_any p rs) ≡ true
    by true k = refl
    by false k = k

-- ---- ends leave the rest of the past

pub ends_stopped : (rs : List Revision) (past : Past) (k : ℕ) → is_stopped (after_ends rs past) k ≡ is_stopped past k
ends_stopped [] past k = refl
ends_stopped (r ∷ rs) past k = ends_stopped rs (event.End r ∷ past) k

pub ends_recovered : (rs : List Revision) (past : Past) (k : ℕ) → is_recovered (after_ends rs past) k ≡ is_recovered past k
ends_recovered [] past k = refl
ends_recovered (r ∷ rs) past k = ends_recovered rs (event.End r ∷ past) k

-- ends leave pins
ends_pins : (sessions : List ℕ) (rs : List Revision) (past : Past) (k : ℕ) (s : NodeState) → ArePinsOf sessions past k s → ArePinsOf sessions (after_ends rs past) k s
ends_pins sessions [] past k s are = are
ends_pins sessions (r ∷ rs) past k s are = ends_pins sessions rs (event.End r ∷ past) k s (record { bases = are.bases; pairs = are.pairs })

-- a recovered node has no pin
pub recovered_pins : (sessions : List ℕ) (past : Past) (k : ℕ) (s : NodeState) → ArePinsOf sessions (after_recovery past k) k (with_recovery s)
recovered_pins sessions past k s = record {
  bases = λ owner. sym (ap (λ b. cond (b || is_recovered (after_ends (reverse (flying past k)) past) k) None (owner_base sessions (after_recovery past k) k owner)) (same_itself k));
  pairs = λ owner pin h. absurd (false≢true (ap is_some h));
}

-- the pins of the others stay
pub recovered_pins_apart : (sessions : List ℕ) (past : Past) (m k : ℕ) (s : NodeState) → (m == k) ≡ false → ArePinsOf sessions past k s → ArePinsOf sessions (after_recovery past m) k s
recovered_pins_apart sessions past m k s other are = pins_kept sessions (after_ends (reverse (flying past m)) past) k s (ends_pins sessions (reverse (flying past m)) past k s are) (event.Recover m) (ap (λ b. not b && true) other)

-- ---- memories

module _ (begin : Begin) where
  -- a stop is told in the memory
  pub stop_kept : (clusters : ℕ) (past : Past) (k : ℕ) (s : NodeState) → IsMemoryOf begin clusters past k s → IsMemoryOf begin clusters (event.Stop k ∷ past) k (with_stop s)
  stop_kept clusters past k s is = record {
    cluster = is.cluster;
    head = is.head;
    sweep = is.sweep;
    last = is.last;
    above = is.above;
    stopped = sym (ap (λ b. b || is_stopped past k) (same_itself k));
    recovered = is.recovered;
    memory = record {
      low = is.memory.low;
      high = is.memory.high;
      own = is.memory.own;
      own_node = is.memory.own_node;
      rising = is.memory.rising;
      flying = is.memory.flying;
      of_node = is.memory.of_node;
      times = is.memory.times;
      owners = is.memory.owners;
      kept = is.memory.kept;
      stop = λ r. refl;
    };
  }

  module _ (starts : Starts) (says : Says) (clusters : ℕ) (sessions : List ℕ) (nodes : AreNodes clusters sessions) where
    module _ (k : ℕ) (node : IsNode clusters k) where
      -- what a memory has in flight is what the past has, in the order in which it was drawn
      pub flying_all : (past : Past) (s : NodeState) → IsRunOf starts says clusters sessions begin past → IsMemoryOf begin clusters past k s → flying_in s.above ≡ reverse (flying past k)
      flying_all past s run is =
          ap flying_in is.above
          ∙ (flying_of_drawn past (revisions_above begin past k)
          ∙ (filter_both (is_before (local begin past k)) (λ q. not (is_ended past q)) (is_in_flight past) (reverse (draws_by past k)) same
          ∙ filter_reverse (is_in_flight past) (draws_by past k)))
        where
          same : (q : Revision) → IsIn q (reverse (draws_by past k)) → (is_before (local begin past k) q && not (is_ended past q)) ≡ is_in_flight past q
          same q i =
              let d = draws_in past k q (reverse_in (draws_by past k) q i) in
              same_and (is_before (local begin past k) q) (is_drawn past q) (not (is_ended past q)) d.0 (λ f. local_before begin clusters sessions nodes past (sound_run clusters sessions nodes begin starts says past run) k q f d.1)

      -- all of it ends, the first first
      ends_run : (n : ℕ) (past : Past) (s : NodeState) (ds : List Drawn) → s.above ≡ ds → length ds ≤ n → IsRunOf starts says clusters sessions begin past → IsMemoryOf begin clusters past k s
          → IsRunOf starts says clusters sessions begin (after_ends (flying_in ds) past) × IsMemoryOf begin clusters (after_ends (flying_in ds) past) k (fold finished s (flying_in ds))
      ends_run n past s [] above few run is = (run, is)
      ends_run zero past s (d ∷ ds) above few run is = absurd (omega arith)
      ends_run (suc n) past s (d ∷ ds) above few run is =
          let r : Revision = d.revision in
          let now : NodeState = finished s r in
          let sound = sound_run clusters sessions nodes begin starts says past run in
          let flies : d.ended ≡ false = not-true d.ended (subst (λ (xs : List Drawn). begins_in_flight xs ≡ true) above is.memory.flying) in
          let there : IsInFlight s r = subst (λ (xs : List Drawn). Contains xs (record { revision = r; ended = false })) (sym above) (0, omega arith, ap (λ (b : Bool). record { revision = r; ended = b }) flies) in
          let flight = (flying_is begin clusters sessions nodes past sound k node s is r).0 there in
          let few' : length now.above ≤ n = (let shorter = above_shorter s d ds above is.memory in omega arith) in
          let rest = ends_run n (event.End r ∷ past) now now.above refl few' (flight.1, run) (end_kept begin clusters sessions nodes past sound r k node s is) in
          subst (λ (rs : List Revision). IsRunOf starts says clusters sessions begin (after_ends rs past) × IsMemoryOf begin clusters (after_ends rs past) k (fold finished s rs)) (sym (flying_rest s d ds above is.memory)) rest

      module _ (past : Past) (s : NodeState) (run : IsRunOf starts says clusters sessions begin past) (stopped : is_stopped past k ≡ true) (is : IsMemoryOf begin clusters past k s) where
        abbrev ends : Past
        ends = after_ends (reverse (flying past k)) past

        abbrev ended : NodeState
        ended = with_ends s

        both : IsRunOf starts says clusters sessions begin ends × IsMemoryOf begin clusters ends k ended
        both = subst (λ (rs : List Revision). IsRunOf starts says clusters sessions begin (after_ends rs past) × IsMemoryOf begin clusters (after_ends rs past) k ended) (flying_all past s run is)
            (ends_run (length s.above) past s s.above refl (omega arith) run is)

        -- nothing of the node is in flight any more
        settled : is_flying ends k ≡ false
        settled = none_any (is_in_flight ends) (draws_by ends k) (λ q i flies.
            let d = draws_in ends k q i in
            let there = (flying_is begin clusters sessions nodes ends (sound_run clusters sessions nodes begin starts says ends both.0) k node ended both.1 q).1 (d.1, flies) in
            let within = subst (λ (xs : List Drawn). Contains xs (record { revision = q; ended = false })) (ap (λ (x : NodeState). x.above) (recovered_is s is.memory)) there in
            absurd (omega (arith, within.1)))

        memory : IsMemory (with_recovery s)
        memory = subst IsMemory (sym (recovered_is s is.memory)) (recovered_memory s _ _ [] [] is.memory (is.stopped ∙ stopped) refl refl refl refl)

        pub recovery_run : IsRunOf starts says clusters sessions begin (after_recovery past k) × IsMemoryOf begin clusters (after_recovery past k) k (with_recovery s)
        recovery_run = (
          ((ends_stopped (reverse (flying past k)) past k ∙ stopped, settled), both.0),
          record {
            cluster = both.1.cluster;
            head = both.1.head;
            sweep = both.1.sweep;
            last = both.1.last;
            above = both.1.above;
            stopped = both.1.stopped;
            recovered = sym (ap (λ b. b || is_recovered ends k) (same_itself k));
            memory = memory;
          },
        )

    -- ---- nothing more of a recovered node is in flight

    pub none_flies : (past : Past) → IsRunOf starts says clusters sessions begin past → (k : ℕ) → is_recovered past k ≡ true → (r : Revision) → r.cluster ≡ k → is_in_flight past r ≡ false
    none_flies [] run k h r same = refl
    none_flies (event.Recover m ∷ past) run k h r same = by (m == k) refl h (λ i. none_flies past run.1 k i r same)
      where
        rests : (m == k) ≡ true → (b : Bool) → is_in_flight past r ≡ b → b ≡ false
        rests e false f = refl
        rests e true f = not_both (is_flying past m) (any_in (is_in_flight past) (draws_by past m) r (in_draws past m r (and_both (is_drawn past r) _ f).0 (same ∙ sym (same_number m k e))) f) run.0.1

        by : (b : Bool) → (m == k) ≡ b → (b || is_recovered past k) ≡ true → (is_recovered past k ≡ true → is_in_flight past r ≡ false) → is_in_flight past r ≡ false
        by true e i rest = rests e (is_in_flight past r) refl
        by false e i rest = rest i
    none_flies (event.Draw d ∷ past) run k h r same = by (is_same r d.revision) refl (none_flies past run.1 k h r same)
      where
        goes : is_stopped past d.revision.cluster ≡ false
        goes = sym (ap (λ o. option_map_or (is_stopped past) o false) run.0.cluster) ∙ run.0.running

        by : (b : Bool) → is_same r d.revision ≡ b → is_in_flight past r ≡ false → (is_some (cond b (Some d) (draw_of past r)) && not (is_ended past r)) ≡ false
        by true e rest = not_both (is_stopped past k) (recovered_stopped begin starts says clusters sessions past run.1 k h) (ap (is_stopped past) (sym same ∙ ap (λ (x : Revision). x.cluster) (same_revision r d.revision e)) ∙ goes)
        by false e rest = rest
    none_flies (event.End q ∷ past) run k h r same = less (is_drawn past r) (is_same r q) (is_ended past r) (none_flies past run.1 k h r same)
      where
        less : (a b c : Bool) → (a && not c) ≡ false → (a && not (b || c)) ≡ false
        less true true c i = refl
        less true false c i = i
        less false b c i = refl
    none_flies (e ∷ past) run k h r same = none_flies past run.1 k h r same

    -- the node of a revision in flight wasn't recovered
    pub flier_alive : (past : Past) → IsRunOf starts says clusters sessions begin past → (r : Revision) → is_in_flight past r ≡ true → is_recovered past r.cluster ≡ false
    flier_alive past run r flies = by (is_recovered past r.cluster) refl
      where
        by : (b : Bool) → is_recovered past r.cluster ≡ b → b ≡ false
        by true h = not_both (is_in_flight past r) flies (none_flies past run r.cluster h r refl)
        by false h = refl

    -- ---- the others

    pub ends_before : (rs : List Revision) (past : Past) → IsRunOf starts says clusters sessions begin (after_ends rs past) → IsRunOf starts says clusters sessions begin past
    ends_before [] past run = run
    ends_before (r ∷ rs) past run = (ends_before rs (event.End r ∷ past) run).1

    ends_apart : (m k : ℕ) → (m == k) ≡ false → (rs : List Revision) → ((q : Revision) → IsIn q rs → q.cluster ≡ m) → (past : Past) (s : NodeState) → IsRunOf starts says clusters sessions begin (after_ends rs past) → IsMemoryOf begin clusters past k s → IsMemoryOf begin clusters (after_ends rs past) k s
    ends_apart m k other [] of past s run is = is
    ends_apart m k other (r ∷ rs) of past s run is = ends_apart m k other rs (λ q i. of q (inr i)) (event.End r ∷ past) s run
        (apart_run begin starts says clusters sessions nodes (event.End r) past k s (ends_before rs (event.End r ∷ past) run) (ap (λ j. not (j == k)) (of r (inl refl)) ∙ ap not other) is)

    -- the memory of another node stays
    pub recovery_apart : (past : Past) (m k : ℕ) (s : NodeState) → IsRunOf starts says clusters sessions begin (after_recovery past m) → (m == k) ≡ false → IsMemoryOf begin clusters past k s → IsMemoryOf begin clusters (after_recovery past m) k s
    recovery_apart past m k s run other is =
        apart_run begin starts says clusters sessions nodes (event.Recover m) (after_ends (reverse (flying past m)) past) k s run (ap not other)
        (ends_apart m k other (reverse (flying past m)) of past s run.1 is)
      where
        of : (q : Revision) → IsIn q (reverse (flying past m)) → q.cluster ≡ m
        of q i = (draws_in past m q (filter_in (is_in_flight past) (draws_by past m) q (reverse_in (flying past m) q i)).0).1
