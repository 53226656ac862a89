-- The sessions of a script before any turn.
use Rattle.std.proofs.Common.{◌≡◌, ◌⊎◌, inl, inr, ℕ, zero, suc, ◌+◌, ◌≤◌, length, map, Some, None, Option, List, [], ◌∷◌, ◌++◌, refl, sym, ap, ◌∙◌, subst, arith, length-append}
use Rattle.std.specs.Prelude.{slice_get}
use Rattle.std.specs.Option.{option_map_or}
use Rattle.std.specs.List.{All}
use Rattle.std.proofs.lemmas.List.{append-nil, append_assoc, length-map, nil_from_length}
use mathlib.Core.Bool.{false≢true}
use Rattle.oak_machine.specs.Runs.{AreNodes}
use Rattle.oak_port.specs.Ports.{Idle}
use Rattle.oak_world.specs.Seen.{shown_at, shown_work}
use Rattle.oak_world.specs.Worlds.{WorldOf, idle, live, start_world, work_in}
use Rattle.jr_tree.specs.Trees.{initial_tree}
use Rattle.jr_types.specs.Rules.{TypesOk}
use Rattle.jr_types.specs.declared.TypeDef.{TypeDef}
use Rattle.jcr_law.specs.declared.law.JcrLaw.{JcrLaw}
use Rattle.core_obeys.specs.Seeing.{SeesTrees, SeesTyped}
use Rattle.jcr_run.proofs.Staying.{new_stands}
use Rattle.jr_script.specs.Bounds.{IsWithin}
use Rattle.jr_script.specs.declared.script.Script.{Script}
use Rattle.jcr_trans.specs.declared.command.SessionScript.{SessionScript}
use Rattle.jr_stage.specs.declared.flight.Flight.{Flight}
use Rattle.jr_stage.specs.declared.stage.Seat.{Seat}
use Rattle.jr_stage.specs.declared.stage.Stage.{Stage}
use Rattle.jr_stage.specs.Flights.{IsFlight}
use Rattle.jr_stage.specs.Places.{history_at}
use Rattle.jr_stage.specs.Seats.{AreNew, IsNewSeat}
use Rattle.jr_stage.specs.Stages.{IsFirstStage, IsSeated, law_of}
use Rattle.jr_stage.proofs.Flying.{none_is_some, some_is_some}
use Rattle.jr_stage.proofs.Turning.{commands_at}
use Rattle.jr_stage.proofs.Within.{session_within, within_nodes}

-- ---- one session more

-- what stands in a list with one item more is of the list, or is that item
pub pushed : {X : Type 0} (xs : List X) (x y : X) (k : ℕ) → slice_get (xs ++ x ∷ []) k ≡ Some y → (slice_get xs k ≡ Some y) ⊎ ((k ≡ length xs) × (x ≡ y))
pushed [] x y zero h = inr (refl, some_is_some x y h)
pushed [] x y (suc k) h = none_is_some y h
pushed (e ∷ xs) x y zero h = inl h
pushed (e ∷ xs) x y (suc k) h = by (pushed xs x y k h)
  where
    by : (slice_get xs k ≡ Some y) ⊎ ((k ≡ length xs) × (x ≡ y)) → (slice_get (e ∷ xs) (suc k) ≡ Some y) ⊎ ((suc k ≡ length (e ∷ xs)) × (x ≡ y))
    by (inl h) = inl h
    by (inr (p, q)) = inr (ap suc p, q)

-- the list of what was yielded and what is left goes on, an item further
pub goes_over : {X : Type 0} (xs ys rest all : List X) (x : X) → xs ++ rest ≡ all → rest ≡ x ∷ ys → (xs ++ x ∷ []) ++ ys ≡ all
goes_over {X = X} xs ys rest all x whole left = append_assoc xs (x ∷ []) ys ∙ (ap (λ (l : List X). xs ++ l) (sym left) ∙ whole)

-- what comes next stands behind what was yielded
pub comes_next : {X : Type 0} (xs ys rest all : List X) (x : X) → xs ++ rest ≡ all → rest ≡ x ∷ ys → slice_get all (length xs) ≡ Some x
comes_next {X = X} xs ys rest all x whole left = ap (λ (l : List X). slice_get l (length xs)) (sym (ap (λ (l : List X). xs ++ l) (sym left) ∙ whole)) ∙ at xs
  where
    at : (xs : List X) → slice_get (xs ++ x ∷ ys) (length xs) ≡ Some x
    at [] = refl
    at (e ∷ xs) = at xs

-- all was yielded where nothing is left
pub all_yielded : {X : Type 0} (xs rest all : List X) → xs ++ rest ≡ all → length rest ≡ 0 → xs ≡ all
all_yielded {X = X} xs rest all whole none = sym (append-nil xs) ∙ (ap (λ (l : List X). xs ++ l) (sym (nil_from_length rest none)) ∙ whole)

pub none_new : (types : List TypeDef) (sessions : List SessionScript) → AreNew types sessions 0 []
none_new types sessions = record { many = refl; each = λ k session seat at there. none_is_some seat there }

one_more_new : (types : List TypeDef) (sessions : List SessionScript) (n : ℕ) (seats : List Seat) (x : SessionScript) (seat : Seat) → slice_get sessions n ≡ Some x → AreNew types sessions n seats → IsNewSeat types n x seat → AreNew types sessions (n + 1) (seats ++ seat ∷ [])
one_more_new types sessions n seats x seat there are new = record {
  many = let h = length-append seats (seat ∷ []) in let m = are.many in omega arith;
  each = λ k session other at other_at. by k session other at (pushed seats seat other k other_at);
}
  where
    by : (k : ℕ) (session : SessionScript) (other : Seat) → slice_get sessions k ≡ Some session → (slice_get seats k ≡ Some other) ⊎ ((k ≡ length seats) × (seat ≡ other)) → IsNewSeat types k session other
    by k session other at (inl h) = are.each k session other at h
    by k session other at (inr (p, q)) =
        let same : k ≡ n = p ∙ are.many in
        let it : x ≡ session = some_is_some x session (sym there ∙ (ap (slice_get sessions) (sym same) ∙ at)) in
        subst (λ (i : ℕ). IsNewSeat types i session other) (sym same) (subst (λ (y : SessionScript). IsNewSeat types n y other) it (subst (λ (z : Seat). IsNewSeat types n x z) q new))

-- the same, where the new seat was pushed
pub seats_more : (types : List TypeDef) (sessions yielded : List SessionScript) (seats next : List Seat) (x : SessionScript) (seat : Seat) (number : ℕ) → slice_get sessions (length yielded) ≡ Some x → AreNew types sessions (length yielded) seats → number ≡ length seats → IsNewSeat types number x seat → next ≡ seats ++ seat ∷ [] → AreNew types sessions (length (yielded ++ x ∷ [])) next
seats_more types sessions yielded seats next x seat number there are number_is new is =
    subst (λ (n : ℕ). AreNew types sessions n next) (sym (length-append yielded (x ∷ [])))
    (subst (λ (l : List Seat). AreNew types sessions (length yielded + 1) l) (sym is)
    (one_more_new types sessions (length yielded) seats x seat there are (subst (λ (n : ℕ). IsNewSeat types n x seat) (number_is ∙ are.many) new)))

-- ---- what a script keeps

module _ (script : Script) (within : IsWithin script) where
  pub few_commands : All (λ (s : SessionScript). length s.commands ≤ 10000) script.sessions
  few_commands k d h = (within.sessions k d h).few

  -- ---- the stage

  abbrev start : WorldOf JcrLaw
  start = start_world (law_of script) script.clusters (map (λ s. s.cluster) script.sessions)

  idle_at : (xs : List ℕ) (s : ℕ) → shown_work (work_in (map (λ k. idle) xs) s) ≡ Idle
  idle_at [] s = refl
  idle_at (x ∷ xs) zero = refl
  idle_at (x ∷ xs) (suc s) = idle_at xs s

  -- where two lists are as long as each other, what stands in one has its like in the other
  there_too : {X Y : Type 0} (xs : List X) (ys : List Y) (k : ℕ) (y : Y) → length ys ≡ length xs → slice_get ys k ≡ Some y → (x : X) × (slice_get xs k ≡ Some x)
  there_too xs [] k y h at = none_is_some y at
  there_too [] (e ∷ ys) k y h at = absurd (omega arith)
  there_too (x ∷ xs) (e ∷ ys) zero y h at = (x, refl)
  there_too (x ∷ xs) (e ∷ ys) (suc k) y h at = there_too xs ys k y (let same : length ys ≡ length xs = omega arith in same) at

  module _ (seats : List Seat) (new : AreNew script.types script.sessions (length script.sessions) seats)
      (trees : SeesTrees (law_of script) script.clusters (map (λ s. s.cluster) script.sessions) None)
      (typed : SeesTyped (law_of script) script.clusters (map (λ s. s.cluster) script.sessions) None) where
    seated : (s : ℕ) (seat : Seat) → slice_get seats s ≡ Some seat → IsSeated script start s seat
    seated s seat at = by (there_too script.sessions seats s seat new.many at)
      where
        by : (session : SessionScript) × (slice_get script.sessions s ≡ Some session) → IsSeated script start s seat
        by (session, there) =
            let is = new.each s session seat there at in
            record {
              session = is.run.session_is;
              stands = λ n.
                  new_stands (law_of script) (shown_at n start s) s session.commands seat.run is.run (session_within script within s session there).few (within_nodes script within) trees typed tt
                  (idle_at (map (λ s. s.cluster) script.sessions) s) refl
                  (λ i. commands_at script s i ∙ ap (λ (o : Option SessionScript). slice_get (option_map_or (λ x. x.commands) o []) i) there) refl;
              flight = subst (λ (o : Option Flight). IsFlight [] s o) (sym is.flight) refl;
              seen = λ r theirs unseen. absurd (false≢true theirs);
            }

    pub begun : (stage : Stage) → stage.script.value ≡ script → stage.schedule ≡ script.schedule → stage.world ≡ start → stage.seats.items ≡ seats → IsFirstStage script stage
    begun stage script_is schedule_is world_is seats_are = record {
      script_is = script_is;
      stage_is = record {
        law = ap (λ (w : WorldOf JcrLaw). w.law) world_is ∙ ap law_of (sym script_is);
        history = subst (λ (x : Script). (live stage.world.history) ≡ history_at x stage.world.history.past) (sym script_is) (subst (λ (w : WorldOf JcrLaw). (live w.history) ≡ history_at script w.history.past) (sym world_is) refl);
        within = subst (λ (x : Script). IsWithin x) (sym script_is) within;
        schedule = schedule_is ∙ ap (λ (x : Script). x.schedule) (sym script_is);
        seats = ap (λ (l : List Seat). length l) seats_are ∙ (new.many ∙ ap (λ (x : Script). length x.sessions) (sym script_is));
        each = λ s seat at.
            subst (λ (x : Script). IsSeated x stage.world s seat) (sym script_is)
            (subst (λ (w : WorldOf JcrLaw). IsSeated script w s seat) (sym world_is) (seated s seat (ap (λ (l : List Seat). slice_get l s) (sym seats_are) ∙ at)));
      };
      first = ap (λ (w : WorldOf JcrLaw). w.history.past) world_is;
    }

  -- the same, by what the product's law says of every run
  pub begun_by : (stage : Stage) → ((l : JcrLaw) (clusters : ℕ) (sessions : List ℕ) → AreNodes clusters sessions → SeesTrees l clusters sessions None)
      → ((l : JcrLaw) (clusters : ℕ) (sessions : List ℕ) → AreNodes clusters sessions → TypesOk l.types initial_tree → SeesTyped l clusters sessions None) → AreNew script.types script.sessions (length script.sessions) stage.seats.items → stage.world ≡ start → stage.script.value ≡ script → stage.schedule ≡ script.schedule → IsFirstStage script stage
  begun_by stage trees typed new world_is script_is schedule_is =
      begun stage.seats.items new
      (trees (law_of script) script.clusters (map (λ s. s.cluster) script.sessions) (within_nodes script within))
      (typed (law_of script) script.clusters (map (λ s. s.cluster) script.sessions) (within_nodes script within) within.types.typed) stage script_is schedule_is world_is refl

-- ---- the world of a law, by the nodes that are lent to it

module _ (law : JcrLaw) (clusters : ℕ) (sessions : List SessionScript) (same : sessions ≡ law.sessions) (nodes slice : List ℕ) (made : nodes ≡ map (λ s. s.cluster) sessions) (lent : slice ≡ nodes) where
  are : slice ≡ map (λ s. s.cluster) law.sessions
  are = lent ∙ (made ∙ ap (map (λ (s : SessionScript). s.cluster)) same)

  pub slice_nodes : AreNodes clusters (map (λ s. s.cluster) law.sessions) → AreNodes clusters slice
  slice_nodes nodes = subst (λ (l : List ℕ). AreNodes clusters l) (sym are) nodes

  pub slice_few : length law.sessions ≤ 64 → length slice ≤ 64
  slice_few few = let h = ap (λ (l : List ℕ). length l) are in let m = length-map law.sessions (λ (s : SessionScript). s.cluster) in omega arith

  pub slice_world : (world : WorldOf JcrLaw) → world ≡ start_world law clusters slice → world ≡ start_world law clusters (map (λ s. s.cluster) law.sessions)
  slice_world world is = is ∙ ap (start_world law clusters) are
