-- The sessions whose commits are in flight, in ascending order of their revisions: from what the seats keep, and from the draws.
use Rattle.std.proofs.Common.{◌≡◌, ℕ, zero, suc, ◌+◌, ◌<◌, ◌≤◌, length, get_or, map, Bool, true, false, cond, not, ◌||◌, ◌&&◌, Some, None, Option, List, [], ◌∷◌, is_some, refl, sym, ap, ◌∙◌, subst, arith}
use Rattle.std.specs.Prelude.{◌==◌, IfOk, Result, Ok, Err, slice_get}
use Rattle.std.specs.Option.{option_map, option_map_or}
use Rattle.std.specs.Map.{lookup, values_of}
use Rattle.std.specs.BTreeMap.{insert_entry, is_at}
use Rattle.std.specs.FinMap.{is_sorted}
use Rattle.std.specs.List.{All, filter, fold, list_any}
use Rattle.std.proofs.lemmas.Bool.Decides.{nat_tests}
use Rattle.std.proofs.lemmas.Option.{slice_get-map, slice_get_read, slice_get_within}
use Rattle.std.proofs.lemmas.List.Elements.{All-nil}
use Rattle.std.proofs.lemmas.Map.Views.{All-values-insert_entry}
use mathlib.Core.Bool.{false≢true}
use Rattle.jr_path.proofs.Maps.{lookup-insert_entry}
use Rattle.jr_rev.specs.declared.revision.Revision.{Revision}
use Rattle.jr_rev.specs.Revisions.{is_same, revision_cmp}
use Rattle.jr_rev.proofs.Order.{revision_exact, revision_total, same_revision}
use Rattle.oak_machine.specs.declared.event.Draw.{Draw}
use Rattle.oak_machine.specs.declared.event.Event.TheVariants as event
use Rattle.oak_machine.specs.History.{History, Past}
use Rattle.oak_machine.specs.Commits.{draw_of, is_ended, is_in_flight}
use Rattle.oak_machine.specs.Laws.{Says, Starts, is_revision_of}
use Rattle.oak_machine.specs.Runs.{AreNodes, IsRunOf}
use Rattle.core_read.proofs.Entries.{same_lists, sorted_insert}
use Rattle.jcr_trans.specs.declared.command.SessionScript.{SessionScript}
use Rattle.jr_stage.specs.declared.flight.Flight.{Flight}
use Rattle.jr_stage.specs.declared.stage.Seat.{Seat}
use Rattle.jr_stage.specs.declared.stage.Stage.{Stage}
use Rattle.jr_stage.specs.Flights.{IsFlight, IsFlightOf}
use Rattle.jr_stage.specs.Places.{draws_in, flying_sessions}
use Rattle.jr_stage.specs.Stages.{IsStage, past_of}
use Rattle.jr_stage.proofs.Flying.{flying_by, halves, none_is_some, same_itself, some_is_some}
use Rattle.jr_stage.proofs.Seen.{cluster_of, known}

-- ---- what is in flight

-- the session whose commit of this revision is in flight
abbrev pub flies_as : Past → Revision → Option ℕ
flies_as past r = cond (is_in_flight past r) (option_map (λ d. d.session) (draw_of past r)) None

-- the session that stands at a revision
abbrev pub found : List (Revision × ℕ) → Revision → Option ℕ
found es r = lookup (is_at (revision_cmp r)) es

pub flies_of : (past : Past) (r : Revision) (d : Draw) → draw_of past r ≡ Some d → is_ended past r ≡ false → flies_as past r ≡ Some d.session
flies_of past r d is flies =
    ap (λ (o : Option Draw). cond (is_some o && not (is_ended past r)) (option_map (λ d. d.session) o) None) is
    ∙ ap (λ b. cond (true && not b) (Some d.session) None) flies

-- a draw of that session is known, and has not ended
pub record IsFlown (past : Past) (r : Revision) (s : ℕ) : Type 0 where
  pub draw : Draw
  pub is : draw_of past r ≡ Some draw
  pub session : draw.session ≡ s
  pub unended : is_ended past r ≡ false

pub flown_of : (past : Past) (r : Revision) (s : ℕ) → flies_as past r ≡ Some s → IsFlown past r s
flown_of past r s flies = by (draw_of past r) (is_ended past r) refl refl flies
  where
    by : (o : Option Draw) (e : Bool) → draw_of past r ≡ o → is_ended past r ≡ e → cond (is_some o && not e) (option_map (λ d. d.session) o) None ≡ Some s → IsFlown past r s
    by None e is ends h = none_is_some s h
    by (Some d) true is ends h = none_is_some s h
    by (Some d) false is ends h = record { draw = d; is = is; session = some_is_some d.session s h; unended = ends }

-- ---- entries that tell what is in flight

-- they are in order, and what stands at a revision is its session
pub record AreFlown (past : Past) (es : List (Revision × ℕ)) : Type 0 where
  pub order : is_sorted revision_cmp es ≡ true
  pub sound : (r : Revision) (s : ℕ) → found es r ≡ Some s → flies_as past r ≡ Some s

pub none_flown : (past : Past) → AreFlown past []
none_flown past = record { order = refl; sound = λ r s h. none_is_some s h }

pub found_put : (es : List (Revision × ℕ)) (q r : Revision) (s : ℕ) → found (insert_entry revision_cmp es r s) q ≡ cond (is_same q r) (Some s) (found es q)
found_put es q r s = lookup-insert_entry revision_cmp revision_total q r s es

pub flown_put : (past : Past) (es : List (Revision × ℕ)) (r : Revision) (s : ℕ) → AreFlown past es → flies_as past r ≡ Some s → AreFlown past (insert_entry revision_cmp es r s)
flown_put past es r s are flies = record {
  order = sorted_insert revision_cmp revision_total r s es are.order;
  sound = λ q t h. by q t (is_same q r) refl (sym (found_put es q r s) ∙ h);
}
  where
    by : (q : Revision) (t : ℕ) (b : Bool) → is_same q r ≡ b → cond b (Some s) (found es q) ≡ Some t → flies_as past q ≡ Some t
    by q t true same h = subst (λ (x : Revision). flies_as past x ≡ Some t) (sym (same_revision q r same)) (flies ∙ h)
    by q t false same h = are.sound q t h

-- what stood at a revision still does, and what is put there does
pub still_found : (es : List (Revision × ℕ)) (q r : Revision) (s : ℕ) → is_some (found es q) ≡ true → is_some (found (insert_entry revision_cmp es r s) q) ≡ true
still_found es q r s h = ap is_some (found_put es q r s) ∙ by (is_same q r)
  where
    by : (b : Bool) → is_some (cond b (Some s) (found es q)) ≡ true
    by true = refl
    by false = h

pub put_found : (es : List (Revision × ℕ)) (q r : Revision) (s : ℕ) → is_same q r ≡ true → is_some (found (insert_entry revision_cmp es r s) q) ≡ true
put_found es q r s same = ap is_some (found_put es q r s) ∙ ap (λ b. is_some (cond b (Some s) (found es q))) same

-- where each of them has its session there, what stands at a revision is what is in flight
pub found_flown : (past : Past) (es : List (Revision × ℕ)) → AreFlown past es → ((r : Revision) (s : ℕ) → flies_as past r ≡ Some s → is_some (found es r) ≡ true) → (r : Revision) → found es r ≡ flies_as past r
found_flown past es are all r = by (found es r) (flies_as past r) refl refl
  where
    nothing_some : {A : Type 0} (o : Option ℕ) → o ≡ None → is_some o ≡ true → A
    nothing_some o none h = absurd (false≢true (sym (ap is_some none) ∙ h))

    by : (o q : Option ℕ) → found es r ≡ o → flies_as past r ≡ q → o ≡ q
    by None None is flies = refl
    by None (Some s) is flies = nothing_some (found es r) is (all r s flies)
    by (Some s) q is flies = sym (are.sound r s is) ∙ flies

-- two such lists are the same
pub same_flown : (past : Past) (es fs : List (Revision × ℕ)) → AreFlown past es → ((r : Revision) (s : ℕ) → flies_as past r ≡ Some s → is_some (found es r) ≡ true)
    → AreFlown past fs → ((r : Revision) (s : ℕ) → flies_as past r ≡ Some s → is_some (found fs r) ≡ true) → es ≡ fs
same_flown past es fs are all too them =
    same_lists revision_cmp revision_total (λ x y e. revision_exact x y e) es fs are.order too.order (λ q. found_flown past es are all q ∙ sym (found_flown past fs too them q))

-- ---- from the draws

abbrev Each : (Draw → Type 0) → List Draw → Type 0
Each P [] = Unit {0}
Each P (d ∷ ds) = P d × Each P ds

each_more : (P Q : Draw → Type 0) → ((d : Draw) → P d → Q d) → (ds : List Draw) → Each P ds → Each Q ds
each_more P Q more [] h = tt
each_more P Q more (d ∷ ds) h = (more d h.0, each_more P Q more ds h.1)

each_where : (P Q : Draw → Type 0) (test : Draw → Bool) → ((d : Draw) → P d → test d ≡ true → Q d) → (ds : List Draw) → Each P ds → Each Q (filter test ds)
each_where P Q test more [] h = tt
each_where P Q test more (d ∷ ds) h = elim (test d) as (λ b. test d ≡ b → Each Q (cond b (d ∷ filter test ds) (filter test ds))) [
  | true ↦ λ passes. (more d h.0 passes, each_where P Q test more ds h.1)
  | false ↦ λ fails. each_where P Q test more ds h.1
] refl

abbrev with_draw : List (Revision × ℕ) → Draw → List (Revision × ℕ)
with_draw es d = insert_entry revision_cmp es d.revision d.session

folded_flown : (past : Past) (ds : List Draw) (es : List (Revision × ℕ)) → AreFlown past es → Each (λ d. flies_as past d.revision ≡ Some d.session) ds → AreFlown past (fold (λ es d. insert_entry revision_cmp es d.revision d.session) es ds)
folded_flown past [] es are each = are
folded_flown past (d ∷ ds) es are each = folded_flown past ds (with_draw es d) (flown_put past es d.revision d.session are each.0) each.1

folded_still : (ds : List Draw) (es : List (Revision × ℕ)) (q : Revision) → is_some (found es q) ≡ true → is_some (found (fold (λ es d. insert_entry revision_cmp es d.revision d.session) es ds) q) ≡ true
folded_still [] es q h = h
folded_still (d ∷ ds) es q h = folded_still ds (with_draw es d) q (still_found es q d.revision d.session h)

folded_found : (ds : List Draw) (es : List (Revision × ℕ)) (q : Revision) → list_any (λ d. is_same q d.revision) ds ≡ true → is_some (found (fold (λ es d. insert_entry revision_cmp es d.revision d.session) es ds) q) ≡ true
folded_found [] es q h = absurd (false≢true h)
folded_found (d ∷ ds) es q h = elim (is_same q d.revision) as (λ b. is_same q d.revision ≡ b → (b || list_any (λ x. is_same q x.revision) ds) ≡ true → is_some (found (fold (λ es d. insert_entry revision_cmp es d.revision d.session) (with_draw es d) ds) q) ≡ true) [
  | true ↦ λ same k. folded_still ds (with_draw es d) q (put_found es q d.revision d.session same)
  | false ↦ λ same k. folded_found ds (with_draw es d) q k
] refl h

-- a draw that is in flight is among them
drawn_among : (now past : Past) (r : Revision) (d : Draw) → draw_of past r ≡ Some d → is_in_flight now r ≡ true → list_any (λ x. is_same r x.revision) (filter (λ x. is_in_flight now x.revision) (draws_in past)) ≡ true
drawn_among now [] r d is flies = none_is_some d is
drawn_among now (event.Draw f ∷ past) r d is flies = elim (is_same r f.revision) as (λ b. is_same r f.revision ≡ b → cond b (Some f) (draw_of past r) ≡ Some d → list_any (λ x. is_same r x.revision) (filter (λ x. is_in_flight now x.revision) (f ∷ draws_in past)) ≡ true) [
  | true ↦ λ same k.
      let passes : is_in_flight now f.revision ≡ true = subst (λ (x : Revision). is_in_flight now x ≡ true) (same_revision r f.revision same) flies in
      ap (λ b. list_any (λ x. is_same r x.revision) (cond b (f ∷ filter (λ x. is_in_flight now x.revision) (draws_in past)) (filter (λ x. is_in_flight now x.revision) (draws_in past)))) passes
      ∙ ap (λ b. b || list_any (λ x. is_same r x.revision) (filter (λ x. is_in_flight now x.revision) (draws_in past))) same
  | false ↦ λ same k. more (is_in_flight now f.revision) (drawn_among now past r d k flies)
] refl is
  where
    more : (b : Bool) → list_any (λ x. is_same r x.revision) (filter (λ x. is_in_flight now x.revision) (draws_in past)) ≡ true → list_any (λ x. is_same r x.revision) (cond b (f ∷ filter (λ x. is_in_flight now x.revision) (draws_in past)) (filter (λ x. is_in_flight now x.revision) (draws_in past))) ≡ true
    more true h = or_later (is_same r f.revision) _ h
      where
        or_later : (a b : Bool) → b ≡ true → (a || b) ≡ true
        or_later true b h = refl
        or_later false b h = h
    more false h = h
drawn_among now (e ∷ past) r d is flies = drawn_among now past r d is flies

-- the entries that the draws give
abbrev entries_of : Past → List (Revision × ℕ)
entries_of past = fold (λ es d. insert_entry revision_cmp es d.revision d.session) [] (filter (λ d. is_in_flight past d.revision) (draws_in past))

module _ (clusters : ℕ) (sessions : List ℕ) (nodes : AreNodes clusters sessions) (starts : Starts) (says : Says) where
  -- each draw is the one of its revision
  each_known : (past : Past) → IsRunOf starts says clusters sessions None past → Each (λ d. draw_of past d.revision ≡ Some d) (draws_in past)
  each_known [] run = tt
  each_known (event.Draw f ∷ past) run = (
    ap (λ b. cond b (Some f) (draw_of past f.revision)) (same_itself f.revision),
    each_more (λ d. draw_of past d.revision ≡ Some d) (λ d. draw_of (event.Draw f ∷ past) d.revision ≡ Some d) (λ d h. known clusters sessions nodes starts says past f run d.revision d h) (draws_in past) (each_known past run.1),
  )
  each_known (e ∷ past) run = each_known past run.1

  open_of : (past : Past) (r : Revision) → is_in_flight past r ≡ true → is_ended past r ≡ false
  open_of past r flies = not_true (is_ended past r) (halves (is_some (draw_of past r)) _ flies).1
    where
      not_true : (b : Bool) → not b ≡ true → b ≡ false
      not_true true k = absurd (false≢true k)
      not_true false k = refl

  pub draws_flown : (past : Past) → IsRunOf starts says clusters sessions None past → AreFlown past (fold (λ es d. insert_entry revision_cmp es d.revision d.session) [] (filter (λ d. is_in_flight past d.revision) (draws_in past)))
  draws_flown past run = folded_flown past (filter (λ d. is_in_flight past d.revision) (draws_in past)) [] (none_flown past)
      (each_where (λ d. draw_of past d.revision ≡ Some d) (λ d. flies_as past d.revision ≡ Some d.session) (λ d. is_in_flight past d.revision)
      (λ d h flies. flies_of past d.revision d h (open_of past d.revision flies)) (draws_in past) (each_known past run))

  flies_again : (past : Past) (r : Revision) (s : ℕ) → IsFlown past r s → is_in_flight past r ≡ true
  flies_again past r s flown = ap (λ (o : Option Draw). is_some o && not (is_ended past r)) flown.is ∙ ap not flown.unended

  pub draws_found : (past : Past) (r : Revision) (s : ℕ) → flies_as past r ≡ Some s → is_some (found (fold (λ es d. insert_entry revision_cmp es d.revision d.session) [] (filter (λ d. is_in_flight past d.revision) (draws_in past))) r) ≡ true
  draws_found past r s flies =
      let flown = flown_of past r s flies in
      folded_found (filter (λ d. is_in_flight past d.revision) (draws_in past)) [] r (drawn_among past past r flown.draw flown.is (flies_again past r s flown))

  -- entries that tell what is in flight, and all of it, have the sessions in ascending order
  pub values_flying : (past : Past) (es : List (Revision × ℕ)) → IsRunOf starts says clusters sessions None past → AreFlown past es → ((r : Revision) (s : ℕ) → flies_as past r ≡ Some s → is_some (found es r) ≡ true) → values_of es ≡ flying_sessions past
  values_flying past es run are all = ap values_of (same_flown past es (fold (λ es d. insert_entry revision_cmp es d.revision d.session) [] (filter (λ d. is_in_flight past d.revision) (draws_in past))) are all (draws_flown past run) (draws_found past))

-- ---- from the seats

-- the entries tell what is in flight, and have what the first n seats keep; each is of a seat
pub record AreKept (stage : Stage) (n : ℕ) (es : List (Revision × ℕ)) : Type 0 where
  pub flown : AreFlown (past_of stage) es
  pub seats : All (λ s. s < length stage.seats.items) (values_of es)
  pub all : (s : ℕ) (seat : Seat) (f : Flight) → s < n → slice_get stage.seats.items s ≡ Some seat → seat.flight ≡ Some f → is_some (found es f.revision) ≡ true

below_none : {A : Type 0} (s : ℕ) → s < 0 → A
below_none s h = absurd (omega arith)

below_more : (s n : ℕ) → s < n + 1 → (s == n) ≡ false → s < n
below_more s n h apart = grind (arith, nat_tests)

equal : (a b : ℕ) → (a == b) ≡ true → a ≡ b
equal a b h = grind (arith, nat_tests)

pub kept_none : (stage : Stage) → AreKept stage 0 []
kept_none stage = record { flown = none_flown (past_of stage); seats = All-nil (λ s. s < length stage.seats.items); all = λ s seat f below at is. below_none s below }

module _ (stage : Stage) (n : ℕ) (es : List (Revision × ℕ)) (kept : AreKept stage n es) (seat : Seat) (at : slice_get stage.seats.items n ≡ Some seat) where
  -- a seat that keeps nothing
  pub kept_idle : seat.flight ≡ None → AreKept stage (n + 1) es
  kept_idle none = record {
    flown = kept.flown;
    seats = kept.seats;
    all = λ s x f below is has. by s x f below is has (s == n) refl;
  }
    where
      by : (s : ℕ) (x : Seat) (f : Flight) → s < n + 1 → slice_get stage.seats.items s ≡ Some x → x.flight ≡ Some f → (b : Bool) → (s == n) ≡ b → is_some (found es f.revision) ≡ true
      by s x f below is has true same =
          let it : seat ≡ x = some_is_some seat x (sym at ∙ (ap (slice_get stage.seats.items) (sym (equal s n same)) ∙ is)) in
          none_is_some f (sym none ∙ (ap (λ (y : Seat). y.flight) it ∙ has))
      by s x f below is has false apart = kept.all s x f (below_more s n below apart) is has

  -- and one that keeps a commit
  pub kept_put : (f : Flight) → seat.flight ≡ Some f → IsFlightOf (past_of stage) n f → AreKept stage (n + 1) (insert_entry revision_cmp es f.revision n)
  kept_put f has flight = record {
    flown = flown_put (past_of stage) es f.revision n kept.flown
        (ap (flies_as (past_of stage)) flight.revision ∙ (flies_of (past_of stage) flight.draw.revision flight.draw flight.known flight.unended ∙ ap Some flight.theirs));
    seats = All-values-insert_entry revision_cmp f.revision n (λ s. s < length stage.seats.items) es kept.seats (slice_get_within stage.seats.items n seat at);
    all = λ s x g below is keeps. by s x g below is keeps (s == n) refl;
  }
    where
      by : (s : ℕ) (x : Seat) (g : Flight) → s < n + 1 → slice_get stage.seats.items s ≡ Some x → x.flight ≡ Some g → (b : Bool) → (s == n) ≡ b → is_some (found (insert_entry revision_cmp es f.revision n) g.revision) ≡ true
      by s x g below is keeps true same =
          let it : seat ≡ x = some_is_some seat x (sym at ∙ (ap (slice_get stage.seats.items) (sym (equal s n same)) ∙ is)) in
          let one : f ≡ g = some_is_some f g (sym has ∙ (ap (λ (y : Seat). y.flight) it ∙ keeps)) in
          put_found es g.revision f.revision n (subst (λ (y : Flight). is_same y.revision f.revision ≡ true) one (same_itself f.revision))
      by s x g below is keeps false apart = still_found es g.revision f.revision n (kept.all s x g (below_more s n below apart) is keeps)

-- a stage whose seats are all looked at has each of its commits in flight
module _ (stage : Stage) (is : IsStage stage) (es : List (Revision × ℕ)) (kept : AreKept stage (length stage.seats.items) es)
    (starts : Starts) (says : Says) (nodes : AreNodes stage.world.history.clusters stage.world.history.sessions) (run : IsRunOf starts says stage.world.history.clusters stage.world.history.sessions None stage.world.history.past) where
  earlier_below : (j n : ℕ) → suc j < suc n → j < n
  earlier_below j n h = omega arith

  there : {X : Type 0} (xs : List X) (i : ℕ) → i < length xs → is_some (slice_get xs i) ≡ true
  there [] i h = below_none i h
  there (y ∷ xs) zero h = refl
  there (y ∷ xs) (suc j) h = there xs j (earlier_below j (length xs) h)

  session_there : (s k : ℕ) → slice_get stage.world.history.sessions s ≡ Some k → s < length stage.seats.items
  session_there s k h = subst (λ (n : ℕ). s < n) (sym is.seats) (by (slice_get stage.script.value.sessions s) refl)
    where
      at : slice_get (map (λ (x : SessionScript). x.cluster) stage.script.value.sessions) s ≡ Some k
      at = ap (λ (x : History). slice_get x.sessions s) (sym is.history) ∙ h

      by : (o : Option SessionScript) → slice_get stage.script.value.sessions s ≡ o → s < length stage.script.value.sessions
      by None none = none_is_some k (sym (slice_get-map (λ (x : SessionScript). x.cluster) stage.script.value.sessions s ∙ ap (option_map (λ (x : SessionScript). x.cluster)) none) ∙ at)
      by (Some x) some = slice_get_within stage.script.value.sessions s x some

  in_seat : (r : Revision) (s : ℕ) (seat : Seat) → IsFlown (past_of stage) r s → slice_get stage.seats.items s ≡ Some seat → (o : Option Flight) → seat.flight ≡ o → IsFlight (past_of stage) s o → is_some (found es r) ≡ true
  in_seat r s seat flown at None keeps idle =
      absurd (false≢true (sym idle ∙ flying_by (past_of stage) (past_of stage) s r flown.draw flown.is (ap (λ n. n == s) flown.session ∙ itself s) flown.unended))
    where
      itself : (n : ℕ) → (n == n) ≡ true
      itself n = grind (arith, nat_tests)
  in_seat r s seat flown at (Some f) keeps flight = by (is_same r flight.draw.revision) refl
    where
      itself : (n : ℕ) → (n == n) ≡ true
      itself n = grind (arith, nat_tests)

      by : (b : Bool) → is_same r flight.draw.revision ≡ b → is_some (found es r) ≡ true
      by true same =
          subst (λ (x : Revision). is_some (found es x) ≡ true) (flight.revision ∙ sym (same_revision r flight.draw.revision same))
          (kept.all s seat f (slice_get_within stage.seats.items s seat at) at keeps)
      by false apart = absurd (false≢true (sym flight.alone ∙ flying_by (event.End flight.draw.revision ∷ past_of stage) (past_of stage) s r flown.draw flown.is (ap (λ n. n == s) flown.session ∙ itself s) (ap (λ b. b || is_ended (past_of stage) r) apart ∙ flown.unended)))

  all_found : (r : Revision) (s : ℕ) → flies_as (past_of stage) r ≡ Some s → is_some (found es r) ≡ true
  all_found r s flies =
      let flown = flown_of (past_of stage) r s flies in
      let own : is_revision_of (past_of stage) s r ≡ true = ap (λ (o : Option Draw). option_map_or (λ d. d.session == s) o false) flown.is ∙ (ap (λ n. n == s) flown.session ∙ itself s) in
      by flown (slice_get stage.seats.items s) refl (there stage.seats.items s (session_there s r.cluster (cluster_of stage.world.history.clusters stage.world.history.sessions nodes starts says (past_of stage) run s r own)))
    where
      itself : (n : ℕ) → (n == n) ≡ true
      itself n = grind (arith, nat_tests)

      by : IsFlown (past_of stage) r s → (o : Option Seat) → slice_get stage.seats.items s ≡ o → is_some o ≡ true → is_some (found es r) ≡ true
      by flown None at h = absurd (false≢true h)
      by flown (Some seat) at h = in_seat r s seat flown at seat.flight refl (is.each s seat at).flight

  -- the sessions of the entries are those in flight, in ascending order
  pub kept_flying : values_of es ≡ flying_sessions (past_of stage)
  kept_flying = values_flying stage.world.history.clusters stage.world.history.sessions nodes starts says (past_of stage) es run kept.flown all_found

-- ---- seat after seat

module _ (stage : Stage) (is : IsStage stage) (n : ℕ) (es fs : List (Revision × ℕ)) (seat : Seat) (below : n < length stage.seats.items) (at : seat ≡ get_or stage.seats.items n seat) (kept : AreKept stage n es) where
  place : slice_get stage.seats.items n ≡ Some seat
  place = slice_get_read stage.seats.items (length stage.seats.items) n seat refl below at

  with_seat : (o : Option Flight) → seat.flight ≡ o → IsFlight (past_of stage) n o → AreKept stage (n + 1) (option_map_or (λ f. insert_entry revision_cmp es f.revision n) o es)
  with_seat None none h = kept_idle stage n es kept seat place none
  with_seat (Some f) has h = kept_put stage n es kept seat place f has h

  pub kept_more : fs ≡ option_map_or (λ f. insert_entry revision_cmp es f.revision n) seat.flight es → AreKept stage (n + 1) fs
  kept_more same = subst (λ (l : List (Revision × ℕ)). AreKept stage (n + 1) l) (sym same) (with_seat seat.flight refl (is.each n seat place).flight)

pub kept_long : (stage : Stage) (n : ℕ) (es : List (Revision × ℕ)) → length stage.seats.items ≤ n → AreKept stage n es → AreKept stage (length stage.seats.items) es
kept_long stage n es long kept = record {
  flown = kept.flown;
  seats = kept.seats;
  all = λ s seat f below at has. kept.all s seat f (within s (length stage.seats.items) n below long) at has;
}
  where
    within : (s m n : ℕ) → s < m → m ≤ n → s < n
    within s m n h k = omega arith

pub if_ok_more : {X E : Type 0} (r : Result X E) {P Q : X → Type 0} → ((x : X) → P x → Q x) → IfOk r P → IfOk r Q
if_ok_more (Ok x) more h = more x h
if_ok_more (Err e) more h = tt
