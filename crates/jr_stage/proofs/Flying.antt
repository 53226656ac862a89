-- What is kept of a commit in flight is what the history tells, event after event.
use Rattle.std.proofs.Common.{◌≡◌, ℕ, ◌+◌, length, Bool, true, false, cond, not, ◌||◌, ◌&&◌, Some, None, Option, List, [], ◌∷◌, is_some, refl, sym, ap, ◌∙◌, subst, arith}
use Rattle.std.specs.Prelude.{◌==◌, slice_get, nat_le}
use Rattle.std.specs.Option.{option_map_or, unwrap_or}
use Rattle.std.specs.List.{count_by, fold, list_any}
use Rattle.std.proofs.lemmas.Bool.Decides.{nat_tests}
use mathlib.Core.Bool.{false≢true}
use Rattle.jr_rev.specs.declared.revision.Revision.{Revision}
use Rattle.jr_rev.specs.Revisions.{is_same}
use Rattle.jr_rev.proofs.Order.{same_revision}
use Rattle.oak_clash.specs.Clashes.{marked_paths}
use Rattle.oak_machine.specs.declared.event.Draw.{Draw}
use Rattle.oak_machine.specs.declared.event.Event.{Event}
use Rattle.oak_machine.specs.declared.event.Event.TheVariants as event
use Rattle.oak_machine.specs.declared.event.StepKind.TheVariants as kind
use Rattle.oak_machine.specs.History.{Past}
use Rattle.oak_machine.specs.Commits.{draw_of, is_committed, is_drawn, is_end_of, is_ended, is_in_flight, is_refused}
use Rattle.oak_machine.specs.Laws.{Says, Starts, is_revision_of}
use Rattle.oak_machine.specs.Runs.{AreNodes, IsRunOf}
use Rattle.oak_machine.specs.Sessions.{is_drawing, is_drawing_among}
use Rattle.oak_machine.proofs.Induction.{first_of_both, neither}
use Rattle.core_heads.proofs.Runs.{fresh_run}
use Rattle.jr_stage.specs.declared.flight.Flight.{Flight}
use Rattle.jr_stage.specs.Places.{draws_of, is_at_last, is_own, is_undo_of, is_write_of, is_written_out, has_written, since_draw}
use Rattle.jr_stage.specs.Flights.{IsFlight, IsFlightOf, decided, flight_with, is_undecided, written_more}

pub same_itself : (r : Revision) → is_same r r ≡ true
same_itself r = ap Rattle.std.specs.Ordering.is_eq (Rattle.std.specs.Cmp.tied_itself Rattle.jr_rev.proofs.Order.revision_total r)

pub some_is_some : {X : Type 0} (x y : X) → Some x ≡ Some y → x ≡ y
some_is_some x y h = ap (λ o. unwrap_or o x) h

abbrev pub nothing : {X : Type 0} → Option X
nothing = None

pub none_is_some : {A X : Type 0} (x : X) → nothing {X = X} ≡ Some x → A
none_is_some x h = absurd (false≢true (ap is_some h))

-- ---- draws

first_of : (past : Past) (s : ℕ) (d : Draw) (b : Bool) → (d.session == s) ≡ b → draws_of (event.Draw d ∷ past) s ≡ cond b (d ∷ draws_of past s) (draws_of past s)
first_of past s d b h = ap (λ c. cond c (d ∷ draws_of past s) (draws_of past s)) h

-- the last draw of s is in flight where it hasn't ended
pub drawing_by : (now past : Past) (s : ℕ) (d : Draw) → slice_get (draws_of past s) 0 ≡ Some d → is_ended now d.revision ≡ false → is_drawing_among now past s ≡ true
drawing_by now [] s d is flies = none_is_some d is
drawing_by now (event.Draw f ∷ past) s d is flies = elim (f.session == s) as (λ b. (f.session == s) ≡ b → is_drawing_among now (event.Draw f ∷ past) s ≡ true) [
  | true ↦ λ own.
      let same : f ≡ d = some_is_some f d (sym (ap (λ l. slice_get l 0) (first_of past s f true own)) ∙ is) in
      let ended : is_ended now f.revision ≡ false = subst (λ (x : Draw). is_ended now x.revision ≡ false) (sym same) flies in
      ap (λ b. (b && not (is_ended now f.revision)) || is_drawing_among now past s) own ∙ ap (λ b. not b || is_drawing_among now past s) ended
  | false ↦ λ own. or_more (f.session == s && not (is_ended now f.revision)) _ (drawing_by now past s d (sym (ap (λ l. slice_get l 0) (first_of past s f false own)) ∙ is) flies)
] refl
  where
    or_more : (a b : Bool) → b ≡ true → (a || b) ≡ true
    or_more true b h = refl
    or_more false b h = h
drawing_by now (e ∷ past) s d is flies = drawing_by now past s d is flies

-- a revision of s that hasn't ended is in flight
pub flying_by : (now past : Past) (s : ℕ) (r : Revision) (d : Draw) → draw_of past r ≡ Some d → (d.session == s) ≡ true → is_ended now r ≡ false → is_drawing_among now past s ≡ true
flying_by now [] s r d is own flies = none_is_some d is
flying_by now (event.Draw f ∷ past) s r d is own flies = elim (is_same r f.revision) as (λ b. is_same r f.revision ≡ b → is_drawing_among now (event.Draw f ∷ past) s ≡ true) [
  | true ↦ λ same.
      let first : f ≡ d = some_is_some f d (sym (ap (λ b. cond b (Some f) (draw_of past r)) same) ∙ is) in
      let mine : (f.session == s) ≡ true = subst (λ (x : Draw). (x.session == s) ≡ true) (sym first) own in
      let open_now : is_ended now f.revision ≡ false = subst (λ (x : Revision). is_ended now x ≡ false) (same_revision r f.revision same) flies in
      ap (λ b. (b && not (is_ended now f.revision)) || is_drawing_among now past s) mine ∙ ap (λ b. not b || is_drawing_among now past s) open_now
  | false ↦ λ same. or_more (f.session == s && not (is_ended now f.revision)) _ (flying_by now past s r d (sym (ap (λ b. cond b (Some f) (draw_of past r)) same) ∙ is) own flies)
] refl
  where
    or_more : (a b : Bool) → b ≡ true → (a || b) ≡ true
    or_more true b h = refl
    or_more false b h = h
flying_by now (e ∷ past) s r d is own flies = flying_by now past s r d is own flies

-- where each revision that has ended at one time has ended at another, nothing is in flight then that wasn't before
pub among_more : (a b : Past) → ((r : Revision) → is_ended a r ≡ true → is_ended b r ≡ true) → (s : ℕ) (list : Past) → is_drawing_among a list s ≡ false → is_drawing_among b list s ≡ false
among_more a b more s [] h = refl
among_more a b more s (event.Draw d ∷ list) h =
    let n = neither (d.session == s && not (is_ended a d.revision)) _ h in
    ap (λ c. c || is_drawing_among b list s) (still (d.session == s) (is_ended a d.revision) refl n.0) ∙ among_more a b more s list n.1
  where
    still : (x y : Bool) → is_ended a d.revision ≡ y → (x && not y) ≡ false → (x && not (is_ended b d.revision)) ≡ false
    still true true ended h = ap not (more d.revision ended)
    still true false ended h = absurd (false≢true (sym h))
    still false y ended h = refl
among_more a b more s (e ∷ list) h = among_more a b more s list h

-- more has ended once an event more has come
ends_more : (e : Event) (past : Past) (r q : Revision) → is_ended (event.End r ∷ past) q ≡ true → is_ended (event.End r ∷ e ∷ past) q ≡ true
ends_more e past r q h = by (is_same q r) (is_end_of q e) (is_ended past q) h
  where
    by : (a b c : Bool) → (a || c) ≡ true → (a || (b || c)) ≡ true
    by true b c h = refl
    by false true c h = refl
    by false false c h = h

-- ---- what is kept

pub flight_drawing : (past : Past) (s : ℕ) (o : Option Flight) → IsFlight past s o → is_drawing past s ≡ is_some o
flight_drawing past s None h = h
flight_drawing past s (Some f) h = drawing_by past past s h.draw h.last h.unended

pub flight_written : (past : Past) (s n : ℕ) (f : Flight) → IsFlightOf past s f → has_written n past s ≡ nat_le n f.written
flight_written past s n f h = ap (λ b. b && nat_le n (count_by (is_write_of s) (since_draw past s))) (drawing_by past past s h.draw h.last h.unended) ∙ ap (nat_le n) (sym h.written)

and_both : (a b : Bool) → a ≡ true → b ≡ true → (a && b) ≡ true
and_both true true h k = refl
and_both true false h k = k
and_both false b h k = h

pub halves : (a b : Bool) → (a && b) ≡ true → (a ≡ true) × (b ≡ true)
halves true b h = (refl, h)
halves false b h = absurd (false≢true h)

pub flight_at_last : (past : Past) (s : ℕ) (f : Flight) → IsFlightOf past s f → nat_le f.documents f.written ≡ true → f.undecided ≡ true → is_at_last past s ≡ true
flight_at_last past s f h all undecided =
    ap (λ (o : Option Draw). option_map_or (is_written_out past s) o false) h.last
    ∙ by (is_committed past h.draw.revision) (is_refused past h.draw.revision) (list_any (is_undo_of s) (since_draw past s))
    (flight_written past s (length (marked_paths h.draw.marks)) f h ∙ (ap (λ n. nat_le n f.written) (sym h.documents) ∙ all))
    (sym h.undecided ∙ undecided)
  where
    by : (c r u : Bool) → has_written (length (marked_paths h.draw.marks)) past s ≡ true → (not c && not r && not u) ≡ true → (has_written (length (marked_paths h.draw.marks)) past s && not c && not r && not u) ≡ true
    by false false false w k = ap (λ b. b && true && true && true) w
    by true r u w k = absurd (false≢true k)
    by false true u w k = absurd (false≢true k)
    by false false true w k = absurd (false≢true k)

-- a commit that isn't written out is at no last write
pub flight_not_at_last : (past : Past) (s : ℕ) (f : Flight) → IsFlightOf past s f → nat_le f.documents f.written ≡ false → is_at_last past s ≡ false
flight_not_at_last past s f h short =
    ap (λ (o : Option Draw). option_map_or (is_written_out past s) o false) h.last
    ∙ ap (λ b. b && not (is_committed past h.draw.revision) && not (is_refused past h.draw.revision) && not (list_any (is_undo_of s) (since_draw past s)))
    (flight_written past s (length (marked_paths h.draw.marks)) f h ∙ (ap (λ n. nat_le n f.written) (sym h.documents) ∙ short))

-- nor is one that is decided, or undone
pub flight_decided : (past : Past) (s : ℕ) (f : Flight) → IsFlightOf past s f → f.undecided ≡ false → is_at_last past s ≡ false
flight_decided past s f h settled =
    ap (λ (o : Option Draw). option_map_or (is_written_out past s) o false) h.last
    ∙ by (has_written (length (marked_paths h.draw.marks)) past s) (not (is_committed past h.draw.revision)) (not (is_refused past h.draw.revision)) (not (list_any (is_undo_of s) (since_draw past s))) (sym h.undecided ∙ settled)
  where
    by : (w c r u : Bool) → (c && r && u) ≡ false → (w && c && r && u) ≡ false
    by true c r u k = k
    by false c r u k = refl

pub idle_not_at_last : (past : Past) (s : ℕ) → is_drawing past s ≡ false → is_at_last past s ≡ false
idle_not_at_last past s idle = by (slice_get (draws_of past s) 0)
  where
    by : (o : Option Draw) → option_map_or (is_written_out past s) o false ≡ false
    by None = refl
    by (Some d) = ap (λ b. (b && nat_le (length (marked_paths d.marks)) (count_by (is_write_of s) (since_draw past s))) && not (is_committed past d.revision) && not (is_refused past d.revision) && not (list_any (is_undo_of s) (since_draw past s))) idle

-- ---- events

-- an event that draws, ends, writes and decides nothing of s
pub record IsCalm (past : Past) (s : ℕ) (e : Event) : Type 0 where
  pub draws : draws_of (e ∷ past) s ≡ draws_of past s
  pub drawn : (r : Revision) (d : Draw) → draw_of past r ≡ Some d → draw_of (e ∷ past) r ≡ Some d
  pub written : count_by (is_write_of s) (since_draw (e ∷ past) s) ≡ count_by (is_write_of s) (since_draw past s)
  pub ended : (r : Revision) → is_revision_of past s r ≡ true → is_ended (e ∷ past) r ≡ is_ended past r
  pub undecided : (d : Draw) → is_revision_of past s d.revision ≡ true → is_undecided (e ∷ past) s d ≡ is_undecided past s d
  pub idle : is_drawing past s ≡ false → is_drawing (e ∷ past) s ≡ false
  pub last : (r : Revision) → is_drawing (event.End r ∷ past) s ≡ false → is_drawing (event.End r ∷ e ∷ past) s ≡ false

theirs_known : (past : Past) (s : ℕ) (f : Flight) (h : IsFlightOf past s f) → is_revision_of past s h.draw.revision ≡ true
theirs_known past s f h = ap (λ (o : Option Draw). option_map_or (λ d. d.session == s) o false) h.known ∙ (ap (λ n. n == s) h.theirs ∙ itself s)
  where
    itself : (n : ℕ) → (n == n) ≡ true
    itself n = grind (arith, nat_tests)

stays_of : (past : Past) (s : ℕ) (e : Event) → IsCalm past s e → (f : Flight) → IsFlightOf past s f → IsFlightOf (e ∷ past) s f
stays_of past s e calm f h =
    let known = theirs_known past s f h in
    record {
      draw = h.draw;
      last = ap (λ l. slice_get l 0) calm.draws ∙ h.last;
      known = calm.drawn h.draw.revision h.draw h.known;
      theirs = h.theirs;
      unended = calm.ended h.draw.revision known ∙ h.unended;
      alone = calm.last h.draw.revision h.alone;
      revision = h.revision;
      documents = h.documents;
      written = h.written ∙ sym calm.written;
      undecided = h.undecided ∙ sym (calm.undecided h.draw known);
    }

pub stays_calm : (past : Past) (s : ℕ) (e : Event) → IsCalm past s e → (o : Option Flight) → IsFlight past s o → IsFlight (e ∷ past) s o
stays_calm past s e calm None h = calm.idle h
stays_calm past s e calm (Some f) h = stays_of past s e calm f h

-- with an event that ends nothing
calm_idle : (e : Event) (past : Past) (s : ℕ) → ((r : Revision) → is_ended past r ≡ true → is_ended (e ∷ past) r ≡ true) → is_drawing_among past past s ≡ false → is_drawing_among (e ∷ past) past s ≡ false
calm_idle e past s more h = among_more past (e ∷ past) more s past h

calm_last : (e : Event) (past : Past) (s : ℕ) (r : Revision) → is_drawing_among (event.End r ∷ past) past s ≡ false → is_drawing_among (event.End r ∷ e ∷ past) past s ≡ false
calm_last e past s r h = among_more (event.End r ∷ past) (event.End r ∷ e ∷ past) (ends_more e past r) s past h

-- events that neither draw, end, write nor decide
calm_plain : (e : Event) (past : Past) (s : ℕ) → draws_of (e ∷ past) s ≡ draws_of past s → ((r : Revision) → draw_of (e ∷ past) r ≡ draw_of past r)
    → count_by (is_write_of s) (since_draw (e ∷ past) s) ≡ count_by (is_write_of s) (since_draw past s) → ((r : Revision) → is_ended (e ∷ past) r ≡ is_ended past r)
    → ((d : Draw) → is_undecided (e ∷ past) s d ≡ is_undecided past s d) → ((now : Past) → is_drawing_among now (e ∷ past) s ≡ is_drawing_among now past s) → IsCalm past s e
calm_plain e past s draws drawn written ended undecided among = record {
  draws = draws;
  drawn = λ r d h. drawn r ∙ h;
  written = written;
  ended = λ r h. ended r;
  undecided = λ d h. undecided d;
  idle = λ h. among (e ∷ past) ∙ calm_idle e past s (λ r k. ended r ∙ k) h;
  last = λ r h. among (event.End r ∷ e ∷ past) ∙ calm_last e past s r h;
}

-- a revision that s didn't draw is none that it drew
apart : (past : Past) (s : ℕ) (r q : Revision) → is_revision_of past s r ≡ true → is_revision_of past s q ≡ false → is_same r q ≡ false
apart past s r q mine theirs = by (is_same r q) refl
  where
    by : (b : Bool) → is_same r q ≡ b → b ≡ false
    by true h = absurd (false≢true (sym theirs ∙ subst (λ (x : Revision). is_revision_of past s x ≡ true) (same_revision r q h) mine))
    by false h = refl

module _ (past : Past) (s : ℕ) where
  calm_login : (t : ℕ) (v : _) → IsCalm past s (event.Login t v)
  calm_login t v = calm_plain (event.Login t v) past s refl (λ r. refl) refl (λ r. refl) (λ d. refl) (λ now. refl)

  calm_refresh : (t : ℕ) (v : _) → IsCalm past s (event.Refresh t v)
  calm_refresh t v = calm_plain (event.Refresh t v) past s refl (λ r. refl) refl (λ r. refl) (λ d. refl) (λ now. refl)

  calm_head : (k : ℕ) (v : _) → IsCalm past s (event.Head k v)
  calm_head k v = calm_plain (event.Head k v) past s refl (λ r. refl) refl (λ r. refl) (λ d. refl) (λ now. refl)

  calm_said : (t i : ℕ) (text : _) → IsCalm past s (event.Said t i text)
  calm_said t i text = calm_plain (event.Said t i text) past s refl (λ r. refl) refl (λ r. refl) (λ d. refl) (λ now. refl)

  -- a step of another session that has no event of its own
  calm_went : (t : ℕ) (k : _) → (t == s) ≡ false → IsCalm past s (event.Went t k)
  calm_went t k other = calm_plain (event.Went t k) past s refl (λ r. refl) (writes k) (λ r. refl) (λ d. undone d k) (λ now. refl)
    where
      writes : (k : _) → count_by (is_write_of s) (event.Went t k ∷ since_draw past s) ≡ count_by (is_write_of s) (since_draw past s)
      writes kind.Write = ap (λ b. fold (λ n x. n + cond (is_write_of s x) 1 0) (0 + cond b 1 0) (since_draw past s)) other
      writes k = refl

      undone : (d : Draw) (k : _) → is_undecided (event.Went t k ∷ past) s d ≡ is_undecided past s d
      undone d kind.Undo = ap (λ b. not (is_committed past d.revision) && not (is_refused past d.revision) && not (b || list_any (is_undo_of s) (since_draw past s))) other
      undone d k = refl

  -- steps that are no Write and no Undo
  calm_plain_went : (t : ℕ) (k : _) → ((n : ℕ) → is_write_of n (event.Went t k) ≡ false) → ((n : ℕ) → is_undo_of n (event.Went t k) ≡ false) → IsCalm past s (event.Went t k)
  calm_plain_went t k no_write no_undo = calm_plain (event.Went t k) past s refl (λ r. refl)
      (ap (λ b. fold (λ n x. n + cond (is_write_of s x) 1 0) (0 + cond b 1 0) (since_draw past s)) (no_write s)) (λ r. refl)
      (λ d. ap (λ b. not (is_committed past d.revision) && not (is_refused past d.revision) && not (b || list_any (is_undo_of s) (since_draw past s))) (no_undo s)) (λ now. refl)

  calm_commit : (q : Revision) → is_revision_of past s q ≡ false → IsCalm past s (event.Commit q)
  calm_commit q theirs = record {
    draws = refl;
    drawn = λ r d h. h;
    written = refl;
    ended = λ r h. refl;
    undecided = λ d mine. ap (λ b. not (b || is_committed past d.revision) && not (is_refused past d.revision) && not (list_any (is_undo_of s) (since_draw past s))) (apart past s d.revision q mine theirs);
    idle = calm_idle (event.Commit q) past s (λ r k. k);
    last = λ r h. calm_last (event.Commit q) past s r h;
  }

  calm_refuse : (q : Revision) (item : _) (o : Revision) → is_revision_of past s q ≡ false → IsCalm past s (event.Refuse q item o)
  calm_refuse q item o theirs = record {
    draws = refl;
    drawn = λ r d h. h;
    written = refl;
    ended = λ r h. refl;
    undecided = λ d mine. ap (λ b. not (is_committed past d.revision) && not (b || is_refused past d.revision) && not (list_any (is_undo_of s) (since_draw past s))) (apart past s d.revision q mine theirs);
    idle = calm_idle (event.Refuse q item o) past s (λ r k. k);
    last = λ r h. calm_last (event.Refuse q item o) past s r h;
  }

  calm_end : (q : Revision) → is_revision_of past s q ≡ false → IsCalm past s (event.End q)
  calm_end q theirs = record {
    draws = refl;
    drawn = λ r d h. h;
    written = refl;
    ended = λ r mine. ap (λ b. b || is_ended past r) (apart past s r q mine theirs);
    undecided = λ d mine. refl;
    idle = calm_idle (event.End q) past s (λ r k. or_later (is_same r q) _ k);
    last = λ r h. calm_last (event.End q) past s r h;
  }
    where
      or_later : (a b : Bool) → b ≡ true → (a || b) ≡ true
      or_later true b h = refl
      or_later false b h = h

  calm_draw : (d : Draw) → draw_of past d.revision ≡ None → (d.session == s) ≡ false → IsCalm past s (event.Draw d)
  calm_draw d fresh other = record {
    draws = first_of past s d false other;
    drawn = λ r f h. known r f h (is_same r d.revision) refl;
    written = ap (λ b. count_by (is_write_of s) (cond b [] (event.Draw d ∷ since_draw past s))) other;
    ended = λ r h. refl;
    undecided = λ f mine. ap (λ b. not (is_committed past f.revision) && not (is_refused past f.revision) && not (list_any (is_undo_of s) (cond b [] (event.Draw d ∷ since_draw past s)))) other;
    idle = λ h. ap (λ b. (b && not (is_ended past d.revision)) || is_drawing_among (event.Draw d ∷ past) past s) other ∙ calm_idle (event.Draw d) past s (λ r k. k) h;
    last = λ r h. ap (λ b. (b && not (is_ended (event.End r ∷ past) d.revision)) || is_drawing_among (event.End r ∷ event.Draw d ∷ past) past s) other ∙ calm_last (event.Draw d) past s r h;
  }
    where
      known : (r : Revision) (f : Draw) → draw_of past r ≡ Some f → (b : Bool) → is_same r d.revision ≡ b → cond b (Some d) (draw_of past r) ≡ Some f
      known r f h true same = none_is_some f (sym fresh ∙ subst (λ (x : Revision). draw_of past x ≡ Some f) (same_revision r d.revision same) h)
      known r f h false same = h

-- ---- a run

module _ (clusters : ℕ) (sessions : List ℕ) (nodes : AreNodes clusters sessions) (starts : Starts) (says : Says) (s : ℕ) where
  -- an event that isn't the session's leaves what is kept
  pub flight_other : (e : Event) (past : Past) (o : Option Flight) → IsRunOf starts says clusters sessions None (e ∷ past) → is_own past s e ≡ false → IsFlight past s o → IsFlight (e ∷ past) s o
  flight_other (event.Login t v) past o run other h = stays_calm past s _ (calm_login past s t v) o h
  flight_other (event.Refresh t v) past o run other h = stays_calm past s _ (calm_refresh past s t v) o h
  flight_other (event.Draw d) past o run other h = stays_calm past s _ (calm_draw past s d (fresh_run clusters sessions nodes None starts says d past run).fresh other) o h
  flight_other (event.Commit r) past o run other h = stays_calm past s _ (calm_commit past s r other) o h
  flight_other (event.Refuse r item q) past o run other h = stays_calm past s _ (calm_refuse past s r item q other) o h
  flight_other (event.End r) past o run other h = stays_calm past s _ (calm_end past s r other) o h
  flight_other (event.Went t k) past o run other h = stays_calm past s _ (calm_went past s t k other) o h
  flight_other (event.Said t i text) past o run other h = stays_calm past s _ (calm_said past s t i text) o h
  flight_other (event.Head k v) past o run other h = stays_calm past s _ (calm_head past s k v) o h
  flight_other e past o run other h = stays_calm past s e (calm_plain e past s refl (λ r. refl) refl (λ r. refl) (λ d. refl) (λ now. refl)) o h

  mapped : (past : Past) (e : Event) (f : Flight → Flight) (o : Option Flight) → (is_drawing past s ≡ false → is_drawing (e ∷ past) s ≡ false) → ((x : Flight) → IsFlightOf past s x → IsFlightOf (e ∷ past) s (f x))
      → IsFlight past s o → IsFlight (e ∷ past) s (Rattle.std.specs.Prelude.option_map f o)
  mapped past e f None idle of h = idle h
  mapped past e f (Some x) idle of h = of x h

  itself : (n : ℕ) → (n == n) ≡ true
  itself n = grind (arith, nat_tests)

  module _ (past : Past) where
    -- a document that is written counts once more
    writes_more : (t : ℕ) → (t == s) ≡ true → count_by (is_write_of s) (event.Went t kind.Write ∷ since_draw past s) ≡ count_by (is_write_of s) (since_draw past s) + 1
    writes_more t own = ap (λ b. fold (λ n x. n + cond (is_write_of s x) 1 0) (0 + cond b 1 0) (since_draw past s)) own ∙ more (since_draw past s) 0
      where
        more : (list : Past) (n : ℕ) → fold (λ n x. n + cond (is_write_of s x) 1 0) (n + 1) list ≡ fold (λ n x. n + cond (is_write_of s x) 1 0) n list + 1
        more [] n = refl
        more (e ∷ list) n = ap (λ m. fold (λ n x. n + cond (is_write_of s x) 1 0) m list) (turned n (cond (is_write_of s e) 1 0)) ∙ more list (n + cond (is_write_of s e) 1 0)
          where
            turned : (n m : ℕ) → n + 1 + m ≡ n + m + 1
            turned n m = omega arith

    wrote : (t : ℕ) → (t == s) ≡ true → (x : Flight) → IsFlightOf past s x → IsFlightOf (event.Went t kind.Write ∷ past) s (written_more x)
    wrote t own x h = record {
      draw = h.draw;
      last = h.last;
      known = h.known;
      theirs = h.theirs;
      unended = h.unended;
      alone = calm_last (event.Went t kind.Write) past s h.draw.revision h.alone;
      revision = h.revision;
      documents = h.documents;
      written = ap (λ n. n + 1) h.written ∙ sym (writes_more t own);
      undecided = h.undecided;
    }

    -- the commit is decided, or undone
    settles : (e : Event) (x : Flight) → draws_of (e ∷ past) s ≡ draws_of past s → ((r : Revision) → draw_of (e ∷ past) r ≡ draw_of past r)
        → count_by (is_write_of s) (since_draw (e ∷ past) s) ≡ count_by (is_write_of s) (since_draw past s) → ((r : Revision) → is_ended (e ∷ past) r ≡ is_ended past r)
        → ((now : Past) → is_drawing_among now (e ∷ past) s ≡ is_drawing_among now past s) → (h : IsFlightOf past s x) → is_undecided (e ∷ past) s h.draw ≡ false → IsFlightOf (e ∷ past) s (decided x)
    settles e x draws drawn written ended among h settled = record {
      draw = h.draw;
      last = ap (λ l. slice_get l 0) draws ∙ h.last;
      known = drawn h.draw.revision ∙ h.known;
      theirs = h.theirs;
      unended = ended h.draw.revision ∙ h.unended;
      alone = among (event.End h.draw.revision ∷ e ∷ past) ∙ calm_last e past s h.draw.revision h.alone;
      revision = h.revision;
      documents = h.documents;
      written = h.written ∙ sym written;
      undecided = sym settled;
    }

    -- what the session has in flight is its last draw
    the_flight : (r : Revision) (f : Flight) (h : IsFlightOf past s f) → is_in_flight past r ≡ true → is_revision_of past s r ≡ true → is_same r h.draw.revision ≡ true
    the_flight r f h flies own = by (draw_of past r) refl own
      where
        open_before : is_ended past r ≡ false
        open_before = not_true (is_ended past r) (halves (is_drawn past r) _ flies).1
          where
            not_true : (b : Bool) → not b ≡ true → b ≡ false
            not_true true k = absurd (false≢true k)
            not_true false k = refl

        by : (d : Option Draw) → draw_of past r ≡ d → option_map_or (λ x. x.session == s) d false ≡ true → is_same r h.draw.revision ≡ true
        by None is mine = absurd (false≢true mine)
        by (Some d) is mine = elim (is_same r h.draw.revision) as (λ b. is_same r h.draw.revision ≡ b → b ≡ true) [
          | true ↦ λ same. refl
          | false ↦ λ same. absurd (false≢true (sym h.alone ∙ flying_by (event.End h.draw.revision ∷ past) past s r d is mine (ap (λ b. b || is_ended past r) same ∙ open_before)))
        ] refl

    same_back : (r q : Revision) → is_same r q ≡ true → is_same q r ≡ true
    same_back r q h = subst (λ (x : Revision). is_same q x ≡ true) (sym (same_revision r q h)) (same_itself q)

    settled_commit : (r : Revision) (f : Flight) (h : IsFlightOf past s f) → is_in_flight past r ≡ true → is_revision_of past s r ≡ true → is_undecided (event.Commit r ∷ past) s h.draw ≡ false
    settled_commit r f h flies own = ap (λ b. not (b || is_committed past h.draw.revision) && not (is_refused past h.draw.revision) && not (list_any (is_undo_of s) (since_draw past s))) (same_back r h.draw.revision (the_flight r f h flies own))

    settled_refuse : (r : Revision) (item : _) (o : Revision) (f : Flight) (h : IsFlightOf past s f) → is_in_flight past r ≡ true → is_revision_of past s r ≡ true → is_undecided (event.Refuse r item o ∷ past) s h.draw ≡ false
    settled_refuse r item o f h flies own =
        ap (λ b. not (is_committed past h.draw.revision) && not (b || is_refused past h.draw.revision) && not (list_any (is_undo_of s) (since_draw past s))) (same_back r h.draw.revision (the_flight r f h flies own))
        ∙ none (not (is_committed past h.draw.revision)) (not (list_any (is_undo_of s) (since_draw past s)))
      where
        none : (a b : Bool) → (a && false && b) ≡ false
        none true b = refl
        none false b = refl

    settled_undo : (t : ℕ) (f : Flight) (h : IsFlightOf past s f) → (t == s) ≡ true → is_undecided (event.Went t kind.Undo ∷ past) s h.draw ≡ false
    settled_undo t f h own =
        ap (λ b. not (is_committed past h.draw.revision) && not (is_refused past h.draw.revision) && not (b || list_any (is_undo_of s) (since_draw past s))) own
        ∙ none (not (is_committed past h.draw.revision) && not (is_refused past h.draw.revision))
      where
        none : (a : Bool) → (a && false) ≡ false
        none true = refl
        none false = refl

    -- a new draw
    draws_first : (d : Draw) → IsRunOf starts says clusters sessions None (event.Draw d ∷ past) → (d.session == s) ≡ true → IsFlight (event.Draw d ∷ past) s (flight_with (event.Draw d) None)
    draws_first d run own = record {
      draw = d;
      last = ap (λ l. slice_get l 0) (first_of past s d true own);
      known = ap (λ b. cond b (Some d) (draw_of past d.revision)) (same_itself d.revision);
      theirs = equal d.session s own;
      unended = open_now;
      alone = ap (λ b. (d.session == s && not (b || is_ended past d.revision)) || is_drawing_among (event.End d.revision ∷ event.Draw d ∷ past) past s) (same_itself d.revision)
          ∙ (none (d.session == s) _ ∙ among_more past (event.End d.revision ∷ event.Draw d ∷ past) (λ r k. or_later (is_same r d.revision) _ k) s past idle);
      revision = refl;
      documents = refl;
      written = sym (ap (λ b. count_by (is_write_of s) (cond b [] (event.Draw d ∷ since_draw past s))) own);
      undecided = sym
          (ap (λ b. not b && not (is_refused past d.revision) && not (list_any (is_undo_of s) (since_draw (event.Draw d ∷ past) s))) (uncommitted past run.1)
          ∙ (ap (λ b. not b && not (list_any (is_undo_of s) (since_draw (event.Draw d ∷ past) s))) (unrefused past run.1)
          ∙ ap (λ b. not (list_any (is_undo_of s) (cond b [] (event.Draw d ∷ since_draw past s)))) own));
    }
      where
        fresh : draw_of past d.revision ≡ None
        fresh = (fresh_run clusters sessions nodes None starts says d past run).fresh

        equal : (a b : ℕ) → (a == b) ≡ true → a ≡ b
        equal a b h = grind (arith, nat_tests)

        idle : is_drawing past s ≡ false
        idle = subst (λ (n : ℕ). is_drawing past n ≡ false) (equal d.session s own) run.0.idle

        none : (a b : Bool) → ((a && false) || b) ≡ b
        none true b = refl
        none false b = refl

        or_later : (a b : Bool) → b ≡ true → (a || b) ≡ true
        or_later true b h = refl
        or_later false b h = h

        -- what isn't drawn has neither ended nor been decided
        undrawn : (list : Past) (r : Revision) → draw_of list r ≡ None → is_drawn list r ≡ false
        undrawn list r none = ap is_some none

        flies_drawn : (list : Past) (q : Revision) → is_same d.revision q ≡ true → is_in_flight list q ≡ true → is_drawn list d.revision ≡ true
        flies_drawn list q same flies = subst (λ (x : Revision). is_drawn list x ≡ true) (sym (same_revision d.revision q same)) (first_of_both (is_drawn list q) _ flies)

        behind : (e : Event) (list : Past) → is_drawn (e ∷ list) d.revision ≡ false → is_drawn list d.revision ≡ false
        behind (event.Draw f) list none = by (is_same d.revision f.revision) none
          where
            by : (b : Bool) → is_some (cond b (Some f) (draw_of list d.revision)) ≡ false → is_drawn list d.revision ≡ false
            by true k = absurd (false≢true (sym k))
            by false k = k
        behind e list none = none

        unended_in : (list : Past) → IsRunOf starts says clusters sessions None list → is_drawn list d.revision ≡ false → is_ended list d.revision ≡ false
        unended_in [] ran none = refl
        unended_in (event.End q ∷ list) ran none = elim (is_same d.revision q) as (λ b. is_same d.revision q ≡ b → (b || is_ended list d.revision) ≡ false) [
          | true ↦ λ same. absurd (false≢true (sym none ∙ flies_drawn list q same ran.0))
          | false ↦ λ same. unended_in list ran.1 none
        ] refl
        unended_in (e ∷ list) ran none = unended_in list ran.1 (behind e list none)

        uncommitted_in : (list : Past) → IsRunOf starts says clusters sessions None list → is_drawn list d.revision ≡ false → is_committed list d.revision ≡ false
        uncommitted_in [] ran none = refl
        uncommitted_in (event.Commit q ∷ list) ran none = elim (is_same d.revision q) as (λ b. is_same d.revision q ≡ b → (b || is_committed list d.revision) ≡ false) [
          | true ↦ λ same. absurd (false≢true (sym none ∙ flies_drawn list q same ran.0.open_.in_flight))
          | false ↦ λ same. uncommitted_in list ran.1 none
        ] refl
        uncommitted_in (e ∷ list) ran none = uncommitted_in list ran.1 (behind e list none)

        unrefused_in : (list : Past) → IsRunOf starts says clusters sessions None list → is_drawn list d.revision ≡ false → is_refused list d.revision ≡ false
        unrefused_in [] ran none = refl
        unrefused_in (event.Refuse q item o ∷ list) ran none = elim (is_same d.revision q) as (λ b. is_same d.revision q ≡ b → (b || is_refused list d.revision) ≡ false) [
          | true ↦ λ same. absurd (false≢true (sym none ∙ flies_drawn list q same ran.0.open_.in_flight))
          | false ↦ λ same. unrefused_in list ran.1 none
        ] refl
        unrefused_in (e ∷ list) ran none = unrefused_in list ran.1 (behind e list none)

        open_now : is_ended past d.revision ≡ false
        open_now = unended_in past run.1 (undrawn past d.revision fresh)

        uncommitted : (list : Past) → IsRunOf starts says clusters sessions None past → is_committed past d.revision ≡ false
        uncommitted list ran = uncommitted_in past ran (undrawn past d.revision fresh)

        unrefused : (list : Past) → IsRunOf starts says clusters sessions None past → is_refused past d.revision ≡ false
        unrefused list ran = unrefused_in past ran (undrawn past d.revision fresh)

    -- the end of what the session has in flight
    ends_last : (r : Revision) (o : Option Flight) → IsRunOf starts says clusters sessions None (event.End r ∷ past) → is_revision_of past s r ≡ true → IsFlight past s o → is_drawing (event.End r ∷ past) s ≡ false
    ends_last r None run own h = calm_idle (event.End r) past s (λ q k. or_later (is_same q r) _ k) h
      where
        or_later : (a b : Bool) → b ≡ true → (a || b) ≡ true
        or_later true b h = refl
        or_later false b h = h
    ends_last r (Some f) run own h = by (draw_of past r) refl own
      where
        open_before : is_ended past r ≡ false
        open_before = not_true (is_ended past r) (halves (is_drawn past r) _ run.0).1
          where
            not_true : (b : Bool) → not b ≡ true → b ≡ false
            not_true true k = absurd (false≢true k)
            not_true false k = refl

        by : (d : Option Draw) → draw_of past r ≡ d → option_map_or (λ x. x.session == s) d false ≡ true → is_drawing (event.End r ∷ past) s ≡ false
        by None is mine = absurd (false≢true mine)
        by (Some d) is mine = elim (is_same r h.draw.revision) as (λ b. is_same r h.draw.revision ≡ b → is_drawing (event.End r ∷ past) s ≡ false) [
          | true ↦ λ same. subst (λ (x : Revision). is_drawing (event.End x ∷ past) s ≡ false) (sym (same_revision r h.draw.revision same)) h.alone
          | false ↦ λ same. absurd (false≢true (sym h.alone ∙ flying_by (event.End h.draw.revision ∷ past) past s r d is mine (ap (λ b. b || is_ended past r) same ∙ open_before)))
        ] refl

  -- an event of the session changes what is kept as it does
  pub flight_own : (e : Event) (past : Past) (o : Option Flight) → IsRunOf starts says clusters sessions None (e ∷ past) → is_own past s e ≡ true → IsFlight past s o → IsFlight (e ∷ past) s (flight_with e o)
  flight_own (event.Draw d) past o run own h = draws_first past d run own
  flight_own (event.Commit r) past o run own h = mapped past (event.Commit r) decided o (λ idle. calm_idle (event.Commit r) past s (λ q k. k) idle) (λ x k. settles past (event.Commit r) x refl (λ q. refl) refl (λ q. refl) (λ now. refl) k (settled_commit past r x k run.0.open_.in_flight own)) h
  flight_own (event.Refuse r item q) past o run own h = mapped past (event.Refuse r item q) decided o (λ idle. calm_idle (event.Refuse r item q) past s (λ q k. k) idle) (λ x k. settles past (event.Refuse r item q) x refl (λ q. refl) refl (λ q. refl) (λ now. refl) k (settled_refuse past r item q x k run.0.open_.in_flight own)) h
  flight_own (event.End r) past o run own h = ends_last past r o run own h
  flight_own (event.Head k v) past o run own h = absurd (false≢true own)
  flight_own (event.Went t kind.Write) past o run own h = mapped past (event.Went t kind.Write) written_more o (λ idle. calm_idle (event.Went t kind.Write) past s (λ q k. k) idle) (λ x k. wrote past t own x k) h
  flight_own (event.Went t kind.Undo) past o run own h = mapped past (event.Went t kind.Undo) decided o (λ idle. calm_idle (event.Went t kind.Undo) past s (λ q k. k) idle) (λ x k. settles past (event.Went t kind.Undo) x refl (λ q. refl) refl (λ q. refl) (λ now. refl) k (settled_undo past t x k own)) h
  flight_own (event.Went t k) past o run own h = stays_calm past s _ (calm_plain (event.Went t k) past s refl (λ r. refl) refl (λ r. refl) (λ d. refl) (λ now. refl)) o h
  flight_own (event.Login t v) past o run own h = stays_calm past s _ (calm_login past s t v) o h
  flight_own (event.Refresh t v) past o run own h = stays_calm past s _ (calm_refresh past s t v) o h
  flight_own (event.Said t i text) past o run own h = stays_calm past s _ (calm_said past s t i text) o h
  flight_own e past o run own h = stays_calm past s e (calm_plain e past s refl (λ r. refl) refl (λ r. refl) (λ d. refl) (λ now. refl)) o h

  -- and the head that moves with an end changes nothing more
  pub flight_head : (k : ℕ) (v : _) (past : Past) → is_drawing past s ≡ false → is_drawing (event.Head k v ∷ past) s ≡ false
  flight_head k v past h = calm_idle (event.Head k v) past s (λ q k. k) h
