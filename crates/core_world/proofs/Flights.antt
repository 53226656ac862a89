-- The draws of a session that are in flight.
use Rattle.std.proofs.Common.{◌≡◌, ℕ, Bool, true, false, cond, not, ◌&&◌, ◌||◌, Option, Some, List, [], ◌∷◌, is_some, refl, sym, ap, subst, ◌∙◌, arith, None}
use Rattle.std.specs.Prelude.{◌==◌, slice_get}
use Rattle.std.proofs.lemmas.Bool.Decides.{nat_tests}
use mathlib.Core.Bool.{false≢true}
use Rattle.jr_rev.specs.declared.revision.Revision.{Revision}
use Rattle.jr_rev.specs.Revisions.{is_same}
use Rattle.oak_machine.specs.declared.event.Draw.{Draw}
use Rattle.oak_machine.specs.declared.event.Event.{Event}
use Rattle.oak_machine.specs.declared.event.Event.TheVariants as event
use Rattle.oak_machine.specs.History.{Past, Begin}
use Rattle.oak_machine.specs.Commits.{draw_of, is_ended}
use Rattle.oak_machine.specs.Laws.{Says, Starts}
use Rattle.oak_machine.specs.Runs.{IsRunOf}
use Rattle.oak_machine.specs.Sessions.{has_left, is_drawing, is_drawing_among, is_end_of_session, is_stop_of, is_stopped, is_stopped_under}
use Rattle.oak_read.specs.declared.reader.Reader.{Reader}
use Rattle.core_clash.specs.Sessions.{Running}
use Rattle.core_world.specs.Kept.{AreAtWork}
use Rattle.std.specs.Option.{option_map_or}
use Rattle.core_clash.proofs.Basics.{is_same_self, or_left, or_right, same_revision, some_is}

never : {A : Type 0} → false ≡ true → A
never h = absurd (false≢true h)

pub same_number : (q s : ℕ) → (q == s) ≡ true → q ≡ s
same_number q s h = grind (arith, nat_tests)

pub other_number : (q s : ℕ) → (q == s) ≡ false → q ≡ s → ⊥
other_number q s h e = grind (arith, nat_tests)

pub number_itself : (n : ℕ) → (n == n) ≡ true
number_itself n = grind (arith, nat_tests)

-- what has ended stays ended
abbrev pub IsMore : Past → Past → Type 0
IsMore past now = (r : Revision) → is_ended past r ≡ true → is_ended now r ≡ true

less_flying : (a b c : Bool) → (a && not b) ≡ false → (b ≡ true → c ≡ true) → (a && not c) ≡ false
less_flying false b c h k = refl
less_flying true true c h k = ap not (k refl)
less_flying true false c h k = never (sym h)

neither : (a b : Bool) → (a || b) ≡ false → (a ≡ false) × (b ≡ false)
neither true b h = never (sym h)
neither false b h = (refl, h)

or_none : (a b : Bool) → a ≡ false → b ≡ false → (a || b) ≡ false
or_none true b h k = never (sym h)
or_none false b h k = k

-- where more has ended, no more is in flight
pub less_drawing : (before now : Past) → IsMore before now → (past : Past) (s : ℕ) → is_drawing_among before past s ≡ false → is_drawing_among now past s ≡ false
less_drawing before now more [] s h = refl
less_drawing before now more (event.Draw d ∷ past) s h =
    let k = neither (d.session == s && not (is_ended before d.revision)) (is_drawing_among before past s) h in
    or_none (d.session == s && not (is_ended now d.revision)) (is_drawing_among now past s) (less_flying (d.session == s) (is_ended before d.revision) (is_ended now d.revision) k.0 (more d.revision)) (less_drawing before now more past s k.1)
less_drawing before now more (e ∷ past) s h = less_drawing before now more past s h

-- a session whose draw has not ended has a draw in flight
pub drawing : (now : Past) (r : Revision) (d : Draw) → is_ended now r ≡ false → (past : Past) → draw_of past r ≡ Some d → is_drawing_among now past d.session ≡ true
drawing now r d unended [] h = never (ap is_some h)
drawing now r d unended (event.Draw e ∷ past) h = by (λ k. drawing now r d unended past k) (is_same r e.revision) refl h
  where
    flies : r ≡ e.revision → (e.session == e.session && not (is_ended now e.revision)) ≡ true
    flies k = ap (λ b. b && not (is_ended now e.revision)) (number_itself e.session) ∙ ap not (subst (λ (x : Revision). is_ended now x ≡ false) k unended)

    by : (draw_of past r ≡ Some d → is_drawing_among now past d.session ≡ true) → (b : Bool) → is_same r e.revision ≡ b → cond b (Some e) (draw_of past r) ≡ Some d → (((e.session == d.session) && not (is_ended now e.revision)) || is_drawing_among now past d.session) ≡ true
    by rest true t k = subst (λ (x : Draw). (((e.session == x.session) && not (is_ended now e.revision)) || is_drawing_among now past x.session) ≡ true) (sym (some_is k)) (or_left _ (is_drawing_among now past e.session) (flies (same_revision r e.revision t)))
    by rest false f k = or_right ((e.session == d.session) && not (is_ended now e.revision)) _ (rest k)
drawing now r d unended (e ∷ past) h = drawing now r d unended past h

module _ (starts : Starts) (says : Says) (clusters : ℕ) (sessions : List ℕ) (begin : Begin) where
  -- in a run a session has one draw in flight at most: once it has ended there is none
  only_one : (now : Past) (r : Revision) (d : Draw) → is_ended now r ≡ false → (past : Past) → IsMore past now → IsRunOf starts says clusters sessions begin past → draw_of past r ≡ Some d → is_drawing_among (event.End r ∷ now) past d.session ≡ false
  only_one now r d unended [] more run h = never (ap is_some h)
  only_one now r d unended (event.End q ∷ past) more run h = only_one now r d unended past (λ x k. more x (or_right (is_same x q) _ k)) run.1 h
  only_one now r d unended (event.Draw e ∷ past) more run h = by (λ k. only_one now r d unended past more run.1 k) (is_same r e.revision) refl h
    where
      -- r itself has ended now
      gone : r ≡ e.revision → ((e.session == d.session) && not (is_same e.revision r || is_ended now e.revision)) ≡ false
      gone k = ap (λ b. (e.session == d.session) && not (b || is_ended now e.revision)) (subst (λ (x : Revision). is_same x r ≡ true) k (is_same_self r)) ∙ and_no (e.session == d.session)
        where
          and_no : (b : Bool) → (b && false) ≡ false
          and_no true = refl
          and_no false = refl

      before : e.session ≡ d.session → is_drawing_among (event.End r ∷ now) past d.session ≡ false
      before k = less_drawing past (event.End r ∷ now) (λ x t. or_right (is_same x r) _ (more x t)) past d.session (subst (λ (n : ℕ). is_drawing past n ≡ false) k run.0.idle)

      still : is_ended past r ≡ false
      still = open_ (is_ended past r) refl
        where
          open_ : (b : Bool) → is_ended past r ≡ b → b ≡ false
          open_ false k = refl
          open_ true k = never (sym unended ∙ more r k)

      other : (b : Bool) → (e.session == d.session) ≡ b → draw_of past r ≡ Some d → (b && not (is_same e.revision r || is_ended now e.revision)) ≡ false
      other false k t = refl
      other true k t = never (sym (subst (λ (n : ℕ). is_drawing past n ≡ false) (same_number e.session d.session k) run.0.idle) ∙ drawing past r d still past t)

      by : (draw_of past r ≡ Some d → is_drawing_among (event.End r ∷ now) past d.session ≡ false) → (b : Bool) → is_same r e.revision ≡ b → cond b (Some e) (draw_of past r) ≡ Some d → (((e.session == d.session) && not (is_same e.revision r || is_ended now e.revision)) || is_drawing_among (event.End r ∷ now) past d.session) ≡ false
      by rest true t k = or_none _ _ (gone (same_revision r e.revision t)) (before (ap (λ (x : Draw). x.session) (sym (some_is k))))
      by rest false f k = or_none _ _ (other (e.session == d.session) refl k) (rest k)
  only_one now r d unended (e ∷ past) more run h = only_one now r d unended past more run.1 h

  pub ended_idle : (past : Past) (r : Revision) (d : Draw) → IsRunOf starts says clusters sessions begin past → draw_of past r ≡ Some d → is_ended past r ≡ false → is_drawing (event.End r ∷ past) d.session ≡ false
  ended_idle past r d run drawn unended = only_one past r d unended past (λ x k. k) run drawn

-- an event that is no draw leaves a session idle
abbrev pub draws_nothing : Event → Bool
draws_nothing (event.Draw d) = false
draws_nothing _ = true

ends_more : (e : Event) (past : Past) → IsMore past (e ∷ past)
ends_more (event.End q) past r h = or_right (is_same r q) _ h
ends_more e past r h = h

pub still_idle : (e : Event) (past : Past) (s : ℕ) → draws_nothing e ≡ true → is_drawing past s ≡ false → is_drawing (e ∷ past) s ≡ false
still_idle (event.Draw d) past s n h = never n
still_idle e past s n h = less_drawing past (e ∷ past) (ends_more e past) past s h

-- who has a draw in flight behind such an event had it before
pub was_drawing : (e : Event) (past : Past) (s : ℕ) → draws_nothing e ≡ true → is_drawing (e ∷ past) s ≡ true → is_drawing past s ≡ true
was_drawing e past s n h = by (is_drawing past s) refl
  where
    by : (b : Bool) → is_drawing past s ≡ b → b ≡ true
    by true k = refl
    by false k = never (sym (still_idle e past s n k) ∙ h)

-- whether a session's node was stopped is as it was behind an event that is no stop
pub still_on : (sessions : List ℕ) (past : Past) (e : Event) → ((k : ℕ) → is_stop_of k e ≡ false) → (s : ℕ) → is_stopped_under sessions (e ∷ past) s ≡ is_stopped_under sessions past s
still_on sessions past e on s = by (slice_get sessions s)
  where
    by : (o : Option ℕ) → option_map_or (is_stopped (e ∷ past)) o false ≡ option_map_or (is_stopped past) o false
    by None = refl
    by (Some k) = ap (λ b. b || is_stopped past k) (on k)

-- an event that is no draw, no session's end and no stop leaves what is at work
pub work_quiet : (sessions : List ℕ) (past : Past) (running : ℕ → Option Running) (reading : ℕ → Option Reader) → AreAtWork sessions past running reading → (e : Event) → draws_nothing e ≡ true → ((q : ℕ) → is_end_of_session q e ≡ false) → ((k : ℕ) → is_stop_of k e ≡ false)
    → AreAtWork sessions (e ∷ past) running reading
work_quiet sessions past running reading work e draws ends on = record {
  idle = λ q h goes. still_idle e past q draws (work.idle q h (sym (still_on sessions past e on q) ∙ goes));
  stays = λ q x h. ap (λ b. b || has_left past q) (ends q) ∙ work.stays q x h;
  goes = λ q x h. still_on sessions past e on q ∙ work.goes q x h;
  reads = λ q r h. still_on sessions past e on q ∙ work.reads q r h;
  halted = λ q stopped drawing. ap (λ b. b || has_left past q) (ends q) ∙ work.halted q (sym (still_on sessions past e on q) ∙ stopped) (was_drawing e past q draws drawing);
}

-- a draw of another session too
pub drawn_idle : (d : Draw) (past : Past) (q : ℕ) → (q == d.session) ≡ false → is_drawing past q ≡ false → is_drawing (event.Draw d ∷ past) q ≡ false
drawn_idle d past q apart h = or_none ((d.session == q) && not (is_ended past d.revision)) _ (other (d.session == q) refl) (less_drawing past (event.Draw d ∷ past) (λ r k. k) past q h)
  where
    other : (b : Bool) → (d.session == q) ≡ b → (b && not (is_ended past d.revision)) ≡ false
    other false k = refl
    other true k = absurd (other_number q d.session apart (sym (same_number d.session q k)))

-- whoever draws behind another session's draw drew before
pub was_drawn : (d : Draw) (past : Past) (q : ℕ) → (q == d.session) ≡ false → is_drawing (event.Draw d ∷ past) q ≡ true → is_drawing past q ≡ true
was_drawn d past q apart h = by (is_drawing past q) refl
  where
    by : (b : Bool) → is_drawing past q ≡ b → b ≡ true
    by true k = refl
    by false k = never (sym (drawn_idle d past q apart k) ∙ h)
