-- What is found of a pass that was made, split or handed sessions.
use mathlib.Core.Bool.{false≢true}
use Rattle.std.proofs.Common.{◌≡◌, ◌≢◌, ℕ, zero, suc, ◌+◌, ◌<◌, ◌≤◌, Bool, true, false, cond, not, Option, Some, None, List, [], ◌∷◌, length, map, is_some, refl, sym, ap, subst, ◌∙◌, arith}
use mathlib.Core.Logic.{dite}
use native.Mathlib.Decide.{ℕ_discrete}
use Rattle.std.proofs.lemmas.List.{reverse-reverse}
use Rattle.std.specs.Prelude.{◌==◌, IfSome, reverse}
use Rattle.std.specs.List.{filter, range_with_len}
use Rattle.std.specs.Map.{lookup}
use Rattle.std.specs.Option.{option_and_then, option_map_or}
use Rattle.std.specs.Prelude.{slice_get}
use Rattle.oak_machine.specs.declared.event.Event.{Event}
use Rattle.oak_machine.specs.History.{Past}
use Rattle.oak_step.specs.declared.work.Work.TheVariants as work
use Rattle.oak_world.specs.Ends.{MayTell}
use Rattle.oak_world.specs.Worlds.{ActorState, WorldOf, idle, live, work_in}
use Rattle.core_world.proofs.Flights.{number_itself, same_number}
use Rattle.jr_shared.specs.Meanings.{Owned, own_events, owned_of}
use Rattle.jr_shared.specs.Ends.{may_tell}
use Rattle.jr_shared.specs.Holds.{IsTold, IsToldOf, PassKnown, first_known, has_seat, owned_by}
use Rattle.jr_shared.proofs.Ends.{seat_tells}
use Rattle.jr_shared.proofs.Got.{some_within}

-- found in a list that is filtered by the authors
found_filtered : {P : Type 0} (p : ℕ → Bool) (y : ℕ × P) (ys : List (ℕ × P)) (s : ℕ) → lookup (λ a. a == s) (filter (λ z. p z.0) ys) ≡ cond (p s) (lookup (λ a. a == s) ys) None
    → (b c : Bool) → p y.0 ≡ b → (y.0 == s) ≡ c → lookup (λ a. a == s) (cond b (y ∷ filter (λ z. p z.0) ys) (filter (λ z. p z.0) ys)) ≡ cond (p s) (cond c (Some y.1) (lookup (λ a. a == s) ys)) None
found_filtered {P} p y ys s rest true true has is =
    let pass : p s ≡ true = subst (λ (n : ℕ). p n ≡ true) (same_number y.0 s is) has in
    ap (λ b. cond b (Some y.1) (lookup (λ a. a == s) (filter (λ z. p z.0) ys))) is ∙ sym (ap (λ b. cond b (Some y.1) None) pass)
found_filtered {P} p y ys s rest true false has is = ap (λ b. cond b (Some y.1) (lookup (λ a. a == s) (filter (λ z. p z.0) ys))) is ∙ rest
found_filtered {P} p y ys s rest false true has is =
    let miss : p s ≡ false = subst (λ (n : ℕ). p n ≡ false) (same_number y.0 s is) has in
    rest ∙ (ap (λ b. cond b (lookup (λ a. a == s) ys) None) miss ∙ sym (ap (λ b. cond b (Some y.1) None) miss))
found_filtered {P} p y ys s rest false false has is = rest

pub found_among : {P : Type 0} (p : ℕ → Bool) (parts : List (ℕ × P)) (s : ℕ) → lookup (λ a. a == s) (filter (λ z. p z.0) parts) ≡ cond (p s) (lookup (λ a. a == s) parts) None
found_among {P} p [] s = by (p s)
  where
    by : (b : Bool) → ◌≡◌ {A = Option P} None (cond b None None)
    by true = refl
    by false = refl
found_among p (y ∷ ys) s = found_filtered p y ys s (found_among p ys s) (p y.0) (y.0 == s) refl refl

-- found in a list of the authors from k on, each with its part
found_next : {P : Type 0} (f : ℕ → P) (n k s : ℕ) → (k ≢ s → lookup (λ a. a == s) (map (λ a. (a, f a)) (range_with_len (k + 1) n)) ≡ Some (f s)) → (b : Bool) → (k == s) ≡ b
    → cond b (Some (f k)) (lookup (λ a. a == s) (map (λ a. (a, f a)) (range_with_len (k + 1) n))) ≡ Some (f s)
found_next f n k s rest true is = ap (λ m. Some (f m)) (same_number k s is)
found_next f n k s rest false is = rest (λ e. false≢true (sym is ∙ subst (λ (m : ℕ). (k == m) ≡ true) e (number_itself k)))

found_from : {P : Type 0} (f : ℕ → P) (n k s : ℕ) → k ≤ s → s < k + n → lookup (λ a. a == s) (map (λ a. (a, f a)) (range_with_len k n)) ≡ Some (f s)
found_from f zero k s low high = absurd (omega arith)
found_from f (suc n) k s low high = found_next f n k s (λ apart. found_from f n (k + 1) s (below k s low apart) (omega arith)) (k == s) refl
  where
    below : (k s : ℕ) → k ≤ s → k ≢ s → k + 1 ≤ s
    below k s low apart = dite (ℕ_discrete k s) (λ e. absurd (apart e)) (λ e. omega arith)

-- what is found there is told by its author
found_of : {P : Type 0} (f : ℕ → P) (names : List ℕ) (s : ℕ) (q : P) → lookup (λ a. a == s) (map (λ a. (a, f a)) names) ≡ Some q → q ≡ f s
found_of f [] s q h = absurd (false≢true (ap is_some h))
found_of {P} f (n ∷ names) s q h = by (n == s) refl (found_of f names s q) h
  where
    by : (b : Bool) → (n == s) ≡ b → (lookup (λ a. a == s) (map (λ a. (a, f a)) names) ≡ Some q → q ≡ f s) → cond b (Some (f n)) (lookup (λ a. a == s) (map (λ a. (a, f a)) names)) ≡ Some q → q ≡ f s
    by true is rest h = let e : f n ≡ q = cc in sym e ∙ ap f (same_number n s is)
    by false is rest h = rest h

told_at : (past : Past) (s : ℕ) (o : Option Owned) → (o ≡ None) → IfSome o (IsToldOf past s)
told_at past s None h = tt
told_at past s (Some p) h = absurd (false≢true (sym (ap is_some h)))

found_not : {A : Type 0} (b : Bool) (o : Option A) → cond (not b) o None ≡ cond b None o
found_not true o = refl
found_not false o = refl

-- found in a list without some authors
pub found_rest : {P : Type 0} (p : ℕ → Bool) (parts : List (ℕ × P)) (s : ℕ) → lookup (λ a. a == s) (filter (λ z. not (p z.0)) parts) ≡ cond (p s) None (lookup (λ a. a == s) parts)
found_rest p parts s = found_among (λ a. not (p a)) parts s ∙ found_not (p s) (lookup (λ a. a == s) parts)

module _ {L : Type 0} where
  -- the first pass has each session, and has seen all its events
  pub first_owns : (w : WorldOf L) (s : ℕ) → s < length w.history.sessions → owned_by (first_known w) s ≡ Some (owned_of w s)
  first_owns w s less = found_from (owned_of w) (length w.history.sessions) 0 s (omega arith) (omega (arith, less))

  pub first_seat : (w : WorldOf L) → length w.actors ≡ length w.history.sessions → (s : ℕ) → s < length w.history.sessions → has_seat (first_known w) s ≡ true
  first_seat w seats s less = ap (λ (o : Option Owned). is_some (option_and_then (λ p. p.seat) o)) (first_owns w s less) ∙ some_within w.actors s idle (subst (λ (n : ℕ). s < n) (sym seats) less)

  -- what a session owns of a world is told by all of its events
  pub told_of : (w : WorldOf L) → ((s : ℕ) (e : Event) → work_in w.actors s ≡ work.Told e → MayTell (live w.history) s e) → (s : ℕ) → IsToldOf (reverse (reverse w.history.past)) s (owned_of w s)
  told_of w told s = (
    ap (λ (xs : Past). own_events xs s) (sym (reverse-reverse w.history.past)),
    subst (λ (xs : Past). option_map_or (λ (a : ActorState). may_tell xs s a.work) (slice_get w.actors s) true ≡ true) (sym (reverse-reverse w.history.past)) (seat_tells w told s),
  )

  pub first_told : (w : WorldOf L) → ((s : ℕ) (e : Event) → work_in w.actors s ≡ work.Told e → MayTell (live w.history) s e) → IsTold (first_known w)
  first_told w told s = by (owned_by (first_known w) s) refl
    where
      by : (o : Option Owned) → owned_by (first_known w) s ≡ o → IfSome o (IsToldOf (reverse (reverse w.history.past)) s)
      by None is = tt
      by (Some q) is = subst (λ (p : Owned). IsToldOf (reverse (reverse w.history.past)) s p) (sym (found_of (owned_of w) (range_with_len 0 (length w.history.sessions)) s q is)) (told_of w told s)

  -- a pass of fewer sessions that has seen as much is told too
  pub told_among : (v w : PassKnown L) (p : ℕ → Bool) → w.seen ≡ v.seen → w.parts ≡ filter (λ z. p z.0) v.parts → IsTold v → IsTold w
  told_among v w p seen parts told s = by (p s) refl
    where
      found : owned_by w s ≡ cond (p s) (owned_by v s) None
      found = ap (λ xs. lookup (λ a. a == s) xs) parts ∙ found_among p v.parts s

      by : (b : Bool) → p s ≡ b → IfSome (owned_by w s) (IsToldOf (reverse w.seen) s)
      by true is = subst (λ (o : Option Owned). IfSome o (IsToldOf (reverse w.seen) s)) (sym (found ∙ ap (λ b. cond b (owned_by v s) None) is))
          (subst (λ xs. IfSome (owned_by v s) (IsToldOf (reverse xs) s)) (sym seen) (told s))
      by false is = told_at (reverse w.seen) s (owned_by w s) (found ∙ ap (λ b. cond b (owned_by v s) None) is)
