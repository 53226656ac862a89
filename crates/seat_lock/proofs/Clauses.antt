-- The rule of the lock gives its clauses.
use Rattle.std.proofs.Common.{inl, inr, slice_index, ◌≡◌, ◌≢◌, ℕ, zero, suc, ◌≤◌, List, [], ◌∷◌, ◌++◌, length, refl, sym, ap, ◌∙◌, subst, ⊎_elim, arith}
use Rattle.std.specs.Prelude.{slice_get}
use Rattle.std.specs.declared.option.Option as std
use Rattle.std.specs.declared.option.Option.TheVariants.{Some}
use mathlib.Core.Option.{Option, none, some}
use mathlib.Core.List.{IsPrefix}
use mathlib.Core.Logic.{dite}
use native.Mathlib.Decide.{ℕ_discrete}
use Rattle.seat_lock.specs.declared.counted.Counted.{Ghosts}
use Rattle.seat_lock.specs.declared.rule.Round.{Round}
use Rattle.seat_lock.specs.declared.rule.Round.TheVariants.{Idle, Turn, Out, Added}
use Rattle.seat_lock.specs.declared.rule.View.{View}
use Rattle.seat_lock.specs.Rule.{turn_word, LockState, Settled, HomeFits, Kept}
use Rattle.seat_lock.specs.Clauses.{Clauses, At, IsAtHome, IsSpent, turn_of}
use Rattle.seat_lock.proofs.Lists.{prefix_same, prefix_length}
use Rattle.seat_lock.proofs.Places.{in_order_within}
use Rattle.seat_lock.proofs.Steps.{busy_not_idle, free_or_busy, is_holder, home_at}

-- two beginnings of one list have the same elements
prefix_get : {A : Type 0} (xs zs : List A) (p : ℕ) (x : A) → IsPrefix xs zs → slice_get xs p ≡ Some x → slice_get zs p ≡ Some x
prefix_get [] zs p x h e = absurd (cc)
prefix_get (y ∷ xs) [] p x h e = absurd (cc)
prefix_get (y ∷ xs) (z ∷ zs) zero x h e = let head : y ≡ z = cc in subst (λ w. Some w ≡ Some x) head e
prefix_get (y ∷ xs) (z ∷ zs) (suc p) x h e = let rest : xs ++ h.0 ≡ zs = cc in prefix_get xs zs p x (h.0, rest) e

module _ {T E P F S : Type 0} (law : Ghosts T E P F S) where
  abbrev V : Type 0
  V = View T E P F S

  -- what is at home is settled
  settled_at_home : (ok : T → Type 0) (homes : List (Option (std.Option T))) (p : Round T) → HomeFits law ok p homes → (x : T) → homes ≡ some (Some x) ∷ [] → ok x
  settled_at_home ok homes Idle home x at = let same : home.0 ≡ x = cc (home.1, at) in subst ok same home.2
  settled_at_home ok homes Turn home x at = let same : home.0 ≡ x = cc (home.1, at) in subst ok same home.2
  settled_at_home ok homes (Out y) home x at = absurd (cc (home.0, at))
  settled_at_home ok homes Added home x at = let same : home.0 ≡ x = cc (home.1, at) in subst ok same home.2

  -- where nothing is at home, the holder has what was there
  out_where_away : (ok : T → Type 0) (homes : List (Option (std.Option T))) (p : Round T) → HomeFits law ok p homes → homes ≡ none ∷ [] → (x : T) × (p ≡ Out x) × ok x
  out_where_away ok homes Idle home away = absurd (cc (home.1, away))
  out_where_away ok homes Turn home away = absurd (cc (home.1, away))
  out_where_away ok homes (Out y) home away = (y, refl, home.1)
  out_where_away ok homes Added home away = absurd (cc (home.1, away))

  module _ (s : LockState T E P F S) (r : Kept law s) where
    turn : turn_of s ≡ turn_word r.phase
    turn = ap (λ ws. slice_index ws 0) r.words

    count : length r.events ≡ slice_index s.words 1
    count = sym (ap (λ ws. slice_index ws 1) r.words)

    settled : (x : T) → IsAtHome s x → Settled law r.events r.parts r.common_frame r.steady x
    settled x at = settled_at_home (Settled law r.events r.parts r.common_frame r.steady) s.homes r.phase r.home x at

    live_weight : (by : ℕ) (v : V) → At s by v → (IsSpent v → ⊥) → 1 ≤ v.weight
    live_weight by v at live = dite (ℕ_discrete v.weight 0) (λ none. absurd (live ((r.each by v at).knows.spent_is none))) (λ some. omega arith)

    -- who has the turn is at the phase
    phase_is : (by : ℕ) (v : V) → At s by v → v.round ≢ Idle → r.phase ≡ v.round
    phase_is by v at busy = sym ((r.each by v at).here (is_holder law s r by v at busy))

    loaded_phase : (by : ℕ) (v : V) (x : T) → At s by v → v.round ≡ Out x → HomeFits law (Settled law r.events r.parts r.common_frame r.steady) (Out x) s.homes
    loaded_phase by v x at out = home_at law s r (Out x) (phase_is by v at (busy_not_idle v.round (ap turn_word out)) ∙ out)

    pub clauses_of : Clauses law s
    clauses_of = record {
      events = r.events;
      events_are_counted = count;
      turn_is = ⊎_elim (λ (free : r.phase ≡ Idle). inl (turn ∙ ap turn_word free)) (λ busy. inr (turn ∙ busy)) (free_or_busy r.phase);
      one_turn = (
        (λ one.
            let busy : turn_word r.phase ≡ 1 = sym turn ∙ one in
            let p = r.present busy in
            let fit = r.each r.holder p.0 p.1 in
            let in_round : p.0.round ≢ Idle = λ idle. busy_not_idle r.phase busy (sym (fit.here refl) ∙ idle) in (
              r.holder,
              p.0,
              p.1,
              λ spent. in_round (ap (λ v. v.round) spent),
              in_round,
              λ other w at its. is_holder law s r other w at its,
            )),
        (λ holder. ⊎_elim
            (λ (free : r.phase ≡ Idle). absurd (holder.4 (sym (phase_is holder.0 holder.1 holder.2 holder.4) ∙ free)))
            (λ busy. turn ∙ busy)
            (free_or_busy r.phase)),
      );
      seen_is_counted = λ by v at. let size = prefix_length v.seen r.events (r.each by v at).knows.seen_is in omega (arith, count);
      places_in_order = λ by v at. (r.each by v at).knows.in_order;
      places_are_below = λ by v p at has. (in_order_within 0 v.places (length v.seen) p (r.each by v at).knows.in_order has).1;
      places_are_apart = λ by other v w p at there has too. sym ((r.each other w there).knows.places_are p too) ∙ (r.each by v at).knows.places_are p has;
      same_event = λ by other v w p d e at there one two.
          let first = prefix_get v.seen r.events p d (r.each by v at).knows.seen_is one in
          let second = prefix_get w.seen r.events p e (r.each other w there).knows.seen_is two in
          cc;
      seen_begins = λ by v at. (r.each by v at).knows.seen_is;
      seen_begins_home = λ by v x at home. subst (IsPrefix v.seen) (sym (settled x home).journal_is) (r.each by v at).knows.seen_is;
      home_where_free = λ free. ⊎_elim
          (λ (is : r.phase ≡ Idle). let home = home_at law s r Idle is in (home.0, home.1, ap length home.2.journal_is ∙ count))
          (λ busy. absurd (omega (arith, turn, busy, free)))
          (free_or_busy r.phase);
      home_where_taken = λ _ x home. subst (IsPrefix r.events) (sym (settled x home).journal_is) (prefix_same r.events);
      home_once_added = λ by v at added.
          let home = home_at law s r Added (phase_is by v at (busy_not_idle v.round (ap turn_word added)) ∙ added) in
          (home.0, home.1, ap length home.2.journal_is ∙ count);
      authors_are_apart = λ by other v w a at there one two. sym ((r.each other w there).knows.parts_are a two.0 two.1).1 ∙ ((r.each by v at).knows.parts_are a one.0 one.1).1;
      weights = r.weights;
      weight_where_live = live_weight;
      weight_where_spent = λ by v at spent. ap (λ u. u.weight) spent;
      one_frame = λ by other v w at there live too. (r.each by v at).knows.frame_is (live_weight by v at live) ∙ sym ((r.each other w there).knows.frame_is (live_weight other w there too));
      frame_at_home = λ by v x at live home. (r.each by v at).knows.frame_is (live_weight by v at live) ∙ ap Some (sym (settled x home).frame_is);
      parts_at_home = λ by v a q x at has home. (settled x home).parts_are a ∙ sym ((r.each by v at).knows.parts_are a q has).0;
      parts_got = λ by v a q x at has out. (loaded_phase by v x at out).1.parts_are a ∙ sym ((r.each by v at).knows.parts_are a q has).0;
      holder_where_away = λ away.
          let out = out_where_away (Settled law r.events r.parts r.common_frame r.steady) s.homes r.phase r.home away in
          let p = r.present (ap turn_word out.1) in
          let fit = r.each r.holder p.0 p.1 in
          let loaded : p.0.round ≡ Out out.0 = fit.here refl ∙ out.1 in (
            r.holder,
            p.0,
            out.0,
            p.1,
            loaded,
            ap length (fit.knows.out_is out.0 loaded ∙ out.2.journal_is) ∙ count,
            λ other w a q there has. out.2.parts_are a ∙ sym ((r.each other w there).knows.parts_are a q has).0,
          );
      away_where_loaded = λ by v x at out. ((loaded_phase by v x at out).0, (r.each by v at).knows.out_is x out);
    }
