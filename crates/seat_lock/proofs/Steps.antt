-- Each kind of step keeps the rule of the lock.
use Rattle.std.proofs.Common.{Bool, true, false, not, cond, nat_lt, ◌&&◌, length-set, ◌+◌, ◌-◌, ◌%◌, ◌^◌, ◌⊎◌, inl, inr, slice_index, nat_le, ◌≡◌, ◌≢◌, ℕ, zero, suc, ◌<◌, ◌≤◌, ◌==◌, List, [], ◌∷◌, length, set, refl, sym, ap, ◌∙◌, subst, ⊎_elim, arith, Contains}
use Rattle.std.specs.List.{range_with_len, list_any}
use Rattle.std.specs.declared.option.Option as std
use Rattle.std.specs.declared.option.Option.TheVariants.{Some}
use Rattle.std.proofs.lemmas.Bool.Decides.{nat_tests}
use Rattle.std.proofs.lemmas.List.Elements.{Contains-append_cases}
use mathlib.Core.Option.{none, some, some-injective, some-ne-none}
use mathlib.Core.List.{IsPrefix}
use mathlib.Core.Logic.{dite}
use native.Mathlib.Decide.{ℕ_discrete}
use lib.ListN.{get_elem?}
use prog.Atomic.{either}
use Rattle.atomic_table.specs.Table.{step, Act, keeps, takes, gives, Allows, stepped, Valid, homes_after, carried_after, Splits, Joins, opening}
use Rattle.atomic_table.proofs.Lists.{set_again, set_else, at_longer}
use Rattle.seat_lock.specs.declared.counted.Counted.{Ghosts}
use Rattle.seat_lock.specs.declared.rule.Round.{Round}
use Rattle.seat_lock.specs.declared.rule.Round.TheVariants.{Idle, Turn, Out, Added}
use Rattle.seat_lock.specs.declared.rule.View.{View}
use Rattle.seat_lock.specs.Views.{OwnsPart, InOrder, is_one_of, longer, of_longer, shorter, spent_view, with_round, first_view, loaded, added, kept_back, handed, joined}
use Rattle.seat_lock.specs.Rule.{total, turn_word, LockState, LockMe, Settled, HomeFits, Knows, Fits, Kept, TakesTurn, Loads, Adds, GivesTurn, Looks}
use Rattle.seat_lock.proofs.Lists.{each_set, set_at, Somewhere, somewhere_set, somewhere_longer, same_total, total_set, total_end, total_two, at_end, within, prefix_same, prefix_trans, prefix_length, prefix_whole, Longer, longer_is, contains_none, contains_filter, contains_told, contains_retold}
use Rattle.seat_lock.proofs.Places.{in_order_raised, in_order_within, in_order_extended, in_order_merged, contains_range, contains_merged}

pub not_true : (b : Bool) → not b ≡ true → b ≡ false
not_true true e = absurd (cc)
not_true false e = refl

and_false : (b : Bool) → (b && false) ≡ false
and_false true = refl
and_false false = refl

pub busy_not_idle : {T : Type 0} (r : Round T) → turn_word r ≡ 1 → r ≡ Idle → ⊥
busy_not_idle r one idle = let none : turn_word r ≡ 0 = ap turn_word idle in absurd (omega arith)

pub free_or_busy : {T : Type 0} (r : Round T) → (r ≡ Idle) ⊎ (turn_word r ≡ 1)
free_or_busy Idle = inl refl
free_or_busy Turn = inr refl
free_or_busy (Out x) = inr refl
free_or_busy Added = inr refl

-- the owner of an author or a place that n has taken from id
abbrev moved_to : (ℕ → Bool) → ℕ → ℕ → (ℕ → ℕ) → ℕ → ℕ
moved_to picks n id owner a = cond (picks a && (owner a == id)) n (owner a)

stays_with : (picks : ℕ → Bool) (n id : ℕ) (owner : ℕ → ℕ) (a : ℕ) → owner a ≢ id → moved_to picks n id owner a ≡ owner a
stays_with picks n id owner a not = let miss : (owner a == id) ≡ false = grind (arith, nat_tests) in rw (miss, and_false) refl

module _ {T E P F S : Type 0} (law : Ghosts T E P F S) where
  abbrev V : Type 0
  V = View T E P F S

  abbrev St : Type 0
  St = LockState T E P F S

  abbrev M : Type 0
  M = LockMe T E P F S

  abbrev Rule : St → Type 0
  Rule = Kept law

  -- a view other than id's is idle, where id has the turn or nobody has it
  idle_others : (s : St) (r : Rule s) (id : ℕ) → (r.phase ≡ Idle) ⊎ (id ≡ r.holder) → (j : ℕ) (u : V) → j ≢ id → get_elem? s.views j ≡ some u → u.round ≡ Idle
  idle_others s r id why j u apart e =
      let k = r.each j u e in
      dite (ℕ_discrete j r.holder)
      (λ is. ⊎_elim (λ (free : r.phase ≡ Idle). k.here is ∙ free) (λ (mine : id ≡ r.holder). absurd (apart (is ∙ sym mine))) why)
      (λ not. k.elsewhere not)

  -- who is in a round is the holder, and the phase is its round
  pub is_holder : (s : St) (r : Rule s) (id : ℕ) (v : V) → get_elem? s.views id ≡ some v → (v.round ≡ Idle → ⊥) → id ≡ r.holder
  is_holder s r id v at busy = dite (ℕ_discrete id r.holder) (λ is. is) (λ not. absurd (busy ((r.each id v at).elsewhere not)))

  words_at : (s : St) (r : Rule s) (p : Round T) → r.phase ≡ p → s.words ≡ turn_word p ∷ length r.events ∷ []
  words_at s r p is = r.words ∙ ap (λ q. turn_word q ∷ length r.events ∷ []) is

  pub home_at : (s : St) (r : Rule s) (p : Round T) → r.phase ≡ p → HomeFits law (Settled law r.events r.parts r.common_frame r.steady) p s.homes
  home_at s r p is = subst (λ q. HomeFits law (Settled law r.events r.parts r.common_frame r.steady) q s.homes) is r.home

  -- the rule after a step in which one view changes, and the events do not
  moved : (s : St) (r : Rule s) (i n id : ℕ) (c : List (ℕ × std.Option T)) (w : V) (a : Act (std.Option T))
      → set s.words i n ≡ turn_word w.round ∷ length r.events ∷ []
      → HomeFits law (Settled law r.events r.parts r.common_frame r.steady) w.round (homes_after s.homes c a)
      → ((j : ℕ) (u : V) → j ≢ id → get_elem? s.views j ≡ some u → u.round ≡ Idle)
      → (v : V) → get_elem? s.views id ≡ some v → w.weight ≡ v.weight → (v.seen ≡ r.events → w.seen ≡ r.events)
      → Knows law r.events r.parts r.common_frame r.steady r.owner r.placed id w
      → Rule (stepped s i n id c w a)
  moved s r i n id c w a words home others v at weight seen knows = record {
    events = r.events;
    parts = r.parts;
    common_frame = r.common_frame;
    steady = r.steady;
    owner = r.owner;
    placed = r.placed;
    holder = id;
    phase = w.round;
    words = words;
    home = home;
    each = each_set (Fits law r.events r.parts r.common_frame r.steady r.owner r.placed id w.round) s.views id w
        (λ j u apart e. record { here = λ is. absurd (apart is); elsewhere = λ _. others j u apart e; knows = (r.each j u e).knows })
        (record { here = λ _. refl; elsewhere = λ not. absurd (not refl); knows = knows });
    weights = same_total (λ u. u.weight) s.views id v w at weight ∙ r.weights;
    present = λ _. (w, set_at s.views id w v at);
    newest = somewhere_set (λ u. u.seen ≡ r.events) s.views id v w at seen r.newest;
  }

  -- the rule after a step that changes nothing
  unmoved : (s : St) (r : Rule s) (i n id : ℕ) (c : List (ℕ × std.Option T)) (v : V) → set s.words i n ≡ s.words → get_elem? s.views id ≡ some v → Rule (stepped s i n id c v keeps)
  unmoved s r i n id c v same at = record {
    events = r.events;
    parts = r.parts;
    common_frame = r.common_frame;
    steady = r.steady;
    owner = r.owner;
    placed = r.placed;
    holder = r.holder;
    phase = r.phase;
    words = same ∙ r.words;
    home = r.home;
    each = λ j u e. r.each j u (subst (λ l. get_elem? l j ≡ some u) (set_again s.views id v at) e);
    weights = ap (total (λ u. u.weight)) (set_again s.views id v at) ∙ r.weights;
    present = λ one. subst (λ l. (u : V) × (get_elem? l r.holder ≡ some u)) (sym (set_again s.views id v at)) (r.present one);
    newest = subst (Somewhere (λ (u : V). u.seen ≡ r.events)) (sym (set_again s.views id v at)) r.newest;
  }

  -- kind 1: the turn is taken, or the step changes nothing
  abbrev TriedFrom : (slots id : ℕ) (m : M) (s : St) → ℕ → Type 0
  TriedFrom slots id m s n = (w : V) × (a : Act (std.Option T)) × Valid s.homes m.1 a × Rule (stepped s 0 (either (n == 0) 1 n) id m.1 w a) × TakesTurn (step slots 0 0 1 none) m n (w, carried_after m.1 a)

  tries_busy : (slots id : ℕ) (m : M) (s : St) (r : Rule s) → get_elem? s.views id ≡ some m.0 → turn_word r.phase ≡ 1 → TriedFrom slots id m s 1
  tries_busy slots id m s r at one =
      let words : s.words ≡ 1 ∷ length r.events ∷ [] = r.words ∙ ap (λ b. b ∷ length r.events ∷ []) one in (
        m.0,
        keeps,
        tt,
        unmoved s r 0 1 id m.1 m.0 (ap (λ ws. set ws 0 1) words ∙ sym words) at,
        record { got = λ e. absurd (omega arith); missed = λ _. refl; slots = refl },
      )

  tries_at : (slots id : ℕ) (m : M) → 0 < m.0.weight → (s : St) (r : Rule s) → get_elem? s.views id ≡ some m.0 → (p : Round T) → r.phase ≡ p → TriedFrom slots id m s (turn_word p)
  tries_at slots id m heavy s r at Idle is =
      let w : V = with_round Turn m.0 in
      let fit = r.each id m.0 at in
      let k = fit.knows in
      let idle : m.0.round ≡ Idle = dite (ℕ_discrete id r.holder) (λ mine. fit.here mine ∙ is) (λ not. fit.elsewhere not) in (
        w,
        keeps,
        tt,
        moved s r 0 1 id m.1 w keeps (ap (λ ws. set ws 0 1) (words_at s r Idle is)) (home_at s r Idle is) (idle_others s r id (inl is)) m.0 at refl (λ seen. seen)
            (record { spent_is = λ none. absurd (omega arith); frame_is = k.frame_is; seen_is = k.seen_is; steady_is = k.steady_is; out_is = λ x e. absurd (cc); earlier_is = k.earlier_is; parts_are = k.parts_are; in_order = k.in_order; places_are = k.places_are }),
        record { got = λ _. (idle, refl); missed = λ not. absurd (not refl); slots = refl },
      )
  tries_at slots id m heavy s r at Turn is = tries_busy slots id m s r at (ap turn_word is)
  tries_at slots id m heavy s r at (Out x) is = tries_busy slots id m s r at (ap turn_word is)
  tries_at slots id m heavy s r at Added is = tries_busy slots id m s r at (ap turn_word is)

  pub takes_turn : (slots id : ℕ) (m : M) → 0 < m.0.weight → Allows Rule slots id m 0 (λ n. either (n == 0) 1 n) (TakesTurn (step slots 0 0 1 none) m)
  takes_turn slots id m heavy s r _ at _ =
      let found : turn_word r.phase ≡ slice_index s.words 0 = sym (ap (λ ws. slice_index ws 0) r.words) in
      subst (TriedFrom slots id m s) found (tries_at slots id m heavy s r at r.phase refl)

  -- kinds 2 and 3: the count is loaded, and the value is out
  pub loads : (slots id : ℕ) (m : M) → m.0.round ≡ Turn → Allows Rule slots id m 1 (λ n. n) (Loads law (step slots 1 0 0 none) m)
  loads slots id m turn s r _ at _ =
      let fit = r.each id m.0 at in
      let k = fit.knows in
      let busy : m.0.round ≡ Idle → ⊥ = busy_not_idle m.0.round (ap turn_word turn) in
      let mine = is_holder s r id m.0 at busy in
      let is : r.phase ≡ Turn = sym (fit.here mine) ∙ turn in
      let home = home_at s r Turn is in
      let x : T = home.0 in
      let ok = home.2 in
      let words = words_at s r Turn is in
      let w : V = loaded law x m.0 in
      let more : IsPrefix m.0.seen (law.journal x) = subst (IsPrefix m.0.seen) (sym ok.journal_is) k.seen_is in
      let From : ℕ → Type 0 = λ n. (w : V) × (a : Act (std.Option T)) × Valid s.homes m.1 a × Rule (stepped s 1 n id m.1 w a) × Loads law (step slots 1 0 0 none) m n (w, carried_after m.1 a) in
      subst From (sym (ap (λ ws. slice_index ws 1) words)) (
        w,
        takes 0 (Some x),
        ap (λ hs. get_elem? hs 0) home.1,
        moved s r 1 (length r.events) id m.1 w (takes 0 (Some x)) (ap (λ ws. set ws 1 (length r.events)) words) (ap (λ hs. set hs 0 none) home.1, ok) (idle_others s r id (inr mine)) m.0 at refl (λ _. ok.journal_is)
            (record {
              spent_is = λ none. absurd (busy (ap (λ v. v.round) (k.spent_is none)));
              frame_is = k.frame_is;
              seen_is = subst (λ l. IsPrefix l r.events) (sym ok.journal_is) (prefix_same r.events);
              steady_is = λ _ _. ap Some ok.steady_is;
              out_is = λ y (e : Out x ≡ Out y). let same : x ≡ y = cc in ap (λ z. law.journal z) same;
              earlier_is = prefix_trans m.0.earlier m.0.seen (law.journal x) k.earlier_is more;
              parts_are = k.parts_are;
              in_order = in_order_raised 0 m.0.places (length m.0.seen) (length (law.journal x)) k.in_order (prefix_length m.0.seen (law.journal x) more);
              places_are = k.places_are;
            }),
        (
          x,
          record {
            had_turn = turn;
            view = refl;
            slots = refl;
            longer = more;
            count = ap length ok.journal_is;
            frame_is = λ some. k.frame_is some ∙ ap Some (sym ok.frame_is);
            steady_is = λ some all. k.steady_is some (all ∙ ok.journal_is) ∙ ap Some (sym ok.steady_is);
            parts_are = λ b q has. ok.parts_are b ∙ sym (k.parts_are b q has).0;
          },
        ),
      )

  -- kinds 4 and 5: the value is home, and the new events are counted
  pub adds : (slots id k : ℕ) (m : V) (v x : T) → m.round ≡ Out v → IsPrefix (law.journal v) (law.journal x) → law.frame x ≡ law.frame v → ((a : ℕ) → (((q : P) × OwnsPart m a q) → ⊥) → law.part x a ≡ law.part v a)
      → (law.journal x ≡ law.journal v → law.steady x ≡ law.steady v)
      → length (law.journal x) ≡ length (law.journal v) + k → length (law.journal x) < 2 ^ 64
      → Allows Rule slots id (m, (0, Some x) ∷ []) 1 (λ n. (n + k) % 2 ^ 64) (Adds law (step slots 1 k 0 none) (m, (0, Some x) ∷ []))
  adds slots id k m v x out longer same_frame others same_steady more fits s r _ at _ =
      let fit = r.each id m at in
      let known = fit.knows in
      let busy : m.round ≡ Idle → ⊥ = busy_not_idle m.round (ap turn_word out) in
      let mine = is_holder s r id m at busy in
      let is : r.phase ≡ Out v = sym (fit.here mine) ∙ out in
      let home = home_at s r (Out v) is in
      let ok = home.1 in
      let words = words_at s r (Out v) is in
      let w : V = added law x m in
      let count : length (law.journal v) ≡ length r.events = ap length ok.journal_is in
      let seen : length m.seen ≡ length r.events = ap length (known.out_is v out ∙ ok.journal_is) in
      let sum : (length r.events + k) % 2 ^ 64 ≡ length (law.journal x) = omega (arith, count, more, fits) in
      let goes_on : IsPrefix r.events (law.journal x) = subst (λ l. IsPrefix l (law.journal x)) ok.journal_is longer in
      let placed : ℕ → ℕ = λ p. cond (nat_lt p (length r.events)) (r.placed p) id in
      let old : (p : ℕ) → p < length r.events → placed p ≡ r.placed p = λ p less. let hit : nat_lt p (length r.events) ≡ true = grind (arith, nat_tests) in rw hit refl in
      let new : (p : ℕ) → length r.events ≤ p → placed p ≡ id = λ p less. let miss : nat_lt p (length r.events) ≡ false = grind (arith, nat_tests) in rw miss refl in
      let in_order : InOrder 0 w.places (length (law.journal x)) = subst (InOrder 0 w.places) (omega (arith, count, more, seen)) (in_order_extended 0 m.places (length m.seen) (length (law.journal x) - length m.seen) known.in_order) in
      let From : ℕ → Type 0 = λ n. (w : V) × (a : Act (std.Option T)) × Valid s.homes ((0, Some x) ∷ []) a × Rule (stepped s 1 ((n + k) % 2 ^ 64) id ((0, Some x) ∷ []) w a) × Adds law (step slots 1 k 0 none) (m, (0, Some x) ∷ []) n (w, carried_after ((0, Some x) ∷ []) a) in
      subst From (sym (ap (λ ws. slice_index ws 1) words)) (
        w,
        gives,
        tt,
        record {
          events = law.journal x;
          parts = law.part x;
          common_frame = r.common_frame;
          steady = law.steady x;
          owner = r.owner;
          placed = placed;
          holder = id;
          phase = Added;
          words = ap (λ ws. set ws 1 ((length r.events + k) % 2 ^ 64)) words ∙ ap (λ n. 1 ∷ n ∷ []) sum;
          home = (x, ap (λ hs. set hs 0 (some (Some x))) home.0, record { journal_is = refl; parts_are = λ b. refl; frame_is = same_frame ∙ ok.frame_is; steady_is = refl });
          each = each_set (Fits law (law.journal x) (law.part x) r.common_frame (law.steady x) r.owner placed id Added) s.views id w
              (λ j u apart e. let o = (r.each j u e).knows in record {
                here = λ same. absurd (apart same);
                elsewhere = λ _. idle_others s r id (inr mine) j u apart e;
                knows = record {
                  spent_is = o.spent_is;
                  frame_is = o.frame_is;
                  seen_is = prefix_trans u.seen r.events (law.journal x) o.seen_is goes_on;
                  steady_is = λ some all.
                      let short = prefix_length u.seen r.events o.seen_is in
                      let long = prefix_length r.events (law.journal x) goes_on in
                      let size = ap length all in
                      let none_new : r.events ≡ law.journal x = prefix_whole r.events (law.journal x) goes_on (omega arith) in
                      o.steady_is some (all ∙ sym none_new) ∙ ap Some (sym ok.steady_is ∙ sym (same_steady (sym none_new ∙ sym ok.journal_is)));
                  out_is = o.out_is;
                  earlier_is = o.earlier_is;
                  parts_are = λ b q has. let own = o.parts_are b q has in (own.0 ∙ sym (ok.parts_are b) ∙ sym (others b (λ n. apart (sym own.1 ∙ (known.parts_are b n.0 n.1).1))), own.1);
                  in_order = o.in_order;
                  places_are = λ p has.
                      let under = in_order_within 0 u.places (length u.seen) p o.in_order has in
                      let below = under.1 in
                      let size = prefix_length u.seen r.events o.seen_is in
                      old p (omega arith) ∙ o.places_are p has;
                };
              })
              (record {
                here = λ _. refl;
                elsewhere = λ not. absurd (not refl);
                knows = record {
                  spent_is = λ none. absurd (busy (ap (λ u. u.round) (known.spent_is none)));
                  frame_is = known.frame_is;
                  seen_is = prefix_same (law.journal x);
                  steady_is = λ _ _. refl;
                  out_is = λ y e. absurd (cc);
                  earlier_is = prefix_trans m.earlier m.seen (law.journal x) known.earlier_is (prefix_trans m.seen r.events (law.journal x) known.seen_is goes_on);
                  parts_are = λ b q has. let t = contains_retold (law.part x) m.parts b q has in (t.0, (known.parts_are b t.1.0 t.1.1).1);
                  in_order = in_order;
                  places_are = λ p has. ⊎_elim
                      (λ (has' : Contains m.places p).
                      let under = in_order_within 0 m.places (length m.seen) p known.in_order has' in
                      let below = under.1 in
                      old p (omega arith) ∙ known.places_are p has')
                      (λ (has' : Contains (range_with_len (length m.seen) (length (law.journal x) - length m.seen)) p).
                      let above = contains_range (length m.seen) (length (law.journal x) - length m.seen) p has' in
                      new p (omega arith))
                      (Contains-append_cases m.places (range_with_len (length m.seen) (length (law.journal x) - length m.seen)) p has);
                };
              });
          weights = same_total (λ u. u.weight) s.views id m w at refl ∙ r.weights;
          present = λ _. (w, set_at s.views id w m at);
          newest = (id, w, set_at s.views id w m at, refl);
        },
        (x, refl, record { had_out = (v, out); had_seen = known.out_is; view = refl; slots = refl; in_order = in_order }),
      )

  -- kind 6: the turn is given up
  pub gives_turn : (slots id : ℕ) (m : M) → m.0.round ≡ Added → Allows Rule slots id m 0 (λ _. 0) (λ _. GivesTurn (step slots 0 0 0 none) m 0)
  gives_turn slots id m counted s r _ at _ =
      let fit = r.each id m.0 at in
      let k = fit.knows in
      let busy : m.0.round ≡ Idle → ⊥ = busy_not_idle m.0.round (ap turn_word counted) in
      let mine = is_holder s r id m.0 at busy in
      let is : r.phase ≡ Added = sym (fit.here mine) ∙ counted in
      let w : V = with_round Idle m.0 in (
        w,
        keeps,
        tt,
        moved s r 0 0 id m.1 w keeps (ap (λ ws. set ws 0 0) (words_at s r Added is)) (home_at s r Added is) (idle_others s r id (inr mine)) m.0 at refl (λ seen. seen)
            (record { spent_is = λ none. absurd (busy (ap (λ v. v.round) (k.spent_is none))); frame_is = k.frame_is; seen_is = k.seen_is; steady_is = k.steady_is; out_is = λ x e. absurd (cc); earlier_is = k.earlier_is; parts_are = k.parts_are; in_order = k.in_order; places_are = k.places_are }),
        record { had_added = counted; view = refl; slots = refl },
      )

  -- the turn is read
  pub looks : (slots id : ℕ) (m : M) → Allows Rule slots id m 0 (λ n. n) (Looks (step slots 0 0 0 none) m)
  looks slots id m s r _ at _ =
      let k = (r.each id m.0 at).knows in
      let From : ℕ → Type 0 = λ n. (w : V) × (a : Act (std.Option T)) × Valid s.homes m.1 a × Rule (stepped s 0 n id m.1 w a) × Looks (step slots 0 0 0 none) m n (w, carried_after m.1 a) in
      subst From (sym (ap (λ ws. slice_index ws 0) r.words)) (
        m.0,
        keeps,
        tt,
        unmoved s r 0 (turn_word r.phase) id m.1 m.0 (ap (λ ws. set ws 0 (turn_word r.phase)) r.words ∙ sym r.words) at,
        record { same = refl; earlier = k.earlier_is; in_order = k.in_order },
      )

  -- kind 7: a view is split in two
  pub splits : (id : ℕ) (m : V) (names : List ℕ) → 1 < m.weight → Splits Rule id m (kept_back names m) (handed names m)
  splits id m names heavy s r at =
      let left : V = kept_back names m in
      let right : V = handed names m in
      let fit = r.each id m at in
      let k = fit.knows in
      let vs : List V = set s.views id left in
      let n : ℕ = length vs in
      let owner : ℕ → ℕ = moved_to (is_one_of names) n id r.owner in
      let Q : ℕ → V → Type 0 = Fits law r.events r.parts r.common_frame r.steady owner r.placed r.holder r.phase in
      let size : n ≡ length s.views = length-set s.views id left in
      let fit_left : Q id left = record {
        here = fit.here;
        elsewhere = fit.elsewhere;
        knows = record {
          spent_is = λ none. absurd (omega arith);
          frame_is = λ some. k.frame_is (omega arith);
          seen_is = k.seen_is;
          steady_is = λ some. k.steady_is (omega arith);
          out_is = k.out_is;
          earlier_is = k.earlier_is;
          parts_are = λ b q has.
              let t = contains_filter (λ (y : ℕ × P). not (is_one_of names y.0)) m.parts (b, q) has in
              let own = k.parts_are b q t.1 in
              let none : list_any (λ x. x == b) names ≡ false = not_true _ t.0 in
              (own.0, rw none own.1);
          in_order = k.in_order;
          places_are = k.places_are;
        };
      } in
      let fit_right : Q n right = record {
        here = λ is. ⊎_elim (λ (free : r.phase ≡ Idle). sym free) (λ busy. let p = r.present busy in let less = within s.views r.holder p.0 p.1 in absurd (omega arith)) (free_or_busy r.phase);
        elsewhere = λ _. refl;
        knows = record {
          spent_is = λ none. absurd (omega arith);
          frame_is = λ _. k.frame_is (omega arith);
          seen_is = k.seen_is;
          steady_is = λ _. k.steady_is (omega arith);
          out_is = λ x e. absurd (cc);
          earlier_is = (m.seen, refl);
          parts_are = λ b q has.
              let t = contains_filter (λ (y : ℕ × P). is_one_of names y.0) m.parts (b, q) has in
              let own = k.parts_are b q t.1 in
              let named : list_any (λ x. x == b) names ≡ true = t.0 in
              let hit : (r.owner b == id) ≡ true = grind (arith, nat_tests, own.1) in
              (own.0, rw (named, hit) refl);
          in_order = omega arith;
          places_are = λ p has. absurd (contains_none p has);
        };
      } in
      record {
        events = r.events;
        parts = r.parts;
        common_frame = r.common_frame;
        steady = r.steady;
        owner = owner;
        placed = r.placed;
        holder = r.holder;
        phase = r.phase;
        words = r.words;
        home = r.home;
        each = λ j u e. ⊎_elim
            (λ (old : get_elem? vs j ≡ some u). each_set Q s.views id left
            (λ i z apart h. let o = r.each i z h in record {
              here = o.here;
              elsewhere = o.elsewhere;
              knows = record {
                spent_is = o.knows.spent_is;
                frame_is = o.knows.frame_is;
                seen_is = o.knows.seen_is;
                steady_is = o.knows.steady_is;
                out_is = o.knows.out_is;
                earlier_is = o.knows.earlier_is;
                parts_are = λ b q has. let own = o.knows.parts_are b q has in (own.0, stays_with (is_one_of names) n id r.owner b (λ is. apart (sym own.1 ∙ is)) ∙ own.1);
                in_order = o.knows.in_order;
                places_are = o.knows.places_are;
              };
            })
            fit_left j u old)
            (λ (t : (j ≡ n) × (right ≡ u)). subst (λ (y : ℕ × V). Q y.0 y.1) (λ i. (sym t.0 i, t.1 i)) fit_right)
            (at_end vs right u j e);
        weights =
            let one = total_end (λ (u : V). u.weight) vs right in
            let two = total_set (λ (u : V). u.weight) s.views id m left at in
            let all = r.weights in
            omega arith;
        present = λ busy.
            let p = r.present busy in
            dite (ℕ_discrete r.holder id)
            (λ is. (left, at_longer vs (right ∷ []) r.holder left (subst (λ h. get_elem? vs h ≡ some left) (sym is) (set_at s.views id left m at))))
            (λ not. (p.0, at_longer vs (right ∷ []) r.holder p.0 (set_else s.views id r.holder left not ∙ p.1)));
        newest = somewhere_longer (λ u. u.seen ≡ r.events) vs (right ∷ []) (somewhere_set (λ u. u.seen ≡ r.events) s.views id m left at (λ seen. seen) r.newest);
      }

  -- what a view has seen, once it has taken in another
  joined_seen : (events xs ys : List E) → IsPrefix xs events → IsPrefix ys events → (xs ≡ events) ⊎ (ys ≡ events) → longer xs ys ≡ events
  joined_seen events xs ys p q which =
      let l = longer_is xs ys events p q in
      prefix_whole (longer xs ys) events l.whole
      (⊎_elim
      (λ (is : xs ≡ events). let size = prefix_length xs (longer xs ys) l.first in let same = ap length is in omega arith)
      (λ (is : ys ≡ events). let size = prefix_length ys (longer xs ys) l.second in let same = ap length is in omega arith)
      which)

  -- what it last saw then of what changes only where the journal grows
  joined_steady : (events xs ys : List E) (a b c : std.Option S) → (xs ≡ events → a ≡ c) → (ys ≡ events → b ≡ c) → longer xs ys ≡ events → of_longer xs ys a b ≡ c
  joined_steady events xs ys a b c first second = by (nat_le (length ys) (length xs))
    where
      by : (long : Bool) → cond long xs ys ≡ events → cond long a b ≡ c
      by true is = first is
      by false is = second is

  -- kind 8: a view takes in another
  pub joins : (id : ℕ) (m : V) (other : ℕ) (w : V) → 0 < m.weight → 0 < w.weight → w.round ≡ Idle → Joins Rule id m other w (joined m w) spent_view
  joins id m other w alive lives idle s r at apart there =
      let both : V = joined m w in
      let spent : V = spent_view in
      let vs : List V = set s.views id both in
      let was : get_elem? s.views other ≡ some w = sym (set_else s.views id other both apart) ∙ there in
      let fit = r.each id m at in
      let k = fit.knows in
      let o = (r.each other w was).knows in
      let taken : (ℕ → ℕ) → ℕ → ℕ = λ owner a. cond (owner a == other) id (owner a) in
      let stays : (owner : ℕ → ℕ) (b : ℕ) → owner b ≢ other → taken owner b ≡ owner b = λ owner b far. let miss : (owner b == other) ≡ false = grind (arith, nat_tests) in rw miss refl in
      let goes : (owner : ℕ → ℕ) (b : ℕ) → owner b ≡ other → taken owner b ≡ id = λ owner b is. let hit : (owner b == other) ≡ true = grind (arith, nat_tests) in rw hit refl in
      let l : Longer m.seen w.seen r.events (longer m.seen w.seen) (shorter m.seen w.seen) = longer_is m.seen w.seen r.events k.seen_is o.seen_is in
      let top : ℕ = length (longer m.seen w.seen) in
      let Q : ℕ → V → Type 0 = Fits law r.events r.parts r.common_frame r.steady (taken r.owner) (taken r.placed) r.holder r.phase in
      let fit_both : Q id both = record {
        here = fit.here;
        elsewhere = fit.elsewhere;
        knows = record {
          spent_is = λ none. absurd (omega arith);
          frame_is = λ _. k.frame_is alive;
          seen_is = l.whole;
          steady_is = λ _. joined_steady r.events m.seen w.seen m.steady w.steady (Some r.steady) (k.steady_is alive) (o.steady_is lives);
          out_is = λ x out.
              let mine = is_holder s r id m at (busy_not_idle m.round (ap turn_word out)) in
              let home = home_at s r (Out x) (sym (fit.here mine) ∙ out) in
              joined_seen r.events m.seen w.seen k.seen_is o.seen_is (inl (k.out_is x out ∙ home.1.journal_is)) ∙ sym home.1.journal_is;
          earlier_is = l.below;
          parts_are = λ b q has. ⊎_elim
              (λ (h : OwnsPart m b q). let own = k.parts_are b q h in (own.0, stays r.owner b (λ is. apart (sym is ∙ own.1)) ∙ own.1))
              (λ (h : OwnsPart w b q). let own = o.parts_are b q h in (own.0, goes r.owner b own.1))
              (Contains-append_cases m.parts w.parts (b, q) has);
          in_order = in_order_merged 0 m.places w.places top
              (in_order_raised 0 m.places (length m.seen) top k.in_order (prefix_length m.seen (longer m.seen w.seen) l.first))
              (in_order_raised 0 w.places (length w.seen) top o.in_order (prefix_length w.seen (longer m.seen w.seen) l.second))
              (λ p a b. apart (sym (o.places_are p b) ∙ k.places_are p a));
          places_are = λ p has. ⊎_elim
              (λ (h : Contains m.places p). let own = k.places_are p h in stays r.placed p (λ is. apart (sym is ∙ own)) ∙ own)
              (λ (h : Contains w.places p). goes r.placed p (o.places_are p h))
              (contains_merged m.places w.places p has);
        };
      } in
      let fit_spent : Q other spent = record {
        here = λ is. sym idle ∙ (r.each other w was).here is;
        elsewhere = λ _. refl;
        knows = record {
          spent_is = λ _. refl;
          frame_is = λ some. absurd (omega arith);
          seen_is = (r.events, refl);
          steady_is = λ some. absurd (omega arith);
          out_is = λ x e. absurd (cc);
          earlier_is = ([], refl);
          parts_are = λ b q has. absurd (contains_none (b, q) has);
          in_order = omega arith;
          places_are = λ p has. absurd (contains_none p has);
        };
      } in
      let inner : (j : ℕ) (u : V) → get_elem? vs j ≡ some u → j ≢ other → Q j u =
      each_set (λ j u. j ≢ other → Q j u) s.views id both
      (λ j u ne h far. let z = r.each j u h in record {
        here = z.here;
        elsewhere = z.elsewhere;
        knows = record {
          spent_is = z.knows.spent_is;
          frame_is = z.knows.frame_is;
          seen_is = z.knows.seen_is;
          steady_is = z.knows.steady_is;
          out_is = z.knows.out_is;
          earlier_is = z.knows.earlier_is;
          parts_are = λ b q has. let own = z.knows.parts_are b q has in (own.0, stays r.owner b (λ is. far (sym own.1 ∙ is)) ∙ own.1);
          in_order = z.knows.in_order;
          places_are = λ p has. let own = z.knows.places_are p has in stays r.placed p (λ is. far (sym own ∙ is)) ∙ own;
        };
      })
      (λ far. fit_both) in
      let keeps_both : get_elem? (set vs other spent) id ≡ some both = set_else vs other id spent (λ is. apart (sym is)) ∙ set_at s.views id both m at in
      record {
        events = r.events;
        parts = r.parts;
        common_frame = r.common_frame;
        steady = r.steady;
        owner = taken r.owner;
        placed = taken r.placed;
        holder = r.holder;
        phase = r.phase;
        words = r.words;
        home = r.home;
        each = each_set Q vs other spent (λ j u ne h. inner j u h ne) fit_spent;
        weights =
            let one = total_set (λ (u : V). u.weight) s.views id m both at in
            let two = total_set (λ (u : V). u.weight) vs other w spent there in
            let all = r.weights in
            omega arith;
        present = λ busy.
            let p = r.present busy in
            let not_other : r.holder ≢ other = λ is. busy_not_idle r.phase busy (sym ((r.each other w was).here (sym is)) ∙ idle) in
            dite (ℕ_discrete r.holder id)
            (λ is. (both, subst (λ h. get_elem? (set vs other spent) h ≡ some both) (sym is) keeps_both))
            (λ not. (p.0, set_else vs other r.holder spent not_other ∙ (set_else s.views id r.holder both not ∙ p.1)));
        newest =
            let y = r.newest in
            dite (ℕ_discrete y.0 other)
            (λ is.
            let same : y.1 ≡ w = some-injective y.1 w (sym y.2 ∙ ap (get_elem? s.views) is ∙ was) in
            (id, both, keeps_both, joined_seen r.events m.seen w.seen k.seen_is o.seen_is (inr (ap (λ u. u.seen) (sym same) ∙ y.3))))
            (λ far. dite (ℕ_discrete y.0 id)
            (λ is.
            let same : y.1 ≡ m = some-injective y.1 m (sym y.2 ∙ ap (get_elem? s.views) is ∙ at) in
            (id, both, keeps_both, joined_seen r.events m.seen w.seen k.seen_is o.seen_is (inl (ap (λ u. u.seen) (sym same) ∙ y.3))))
            (λ not. (y.0, y.1, set_else vs other y.0 spent far ∙ (set_else s.views id y.0 both not ∙ y.2), y.3)));
      }

  pub opens : (x : T) (count : ℕ) → count ≡ length (law.journal x) → Rule (opening (0 ∷ count ∷ []) (Some x ∷ []) (first_view law x))
  opens x count is = record {
    events = law.journal x;
    parts = law.part x;
    common_frame = law.frame x;
    steady = law.steady x;
    owner = λ _. 0;
    placed = λ _. 0;
    holder = 0;
    phase = Idle;
    words = ap (λ n. 0 ∷ n ∷ []) is;
    home = (x, refl, record { journal_is = refl; parts_are = λ a. refl; frame_is = refl; steady_is = refl });
    each = one;
    weights = refl;
    present = λ busy. absurd (omega arith);
    newest = (0, first_view law x, refl, refl);
  }
    where
      one : (by : ℕ) (v : V) → get_elem? (first_view law x ∷ []) by ≡ some v → Fits law (law.journal x) (law.part x) (law.frame x) (law.steady x) (λ _. 0) (λ _. 0) 0 Idle by v
      one zero v e = subst (Fits law (law.journal x) (law.part x) (law.frame x) (law.steady x) (λ _. 0) (λ _. 0) 0 Idle 0) (some-injective (first_view law x) v e) (record {
        here = λ _. refl;
        elsewhere = λ _. refl;
        knows = record {
          spent_is = λ none. absurd (omega arith);
          frame_is = λ _. refl;
          seen_is = prefix_same (law.journal x);
          steady_is = λ _ _. refl;
          out_is = λ y e. absurd (cc);
          earlier_is = (law.journal x, refl);
          parts_are = λ a q has. ((contains_told (law.part x) (law.authors x) a q has).1, refl);
          in_order = omega arith;
          places_are = λ p has. refl;
        };
      })
      one (suc by) v e = absurd (some-ne-none v (sym e))

  -- where a view in no round has all the weight, any other is spent
  others_spent : (s : St) (r : Rule s) (id : ℕ) (m : V) → get_elem? s.views id ≡ some m → m.weight ≡ 1024 → (j : ℕ) (u : V) → get_elem? s.views j ≡ some u → j ≢ id → u ≡ spent_view
  others_spent s r id m at whole j u there apart =
      let both = total_two (λ (v : V). v.weight) s.views id j m u (λ is. apart (sym is)) at there in
      let all = r.weights in
      (r.each j u there).knows.spent_is (omega arith)

  free_at_last : (s : St) (r : Rule s) (id : ℕ) (m : V) → get_elem? s.views id ≡ some m → m.weight ≡ 1024 → m.round ≡ Idle → r.phase ≡ Idle
  free_at_last s r id m at whole idle =
      ⊎_elim (λ free. free)
      (λ busy.
      let p = r.present busy in
      dite (ℕ_discrete r.holder id)
      (λ is. sym ((r.each id m at).here (sym is)) ∙ idle)
      (λ not. sym ((r.each r.holder p.0 p.1).here refl) ∙ ap (λ v. v.round) (others_spent s r id m at whole r.holder p.0 p.1 not)))
      (free_or_busy r.phase)

  seen_all : (s : St) (r : Rule s) (id : ℕ) (m : V) → get_elem? s.views id ≡ some m → m.weight ≡ 1024 → m.seen ≡ r.events
  seen_all s r id m at whole =
      let y = r.newest in
      dite (ℕ_discrete y.0 id)
      (λ is. ap (λ v. v.seen) (sym (some-injective y.1 m (sym y.2 ∙ ap (get_elem? s.views) is ∙ at))) ∙ y.3)
      (λ not.
      let none : [] ≡ r.events = ap (λ v. v.seen) (sym (others_spent s r id m at whole y.0 y.1 y.2 not)) ∙ y.3 in
      prefix_whole m.seen r.events (r.each id m at).knows.seen_is (let size = ap length none in omega arith))

  pub closes : (s : St) (r : Rule s) (id : ℕ) (m : V) → get_elem? s.views id ≡ some m → m.weight ≡ 1024 → m.round ≡ Idle
      → (x : T) × (get_elem? s.homes 0 ≡ some (some (Some x))) × (law.journal x ≡ m.seen) × (m.frame ≡ Some (law.frame x)) × ((a : ℕ) (q : P) → OwnsPart m a q → law.part x a ≡ q)
  closes s r id m at whole idle =
      let k = (r.each id m at).knows in
      let home = home_at s r Idle (free_at_last s r id m at whole idle) in
      let ok = home.2 in (
        home.0,
        ap (λ hs. get_elem? hs 0) home.1,
        ok.journal_is ∙ sym (seen_all s r id m at whole),
        k.frame_is (omega arith) ∙ ap Some (sym ok.frame_is),
        λ a q has. ok.parts_are a ∙ sym (k.parts_are a q has).0,
      )
