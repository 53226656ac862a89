-- What is left to put of a list of a script, one place further on.
use Rattle.std.proofs.Common.{◌≡◌, ◌<◌, ℕ, zero, suc, ◌+◌, ◌-◌, ◌*◌, List, [], ◌∷◌, ◌++◌, map, refl, sym, ap, ◌∙◌, append-nil, arith}
use mathlib.Core.List.{append_assoc}
use Rattle.std.proofs.lemmas.List.{map-append}
use Rattle.serde_json.specs.Data.{Data, number, unsigned}
use Rattle.serde_json.specs.View.{view}
use Rattle.serde_json.specs.declared.value.Value.{Value}
use Rattle.jr_gen.specs.declared.rounds.Round.{Round}
use Rattle.jr_gen.specs.Draws.{draw, next}
use Rattle.jr_gen.specs.Rounds.{round_at, after_round, after_rounds}
use Rattle.jr_gen.specs.Scripts.{round_command, rounds_data, session_data, sessions_data, turns_data}

-- a value is put that is the first of what is left
put_next : (olds news : List Value) (v : Value) (d : Data) (left rest all : List Data)
    → news ≡ olds ++ v ∷ [] → view v ≡ d → left ≡ d ∷ rest
    → map view olds ++ left ≡ all → map view news ++ rest ≡ all
put_next olds news v d left rest all put is first was =
    ap (λ (vs : List Value). map view vs ++ rest) put
    ∙ (ap (λ (ds : List Data). ds ++ rest) (map-append view olds (v ∷ []))
    ∙ (append_assoc (map view olds) (view v ∷ []) rest
    ∙ (ap (λ (e : Data). map view olds ++ e ∷ rest) is
    ∙ (ap (λ (ds : List Data). map view olds ++ ds) (sym first) ∙ was))))

-- a number below another is followed by one more
one_more : (c n : ℕ) → c < n → n - c ≡ suc (n - (c + 1))
one_more c n less = omega arith

rounds_left : (n s m x y : ℕ) → y ≡ after_round x
    → rounds_data (suc n) s m x ≡ round_command s (round_at m x) ∷ rounds_data n s m y
unfolding rounds_data
rounds_left n s m x y now =
    ap (λ z. round_command s (round_at m x) ∷ rounds_data n s m z) (sym now)

-- one round further on
pub rounds_further : (olds news : List Value) (v : Value) (r : Round) (all : List Data)
    → (c n s m x y : ℕ) → c < n → r ≡ round_at m x → y ≡ after_round x
    → news ≡ olds ++ v ∷ [] → view v ≡ round_command s r
    → map view olds ++ rounds_data (n - c) s m x ≡ all
    → map view news ++ rounds_data (n - (c + 1)) s m y ≡ all
rounds_further olds news v r all c n s m x y less round now put is was =
    put_next olds news v (round_command s (round_at m x)) (rounds_data (n - c) s m x) _ all put
    (is ∙ ap (round_command s) round)
    (ap (λ k. rounds_data k s m x) (one_more c n less) ∙ rounds_left (n - (c + 1)) s m x y now) was

after_left : (n x : ℕ) → after_rounds (suc n) x ≡ after_rounds n (after_round x)
unfolding after_rounds
after_left n x = refl

pub after_further : (c n x y z : ℕ) → c < n → y ≡ after_round x → after_rounds (n - c) x ≡ z
    → after_rounds (n - (c + 1)) y ≡ z
after_further c n x y z less now was =
    ap (after_rounds (n - (c + 1))) now
    ∙ (sym (ap (λ k. after_rounds k x) (one_more c n less) ∙ after_left (n - (c + 1)) x) ∙ was)

sessions_left : (n s m x y : ℕ) → y ≡ after_rounds 100 x
    → sessions_data (suc n) s m x ≡ session_data s m x ∷ sessions_data n (s + 1) m y
unfolding sessions_data
sessions_left n s m x y now = ap (λ z. session_data s m x ∷ sessions_data n (s + 1) m z) (sym now)

-- one session further on
pub sessions_further : (olds news : List Value) (v : Value) (all : List Data)
    → (s n m x y : ℕ) → s < n → y ≡ after_rounds 100 x
    → news ≡ olds ++ v ∷ [] → view v ≡ session_data s m x
    → map view olds ++ sessions_data (n - s) s m x ≡ all
    → map view news ++ sessions_data (n - (s + 1)) (s + 1) m y ≡ all
sessions_further olds news v all s n m x y less now put is was =
    put_next olds news v (session_data s m x) (sessions_data (n - s) s m x) _ all put is
    (ap (λ k. sessions_data k s m x) (one_more s n less) ∙ sessions_left (n - (s + 1)) s m x y now)
    was

turns_left : (n m x y : ℕ) → y ≡ next x
    → turns_data (suc n) m x ≡ number (unsigned (draw 1 m x)) ∷ turns_data n m y
unfolding turns_data
turns_left n m x y now =
    ap (λ z. number (unsigned (draw 1 m x)) ∷ turns_data n m z) (sym now)

-- one turn further on
pub turns_further : (olds news : List Value) (v : Value) (all : List Data)
    → (c n m t x y : ℕ) → c < n → t ≡ draw 1 m x → y ≡ next x
    → news ≡ olds ++ v ∷ [] → view v ≡ number (unsigned t)
    → map view olds ++ turns_data (n - c) m x ≡ all
    → map view news ++ turns_data (n - (c + 1)) m y ≡ all
turns_further olds news v all c n m t x y less turn now put is was =
    put_next olds news v (number (unsigned (draw 1 m x))) (turns_data (n - c) m x) _ all put
    (is ∙ ap (λ k. number (unsigned k)) turn)
    (ap (λ k. turns_data k m x) (one_more c n less) ∙ turns_left (n - (c + 1)) m x y now) was

-- rounds behind rounds
rounds_join : (j k x : ℕ) → after_rounds k (after_rounds j x) ≡ after_rounds (j + k) x
unfolding after_rounds
rounds_join zero k x = let p : k ≡ 0 + k = omega arith in ap (λ i. after_rounds i x) p
rounds_join (suc j) k x =
    let p : suc j + k ≡ suc (j + k) = omega arith in
    rounds_join j k (after_round x) ∙ ap (λ i. after_rounds i x) (sym p)

-- the rounds of the sessions that are left
pub sessions_join : (s n x y z : ℕ) → s < n → y ≡ after_rounds 100 x
    → after_rounds (100 * (n - s)) x ≡ z → after_rounds (100 * (n - (s + 1))) y ≡ z
sessions_join s n x y z less now was =
    let p : 100 + 100 * (n - (s + 1)) ≡ 100 * (n - s) = omega arith in
    ap (after_rounds (100 * (n - (s + 1)))) now
    ∙ (rounds_join 100 (100 * (n - (s + 1))) x ∙ (ap (λ k. after_rounds k x) p ∙ was))

-- all is put where no more is left
pub no_rounds : (items all : List Data) (n s m x : ℕ) → n ≡ 0
    → items ++ rounds_data n s m x ≡ all → items ≡ all
unfolding rounds_data
no_rounds items all n s m x none was =
    sym (append-nil items) ∙ (ap (λ k. items ++ rounds_data k s m x) (sym none) ∙ was)

pub no_sessions : (items all : List Data) (n s m x : ℕ) → n ≡ 0
    → items ++ sessions_data n s m x ≡ all → items ≡ all
unfolding sessions_data
no_sessions items all n s m x none was =
    sym (append-nil items) ∙ (ap (λ k. items ++ sessions_data k s m x) (sym none) ∙ was)

pub no_turns : (items all : List Data) (n m x : ℕ) → n ≡ 0
    → items ++ turns_data n m x ≡ all → items ≡ all
unfolding turns_data
no_turns items all n m x none was =
    sym (append-nil items) ∙ (ap (λ k. items ++ turns_data k m x) (sym none) ∙ was)

pub none_after : (n x z : ℕ) → n ≡ 0 → after_rounds n x ≡ z → x ≡ z
unfolding after_rounds
none_after n x z none was = ap (λ k. after_rounds k x) (sym none) ∙ was
