-- What a pass knows, as plain data, and how a step changes it.
use Rattle.std.specs.List.{list_any, range_with_len}
use Rattle.std.specs.Coded.{×_prop, le_prop}
use Rattle.std.specs.Prelude.{◌≤◌, ℕ, ◌+◌, ◌-◌, ◌==◌, nat_le, nat_lt, not, if◌then◌else◌, Bool, List, [], ◌∷◌, ◌++◌, length, map, filter, Contains}
use Rattle.std.specs.declared.option.Option as std
use Rattle.std.specs.declared.option.Option.TheVariants.{Some, None}
use Rattle.seat_lock.specs.declared.counted.Counted.{Ghosts}
use Rattle.seat_lock.specs.declared.rule.Round.{Round}
use Rattle.seat_lock.specs.declared.rule.Round.TheVariants.{Idle, Turn, Out, Added}
use Rattle.seat_lock.specs.declared.rule.View.{View}

-- the places lie from low on and below high, in order and each once
abbrev pub InOrder : ℕ → List ℕ → ℕ → Type 0
InOrder low [] high = low ≤ high
InOrder low (p ∷ ps) high = (low ≤ p) × InOrder (p + 1) ps high

-- places lie in order in one way at most
pub InOrder-prop : (low : ℕ) (ps : List ℕ) (high : ℕ) → IsProp (InOrder low ps high)
InOrder-prop low [] high = le_prop
InOrder-prop low (p ∷ ps) high = ×_prop le_prop (InOrder-prop (p + 1) ps high)

-- a place put among others, in order
abbrev pub put_place : ℕ → List ℕ → List ℕ
put_place p [] = p ∷ []
put_place p (q ∷ qs) = if nat_lt p q then p ∷ q ∷ qs else q ∷ put_place p qs

-- both lists of places as one, in order
abbrev pub merged_places : List ℕ → List ℕ → List ℕ
merged_places [] qs = qs
merged_places (p ∷ ps) qs = put_place p (merged_places ps qs)

-- the slots that a pass has out: slot 0, once it has loaded the count and until it adds
abbrev pub slots_of : {T : Type 0} → Round T → List (ℕ × std.Option T)
slots_of Idle = []
slots_of Turn = []
slots_of (Out x) = (0, None) ∷ []
slots_of Added = []

-- the places of the events that ys has past those of xs
abbrev pub new_places : {E : Type 0} → List E → List E → List ℕ
new_places xs ys = range_with_len (length xs) (length ys - length xs)

-- the longer of two lists that are beginnings of one
abbrev pub longer : {E : Type 0} → List E → List E → List E
longer xs ys = if nat_le (length ys) (length xs) then xs else ys

-- what goes with the longer of the two
abbrev pub of_longer : {E A : Type 0} → List E → List E → A → A → A
of_longer xs ys a b = if nat_le (length ys) (length xs) then a else b

-- the shorter of the two
abbrev pub shorter : {E : Type 0} → List E → List E → List E
shorter xs ys = if nat_le (length ys) (length xs) then ys else xs

-- the author is one of these
abbrev pub is_one_of : List ℕ → ℕ → Bool
is_one_of names a = list_any (λ n. n == a) names

module _ {T E P F S : Type 0} where
  -- the author is one of the view's, and this is its part
  abbrev pub OwnsPart : View T E P F S → ℕ → P → Type 0
  OwnsPart v a q = Contains v.parts (a, q)

  -- the author is one of the view's
  abbrev pub OwnsAuthor : View T E P F S → ℕ → Type 0
  OwnsAuthor v a = (q : P) × OwnsPart v a q

  -- what is left of a view that another has taken in
  abbrev pub spent_view : View T E P F S
  spent_view = record { round = Idle; weight = 0; frame = None; steady = None; seen = []; earlier = []; places = []; parts = [] }

  -- at another point of its round
  abbrev pub with_round : Round T → View T E P F S → View T E P F S
  with_round r v = record v { round = r }

  -- what a split leaves: it hands over 1 of the weight, and those of the authors that are named
  abbrev pub kept_back : List ℕ → View T E P F S → View T E P F S
  kept_back names v = record v { weight = v.weight - 1; parts = filter (λ y. not (is_one_of names y.0)) v.parts }

  -- what it hands over
  abbrev pub handed : List ℕ → View T E P F S → View T E P F S
  handed names v = record { round = Idle; weight = 1; frame = v.frame; steady = v.steady; seen = v.seen; earlier = []; places = []; parts = filter (λ y. is_one_of names y.0) v.parts }

  -- a view that has taken in another
  abbrev pub joined : View T E P F S → View T E P F S → View T E P F S
  joined v w = record v { weight = v.weight + w.weight; steady = of_longer v.seen w.seen v.steady w.steady; seen = longer v.seen w.seen; earlier = shorter v.seen w.seen; places = merged_places v.places w.places; parts = v.parts ++ w.parts }

module _ {T E P F S : Type 0} (law : Ghosts T E P F S) where
  -- the view of the first pass: it has every author and all the weight, and has seen the whole journal
  abbrev pub first_view : T → View T E P F S
  first_view x = record { round = Idle; weight = 1024; frame = Some (law.frame x); steady = Some (law.steady x); seen = law.journal x; earlier = []; places = []; parts = map (λ a. (a, law.part x a)) (law.authors x) }

  -- once the count is loaded and x is out
  abbrev pub loaded : T → View T E P F S → View T E P F S
  loaded x v = record v { round = Out x; steady = Some (law.steady x); seen = law.journal x }

  -- once x is home and its new events are counted
  abbrev pub added : T → View T E P F S → View T E P F S
  added x v = record v {
    round = Added;
    steady = Some (law.steady x);
    seen = law.journal x;
    places = v.places ++ new_places v.seen (law.journal x);
    parts = map (λ y. (y.0, law.part x y.0)) v.parts;
  }

  -- once the turn is given up too
  abbrev pub released : T → View T E P F S → View T E P F S
  released x v = with_round Idle (added x v)
