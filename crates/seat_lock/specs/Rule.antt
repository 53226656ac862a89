-- The rule of the lock, and what each step tells. Word 0 is the turn, word 1 the count of the events, and the slot has the value.
use Rattle.std.specs.Prelude.{◌≡◌, ◌≢◌, ◌<◌, ℕ, ◌+◌, List, [], ◌∷◌, length, Contains}
use Rattle.std.specs.declared.option.Option as std
use Rattle.std.specs.declared.option.Option.TheVariants.{Some}
use mathlib.Core.Option.{Option, none, some}
use mathlib.Core.List.{IsPrefix}
use lib.ListN.{get_elem?}
use Rattle.atomic_table.specs.Table.{State, Me, Step}
use Rattle.seat_lock.specs.declared.counted.Counted.{Ghosts}
use Rattle.seat_lock.specs.declared.rule.Round.{Round}
use Rattle.seat_lock.specs.declared.rule.Round.TheVariants.{Idle, Turn, Out, Added}
use Rattle.seat_lock.specs.declared.rule.View.{View}
use Rattle.seat_lock.specs.Views.{OwnsPart, InOrder, spent_view, with_round, loaded, added}

-- the weights of all views
abbrev pub total : {A : Type 0} → (A → ℕ) → List A → ℕ
total f [] = 0
total f (x ∷ xs) = f x + total f xs

-- the turn's word, where a pass is at this point of its round
abbrev pub turn_word : {T : Type 0} → Round T → ℕ
turn_word Idle = 0
turn_word Turn = 1
turn_word (Out x) = 1
turn_word Added = 1

-- the words, the slot and the views of all passes
abbrev pub LockState : Type 0 → Type 0 → Type 0 → Type 0 → Type 0 → Type 0
LockState T E P F S = State (std.Option T) (View T E P F S)

-- a pass's view, and the slots that it has out
abbrev pub LockMe : Type 0 → Type 0 → Type 0 → Type 0 → Type 0 → Type 0
LockMe T E P F S = Me (std.Option T) (View T E P F S)

module _ {T E P F S : Type 0} (law : Ghosts T E P F S) where
  -- the value has just the counted events, these parts, this frame, and this of what changes only where the journal grows
  pub record Settled (events : List E) (parts : ℕ → P) (f : F) (z : S) (x : T) : Type 0 where
    pub journal_is : law.journal x ≡ events
    pub parts_are : (a : ℕ) → law.part x a ≡ parts a
    pub frame_is : law.frame x ≡ f
    pub steady_is : law.steady x ≡ z

  -- the value is at home, or out with the holder, who knows it
  abbrev pub HomeFits : (T → Type 0) → Round T → List (Option (std.Option T)) → Type 0
  HomeFits ok Idle homes = (x : T) × (homes ≡ some (Some x) ∷ []) × ok x
  HomeFits ok Turn homes = (x : T) × (homes ≡ some (Some x) ∷ []) × ok x
  HomeFits ok (Out x) homes = (homes ≡ none ∷ []) × ok x
  HomeFits ok Added homes = (x : T) × (homes ≡ some (Some x) ∷ []) × ok x

  -- what a view knows is so. Each author has one view that owns it, and each place one, by the pass's number
  pub record Knows (events : List E) (parts : ℕ → P) (f : F) (z : S) (owner placed : ℕ → ℕ) (by : ℕ) (v : View T E P F S) : Type 0 where
    pub spent_is : v.weight ≡ 0 → v ≡ spent_view
    pub frame_is : 0 < v.weight → v.frame ≡ Some f
    pub seen_is : IsPrefix v.seen events
    pub steady_is : 0 < v.weight → v.seen ≡ events → v.steady ≡ Some z
    pub out_is : (x : T) → v.round ≡ Out x → v.seen ≡ law.journal x
    pub earlier_is : IsPrefix v.earlier v.seen
    pub parts_are : (a : ℕ) (q : P) → OwnsPart v a q → (q ≡ parts a) × (owner a ≡ by)
    pub in_order : InOrder 0 v.places (length v.seen)
    pub places_are : (p : ℕ) → Contains v.places p → placed p ≡ by

  -- the holder is at this point of its round, and any other view is idle
  pub record Fits (events : List E) (parts : ℕ → P) (f : F) (z : S) (owner placed : ℕ → ℕ) (holder : ℕ) (phase : Round T) (by : ℕ) (v : View T E P F S) : Type 0 where
    pub here : by ≡ holder → v.round ≡ phase
    pub elsewhere : by ≢ holder → v.round ≡ Idle
    pub knows : Knows events parts f z owner placed by v

  -- The rule. There are counted events, a part of each author, one frame, what stands until more are counted, an owner of each author and of each place, and a holder with its round, such that
  -- the words are the turn and the count, the value is where the round says, each view knows what is so, the weights add up to 1,024, the holder is there where the turn is taken, and some view has seen all events
  pub record Kept (s : LockState T E P F S) : Type 0 where
    pub events : List E
    pub parts : ℕ → P
    pub common_frame : F
    pub steady : S
    pub owner : ℕ → ℕ
    pub placed : ℕ → ℕ
    pub holder : ℕ
    pub phase : Round T
    pub words : s.words ≡ turn_word phase ∷ length events ∷ []
    pub home : HomeFits (Settled events parts common_frame steady) phase s.homes
    pub each : (by : ℕ) (v : View T E P F S) → get_elem? s.views by ≡ some v → Fits events parts common_frame steady owner placed holder phase by v
    pub weights : total (λ v. v.weight) s.views ≡ 1024
    pub present : turn_word phase ≡ 1 → (v : View T E P F S) × (get_elem? s.views holder ≡ some v)
    pub newest : (by : ℕ) × (v : View T E P F S) × (get_elem? s.views by ≡ some v) × (v.seen ≡ events)

  -- the value x is got, which has all that the pass had seen and the parts that it left
  pub record Gets (m : LockMe T E P F S) (found : ℕ) (m' : LockMe T E P F S) (x : T) : Type 0 where
    pub had_turn : m.0.round ≡ Turn
    pub view : m'.0 ≡ loaded law x m.0
    pub slots : m'.1 ≡ (0, Some x) ∷ m.1
    pub longer : IsPrefix m.0.seen (law.journal x)
    pub count : length (law.journal x) ≡ found
    pub frame_is : 0 < m.0.weight → m.0.frame ≡ Some (law.frame x)
    pub steady_is : 0 < m.0.weight → m.0.seen ≡ law.journal x → m.0.steady ≡ Some (law.steady x)
    pub parts_are : (a : ℕ) (q : P) → OwnsPart m.0 a q → law.part x a ≡ q

  -- the count is loaded, and the value is out
  abbrev pub Loads : Step (std.Option T) → LockMe T E P F S → ℕ → LockMe T E P F S → Type 0
  Loads st m found m' = (x : T) × Gets m found m' x

  -- the value x is home again, and its events are counted
  pub record Returns (m m' : LockMe T E P F S) (x : T) : Type 0 where
    pub had_out : (got : T) × (m.0.round ≡ Out got)
    pub had_seen : (got : T) → m.0.round ≡ Out got → m.0.seen ≡ law.journal got
    pub view : m'.0 ≡ added law x m.0
    pub slots : m'.1 ≡ []
    pub in_order : InOrder 0 m'.0.places (length m'.0.seen)

  -- the number of new events is added to the count, and the slot is home
  abbrev pub Adds : Step (std.Option T) → LockMe T E P F S → ℕ → LockMe T E P F S → Type 0
  Adds st m found m' = (x : T) × (m.1 ≡ (0, Some x) ∷ []) × Returns m m' x

module _ {T E P F S : Type 0} where
  -- the turn is got where the word was 0, and else nothing changes
  pub record TakesTurn (st : Step (std.Option T)) (m : LockMe T E P F S) (found : ℕ) (m' : LockMe T E P F S) : Type 0 where
    pub got : found ≡ 0 → (m.0.round ≡ Idle) × (m'.0 ≡ with_round Turn m.0)
    pub missed : found ≢ 0 → m'.0 ≡ m.0
    pub slots : m'.1 ≡ m.1

  -- the turn is given up
  pub record GivesTurn (st : Step (std.Option T)) (m : LockMe T E P F S) (found : ℕ) (m' : LockMe T E P F S) : Type 0 where
    pub had_added : m.0.round ≡ Added
    pub view : m'.0 ≡ with_round Idle m.0
    pub slots : m'.1 ≡ m.1

  -- nothing changes, and what the pass knows is so
  pub record Looks (st : Step (std.Option T)) (m : LockMe T E P F S) (found : ℕ) (m' : LockMe T E P F S) : Type 0 where
    pub same : m' ≡ m
    pub earlier : IsPrefix m.0.earlier m.0.seen
    pub in_order : InOrder 0 m.0.places (length m.0.seen)
