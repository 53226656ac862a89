-- What the rule of the lock gives, clause by clause. A holder is a pass whose view has the turn.
use Rattle.std.specs.Prelude.{◌≡◌, ◌≢◌, ◌<◌, ◌≤◌, ◌↔◌, ◌⊎◌, ℕ, List, [], ◌∷◌, length, slice_get, slice_index, Contains}
use Rattle.std.specs.declared.option.Option as std
use Rattle.std.specs.declared.option.Option.TheVariants.{Some}
use mathlib.Core.Option.{none, some}
use mathlib.Core.List.{IsPrefix}
use lib.ListN.{get_elem?}
use Rattle.atomic_table.specs.Table.{Step}
use Rattle.seat_lock.specs.declared.counted.Counted.{Ghosts}
use Rattle.seat_lock.specs.declared.rule.Round.TheVariants.{Idle, Out, Added}
use Rattle.seat_lock.specs.declared.rule.View.{View}
use Rattle.seat_lock.specs.Views.{OwnsPart, OwnsAuthor, InOrder, spent_view}
use Rattle.seat_lock.specs.Rule.{total, LockState, LockMe, TakesTurn, Loads, Adds, GivesTurn, Looks}

module _ {T E P F S : Type 0} where
  -- the turn, in word 0: 1 while a pass has it, else 0
  abbrev pub turn_of : LockState T E P F S → ℕ
  turn_of s = slice_index s.words 0

  -- the count of the events, in word 1
  abbrev pub count_of : LockState T E P F S → ℕ
  count_of s = slice_index s.words 1

  -- the pass with this number has this view
  abbrev pub At : LockState T E P F S → ℕ → View T E P F S → Type 0
  At s by v = get_elem? s.views by ≡ some v

  -- the value x is at home, in the slot of the lock
  abbrev pub IsAtHome : LockState T E P F S → T → Type 0
  IsAtHome s x = s.homes ≡ some (Some x) ∷ []

  -- the value isn't at home
  abbrev pub IsAway : LockState T E P F S → Type 0
  IsAway s = s.homes ≡ none ∷ []

  -- the view is the one that a spent pass has
  abbrev pub IsSpent : View T E P F S → Type 0
  IsSpent v = v ≡ spent_view

  -- the pass of the view has the turn
  abbrev pub HasTurn : View T E P F S → Type 0
  HasTurn v = v.round ≢ Idle

  -- it has loaded the count and not yet added, and got x
  abbrev pub HasLoaded : View T E P F S → T → Type 0
  HasLoaded v x = v.round ≡ Out x

  -- the pass of the view has added its events to the count
  abbrev pub HasAdded : View T E P F S → Type 0
  HasAdded v = v.round ≡ Added

  -- one view that isn't spent has the turn, and no other has it
  abbrev pub OneHolder : LockState T E P F S → Type 0
  OneHolder s = (by : ℕ) × (v : View T E P F S) × At s by v × ¬ IsSpent v × HasTurn v × ((other : ℕ) (w : View T E P F S) → At s other w → HasTurn w → other ≡ by)

module _ {T E P F S : Type 0} (law : Ghosts T E P F S) where
  -- what the rule of the lock gives of each state of the lock
  pub record Clauses (s : LockState T E P F S) : Type 0 where
    -- the counted events
    pub events : List E
    pub events_are_counted : length events ≡ count_of s
    -- 1. The turn is 1 exactly where one view that isn't spent has the turn
    pub turn_is : (turn_of s ≡ 0) ⊎ (turn_of s ≡ 1)
    pub one_turn : (turn_of s ≡ 1) ↔ OneHolder s
    -- 2. Each view's seen has at most `count` events
    pub seen_is_counted : (by : ℕ) (v : View T E P F S) → At s by v → length v.seen ≤ count_of s
    -- 3. A view's places are below the length of its seen, in order and each once, and stand in no other view
    pub places_in_order : (by : ℕ) (v : View T E P F S) → At s by v → InOrder 0 v.places (length v.seen)
    pub places_are_below : (by : ℕ) (v : View T E P F S) (p : ℕ) → At s by v → Contains v.places p → p < length v.seen
    pub places_are_apart : (by other : ℕ) (v w : View T E P F S) (p : ℕ) → At s by v → At s other w → Contains v.places p → Contains w.places p → other ≡ by
    -- 4. Two passes that saw a place saw the same event there
    pub same_event : (by other : ℕ) (v w : View T E P F S) (p : ℕ) (d e : E) → At s by v → At s other w → slice_get v.seen p ≡ Some d → slice_get w.seen p ≡ Some e → d ≡ e
    -- 5. Each view's seen is a prefix of the journal of a value at home, and of the counted events
    pub seen_begins : (by : ℕ) (v : View T E P F S) → At s by v → IsPrefix v.seen events
    pub seen_begins_home : (by : ℕ) (v : View T E P F S) (x : T) → At s by v → IsAtHome s x → IsPrefix v.seen (law.journal x)
    -- 6. Where the turn is 0, the value is at home with a journal of exactly `count` events. Where it is 1, a value at home has those `count` events as a prefix
    pub home_where_free : turn_of s ≡ 0 → (x : T) × IsAtHome s x × (length (law.journal x) ≡ count_of s)
    pub home_where_taken : turn_of s ≡ 1 → (x : T) → IsAtHome s x → IsPrefix events (law.journal x)
    -- 7. A holder that has added has its value at home with exactly `count` events
    pub home_once_added : (by : ℕ) (v : View T E P F S) → At s by v → HasAdded v → (x : T) × IsAtHome s x × (length (law.journal x) ≡ count_of s)
    -- 8. No author stands in two views
    pub authors_are_apart : (by other : ℕ) (v w : View T E P F S) (a : ℕ) → At s by v → At s other w → OwnsAuthor v a → OwnsAuthor w a → other ≡ by
    -- 9. The weights of all views add up to 1,024. A view that isn't spent has at least 1, and a spent one has 0
    pub weights : total (λ v. v.weight) s.views ≡ 1024
    pub weight_where_live : (by : ℕ) (v : View T E P F S) → At s by v → ¬ IsSpent v → 1 ≤ v.weight
    pub weight_where_spent : (by : ℕ) (v : View T E P F S) → At s by v → IsSpent v → v.weight ≡ 0
    -- 10. All views that aren't spent, and each value at home, have the same frame
    pub one_frame : (by other : ℕ) (v w : View T E P F S) → At s by v → At s other w → ¬ IsSpent v → ¬ IsSpent w → v.frame ≡ w.frame
    pub frame_at_home : (by : ℕ) (v : View T E P F S) (x : T) → At s by v → ¬ IsSpent v → IsAtHome s x → v.frame ≡ Some (law.frame x)
    -- 11. The part of an author in a view is its part in a value at home. The own parts of a holder that has loaded and hasn't added are among those that it got
    pub parts_at_home : (by : ℕ) (v : View T E P F S) (a : ℕ) (q : P) (x : T) → At s by v → OwnsPart v a q → IsAtHome s x → law.part x a ≡ q
    pub parts_got : (by : ℕ) (v : View T E P F S) (a : ℕ) (q : P) (x : T) → At s by v → OwnsPart v a q → HasLoaded v x → law.part x a ≡ q
    -- 12. Where the value isn't at home, the holder has loaded and not added, its seen has exactly `count` events, and the parts that it got are those in every view
    pub holder_where_away : IsAway s → (by : ℕ) × (v : View T E P F S) × (x : T) × At s by v × HasLoaded v x × (length v.seen ≡ count_of s) × ((other : ℕ) (w : View T E P F S) (a : ℕ) (q : P) → At s other w → OwnsPart w a q → law.part x a ≡ q)
    pub away_where_loaded : (by : ℕ) (v : View T E P F S) (x : T) → At s by v → HasLoaded v x → IsAway s × (v.seen ≡ law.journal x)

  -- 7, of steps. A pass that has added moves no slot until it has given up the turn
  pub record AddedMovesNoSlot (m : LockMe T E P F S) : Type 0 where
    pub takes_turn : (st : Step (std.Option T)) (found : ℕ) (m' : LockMe T E P F S) → TakesTurn st m found m' → m'.1 ≡ m.1
    pub no_load : (st : Step (std.Option T)) (found : ℕ) (m' : LockMe T E P F S) → ¬ Loads law st m found m'
    pub no_add : (st : Step (std.Option T)) (found : ℕ) (m' : LockMe T E P F S) → ¬ Adds law st m found m'
    pub gives_turn : (st : Step (std.Option T)) (found : ℕ) (m' : LockMe T E P F S) → GivesTurn st m found m' → (m'.1 ≡ m.1) × ¬ HasTurn m'.0
    pub looks : (st : Step (std.Option T)) (found : ℕ) (m' : LockMe T E P F S) → Looks st m found m' → m' ≡ m
