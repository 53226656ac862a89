-- What a clause says of a lock, its passes, and a value that is out.
use Rattle.std.specs.Prelude.{◌≡◌, ℕ, List, length}
use Rattle.std.specs.declared.option.Option.TheVariants.{Some}
use mathlib.Core.List.{IsPrefix}
use Rattle.seat_lock.specs.declared.counted.Counted.{Ghosts}
use Rattle.seat_lock.specs.declared.rule.Round.TheVariants.{Idle, Out}
use Rattle.seat_lock.specs.declared.rule.View.{View}
use Rattle.seat_lock.specs.declared.pass.Pass.{Pass}
use Rattle.seat_lock.specs.declared.pass.Hold.{Hold}
use Rattle.seat_lock.specs.declared.lock.SeatLock.{SeatLock}
use Rattle.seat_lock.specs.Views.{OwnsPart, OwnsAuthor}

-- the value as it was got
abbrev pub got_of : {T : Type 0} → Hold T → T
got_of hold = hold.taken.value

module _ {T E P F S : Type 0} {law : Ghosts T E P F S} where
  -- what the pass knows
  abbrev pub view_of : Pass T E P F S law → View T E P F S
  view_of pass = pass.seat.me.0

  -- the journal that the pass has seen
  abbrev pub seen_of : Pass T E P F S law → List E
  seen_of pass = (view_of pass).seen

  -- where the pass's own events stand in the journal
  abbrev pub places_of : Pass T E P F S law → List ℕ
  places_of pass = (view_of pass).places

  -- its part of the lock's 1,024
  abbrev pub weight_of : Pass T E P F S law → ℕ
  weight_of pass = (view_of pass).weight

  -- the pass has this author, whose part it last left so
  abbrev pub HasPart : Pass T E P F S law → ℕ → P → Type 0
  HasPart pass a q = OwnsPart (view_of pass) a q

  -- the pass has this author
  abbrev pub HasAuthor : Pass T E P F S law → ℕ → Type 0
  HasAuthor pass a = OwnsAuthor (view_of pass) a

  -- each value of the pass's lock has this frame
  abbrev pub HasFrame : Pass T E P F S law → F → Type 0
  HasFrame pass f = (view_of pass).frame ≡ Some f

  -- what the pass last saw of the value that changes only where the journal grows
  abbrev pub HasSteady : Pass T E P F S law → S → Type 0
  HasSteady pass z = (view_of pass).steady ≡ Some z

  -- the pass comes from this lock
  abbrev pub IsOf : SeatLock T E P F S → Pass T E P F S law → Type 0
  IsOf lock pass = pass.seat.table_id ≡ lock.table.shared.table_id

  -- no `Hold` of the pass is out
  abbrev pub IsAtRest : Pass T E P F S law → Type 0
  IsAtRest pass = (view_of pass).round ≡ Idle

  -- the value is the one that the pass has out
  abbrev pub IsHoldOf : Pass T E P F S law → Hold T → Type 0
  IsHoldOf pass hold = ((view_of pass).round ≡ Out (got_of hold)) × (hold.before ≡ length (law.journal (got_of hold)))

  -- the value goes on from the one got: its journal extends that one, of the parts only those of the pass's authors may differ, and what changes only where the journal grows is as it was if the journal is
  pub record GoesOn (pass : Pass T E P F S law) (hold : Hold T) : Type 0 where
    pub longer : IsPrefix (law.journal (got_of hold)) (law.journal hold.value)
    pub frame_is : law.frame hold.value ≡ law.frame (got_of hold)
    pub others : (a : ℕ) → ¬ HasAuthor pass a → law.part hold.value a ≡ law.part (got_of hold) a
    pub steady_is : law.journal hold.value ≡ law.journal (got_of hold) → law.steady hold.value ≡ law.steady (got_of hold)
