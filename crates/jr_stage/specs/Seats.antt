-- Sessions before any turn.
use Rattle.std.specs.Prelude.{◌≡◌, ℕ, List, length, slice_get, Some, None}
use Rattle.jr_types.specs.declared.TypeDef.{TypeDef}
use Rattle.jcr_run.specs.Standing.{IsNew}
use Rattle.jcr_trans.specs.declared.command.SessionScript.{SessionScript}
use Rattle.jr_stage.specs.declared.stage.Seat.{Seat}

-- session s has not logged in, with the node types of the script, and nothing of it is in flight
pub record IsNewSeat (types : List TypeDef) (s : ℕ) (session : SessionScript) (seat : Seat)
    : Type 0 where
  pub run : IsNew s 0 session.commands types seat.run
  pub flight : seat.flight ≡ None

-- the seats are those of the first n sessions, none of which has logged in
pub record AreNew (types : List TypeDef) (sessions : List SessionScript) (n : ℕ) (seats : List Seat)
    : Type 0 where
  pub many : length seats ≡ n
  pub each : (k : ℕ) (session : SessionScript) (seat : Seat) → slice_get sessions k ≡ Some session
      → slice_get seats k ≡ Some seat → IsNewSeat types k session seat
