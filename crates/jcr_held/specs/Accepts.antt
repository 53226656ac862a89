-- What an accepted reply leaves of what a session holds.
use Rattle.std.specs.Prelude.{◌≡◌, ℕ, Bool, true, false, cond, not, List, [], Option, option_map}
use Rattle.std.specs.Option.{unwrap_or}
use Rattle.jcr_observe.specs.declared.event.Filter.{Filter}
use Rattle.jcr_trans.specs.declared.command.Command.{Command}
use Rattle.jcr_trans.specs.declared.command.Command.TheVariants as command
use Rattle.jcr_law.specs.State.{Call, accepted}
use Rattle.jcr_law.specs.declared.state.Cursor.{Cursor}
use Rattle.jcr_held.specs.declared.held.Held.{Held}

-- an accepted reply to the command drops what is pending
abbrev pub drops_pending : Command → Bool
drops_pending command.Save = true
drops_pending (command.Refresh keep) = not keep
drops_pending _ = false

-- what is held, without what is pending where that is dropped
abbrev pub without_pending : Held → (drops : Bool) → Held
without_pending x drops = record x {
  pending = cond drops [] x.pending;
  is_kept = cond drops false x.is_kept;
}

-- the cursor, which an accepted `events` moves to the base
abbrev pub cursor_behind : Held → Command → Option Cursor
cursor_behind x command.Events =
    option_map {T = Cursor} (λ cursor. record cursor { at = x.who.base }) x.cursor
cursor_behind x _ = x.cursor

-- the tokens told, or else those held, and the cursor are what the law has after an accepted reply
pub record AcceptsAs (x : Held) (tokens : Option (List (List ℕ))) (c : Call) (m : Command)
    : Type 0 where
  pub tokens_are : unwrap_or tokens x.tokens ≡ (accepted c m).tokens
  pub cursor_is : cursor_behind x m ≡ (accepted c m).cursor

-- the command observes, with this filter
abbrev pub IsFilterOf : Command → Filter → Type 0
IsFilterOf (command.Observe p deep mask) f = f ≡ record { path = p; deep = deep; mask = mask }
IsFilterOf _ f = ⊥
