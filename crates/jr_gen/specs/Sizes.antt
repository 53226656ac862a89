-- How large the scripts are that are made.
use Rattle.std.specs.Prelude.{◌≡◌, ℕ, ◌*◌, All, List, length, sum_by}
use Rattle.jcr_trans.specs.declared.command.SessionScript.{SessionScript}
use Rattle.jr_script.specs.declared.script.Script.{Script}

-- how many commands these sessions have in all
abbrev pub commands_in : List SessionScript → ℕ
commands_in sessions = sum_by (λ (s : SessionScript). length s.commands) sessions

-- a session of 104 commands
abbrev pub HasAllCommands : SessionScript → Type 0
HasAllCommands session = length session.commands ≡ 104

-- a script for m sessions, each with 104 commands
pub record IsOfSize (m : ℕ) (script : Script) : Type 0 where
  pub sessions : length script.sessions ≡ m
  pub commands : All HasAllCommands script.sessions
  pub all : commands_in script.sessions ≡ 104 * m
