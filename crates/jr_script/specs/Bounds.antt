-- The bounds that a script keeps.
use Rattle.std.specs.Prelude.{ℕ, ◌≤◌, All, length}
use Rattle.jr_script.specs.Schedules.{IsEntryWithin}
use Rattle.jr_script.specs.Types.{AreTypes}
use Rattle.jr_script.specs.declared.script.Script.{Script}
use Rattle.jcr_trans.specs.declared.command.SessionScript.{SessionScript}

-- a session is at one of the cluster nodes, and has at most 10,000 commands
pub record IsSessionWithin (clusters : ℕ) (session : SessionScript) : Type 0 where
  pub placed : 1 ≤ session.cluster
  pub near : session.cluster ≤ clusters
  pub few : length session.commands ≤ 10000

-- one to eight cluster nodes, types that begin with the built-in ones, at most 64 sessions, and a
-- schedule of at most 1,000,000 entries for these
pub record IsWithin (script : Script) : Type 0 where
  pub some : 1 ≤ script.clusters
  pub nodes : script.clusters ≤ 8
  pub types : AreTypes script.types
  pub few : length script.sessions ≤ 64
  pub sessions : All (IsSessionWithin script.clusters) script.sessions
  pub short : length script.schedule ≤ 1000000
  pub entries : All (IsEntryWithin (length script.sessions)) script.schedule
