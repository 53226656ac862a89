-- Commits that ended for want of memory.
use Rattle.std.specs.Prelude.{IsFalse}
use Rattle.jr_rev.specs.declared.revision.Revision.{Revision}
use Rattle.oak_machine.specs.History.{Past}
use Rattle.oak_machine.specs.Commits.{is_committed, is_refused}

-- r ended, neither committed nor refused: memory was refused to it before its commit point
pub record Wanted (past : Past) (r : Revision) : Type 0 where
  pub uncommitted : IsFalse (is_committed past r)
  pub unrefused : IsFalse (is_refused past r)
