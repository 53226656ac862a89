-- When two answers to a text are the same.
use Rattle.std.specs.Prelude.{◌≡◌, Result, Ok, Err}
use Rattle.sql_query.specs.Trees.{asked_of}
use Rattle.sql_pieces.specs.declared.fault.SqlFault.{SqlFault}
use Rattle.sql_pieces.specs.declared.fault.SqlFault.TheVariants as fault
use Rattle.sql_query.specs.declared.query.Query.{Query}

-- two answers are the same, but for where the parts of a query lie in memory, or memory was refused
abbrev pub AreSame : Result Query SqlFault → Result Query SqlFault → Type 0
AreSame (Err fault.Memory) b = Unit {0}
AreSame (Ok p) (Ok q) = asked_of p ≡ asked_of q
AreSame (Err (fault.InvalidQuery m)) (Err (fault.InvalidQuery n)) = m ≡ n
AreSame (Err (fault.Cast k found)) (Err (fault.Cast l other)) = (k ≡ l) × (found ≡ other)
AreSame a (Err fault.Memory) = Unit {0}
AreSame a b = ⊥
