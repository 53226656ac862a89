use Rattle.std.proofs.Common.{◌≡◌, take}
use Rattle.jr_builtin.specs.Builtin.{builtin}
use Rattle.jr_builtin.proofs.table.add_all.Given as goal

-- the types so far
abbrev pub invariant-loop-place : goal.invariant-loop-place
invariant-loop-place l = l.registry ≡ take l.place builtin
