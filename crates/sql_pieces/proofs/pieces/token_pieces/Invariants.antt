use Rattle.std.proofs.Common.{◌++◌, List, length}
use Rattle.sql_pieces.specs.Pieces.{AreSqlPieces}
use Rattle.sql_pieces.specs.declared.piece.Placed.{Placed}
use Rattle.sql_pieces.proofs.pieces.token_pieces.Given as goal

abbrev pub invariant-loop-rest : goal.invariant-loop-rest
invariant-loop-rest l = (q : List Placed) → AreSqlPieces l.text l.vars l.rest q → AreSqlPieces l.text l.vars l.tokens (l.pieces.items ++ q)

abbrev pub decreases-loop-rest : goal.decreases-loop-rest
decreases-loop-rest l = length l.rest
