use Rattle.std.proofs.Common.{◌≡◌, ◌+◌, ◌++◌, List, drop, length}
use Rattle.cnd_pieces.specs.Pieces.{ArePieces}
use Rattle.cnd_pieces.specs.Tokens.{gap_size}
use Rattle.cnd_pieces.specs.declared.context.Context.TheVariants.{Elsewhere}
use Rattle.cnd_pieces.specs.declared.piece.Placed.{Placed}
use Rattle.cnd_pieces.proofs.pieces.pieces_of.Given as goal

abbrev pub invariant-loop-rest : goal.invariant-loop-rest
invariant-loop-rest l = record {
  left : l.at + length l.rest ≡ length l.text;
  pieces : (q : List Placed) → ArePieces l.context l.at l.rest q → ArePieces Elsewhere (gap_size l.text) (drop (gap_size l.text) l.text) (l.pieces.items ++ q);
}

abbrev pub decreases-loop-rest : goal.decreases-loop-rest
decreases-loop-rest l = length l.rest
