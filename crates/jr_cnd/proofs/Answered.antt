-- The answer to the pieces of a text is the answer to the text.
use Rattle.std.proofs.Common.{ℕ, List, Ok, Err, Result, length}
use Rattle.jr_cnd.specs.Meaning.{IsAsMeant, IsCndAnswer, meaning}
use Rattle.cnd_pieces.specs.Pieces.{IsReadAs}
use Rattle.jr_cnd.specs.declared.cnd.Cnd.{Cnd}
use Rattle.jr_cnd.specs.declared.fault.NoCnd.{NoCnd}
use Rattle.jr_cnd.specs.declared.fault.NoCnd.TheVariants.{BadDef, Memory, Syntax}
use Rattle.cnd_pieces.specs.declared.piece.Placed.{Placed}

pub answered : (text : List ℕ) (pieces : List Placed) (result : Result Cnd NoCnd) → IsReadAs text pieces → IsAsMeant result (meaning pieces (length text)) → IsCndAnswer text result
answered text pieces (Ok c) read answer = (pieces, read, answer)
answered text pieces (Err (Syntax offset)) read answer = (pieces, read, answer)
answered text pieces (Err (BadDef start)) read answer = (pieces, read, answer)
answered text pieces (Err Memory) read answer = tt
