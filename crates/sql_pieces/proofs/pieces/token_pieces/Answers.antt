use Rattle.std.proofs.Common.{◌≡◌, [], subst, arith}
use Rattle.std.proofs.lemmas.List.{append-nil, nil_from_length}
use Rattle.sql_pieces.specs.Pieces.{AreSqlPieces}
use Rattle.sql_pieces.proofs.pieces.token_pieces.Goals as goal

pub returns : goal.returns
returns c =
    let none : c.loop-rest.rest.now ≡ [] = nil_from_length _ (let below = c.in_default.len_below in omega arith) in
    subst (AreSqlPieces c.args.text.now c.args.vars.now c.args.tokens.now) (append-nil _) (c.loop-rest.invariant [] (rw none tt))
