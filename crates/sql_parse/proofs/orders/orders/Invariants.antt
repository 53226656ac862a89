use Rattle.std.proofs.Common.{◌≡◌, length, map}
use Rattle.sql_parse.specs.Grammar.{order_more}
use Rattle.sql_pieces.specs.Reading.{many, next_sign}
use Rattle.sql_query.specs.Trees.{by_of}
use Rattle.sql_pieces.specs.declared.piece.Sign.TheVariants.{Comma}
use Rattle.sql_parse.proofs.orders.orders.Given as goal

abbrev pub invariant-loop-turns : goal.invariant-loop-turns
invariant-loop-turns l =
    many (next_sign Comma) (order_more l.names) l.turns (map by_of l.orders) l.cursor ≡ many (next_sign Comma) (order_more l.names) l.initial.turns (map by_of l.initial.orders) l.initial.cursor

abbrev pub decreases-loop-turns : goal.decreases-loop-turns
decreases-loop-turns l = length l.turns
