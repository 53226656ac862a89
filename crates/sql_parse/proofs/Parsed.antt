-- The answer to some pieces is the answer to the text that says them.
use Rattle.std.proofs.Common.{◌≡◌, ℕ, List, length, refl, sym}
use Rattle.std.specs.Prelude.{Option, None, Some, Result, Ok, Err}
use Rattle.jr_value.specs.declared.value.Kind.{Kind}
use Rattle.jr_value.specs.declared.value.Kind.TheVariants.{Str}
use Rattle.jr_value.specs.declared.value.Value.{Value}
use Rattle.sql_parse.specs.Grammar.{IsAnswer, IsParsed, query_at, start}
use Rattle.sql_query.specs.Trees.{asked_of}
use Rattle.sql_pieces.specs.Pieces.{IsReadAsSql}
use Rattle.sql_pieces.specs.Reading.{State}
use Rattle.sql_pieces.specs.declared.fault.SqlFault.{SqlFault}
use Rattle.sql_pieces.specs.declared.fault.SqlFault.TheVariants.{InvalidQuery, Cast, Memory}
use Rattle.sql_pieces.specs.declared.piece.Placed.{Placed}
use Rattle.sql_query.specs.declared.query.Query.{Query}

pub parsed : (text : List ℕ) (vars : List (List ℕ × Value)) (pieces : List Placed) (result : Result Query SqlFault) → IsReadAsSql text vars pieces → IsAnswer pieces (length text) result → IsParsed text vars result
parsed text vars pieces (Ok query) said answer = (pieces, said, answer)
parsed text vars pieces (Err (InvalidQuery offset)) said answer = (pieces, said, answer)
parsed text vars pieces (Err (Cast k found)) said answer = (pieces, said, answer)
parsed text vars pieces (Err Memory) said answer = tt

-- the query that was read, unless a CAST was refused
pub answered : (pieces : List Placed) (stop : ℕ) (query : Query) (s : State) (refused : Option Kind) (result : Result Query SqlFault)
    → query_at (start pieces stop) ≡ Ok (asked_of query, s)
    → refused ≡ s.refused
    → (refused ≡ None → result ≡ Ok query)
    → ((kind : Kind) → refused ≡ Some kind → result ≡ Err (Cast kind Str))
    → IsAnswer pieces stop result
answered pieces stop query s None result read same none some = rw (none refl) (s, read, sym same)
answered pieces stop query s (Some kind) result read same none some = rw (some kind refl) (refl, asked_of query, s, read, sym same)
