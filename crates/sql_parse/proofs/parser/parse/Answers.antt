use Rattle.sql_parse.proofs.Parsed.{parsed}
use Rattle.sql_parse.proofs.parser.parse.Goals as goal

pub returns : goal.returns
returns c =
    let pieces = c.as_slice.ensures.value in
    parsed c.args.text.now c.args.vars.now c.in_ok-pieces.pieces.items c.query_of.result c.in_ok-pieces.ensures (rw pieces at c.query_of.ensures)
