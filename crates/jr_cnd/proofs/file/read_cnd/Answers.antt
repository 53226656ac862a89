use Rattle.jr_cnd.proofs.Answered.{answered}
use Rattle.jr_cnd.proofs.file.read_cnd.Goals as goal

pub returns : goal.returns
returns c =
    let pieces = c.as_slice.ensures.value in
    answered c.args.text.now c.in_ok-pieces.pieces.items c.meaning.result c.in_ok-pieces.ensures (rw pieces at c.meaning.ensures)
