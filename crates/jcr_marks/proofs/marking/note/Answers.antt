use Rattle.jcr_marks.proofs.MarkOrder.{one_mark}
use Rattle.jcr_marks.proofs.marking.note.Goals as goal

pub returns : goal.returns
returns c = one_mark c.args.found.now c.put.new.self _ c.in_ok-put.ensures.ok
