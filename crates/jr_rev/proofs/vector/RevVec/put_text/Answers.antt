use Rattle.std.proofs.lemmas.Result.{on_ok_weaker}
use Rattle.jr_rev.proofs.OneVector.{vector_text_is}
use Rattle.jr_rev.proofs.vector.RevVec.put_text.Goals as goal

pub returns-else-is_err-clause-text : goal.returns-else-is_err-clause-text
returns-else-is_err-clause-text c = rw (← c.self.view_is) (on_ok_weaker c.put_entries-done.result (vector_text_is c.self.inside.entries c.self.invariant) c.put_entries-done.ensures.fits)
