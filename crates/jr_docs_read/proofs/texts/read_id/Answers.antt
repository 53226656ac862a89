use Rattle.jr_docs_read.proofs.Ids.{cut_at, read_parts, uncut, uncut_settings}
use Rattle.jr_docs_read.proofs.texts.read_id.Goals as goal

pub returns-in-Some-clause-complete : goal.returns-in-Some-clause-complete
returns-in-Some-clause-complete c id h is = read_parts c.id_of.result _ _ _ c.id_of.ensures.node c.id_of.ensures.prev id h is (cut_at c.split_once.result _ _ c.in-Some.is c.split_once.ensures.byte)

pub returns-in-None-clause-complete : goal.returns-in-None-clause-complete
returns-in-None-clause-complete c id h is = uncut_settings id _ h is (uncut c.split_once.result _ c.in-None.is c.split_once.ensures.byte)
