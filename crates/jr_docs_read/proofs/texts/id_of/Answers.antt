use Rattle.std.proofs.Common.{sym, ◌∙◌}
use lib.Utf8.{encode}
use Rattle.jr_docs_read.proofs.Ids.{depth_no_p, stripped}
use Rattle.jr_rev.specs.Texts.{hexadecimal}
use Rattle.jr_docs_read.proofs.texts.id_of.Goals as goal

pub returns-in_err-number_in-in-Some-clause-node : goal.returns-in_err-number_in-in-Some-clause-node
returns-in_err-number_in-in-Some-clause-node c p h depth path = absurd (depth_no_p _ _ h.depth (depth ∙ stripped _ _ c.in-Some.ensures.cases))

pub returns-in_ok-number_in-in-Some-clause-node : goal.returns-in_ok-number_in-in-Some-clause-node
returns-in_ok-number_in-in-Some-clause-node c p h depth path = absurd (depth_no_p _ _ h.depth (depth ∙ stripped _ _ c.in-Some.ensures.cases))

pub returns-in-None-clause-prev : goal.returns-in-None-clause-prev
unfolding encode
returns-in-None-clause-prev c n p small h front path = absurd (c.in-None.ensures.cases (hexadecimal n) (sym front))
