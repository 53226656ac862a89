use Rattle.jr_stage.proofs.Growing.{cut_grows, cut_stays, one_more, part_grows}
use Rattle.jr_stage.proofs.laws.cuts_grow.Goals as goal

pub returns-clause-under_way : goal.returns-clause-under_way
returns-clause-under_way c = part_grows

pub returns-clause-one_more : goal.returns-clause-one_more
returns-clause-one_more c = one_more

pub returns-clause-stays : goal.returns-clause-stays
returns-clause-stays c = cut_stays

pub returns-clause-waits : goal.returns-clause-waits
returns-clause-waits c = cut_grows
