use Rattle.oak_commit.proofs.Looks.{look_asks, look_meets}
use Rattle.oak_commit.proofs.laws.looks_pass_previous_documents.Goals as goal

pub returns-clause-asks : goal.returns-clause-asks
returns-clause-asks c = λ ds c' p rest d es fs e is lists. look_asks p ds c' rest d es fs e is lists

pub returns-clause-meets : goal.returns-clause-meets
returns-clause-meets c = λ ds c' p rest d is. look_meets p ds c' rest d is
