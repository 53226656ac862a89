use Rattle.oak_sync.proofs.Ending.{one_list, root_last}
use Rattle.oak_sync.proofs.laws.one_way_up.Goals as goal

pub returns-clause-one : goal.returns-clause-one
returns-clause-one c = one_list

pub returns-clause-root : goal.returns-clause-root
returns-clause-root c = root_last
