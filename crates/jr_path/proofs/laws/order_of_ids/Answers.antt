use Rattle.jr_path.proofs.Orders.{id_total, id_exact}
use Rattle.jr_path.proofs.Orders.{tested}
use Rattle.jr_path.proofs.laws.order_of_ids.Goals as goal

pub returns-clause-total : goal.returns-clause-total
returns-clause-total c = id_total

pub returns-clause-exact : goal.returns-clause-exact
returns-clause-exact c = tested id_total id_exact
