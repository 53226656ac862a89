use Rattle.jr_path.proofs.Maps.{path_total, path_exact}
use Rattle.jr_path.proofs.Orders.{tested}
use Rattle.jr_path.proofs.laws.order_of_paths.Goals as goal

pub returns-clause-total : goal.returns-clause-total
returns-clause-total c = path_total

pub returns-clause-exact : goal.returns-clause-exact
returns-clause-exact c = tested path_total path_exact
