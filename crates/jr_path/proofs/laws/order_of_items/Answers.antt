use Rattle.jr_path.proofs.Orders.{item_total, item_exact}
use Rattle.jr_path.proofs.Orders.{tested}
use Rattle.jr_path.proofs.laws.order_of_items.Goals as goal

pub returns-clause-total : goal.returns-clause-total
returns-clause-total c = item_total

pub returns-clause-exact : goal.returns-clause-exact
returns-clause-exact c = tested item_total item_exact
