use Rattle.std.proofs.lemmas.Cmp.{nat_list_cmp_total}
use Rattle.jr_path.proofs.Maps.{name_exact}
use Rattle.jr_path.proofs.Orders.{tested}
use Rattle.jr_path.proofs.laws.order_of_names.Goals as goal

pub returns-clause-total : goal.returns-clause-total
returns-clause-total c = nat_list_cmp_total

pub returns-clause-exact : goal.returns-clause-exact
returns-clause-exact c = tested nat_list_cmp_total name_exact
