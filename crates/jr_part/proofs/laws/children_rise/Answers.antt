use Rattle.jr_part.proofs.Children.{children_sorted}
use Rattle.jr_part.proofs.laws.children_rise.Goals as goal

pub returns : goal.returns
returns c = λ t p tree. children_sorted p t tree.paths
