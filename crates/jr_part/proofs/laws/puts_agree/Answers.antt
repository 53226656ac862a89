use Rattle.std.proofs.Common.{refl}
use Rattle.jr_tree.specs.Trees.{node_at}
use Rattle.jr_part.proofs.Puts.{children_agree, node_agrees}
use Rattle.jr_part.proofs.laws.puts_agree.Goals as goal

pub returns-clause-node : goal.returns-clause-node
returns-clause-node c = λ t k p agrees. node_agrees t k p agrees (node_at t p) refl

pub returns-clause-children : goal.returns-clause-children
returns-clause-children c = children_agree
