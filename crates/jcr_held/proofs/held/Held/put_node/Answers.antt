use Rattle.std.proofs.Common.{◌≡◌, true, subst, sym}
use Rattle.std.specs.FinMap.{is_sorted}
use Rattle.jr_path.specs.Names.{path_cmp}
use Rattle.jr_part.specs.Parts.{Knowledge}
use Rattle.jcr_held.specs.Holds.{Holds}
use Rattle.jcr_held.proofs.Holding.{holds_node}
use Rattle.jcr_held.proofs.held.Held.put_node.Goals as goal

pub returns-clause-holds : goal.returns-clause-holds
returns-clause-holds c = λ d h is.
    subst (λ (k : Knowledge). Holds d (record c.args.self.now { part = k })) (sym c.in_ok-put_node.ensures.ok)
    (holds_node d c.args.self.now c.args.path.now c.args.node
    (subst (λ (k : Knowledge). is_sorted path_cmp k.nodes ≡ true) c.in_ok-put_node.ensures.ok c.in_order.ensures.nodes) is h)
