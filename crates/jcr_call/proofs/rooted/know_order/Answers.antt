use Rattle.std.proofs.Common.{sym, ap, ◌∙◌}
use Rattle.jr_path.specs.Names.{name_cmp}
use Rattle.jr_tree.proofs.Entries.{tested}
use Rattle.jr_tree.specs.Trees.{has_names_in_order}
use Rattle.std.specs.Prelude.{◌&&◌}
use Rattle.jcr_call.proofs.rooted.know_order.Goals as goal

pub loop-node-preserved : goal.loop-node-preserved
loop-node-preserved c =
    ap (λ b. b && has_names_in_order c.next.new.self) (sym (tested name_cmp c.in-Some.node.now.props c.len-in-loop-node.ensures.ordered))
    ∙ (ap has_names_in_order (sym c.in-Some.ensures.steps) ∙ c.loop-node.invariant)
