use Rattle.std.proofs.Common.{sym, ap, ◌∙◌}
use Rattle.jr_items.specs.Items.{child_path}
use Rattle.jr_tree.specs.Trees.{Nodes, node_at}
use Rattle.jcr_frozen.proofs.VersionNames.{passed_over}
use Rattle.jcr_frozen.proofs.histories.know_absent.Goals as goal

pub loop-at-preserved : goal.loop-at-preserved
loop-at-preserved c =
    sym (passed_over c.args.path.now c.args.name.now c.in-Some.at.now c.in-Some.field-0-1.now c.next.new.self c.requires c.in_grammar.ensures.names)
    ∙ (ap (λ (es : Nodes). node_at es (child_path c.args.path.now c.args.name.now)) (sym c.in-Some.ensures.steps) ∙ c.loop-at.invariant)
