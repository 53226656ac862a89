use Rattle.std.proofs.Common.{sym, ap, ◌∙◌}
use Rattle.jr_items.specs.Items.{child_path}
use Rattle.jr_items.specs.Names.{version_storage}
use Rattle.jr_tree.specs.Trees.{Nodes, children_of}
use Rattle.jcr_call.proofs.Childless.{child_passed}
use Rattle.jcr_call.proofs.versions.know_childless.Goals as goal

pub loop-at-preserved : goal.loop-at-preserved
loop-at-preserved c =
    sym (child_passed version_storage c.args.id.now c.in-Some.at.now c.in-Some.field-0-1.now
    c.next.new.self c.requires c.in_grammar.ensures.names)
    ∙ (ap (λ (es : Nodes). children_of es (child_path version_storage c.args.id.now))
    (sym c.in-Some.ensures.steps) ∙ c.loop-at.invariant)
