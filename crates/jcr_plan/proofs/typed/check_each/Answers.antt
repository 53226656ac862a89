use Rattle.std.proofs.Common.{ap, ◌∙◌, is_some}
use Rattle.std.specs.List.{flat_map, list_all}
use Rattle.jr_tree.specs.Trees.{Nodes, node_at}
use Rattle.jr_items.specs.Items.{first_of}
use Rattle.jr_rules.specs.Violations.{violations_at}
use Rattle.jcr_plan.proofs.Refused.{all_there}
use Rattle.jcr_plan.proofs.typed.check_each.Goals as goal

pub loop-path-init : goal.loop-path-init
loop-path-init c =
    (ap (λ (es : Nodes). first_of (flat_map (λ e. violations_at c.args.types.now c.args.tree.now e.0) es)) c.requires, ap (λ (es : Nodes). list_all (λ e. is_some (node_at c.args.tree.now e.0)) es) c.requires ∙ all_there c.args.tree.now)
