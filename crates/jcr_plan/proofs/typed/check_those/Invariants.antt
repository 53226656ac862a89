use Rattle.std.proofs.Common.{◌≡◌, [], cond, is_some}
use Rattle.std.specs.List.{flat_map}
use Rattle.jr_tree.specs.Trees.{node_at}
use Rattle.jr_items.specs.Items.{first_of}
use Rattle.jr_rules.specs.Violations.{violations_among}
use Rattle.jcr_plan.specs.Checked.{is_asked_in, violations_in}
use Rattle.jcr_plan.proofs.typed.check_those.Given as goal

-- what is left decides
abbrev pub invariant-loop-path : goal.invariant-loop-path
invariant-loop-path l =
    first_of (flat_map (λ e. cond (is_some (node_at l.tree e.0)) (violations_among (is_asked_in l.touched e.0) l.types l.tree e.0) []) l.path-iterator)
    ≡ first_of (violations_in l.touched l.types l.tree)
