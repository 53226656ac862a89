use Rattle.std.proofs.Common.{◌≡◌, true, drop, is_some, map}
use Rattle.std.specs.List.{flat_map, list_all}
use Rattle.std.specs.Map.Iter.{deref_pair}
use Rattle.jr_tree.specs.Trees.{node_at}
use Rattle.jr_items.specs.Items.{first_of}
use Rattle.jr_rules.specs.Violations.{first_violation, violations_at}
use Rattle.jcr_plan.proofs.typed.check_each.Given as goal

-- what is left decides, and each node that is left stands in the tree
abbrev pub invariant-loop-path : goal.invariant-loop-path
invariant-loop-path l =
    (first_of (flat_map (λ e. violations_at l.types l.tree e.0) (map deref_pair (drop l.path-index l.nodes))) ≡ first_violation l.types l.tree)
    × (list_all (λ e. is_some (node_at l.tree e.0)) (map deref_pair (drop l.path-index l.nodes)) ≡ true)
