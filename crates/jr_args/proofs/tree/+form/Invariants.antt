use Rattle.std.proofs.Common.{◌≡◌}
use Rattle.serde_json.specs.View.{members_view, view}
use Rattle.jr_args.specs.Trees.{all_trees, are_fields, are_trees, is_tree}
use Rattle.jr_args.proofs.tree.+form.Given as goal

abbrev pub invariant-are_trees-loop-key : goal.invariant-are_trees-loop-key
invariant-are_trees-loop-key l =
    (goal.iterator-are_trees-loop-key).can_next l._key-iterator ×
    (goal.iterator-are_trees-loop-key).is_finite l._key-iterator ×
    (are_trees (view l.json) ≡ all_trees (members_view l._key-iterator))

abbrev pub invariant-is_tree-loop-key : goal.invariant-is_tree-loop-key
invariant-is_tree-loop-key l =
    (goal.iterator-is_tree-loop-key).can_next l.key-iterator ×
    (goal.iterator-is_tree-loop-key).is_finite l.key-iterator ×
    (is_tree (view l.json) ≡ are_fields (members_view l.key-iterator))
