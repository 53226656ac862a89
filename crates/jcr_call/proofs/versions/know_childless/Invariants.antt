use Rattle.std.proofs.Common.{◌≡◌}
use Rattle.jr_items.specs.Items.{child_path}
use Rattle.jr_items.specs.Names.{version_storage}
use Rattle.jr_tree.specs.Trees.{children_of}
use Rattle.jcr_call.proofs.versions.know_childless.Given as goal

-- what is left decides
abbrev pub invariant-loop-at : goal.invariant-loop-at
invariant-loop-at l = children_of l.at-iterator (child_path version_storage l.id)
    ≡ children_of l.tree (child_path version_storage l.id)
