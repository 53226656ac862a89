use Rattle.std.proofs.Common.{ap, ◌∙◌}
use Rattle.std.specs.FinMap.{is_sorted}
use Rattle.jr_path.specs.Names.{path_cmp}
use Rattle.jr_tree.specs.declared.edit.Write.TheVariants as write
use Rattle.jr_tree.proofs.AtPath.{order-filled}
use Rattle.jr_tree.proofs.tree.Tree.put.Goals as goal

pub invariant_of-self-2 : goal.invariant_of-self-2
invariant_of-self-2 c =
    ap (is_sorted path_cmp) c.in_ok-put_property.ensures.ok
    ∙ order-filled c.self.inside.nodes c.self.invariant (write.Put c.args.path.now c.args.name c.args.property)
