use Rattle.std.proofs.Common.{map, ap, ◌∙◌}
use Rattle.std.specs.Map.Iter.{deref_pair}
use Rattle.jr_tree.specs.Trees.{subtree_of}
use Rattle.jcr_plan.proofs.TouchedPaths.{all_below}
use Rattle.jcr_plan.proofs.typed.check_all.Goals as goal

pub check_each-requires : goal.check_each-requires
check_each-requires c = ap (map deref_pair) c.deref.ensures.value ∙ (c.in-Ok.ensures ∙ (ap (subtree_of c.args.tree.now) c.root.ensures ∙ all_below c.args.tree.now))
