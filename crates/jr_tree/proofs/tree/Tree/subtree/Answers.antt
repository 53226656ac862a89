use Rattle.std.proofs.Common.{ap, ◌∙◌}
use Rattle.std.specs.FinMap.{is_sorted}
use Rattle.std.specs.Map.Iter.{deref_pair}
use Rattle.jr_path.specs.Names.{path_cmp}
use Rattle.jr_tree.proofs.Under.{copied_more, copied_all, subtree_sorted}
use Rattle.jr_tree.proofs.tree.Tree.subtree.Goals as goal

pub loop-at-preserved : goal.loop-at-preserved
loop-at-preserved c =
    copied_more deref_pair _ _ _ _ _ _ _ _ _ c.loop-at-test.true c.loop-at-item.is c.deref-at-items.ensures.value c.in_ok-under.ensures (subtree_sorted _ _ _ c.self.view_is c.self.invariant) c.loop-at.invariant c.in_ok-put.ensures.ok
    c.in_ok-copy.ensures c.in_ok-copy-2.ensures

pub invariant_of-result : goal.invariant_of-result
invariant_of-result c =
    let all = copied_all deref_pair _ _ _ _ _ c.loop-at-test.false c.deref-at-items.ensures.value c.in_ok-under.ensures c.loop-at.invariant in
    ap (is_sorted path_cmp) all ∙ subtree_sorted _ _ _ c.self.view_is c.self.invariant
