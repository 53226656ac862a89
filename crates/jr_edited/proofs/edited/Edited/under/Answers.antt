use Rattle.std.proofs.Common.{◌≡◌, ap, map, subst, ◌∙◌}
use Rattle.std.specs.Prelude.{IfOk}
use Rattle.std.specs.Map.Iter.{deref_pair}
use Rattle.jr_tree.specs.Trees.{Nodes, subtree_of}
use Rattle.jr_overlay.proofs.SideBySide.{below_is, sorted_lent, sorted_subtree}
use Rattle.jr_edited.proofs.edited.Edited.under.Goals as goal

pub below-requires : goal.below-requires
below-requires c = sorted_lent deref_pair _ _ _ c.deref.ensures.value c.in_ok-known.ensures (sorted_subtree c.self.inside.tree.now c.args.path.now c.self.invariant.tree)

pub returns : goal.returns
returns c =
    let is =
    below_is deref_pair c.self.inside.tree.now c.self.inside.changes c.args.path.now _ _ c.deref.ensures.value c.in_ok-known.ensures c.self.invariant.tree
    ∙ ap (λ (t : Nodes). subtree_of t c.args.path.now) c.self.view_is in
    subst (λ v. IfOk c.below.result (λ found. map deref_pair found.items ≡ v)) is c.below.ensures
