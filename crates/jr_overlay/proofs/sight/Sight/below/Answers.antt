use Rattle.std.proofs.Common.{◌≡◌, map, ap, subst, ◌∙◌}
use Rattle.std.specs.Prelude.{IfOk}
use Rattle.std.specs.Map.Iter.{deref_pair}
use Rattle.jr_tree.specs.Trees.{subtree_of}
use Rattle.jr_overlay.specs.Overlays.{Sighted, view_of}
use Rattle.jr_overlay.proofs.SideBySide.{below_is, sorted_lent, sorted_subtree}
use Rattle.jr_overlay.proofs.sight.Sight.below.Goals as goal

pub below-requires : goal.below-requires
below-requires c = sorted_lent deref_pair _ _ _ c.deref.ensures.value c.in_ok-under.ensures (sorted_subtree c.self.inside.part.now.nodes c.args.path.now c.in_order.ensures.nodes)

pub returns : goal.returns
returns c =
    let is =
    below_is deref_pair c.self.inside.part.now.nodes c.self.inside.overlay.now c.args.path.now _ _ c.deref.ensures.value c.in_ok-under.ensures c.in_order.ensures.nodes
    ∙ ap (λ (s : Sighted). subtree_of (view_of s.known.nodes s.changed) c.args.path.now) c.self.view_is in
    subst (λ v. IfOk c.below.result (λ found. map deref_pair found.items ≡ v)) is c.below.ensures
