use Rattle.std.proofs.Common.{◌&&◌, ◌-◌, nat_eq, length, refl, sym, ap, ◌∙◌}
use Rattle.jr_tree.proofs.Under.{child_where}
use Rattle.jr_tree.proofs.tree.is_child.Goals as goal

pub returns-then-is_under : goal.returns-then-is_under
returns-then-is_under c =
    ap (λ b. b && nat_eq (c.depth-depth.result - 1) c.depth.result) (sym c.if-is_under.true)
    ∙ child_where _ _ _ _ _ c.depth-depth.ensures c.if-depth-eq0.false c.is_under.ensures c.depth.ensures

pub returns-else-is_under : goal.returns-else-is_under
returns-else-is_under c =
    c.if-is_under.false
    ∙ ap (λ b. b && nat_eq (c.depth-depth.result - 1) (length c.args.path.now)) (sym c.if-is_under.false)
    ∙ child_where _ _ _ _ _ c.depth-depth.ensures c.if-depth-eq0.false c.is_under.ensures refl
