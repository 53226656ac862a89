use Rattle.std.proofs.Common.{◌≡◌, ap, subst, ◌∙◌}
use Rattle.std.specs.Prelude.{IfOk}
use Rattle.std.specs.FinMap.{is_sorted}
use Rattle.std.specs.Map.Iter.{deref_pair}
use Rattle.jr_path.specs.Names.{path_cmp}
use Rattle.jr_overlay.proofs.SideBySide.{sorted_lent, sorted_subtree, sorted_view, view_is}
use Rattle.jr_overlay.proofs.overlay.Overlay.view.Goals as goal

pub below-requires : goal.below-requires
below-requires c = sorted_lent deref_pair _ _ _ c.deref.ensures.value c.in_ok-under.ensures (sorted_subtree c.args.base.now _ c.len.ensures.sorted)

pub copied-requires : goal.copied-requires
copied-requires c =
    ap (is_sorted path_cmp) (view_is deref_pair c.args.base.now c.args.self.now _ _ _ _ _ c.root-root.ensures c.len.ensures.sorted c.deref.ensures.value c.in_ok-under.ensures c.deref-2.ensures.value c.in_ok-found.ensures)
    ∙ sorted_view c.args.base.now c.args.self.now c.len.ensures.sorted

pub returns : goal.returns
returns c =
    let is =
    view_is deref_pair c.args.base.now c.args.self.now _ _ _ _ _ c.root-root.ensures c.len.ensures.sorted c.deref.ensures.value c.in_ok-under.ensures c.deref-2.ensures.value c.in_ok-found.ensures in
    subst (λ v. IfOk c.copied.result (λ view. view ≡ v)) is c.copied.ensures
