use Rattle.std.proofs.Common.{◌≡◌, ap, subst, ◌∙◌}
use Rattle.std.specs.Prelude.{IfOk}
use Rattle.std.specs.Map.Iter.{deref_pair}
use Rattle.jr_overlay.specs.Overlays.{Sighted, known_children}
use Rattle.jr_overlay.proofs.NamesPut.{names_done}
use Rattle.jr_overlay.proofs.sight.Sight.children.Goals as goal

pub returns : goal.returns
returns c =
    let is =
    names_done deref_pair c.args.path.now c.self.inside.overlay.now _ _ _ _ _ _ c.loop-at.invariant c.loop-at-test.false c.deref-at-items.ensures.value c.in_ok-under.ensures c.in_ok-names.ensures
    ∙ ap (λ (s : Sighted). known_children s.known s.changed c.args.path.now) c.self.view_is in
    subst (λ v. IfOk c.listed.result (λ names. names ≡ v)) is c.listed.ensures
