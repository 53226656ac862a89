-- Steps at paths of which something holds.
use Rattle.std.proofs.Common.{◌≡◌, Bool, true, false, cond, Option, Some, [], is_some, refl, ap, sym, subst, ◌∙◌}
use mathlib.Core.Bool.{false≢true}
use Rattle.std.specs.Ordering.{eq_by_cmp}
use Rattle.jr_path.specs.Names.{path_cmp}
use Rattle.jr_path.specs.declared.path.Path.{Path}
use Rattle.jr_tree.specs.declared.tree.Node.{Node}
use Rattle.jr_tree.proofs.Pointwise.{same_path}
use Rattle.jr_overlay.specs.Drafts.{Steps, with_step}
use Rattle.jr_overlay.specs.Views.{AreAt, step_at}
use Rattle.jr_overlay.proofs.KeepingSteps.{at_step}

module _ (P : Path → Type 0) where
  pub touch_none : AreAt P []
  touch_none p h = absurd (false≢true h)

  pub touch_more : (steps : Steps) (p : Path) (o : Option Node) → AreAt P steps → P p → AreAt P (with_step steps p o)
  touch_more steps p o touch here q h =
      by (eq_by_cmp path_cmp q p) refl (ap (λ (x : Option (Option Node)). is_some x) (sym (at_step steps p o q)) ∙ h)
    where
      by : (b : Bool) → eq_by_cmp path_cmp q p ≡ b → is_some (cond b (Some o) (step_at steps q)) ≡ true → P q
      by true is there = subst P (sym (same_path q p is)) here
      by false is there = touch q there
