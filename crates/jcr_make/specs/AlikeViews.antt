-- What the commands read of a view.
use Rattle.std.specs.Prelude.{◌≡◌, ◌++◌}
use Rattle.jr_path.specs.declared.path.Path.{Path}
use Rattle.jr_overlay.specs.Overlays.{View}

-- the same nodes are seen at p and below
pub record AreAlikeFrom (u v : View) (p : Path) : Type 0 where
  pub nodes : (more : Path) → u.node (p ++ more) ≡ v.node (p ++ more)
