-- Of two paths the first in path order.
use Rattle.std.specs.Prelude.{cond, Option, None, Some}
use Rattle.std.specs.Ordering.{is_lt}
use Rattle.jr_path.specs.Names.{path_cmp}
use Rattle.jr_path.specs.declared.path.Path.{Path}

-- the path, or one that is known and doesn't stand behind it
abbrev pub sooner : Path → Option Path → Option Path
sooner p None = Some p
sooner p (Some q) = cond (is_lt (path_cmp p q)) (Some p) (Some q)
