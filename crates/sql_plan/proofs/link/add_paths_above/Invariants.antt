use Rattle.std.proofs.Common.{◌≡◌, ◌++◌, map, take}
use Rattle.sql_plan.specs.Index.{Path, sought}
use Rattle.sql_plan.specs.Links.{paths_above}
use Rattle.sql_plan.proofs.link.add_paths_above.Given as goal

-- the paths so far
abbrev pub invariant-loop-depth : goal.invariant-loop-depth
invariant-loop-depth l = map sought l.keys.items ≡ map sought l.initial.keys.items ++ map Path (take l.depth (paths_above l.names))
