use Rattle.std.proofs.Common.{◌≡◌, ◌+◌, ◌-◌, ◌==◌, ◌&&◌, ◌||◌, false, reverse}
use Rattle.std.specs.List.{list_all, range_with_len}
use Rattle.std.specs.Option.{option_map_or}
use Rattle.jr_rev.specs.Revisions.{is_at_most}
use Rattle.jr_rev.specs.Vectors.{entry}
use Rattle.oak_machine.specs.Heads.{published}
use Rattle.jcr_law.specs.Tasks.{knows_published}
use Rattle.jcr_past.proofs.came.knows_published.Given as goal

-- what is known so far, and what is left
abbrev pub invariant-loop-below : goal.invariant-loop-below
invariant-loop-below l =
    (l.knows && list_all
    (λ m. (m == l.cluster)
    || option_map_or (is_at_most (published l.journal.start (reverse l.before) m))
    (entry l.v m) false)
    (range_with_len (l.below + 1) (l.journal.clusters + 1 - (l.below + 1))))
    ≡ knows_published l.journal.clusters l.journal.start (reverse l.before) l.cluster l.v
