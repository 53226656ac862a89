-- The order of revisions.
use Rattle.std.specs.Prelude.{Bool}
use Rattle.std.specs.declared.cmp.Ordering.{Ordering}
use Rattle.std.specs.Ordering.{nat_cmp, ordering_then, is_eq, is_lt, is_le}
use Rattle.jr_rev.specs.declared.revision.Revision.{Revision}

-- by time, then counter, then cluster node
abbrev pub revision_cmp : Revision → Revision → Ordering
revision_cmp a b = ordering_then (nat_cmp a.time b.time) (ordering_then (nat_cmp a.counter b.counter) (nat_cmp a.cluster b.cluster))

-- the same revision
abbrev pub is_same : Revision → Revision → Bool
is_same a b = is_eq (revision_cmp a b)

-- the first revision is older than the second
abbrev pub is_before : Revision → Revision → Bool
is_before a b = is_lt (revision_cmp a b)

-- the first revision is the second or older
abbrev pub is_at_most : Revision → Revision → Bool
is_at_most a b = is_le (revision_cmp a b)
