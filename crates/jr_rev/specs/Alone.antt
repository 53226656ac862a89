-- A vector that differs from another by the next revision of one cluster node alone.
use Rattle.std.specs.Prelude.{◌≡◌, ◌≢◌, ℕ, ◌+◌, ◌≤◌, Some, option_map}
use Rattle.jr_rev.specs.declared.revision.Revision.{Revision}
use Rattle.jr_rev.specs.Vectors.{Entries, entry}

-- the new vector has r as the entry of its cluster node, the old one there an entry one earlier in
-- time; the entries of the other cluster nodes are the same
pub record IsNextAlone (old new : Entries) (r : Revision) : Type 0 where
  pub own : entry new r.cluster ≡ Some r
  pub next : option_map (λ e. e.time + 1) (entry old r.cluster) ≡ Some r.time
  pub others : (k : ℕ) → 1 ≤ k → k ≤ 8 → k ≢ r.cluster → entry new k ≡ entry old k
