-- Revision vectors: for each cluster node at most one revision.
use Rattle.std.specs.Prelude.{◌≡◌, ℕ, ◌+◌, ◌-◌, Bool, true, false, cond, not, ◌&&◌, ◌||◌, ◌==◌, nat_le, List, [], ◌∷◌, map, length, slice_get, slice_set, Option, None, Some, IsTrue}
use Rattle.std.specs.List.{filter_map}
use Rattle.std.specs.Option.{option_flatten, option_map_or}
use Rattle.jr_rev.specs.declared.revision.Revision.{Revision}
use Rattle.jr_rev.specs.Revisions.{is_at_most}

-- the entries of the cluster nodes 1, 2, .., in their order
abbrev pub Entries : Type 0
Entries = List (Option Revision)

-- the entry of cluster node k. There is no node 0
abbrev pub entry : Entries → ℕ → Option Revision
entry v k = cond (k == 0) None (option_flatten (slice_get v (k - 1)))

-- v, with r as the entry of its cluster node
abbrev pub with_entry : Entries → Revision → Entries
with_entry v r = slice_set v (r.cluster - 1) (Some r)

-- v sees r: it has an entry for the cluster node of r, and r is at most that entry
abbrev pub sees : Entries → Revision → Bool
sees v r = option_map_or (is_at_most r) (entry v r.cluster) false

-- v, with the entry of the cluster node of r raised to r. An entry is never lowered, and of no other
-- cluster node than 1 to 8 nothing changes
abbrev pub raised : Entries → Revision → Entries
raised v r = cond (r.cluster == 0 || not (nat_le r.cluster 8) || sees v r) v (with_entry v r)

-- an entry of v is at most that of w; a missing one is least
abbrev pub is_entry_below : Option Revision → Option Revision → Bool
is_entry_below None f = true
is_entry_below (Some e) None = false
is_entry_below (Some e) (Some f) = is_at_most e f

-- v is at most w: each entry of v is at most that of w
abbrev pub is_below : Entries → Entries → Bool
is_below [] w = true
is_below (e ∷ v) [] = is_entry_below e None && is_below v []
is_below (e ∷ v) (f ∷ w) = is_entry_below e f && is_below v w

-- the revision at which cluster node k starts
abbrev pub start_of : ℕ → Revision
start_of k = record { time = 0; counter = 0; cluster = k }

-- the revision of cluster node k that stands in a vector, or its start
abbrev pub own_in : ℕ → Entries → Revision
own_in k v = option_map_or {T = Revision} (λ r. record r { cluster = k }) (entry v k) (start_of k)

-- the start of this many cluster nodes, among eight
abbrev pub start : ℕ → Entries
start clusters = map (λ k. cond (nat_le k clusters) (Some (start_of k)) None) (1 ∷ 2 ∷ 3 ∷ 4 ∷ 5 ∷ 6 ∷ 7 ∷ 8 ∷ [])

-- each entry is of the cluster node that it stands for, from node k on
abbrev pub stands_from : ℕ → Entries → Bool
stands_from k [] = true
stands_from k (None ∷ v) = stands_from (k + 1) v
stands_from k (Some r ∷ v) = r.cluster == k && stands_from (k + 1) v

-- no entry, for eight cluster nodes
abbrev pub no_entries : Entries
no_entries = None ∷ None ∷ None ∷ None ∷ None ∷ None ∷ None ∷ None ∷ []

-- the lesser of two entries; one that is missing in either is missing
abbrev pub lesser_entry : Option Revision → Option Revision → Option Revision
lesser_entry (Some e) (Some f) = Some (cond (is_at_most e f) e f)
lesser_entry _ _ = None

-- the least of two vectors, entry by entry
abbrev pub least : Entries → Entries → Entries
least (e ∷ v) (f ∷ w) = lesser_entry e f ∷ least v w
least _ _ = []

-- the greater of two entries; one that is missing in one is that of the other
abbrev pub greater_entry : Option Revision → Option Revision → Option Revision
greater_entry None f = f
greater_entry (Some e) None = Some e
greater_entry (Some e) (Some f) = Some (cond (is_at_most e f) f e)

-- the greatest of two vectors, entry by entry
abbrev pub greatest : Entries → Entries → Entries
greatest [] w = w
greatest (e ∷ v) [] = e ∷ v
greatest (e ∷ v) (f ∷ w) = greater_entry e f ∷ greatest v w

-- the revisions of v, in the order of their cluster nodes
abbrev pub revisions_of : Entries → List Revision
revisions_of v = filter_map (λ e. e) v

-- eight entries, each of the cluster node that it stands for
pub record IsVector (v : Entries) : Type 0 where
  pub eight : length v ≡ 8
  pub stands : IsTrue (stands_from 1 v)
