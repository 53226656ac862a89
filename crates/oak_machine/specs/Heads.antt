-- The heads of the cluster nodes.
use Rattle.std.specs.Prelude.{ℕ, ◌+◌, Bool, cond, ◌==◌, max, List, [], ◌∷◌, Option, None, Some}
use Rattle.std.specs.Option.{option_map_or}
use Rattle.std.specs.List.{filter, fold, list_all, list_any}
use Rattle.jr_rev.specs.declared.revision.Revision.{Revision}
use Rattle.jr_rev.specs.declared.vector.RevVec.{RevVec}
use Rattle.jr_rev.specs.Revisions.{is_before}
use Rattle.jr_rev.specs.Vectors.{entry, with_entry}
use Rattle.oak_machine.specs.declared.event.Event.TheVariants as event
use Rattle.oak_machine.specs.History.{Begin, Past, begin_at, begin_of}
use Rattle.oak_machine.specs.Commits.{is_in_flight}

-- the revisions that cluster node k has drawn
abbrev pub draws_by : Past → ℕ → List Revision
draws_by [] k = []
draws_by (event.Draw d ∷ past) k = cond (d.revision.cluster == k) (d.revision ∷ draws_by past k) (draws_by past k)
draws_by (_ ∷ past) k = draws_by past k

-- the greater of two revisions
abbrev pub greater_of : Revision → Revision → Revision
greater_of a b = cond (is_before a b) b a

-- the greatest of a first revision and some others
abbrev pub greatest_revision : Revision → List Revision → Revision
greatest_revision first rs = fold greater_of first rs

-- the greatest of a first revision and some others, where there are others
abbrev pub greatest_of : Revision → List Revision → Option Revision
greatest_of first [] = None
greatest_of first (r ∷ rs) = Some (greatest_revision first (r ∷ rs))

-- the revisions of cluster node k that are in flight
abbrev pub flying : Past → ℕ → List Revision
flying past k = filter (is_in_flight past) (draws_by past k)

-- some revision of cluster node k is in flight
abbrev pub is_flying : Past → ℕ → Bool
is_flying past k = list_any (is_in_flight past) (draws_by past k)

-- r is below every revision of cluster node k that is in flight
abbrev pub is_below_flying : Past → ℕ → Revision → Bool
is_below_flying past k r = list_all (is_before r) (flying past k)

-- the drawn revisions of cluster node k below every one of it in flight
abbrev pub below_flying : Past → ℕ → List Revision
below_flying past k = filter (is_below_flying past k) (draws_by past k)

-- the local revision of cluster node k: the greatest that it drew below every one of it in flight,
-- or what it begins from
abbrev pub local : Begin → Past → ℕ → Revision
local begin past k = greatest_revision (begin_of begin k) (below_flying past k)

-- the greatest revision that cluster node k drew below every one of it in flight, if there is one
abbrev pub local_head : Begin → Past → ℕ → Option Revision
local_head begin past k = greatest_of (begin_of begin k) (below_flying past k)

-- what cluster node k has published
abbrev pub outs_of : Past → ℕ → List Revision
outs_of [] k = []
outs_of (event.Out m r ∷ past) k = cond (m == k) (r ∷ outs_of past k) (outs_of past k)
outs_of (_ ∷ past) k = outs_of past k

-- the greatest revision that cluster node k has published, or what it begins from
abbrev pub published : Begin → Past → ℕ → Revision
published begin past k = greatest_revision (begin_of begin k) (outs_of past k)

-- what cluster node k has learned last, or the vector at the beginning
abbrev pub last_in : ℕ → Begin → Past → ℕ → RevVec
last_in clusters begin [] k = begin_at clusters begin
last_in clusters begin (event.In m v ∷ past) k = cond (m == k) v (last_in clusters begin past k)
last_in clusters begin (_ ∷ past) k = last_in clusters begin past k

-- the head of cluster node k: its local revision, and for the others what it has learned last
abbrev pub head_of : ℕ → Begin → Past → ℕ → RevVec
head_of clusters begin past k = with_entry (last_in clusters begin past k) (local begin past k)

-- the greatest time in a vector
abbrev pub greatest_time : RevVec → ℕ
greatest_time v = fold (λ t k. max t (option_map_or (λ r. r.time) (entry v k) 0)) 0 (1 ∷ 2 ∷ 3 ∷ 4 ∷ 5 ∷ 6 ∷ 7 ∷ 8 ∷ [])

-- the time of the last draw of cluster node k
abbrev pub last_draw_time : Past → ℕ → ℕ
last_draw_time [] k = 0
last_draw_time (event.Draw d ∷ past) k = cond (d.revision.cluster == k) d.revision.time (last_draw_time past k)
last_draw_time (_ ∷ past) k = last_draw_time past k

-- the revision that cluster node k draws next
abbrev pub drawn_next : ℕ → Begin → Past → ℕ → Revision
drawn_next clusters begin past k = record { time = max (greatest_time (head_of clusters begin past k)) (last_draw_time past k) + 1; counter = 0; cluster = k }
