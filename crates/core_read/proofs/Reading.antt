-- What a vector sees, each vector sees that it is below.
use Rattle.std.proofs.Common.{◌≡◌, ℕ, suc, zero, Bool, true, false, cond, ◌&&◌, Some, None, Option, [], ◌∷◌, refl}
use Rattle.std.specs.Prelude.{slice_get, ◌-◌, ◌==◌}
use Rattle.std.specs.Option.{option_map_or, option_flatten}
use mathlib.Core.Bool.{false≢true}
use Rattle.jr_rev.specs.declared.revision.Revision.{Revision}
use Rattle.jr_rev.specs.declared.vector.RevVec.{RevVec}
use Rattle.jr_rev.specs.Revisions.{is_at_most}
use Rattle.jr_rev.specs.Vectors.{sees, is_below, is_entry_below, Entries}
use Rattle.core_read.proofs.Latest.{at_most_trans}

-- ---- vectors

entry_trans : (r : Revision) (e f : Option Revision) → is_entry_below e f ≡ true → option_map_or (is_at_most r) e false ≡ true → option_map_or (is_at_most r) f false ≡ true
entry_trans r None f h k = absurd (false≢true k)
entry_trans r (Some e) None h k = absurd (false≢true h)
entry_trans r (Some e) (Some f) h k = at_most_trans r e f k h

both_first : (a b : Bool) → (a && b) ≡ true → a ≡ true
both_first true b h = refl
both_first false b h = absurd (false≢true h)

both_second : (a b : Bool) → (a && b) ≡ true → b ≡ true
both_second true b h = h
both_second false b h = absurd (false≢true h)

entries_below : (w v : Entries) → is_below w v ≡ true → (i : ℕ) → is_entry_below (option_flatten (slice_get w i)) (option_flatten (slice_get v i)) ≡ true
entries_below [] v h i = refl
entries_below (e ∷ w) [] h zero = both_first _ _ h
entries_below (e ∷ w) [] h (suc i) = entries_below w [] (both_second _ _ h) i
entries_below (e ∷ w) (f ∷ v) h zero = both_first _ _ h
entries_below (e ∷ w) (f ∷ v) h (suc i) = entries_below w v (both_second _ _ h) i

-- what a vector sees, a vector sees that it is below
pub sees_below : (w v : RevVec) → is_below w v ≡ true → (q : Revision) → sees w q ≡ true → sees v q ≡ true
sees_below w v h q k = by (q.cluster == 0) k
  where
    by : (b : Bool) → option_map_or (is_at_most q) (cond b None (option_flatten (slice_get w (q.cluster - 1)))) false ≡ true → option_map_or (is_at_most q) (cond b None (option_flatten (slice_get v (q.cluster - 1)))) false ≡ true
    by true s = s
    by false s = entry_trans q _ _ (entries_below w v h (q.cluster - 1)) s
