-- Vectors whose entries stand at their nodes: at most, entry by entry, is to see no more.
use Rattle.std.proofs.Common.{◌≡◌, ℕ, zero, suc, ◌+◌, ◌-◌, ◌≤◌, Bool, true, false, cond, Some, None, Option, [], ◌∷◌, map, refl, sym, ap, subst, ◌∙◌, is_some, arith}
use Rattle.std.specs.Prelude.{◌==◌, nat_le, slice_get, slice_set, not, ◌||◌}
use Rattle.std.specs.List.{range_with_len}
use Rattle.std.specs.Option.{option_map_or, option_flatten}
use Rattle.std.proofs.lemmas.Bool.Decides.{nat_tests}
use mathlib.Core.Bool.{false≢true}
use Rattle.jr_rev.specs.declared.revision.Revision.{Revision}
use Rattle.jr_rev.specs.declared.vector.RevVec.{RevVec}
use Rattle.jr_rev.specs.Revisions.{is_at_most}
use Rattle.jr_rev.specs.Vectors.{Entries, entry, sees, start, start_of, with_entry, stands_from, is_entry_below, is_below, raised}
use Rattle.core_read.proofs.Latest.{at_most_trans}
use Rattle.core_heads.proofs.Orders.{and_both, and_true, at_most_itself, same_number, same_itself}
use Rattle.core_heads.proofs.Entries.{entry_at}

set_stands : (v : Entries) (j i : ℕ) (r : Revision) → r.cluster ≡ j + i → stands_from j v ≡ true → stands_from j (slice_set v i (Some r)) ≡ true
set_stands [] j i r e h = refl
set_stands (None ∷ v) j zero r e h = and_true (r.cluster == j) _ (here r.cluster j (omega arith)) h
  where
    here : (a b : ℕ) → a ≡ b → (a == b) ≡ true
    here a b e = grind (arith, nat_tests)
set_stands (Some q ∷ v) j zero r e h = and_true (r.cluster == j) _ (here r.cluster j (omega arith)) (and_both (q.cluster == j) _ h).1
  where
    here : (a b : ℕ) → a ≡ b → (a == b) ≡ true
    here a b e = grind (arith, nat_tests)
set_stands (None ∷ v) j (suc i) r e h = set_stands v (j + 1) i r (omega arith) h
set_stands (Some q ∷ v) j (suc i) r e h = and_true (q.cluster == j) _ (and_both (q.cluster == j) _ h).0 (set_stands v (j + 1) i r (omega arith) (and_both (q.cluster == j) _ h).1)

pub with_stands : (v : Entries) (r : Revision) → 1 ≤ r.cluster → stands_from 1 v ≡ true → stands_from 1 (with_entry v r) ≡ true
with_stands v r low h = set_stands v 1 (r.cluster - 1) r (omega arith) h

pub raised_stands : (v : RevVec) (r : Revision) → stands_from 1 v ≡ true → stands_from 1 (raised v r) ≡ true
raised_stands v r h = by (r.cluster == 0) refl (not (nat_le r.cluster 8)) (sees v r)
  where
    low : (k : ℕ) → (k == 0) ≡ false → 1 ≤ k
    low k h = grind (arith, nat_tests)

    by : (a : Bool) → (r.cluster == 0) ≡ a → (b c : Bool) → stands_from 1 (cond (a || b || c) v (with_entry v r)) ≡ true
    by true e b c = h
    by false e true c = h
    by false e false true = h
    by false e false false = with_stands v r (low r.cluster e) h

starts_stand : (clusters j n : ℕ) → stands_from j (map (λ k. cond (nat_le k clusters) (Some (start_of k)) None) (range_with_len j n)) ≡ true
starts_stand clusters j zero = refl
starts_stand clusters j (suc n) = by (nat_le j clusters) (starts_stand clusters (j + 1) n)
  where
    by : (b : Bool) → stands_from (j + 1) (map (λ k. cond (nat_le k clusters) (Some (start_of k)) None) (range_with_len (j + 1) n)) ≡ true → stands_from j (cond b (Some (start_of j)) None ∷ map (λ k. cond (nat_le k clusters) (Some (start_of k)) None) (range_with_len (j + 1) n)) ≡ true
    by true h = and_true (j == j) _ (same_itself j) h
    by false h = h

pub start_stands : (clusters : ℕ) → stands_from 1 (start clusters) ≡ true
start_stands clusters = starts_stand clusters 1 8

-- the entry at a place is of its node
pub stands_at : (v : Entries) (j i : ℕ) (e : Revision) → stands_from j v ≡ true → slice_get v i ≡ Some (Some e) → e.cluster ≡ j + i
stands_at [] j i e h k = absurd (false≢true (ap is_some k))
stands_at (None ∷ v) j zero e h k = absurd (false≢true (ap (λ (o : Option (Option Revision)). is_some (option_flatten o)) k))
stands_at (Some q ∷ v) j zero e h k =
    let a = same_number q.cluster j (and_both (q.cluster == j) _ h).0 in
    let b : q.cluster ≡ e.cluster = ap (λ (o : Option (Option Revision)). option_map_or (λ (r : Revision). r.cluster) (option_flatten o) 0) k in
    omega arith
stands_at (None ∷ v) j (suc i) e h k = let r = stands_at v (j + 1) i e h k in omega arith
stands_at (Some q ∷ v) j (suc i) e h k = let r = stands_at v (j + 1) i e (and_both (q.cluster == j) _ h).1 k in omega arith

each_below : (u w : Entries) → ((i : ℕ) (e : Revision) → slice_get u i ≡ Some (Some e) → is_entry_below (Some e) (option_flatten (slice_get w i)) ≡ true) → is_below u w ≡ true
each_below [] w h = refl
each_below (None ∷ u) [] h = each_below u [] (λ i e k. h (suc i) e k)
each_below (Some e ∷ u) [] h = absurd (false≢true (h zero e refl))
each_below (None ∷ u) (f ∷ w) h = each_below u w (λ i e k. h (suc i) e k)
each_below (Some e ∷ u) (f ∷ w) h = and_true (is_entry_below (Some e) f) _ (h zero e refl) (each_below u w (λ i q k. h (suc i) q k))

-- to see no more is to be at most
pub seen_below : (u w : Entries) → stands_from 1 u ≡ true → ((x : Revision) → sees u x ≡ true → sees w x ≡ true) → is_below u w ≡ true
seen_below u w stands h = each_below u w each
  where
    each : (i : ℕ) (e : Revision) → slice_get u i ≡ Some (Some e) → is_entry_below (Some e) (option_flatten (slice_get w i)) ≡ true
    each i e k =
        let c : e.cluster ≡ suc i = by (stands_at u 1 i e stands k) in
        let own : sees u e ≡ true = subst (λ (n : ℕ). option_map_or (is_at_most e) (entry u n) false ≡ true) (sym c) (ap (λ (o : Option Revision). option_map_or (is_at_most e) o false) (entry_at u i ∙ ap option_flatten k) ∙ at_most_itself e) in
        below (option_flatten (slice_get w i)) (ap (λ (o : Option Revision). option_map_or (is_at_most e) o false) (sym (entry_at w i)) ∙ subst (λ (n : ℕ). option_map_or (is_at_most e) (entry w n) false ≡ true) c (h e own))
      where
        by : e.cluster ≡ 1 + i → e.cluster ≡ suc i
        by h = omega arith

        below : (o : Option Revision) → option_map_or (is_at_most e) o false ≡ true → is_entry_below (Some e) o ≡ true
        below None h = h
        below (Some f) h = h

below_each : (u w : Entries) → is_below u w ≡ true → (i : ℕ) → is_entry_below (option_flatten (slice_get u i)) (option_flatten (slice_get w i)) ≡ true
below_each [] w h i = refl
below_each (e ∷ u) [] h zero = (and_both (is_entry_below e None) _ h).0
below_each (e ∷ u) [] h (suc i) = below_each u [] (and_both (is_entry_below e None) _ h).1 i
below_each (e ∷ u) (f ∷ w) h zero = (and_both (is_entry_below e f) _ h).0
below_each (e ∷ u) (f ∷ w) h (suc i) = below_each u w (and_both (is_entry_below e f) _ h).1 i

-- what is at most another sees no more
pub below_seen : (u w : Entries) (x : Revision) → is_below u w ≡ true → sees u x ≡ true → sees w x ≡ true
below_seen u w x h s = at x.cluster s
  where
    one : (e f : Option Revision) → is_entry_below e f ≡ true → option_map_or (is_at_most x) e false ≡ true → option_map_or (is_at_most x) f false ≡ true
    one None f h s = absurd (false≢true s)
    one (Some e) None h s = absurd (false≢true h)
    one (Some e) (Some f) h s = at_most_trans x e f s h

    at : (k : ℕ) → option_map_or (is_at_most x) (entry u k) false ≡ true → option_map_or (is_at_most x) (entry w k) false ≡ true
    at zero s = absurd (false≢true s)
    at (suc k) s = one (entry u (suc k)) (entry w (suc k)) (subst (λ (e : Option Revision). is_entry_below e (entry w (suc k)) ≡ true) (sym (entry_at u k)) (subst (λ (f : Option Revision). is_entry_below (option_flatten (slice_get u k)) f ≡ true) (sym (entry_at w k)) (below_each u w h k))) s
