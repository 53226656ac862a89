-- What a history begins with: its vector, and what each node begins from.
use Rattle.std.proofs.Common.{◌≡◌, ℕ, ◌<◌, ◌≤◌, zero, suc, Bool, true, false, Some, None, Option, List, [], ◌∷◌, is_some, refl, sym, ap, subst, ◌∙◌, arith}
use Rattle.std.specs.Prelude.{◌+◌, nat_le, slice_get}
use Rattle.std.specs.Option.{option_map_or}
use Rattle.std.proofs.lemmas.Bool.Decides.{nat_tests}
use Rattle.std.proofs.lemmas.Option.{slice_get_within, get_or_from_slice_get}
use Rattle.std.proofs.lemmas.List.Sums.{AllPass-from_list_all}
use mathlib.Core.Bool.{false≢true}
use Rattle.jr_rev.specs.declared.revision.Revision.{Revision}
use Rattle.jr_rev.specs.Revisions.{is_at_most}
use Rattle.jr_rev.specs.Vectors.{entry, own_in, sees, start_of, IsVector}
use Rattle.oak_machine.specs.declared.event.Start.{Start}
use Rattle.oak_machine.specs.History.{Begin, IsBegun, IsStart, begin_at, begin_of, has_entry}
use Rattle.oak_machine.specs.Runs.{IsNode}
use Rattle.core_heads.proofs.Entries.{entry_at, flat, lower, numbered, start_begun, start_sees, upper}
use Rattle.core_heads.proofs.Below.{stands_at, start_stands}

-- what a node begins from is of that node
pub begin_cluster : (begin : Begin) (k : ℕ) → (begin_of begin k).cluster ≡ k
begin_cluster None k = refl
begin_cluster (Some s) k = by (entry s.at k)
  where
    by : (e : Option Revision) → (option_map_or {T = Revision} (λ r. record r { cluster = k }) e (start_of k)).cluster ≡ k
    by None = refl
    by (Some r) = refl

-- the start of a node is the least of it
start_least : (r : Revision) → is_at_most (start_of r.cluster) r ≡ true
start_least r = grind (arith, nat_tests)

module _ (clusters : ℕ) (s : Start) (is : IsStart clusters s) where
  -- a start has an entry for each node, and for no other
  start_has : (k : ℕ) → k < 8 → has_entry (nat_le (suc k) clusters) (entry s.at (suc k)) ≡ true
  start_has k low =
      let ks : List ℕ = 1 ∷ 2 ∷ 3 ∷ 4 ∷ 5 ∷ 6 ∷ 7 ∷ 8 ∷ [] in
      subst (λ (j : ℕ). has_entry (nat_le j clusters) (entry s.at j) ≡ true) (get_or_from_slice_get ks k (suc k) 0 (numbered k low)) (AllPass-from_list_all (λ j. has_entry (nat_le j clusters) (entry s.at j)) ks is.nodes k 0 low)

  has_node : (b : Bool) (e : Revision) → has_entry b (Some e) ≡ true → b ≡ true
  has_node true e h = refl
  has_node false e h = absurd (false≢true h)

  from_sees : (o : Revision) → sees s.at o ≡ true → IsNode clusters o.cluster × (is_at_most o (own_in o.cluster s.at) ≡ true)
  from_sees o h = by o.cluster (entry s.at o.cluster) refl h
    where
      by : (k : ℕ) (e : Option Revision) → entry s.at k ≡ e → option_map_or (is_at_most o) e false ≡ true → IsNode clusters k × (is_at_most o (own_in k s.at) ≡ true)
      by k None is h = absurd (false≢true h)
      by zero (Some e) found h = absurd (false≢true (ap is_some found))
      by (suc k) (Some e) found h =
          let there = flat (slice_get s.at k) e (sym (entry_at s.at k) ∙ found) in
          let within = slice_get_within s.at k (Some e) there in
          let eight = is.vector.eight in
          let of = stands_at s.at 1 k e is.vector.stands there in
          let node = has_node (nat_le (suc k) clusters) e (subst (λ (f : Option Revision). has_entry (nat_le (suc k) clusters) f ≡ true) found (start_has k (omega arith))) in
          let high = upper (suc k) clusters node in (
            (omega arith, high),
            subst (λ (f : Option Revision). is_at_most o (option_map_or {T = Revision} (λ r. record r { cluster = suc k }) f (start_of (suc k))) ≡ true) (sym found) (subst (λ (j : ℕ). is_at_most o (record e { cluster = j }) ≡ true) (same k of) h),
          )
        where
          same : (k : ℕ) → e.cluster ≡ 1 + k → e.cluster ≡ suc k
          same k h = omega arith

  from_begun : 1 ≤ clusters → sees s.at (start_of 1) ≡ true
  from_begun some = by (entry s.at 1) refl (start_has 0 (omega arith))
    where
      by : (e : Option Revision) → entry s.at 1 ≡ e → has_entry (nat_le 1 clusters) e ≡ true → option_map_or (is_at_most (start_of 1)) e false ≡ true
      by None found h = no (nat_le 1 clusters) (lower 1 clusters some) h
        where
          no : (b : Bool) → b ≡ true → has_entry b None ≡ true → false ≡ true
          no true t h = h
          no false t h = t
      by (Some e) found h =
          let there = flat (slice_get s.at 0) e (sym (entry_at s.at 0) ∙ found) in
          subst (λ (j : ℕ). is_at_most (start_of j) e ≡ true) (stands_at s.at 1 0 e is.vector.stands there) (start_least e)

-- the vector at the beginning sees of each node what that begins from, and of no other
pub begin_sees : (clusters : ℕ) (begin : Begin) → IsBegun clusters begin → (o : Revision) → sees (begin_at clusters begin) o ≡ true → IsNode clusters o.cluster × (is_at_most o (begin_of begin o.cluster) ≡ true)
begin_sees clusters None is o h = start_sees clusters o h
begin_sees clusters (Some s) is o h = from_sees clusters s is o h

-- it sees the start
pub begin_begun : (clusters : ℕ) (begin : Begin) → IsBegun clusters begin → 1 ≤ clusters → sees (begin_at clusters begin) (start_of 1) ≡ true
begin_begun clusters None is some = start_begun clusters some
begin_begun clusters (Some s) is some = from_begun clusters s is some

-- it is a vector
pub begin_vector : (clusters : ℕ) (begin : Begin) → IsBegun clusters begin → IsVector (begin_at clusters begin)
begin_vector clusters None is = record { eight = refl; stands = start_stands clusters }
begin_vector clusters (Some s) is = is.vector
