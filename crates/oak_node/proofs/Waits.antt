-- What has ended and is not seen stands behind the first revision in flight.
use Rattle.std.proofs.Common.{◌≡◌, ℕ, zero, suc, ◌<◌, Bool, true, false, Some, None, List, [], ◌∷◌, length, get_or, inl, inr, refl, sym, ap, subst, ◌∙◌, arith}
use Rattle.std.specs.Prelude.{Contains, slice_get}
use Rattle.std.specs.Option.{option_map_or}
use Rattle.std.specs.declared.cmp.Ordering.TheVariants.{Less}
use Rattle.std.specs.Ordering.{is_le}
use Rattle.std.proofs.lemmas.Bool.{both_ways, not-true}
use Rattle.jr_rev.specs.declared.revision.Revision.{Revision}
use Rattle.jr_rev.specs.Revisions.{revision_cmp, is_before, is_at_most}
use Rattle.jr_rev.specs.Vectors.{entry, sees}
use Rattle.jr_rev.proofs.Order.{at_most_itself}
use Rattle.oak_node.specs.declared.drawn.Drawn.{Drawn}
use Rattle.oak_node.specs.Memory.{NodeState, IsMemory, own_entry, revisions_in, begins_in_flight}
use Rattle.oak_node.specs.Heads.{HasEnded, AwaitsEarlier}
use Rattle.oak_node.proofs.Rising.{less_before}
use Rattle.oak_node.proofs.Settling.{RisesFrom, Follows, others_follow}

later_at : (r : Revision) (ds : List Drawn) (o : Drawn) (k : ℕ) → k < length ds → get_or ds k o ≡ o → Follows r (revisions_in ds) → revision_cmp r o.revision ≡ Less
later_at r [] o k l is h = absurd (omega arith)
later_at r (d ∷ ds) o zero l is h = ap (λ (x : Drawn). revision_cmp r x.revision) (sym is) ∙ h.0
later_at r (d ∷ ds) o (suc k) l is h = later_at r ds o k (omega arith) is h.1

-- the first is at most each of them
pub first_least : (e : Revision) (d : Drawn) (ds : List Drawn) (o : Drawn) → RisesFrom e (d ∷ ds) → Contains (d ∷ ds) o → is_at_most d.revision o.revision ≡ true
first_least e d ds o h there = by there.0 there.1 there.2
  where
    by : (k : ℕ) → k < suc (length ds) → get_or (d ∷ ds) k o ≡ o → is_at_most d.revision o.revision ≡ true
    by zero l is = subst (λ (x : Drawn). is_at_most d.revision x.revision ≡ true) is (at_most_itself d.revision)
    by (suc k) l is = ap is_le (later_at d.revision ds o k (omega arith) is (others_follow e d ds h))

-- and, in flight, is before each that has ended
first_before : (e : Revision) (d : Drawn) (ds : List Drawn) (o : Drawn) → RisesFrom e (d ∷ ds) → d.ended ≡ false → o.ended ≡ true → Contains (d ∷ ds) o → is_before d.revision o.revision ≡ true
first_before e d ds o h flies ended there = by there.0 there.1 there.2
  where
    by : (k : ℕ) → k < suc (length ds) → get_or (d ∷ ds) k o ≡ o → is_before d.revision o.revision ≡ true
    by zero l is = absurd (both_ways o.ended (ap (λ (x : Drawn). x.ended) (sym is) ∙ flies) ended)
    by (suc k) l is = less_before d.revision o.revision (later_at d.revision ds o k (omega arith) is (others_follow e d ds h))

seen_own : (s : NodeState) (r : Revision) → IsMemory s → r.cluster ≡ s.cluster → sees s.head r ≡ is_at_most r (own_entry s)
seen_own s r is node = ap (λ k. option_map_or (is_at_most r) (entry s.head k) false) node ∙ ap (λ o. option_map_or (is_at_most r) o false) is.own

waits_on : (s : NodeState) (r : Revision) (d : Drawn) (ds : List Drawn) → IsMemory s → HasEnded s r → sees s.head r ≡ false → s.above ≡ d ∷ ds → AwaitsEarlier s r d.revision
waits_on s r d ds is ended unseen above =
    let rising : RisesFrom (own_entry s) (d ∷ ds) = subst (λ (xs : List Drawn). RisesFrom (own_entry s) xs) above is.rising in
    let flies : d.ended ≡ false = not-true d.ended (subst (λ (xs : List Drawn). begins_in_flight xs ≡ true) above is.flying) in
    let first : d ≡ record { revision = d.revision; ended = false } = ap (λ (b : Bool). record { revision = d.revision; ended = b }) flies in
    let there : (o : Drawn) → Contains s.above o → Contains (d ∷ ds) o = λ o h. subst (λ (xs : List Drawn). Contains xs o) above h in
    record {
      unseen = unseen;
      flying = subst (λ (x : Drawn). Contains s.above x) first (subst (λ (xs : List Drawn). Contains xs d) (sym above) (0, omega arith, refl));
      earlier =
          elim ended.1 [
            | inl low ↦ absurd (both_ways (sees s.head r) unseen (seen_own s r is ended.0 ∙ low))
            | inr high ↦ first_before (own_entry s) d ds (record { revision = r; ended = true }) rising flies refl (there _ high)
          ];
      earliest = λ o h. first_least (own_entry s) d ds (record { revision = o; ended = false }) rising (there _ h);
    }

first_is : (ds : List Drawn) (d : Drawn) → Some d ≡ slice_get ds 0 → (rest : List Drawn) × (ds ≡ d ∷ rest)
first_is [] d h = absurd (none h)
  where
    none : Some d ≡ None → ⊥
    none n = cc
first_is (x ∷ xs) d h = (xs, ap (λ y. y ∷ xs) (sym (same h)))
  where
    same : Some d ≡ Some x → d ≡ x
    same n = cc

pub waits : (s : NodeState) (r : Revision) (d : Drawn) → IsMemory s → HasEnded s r → sees s.head r ≡ false → Some d ≡ slice_get s.above 0 → AwaitsEarlier s r d.revision
waits s r d is ended unseen first = let split = first_is s.above d first in waits_on s r d split.0 is ended unseen split.1
