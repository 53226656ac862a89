-- The rules of the protocol, from the definitions of the calls.
use Rattle.std.proofs.Common.{◌≡◌, ◌≢◌, ◌↔◌, ℕ, zero, suc, ◌-◌, ◌<◌, ◌≤◌, Bool, true, false, cond, Option, Some, None, List, [], ◌∷◌, length, get_or, filter, inl, inr, refl, sym, ap, subst, ◌∙◌, arith}
use Rattle.std.specs.Prelude.{Contains, IsTrue}
use Rattle.std.specs.Option.{option_map_or}
use Rattle.std.specs.Ordering.{is_eq}
use Rattle.std.specs.declared.cmp.Ordering.{Ordering}
use Rattle.std.specs.declared.cmp.Ordering.TheVariants.{Less, Equal, Greater}
use Rattle.std.proofs.lemmas.Cmp.{tied_itself}
use Rattle.std.proofs.lemmas.Bool.{false≢true, both_ways, cond-false, cases_eq, cases_lt, false_from_ne_true, not-true}
use Rattle.std.proofs.lemmas.List.{get_or-map, get_or_default, length-map, get_or-set_other}
use Rattle.std.proofs.lemmas.List.Elements.{All-contains, recursion_from_All}
use Rattle.jr_rev.specs.declared.revision.Revision.{Revision}
use Rattle.jr_rev.specs.Revisions.{revision_cmp, is_before, is_at_most, is_same}
use Rattle.jr_rev.specs.Vectors.{Entries, entry, with_entry, sees, greatest, greater_entry, is_below, is_entry_below}
use Rattle.jr_rev.proofs.Bounds.{entry_at, entries_below, below_entries, greatest_left, entry_itself}
use Rattle.jr_rev.proofs.Entries.{get_or-greatest}
use Rattle.jr_rev.proofs.Order.{revision_total, revision_exact}
use Rattle.oak_node.specs.declared.drawn.Drawn.{Drawn}
use Rattle.oak_node.specs.Memory.{NodeState, IsMemory, own_entry, revisions_in, begins_in_flight}
use Rattle.oak_node.specs.Heads.{IsInFlight, IsLocal, finished, local_from, with_end, learned, next_draw}
use Rattle.oak_node.proofs.Kept.{finish_memory, own_now}
use Rattle.oak_node.proofs.Members.{Contains-filter, Contains-from_filter}
use Rattle.oak_node.proofs.Owns.{entry-with_entry, entry_time}
use Rattle.oak_node.proofs.Rests.{rises_ended, local_from-has, revisions_in-with_end}
use Rattle.oak_node.proofs.Rising.{before_along, not_before_itself, time_before, less_before, before_at_most, at_most_less, not_before_at_most}
use Rattle.oak_node.proofs.Settling.{RisesFrom, first_follows, rises_on, past_ended, at_flying, local_least}
use Rattle.oak_node.proofs.Waits.{first_least}

-- ---- the rule of heads

-- what ends is with the drawn ones, in their order
drawn_at : (ds : List Drawn) (o : Revision) → Contains (revisions_in ds) o → (d : Drawn) × Contains ds d × (d.revision ≡ o)
drawn_at ds o there =
    let none : Drawn = record { revision = o; ended = false } in
    let within : there.0 < length ds = omega (arith, there.1, length-map ds (λ (d : Drawn). d.revision)) in
    (get_or ds there.0 none, (there.0, within, get_or_default ds there.0 (get_or ds there.0 none) none within), sym (get_or-map (λ (d : Drawn). d.revision) ds there.0 none o within) ∙ there.2)

pub revision_at : (ds : List Drawn) (d : Drawn) → Contains ds d → Contains (revisions_in ds) d.revision
revision_at ds d there =
    (there.0, omega (arith, there.1, length-map ds (λ (x : Drawn). x.revision)), get_or-map (λ (x : Drawn). x.revision) ds there.0 d d.revision there.1 ∙ ap (λ (x : Drawn). x.revision) there.2)

-- the own entry is before each one in flight
below_flying : (e : Revision) (ds : List Drawn) (q : Revision) → RisesFrom e ds → Contains ds (record { revision = q; ended = false }) → is_before (local_from e ds) q ≡ true
below_flying e [] q h there = absurd (omega (arith, there.1))
below_flying e (d ∷ ds) q h there = by d.ended refl (λ t. below_flying d.revision ds q (rises_on e d ds h) t)
  where
    flier : Drawn
    flier = record { revision = q; ended = false }

    tail : (k : ℕ) → k < suc (length ds) → get_or (d ∷ ds) k flier ≡ flier → d.ended ≡ true → Contains ds flier
    tail zero l is ended = absurd (both_ways d.ended (ap (λ (x : Drawn). x.ended) is) ended)
    tail (suc k) l is ended = (k, omega arith, is)

    by : (b : Bool) → d.ended ≡ b → (Contains ds flier → is_before (local_from d.revision ds) q ≡ true) → is_before (local_from e (d ∷ ds)) q ≡ true
    by true is rest = subst (λ (l : Revision). is_before l q ≡ true) (sym (past_ended e d ds is h)) (rest (tail there.0 there.1 there.2 is))
    by false is rest =
        subst (λ (l : Revision). is_before l q ≡ true) (sym (at_flying e d ds is h)) (before_at_most e d.revision q (first_follows e d ds h) (first_least e d ds flier h there))

-- with nothing in flight below it, a drawn revision is at most the own entry
not_above : (l o : Revision) (ds : List Drawn) → RisesFrom l (filter (λ d. is_before l d.revision) ds) → begins_in_flight (filter (λ d. is_before l d.revision) ds) ≡ true → Contains (revisions_in ds) o → ((q : Revision) → Contains (filter (λ d. is_before l d.revision) ds) (record { revision = q; ended = false }) → is_before o q ≡ true) → is_at_most o l ≡ true
not_above l o ds rises flies there below = by (is_before l o) refl
  where
    rest : List Drawn
    rest = filter (λ d. is_before l d.revision) ds

    first_is : (xs : List Drawn) (d : Drawn) → Contains xs d → RisesFrom l xs → begins_in_flight xs ≡ true → (q : Revision) × Contains xs (record { revision = q; ended = false }) × (is_at_most q d.revision ≡ true)
    first_is [] d t r f = absurd (omega (arith, t.1))
    first_is (x ∷ xs) d t r f =
        let flier : x ≡ record { revision = x.revision; ended = false } = ap (λ (b : Bool). record { revision = x.revision; ended = b }) (not-true x.ended f) in
        (x.revision, subst (λ (y : Drawn). Contains (x ∷ xs) y) flier (0, omega arith, refl), first_least l x xs d r t)

    by : (b : Bool) → is_before l o ≡ b → is_at_most o l ≡ true
    by false is = not_before_at_most l o is
    by true is =
        let at = drawn_at ds o there in
        let kept : Contains rest at.0 = Contains-filter (λ d. is_before l d.revision) ds at.0 at.1 (ap (is_before l) at.2 ∙ is) in
        let first = first_is rest at.0 kept rises flies in
        let back : is_at_most first.0 o ≡ true = subst (λ (x : Revision). is_at_most first.0 x ≡ true) at.2 first.2 in
        absurd (both_ways (is_before o o) (not_before_itself o) (before_at_most o first.0 o (below first.0 first.1) back))

pub local_rule : (s : NodeState) (r : Revision) → IsMemory s → IsLocal (own_entry s ∷ revisions_in s.above) (finished s r)
local_rule s r is =
    let e : Revision = own_entry s in
    let ds : List Drawn = with_end s.above r in
    let l : Revision = local_from e ds in
    let rising : RisesFrom e ds = rises_ended e s.above r is.rising in
    let own : own_entry (finished s r) ≡ l = own_now s r l (with_entry s.head l) is refl refl in
    let after = finish_memory s r l (with_entry s.head l) (filter (λ d. is_before l d.revision) ds) is refl refl refl in
    let rises_after : RisesFrom l (filter (λ d. is_before l d.revision) ds) = subst (λ (q : Revision). RisesFrom q (filter (λ d. is_before l d.revision) ds)) own after.rising in
    let same : revisions_in ds ≡ revisions_in s.above = revisions_in-with_end s.above r in
    let one : Contains (e ∷ revisions_in ds) l =
    local_from-has (λ q. Contains (e ∷ revisions_in ds) q) e ds rising (0, omega arith, refl)
    (recursion_from_All (λ d. Contains (e ∷ revisions_in ds) d.revision) ds (λ k d h. let t = revision_at ds (get_or ds k d) (k, h, get_or_default ds k (get_or ds k d) d h) in (suc t.0, omega (arith, t.1), t.2))) in
    record {
      one = subst (λ (rs : List Revision). Contains (e ∷ rs) (own_entry (finished s r))) same (subst (λ (q : Revision). Contains (e ∷ revisions_in ds) q) (sym own) one);
      below = λ q t.
          subst (λ (x : Revision). is_before x q ≡ true) (sym own) (below_flying e ds q rising (Contains-from_filter (λ d. is_before l d.revision) ds (record { revision = q; ended = false }) t));
      greatest = λ o t below.
          subst (λ (x : Revision). is_at_most o x ≡ true) (sym own) (greatest_step o t below rises_after after.flying);
    }
  where
    greatest_step : (o : Revision) → Contains (own_entry s ∷ revisions_in s.above) o → ((q : Revision) → IsInFlight (finished s r) q → IsTrue (is_before o q)) → RisesFrom (local_from (own_entry s) (with_end s.above r)) (finished s r).above → begins_in_flight (finished s r).above ≡ true → is_at_most o (local_from (own_entry s) (with_end s.above r)) ≡ true
    greatest_step o t below rises flies = at t.0 t.1 t.2
      where
        at : (k : ℕ) → k < suc (length (revisions_in s.above)) → get_or (own_entry s ∷ revisions_in s.above) k o ≡ o → is_at_most o (local_from (own_entry s) (with_end s.above r)) ≡ true
        at zero l' same = subst (λ (x : Revision). is_at_most x (local_from (own_entry s) (with_end s.above r)) ≡ true) same (not_before_at_most (local_from (own_entry s) (with_end s.above r)) (own_entry s) (local_least (own_entry s) (with_end s.above r) (rises_ended (own_entry s) s.above r is.rising)))
        at (suc k) l' same = not_above (local_from (own_entry s) (with_end s.above r)) o (with_end s.above r) rises flies (subst (λ (rs : List Revision). Contains rs o) (sym (revisions_in-with_end s.above r)) (k, omega arith, same)) below

-- ---- what is in flight

not_ended : (r : Revision) (d : Drawn) (q : Revision) (b : Bool) → is_same d.revision r ≡ b → cond b (record { revision = d.revision; ended = true }) d ≡ record { revision = q; ended = false } → (d ≡ record { revision = q; ended = false }) × (is_same q r ≡ false)
not_ended r d q true is h = absurd (false≢true (sym (ap (λ (x : Drawn). x.ended) h)))
not_ended r d q false is h = (h, ap (λ (x : Drawn). is_same x.revision r) (sym h) ∙ is)

-- what is in flight once r has ended was before, and is not r
still_flying : (r q : Revision) (ds : List Drawn) → Contains (with_end ds r) (record { revision = q; ended = false }) → Contains ds (record { revision = q; ended = false }) × (is_same q r ≡ false)
still_flying r q ds there =
    let f : Drawn → Drawn = λ d. cond (is_same d.revision r) (record { revision = d.revision; ended = true }) d in
    let flier : Drawn = record { revision = q; ended = false } in
    let within : there.0 < length ds = omega (arith, there.1, length-map ds f) in
    let x : Drawn = get_or ds there.0 flier in
    let parts = not_ended r x q (is_same x.revision r) refl (sym (get_or-map f ds there.0 flier flier within) ∙ there.2) in
    ((there.0, within, parts.0), parts.1)

-- another one stays in flight
stays_flying : (r q : Revision) (ds : List Drawn) → Contains ds (record { revision = q; ended = false }) → is_same q r ≡ false → Contains (with_end ds r) (record { revision = q; ended = false })
stays_flying r q ds there other =
    let f : Drawn → Drawn = λ d. cond (is_same d.revision r) (record { revision = d.revision; ended = true }) d in
    let flier : Drawn = record { revision = q; ended = false } in
    (there.0, omega (arith, there.1, length-map ds f), get_or-map f ds there.0 flier flier there.1 ∙ (ap f there.2 ∙ cond-false (is_same q r) (record { revision = q; ended = true }) flier other))

other_is : (q r : Revision) → is_same q r ≡ false → q ≢ r
other_is q r h same = both_ways (is_same q r) h (ap (is_same q) (sym same) ∙ ap is_eq (tied_itself revision_total q))

is_other : (q r : Revision) → q ≢ r → is_same q r ≡ false
is_other q r h = false_from_ne_true (is_same q r) (λ same. h (revision_exact q r (is_equal (revision_cmp q r) same)))
  where
    is_equal : (o : Ordering) → is_eq o ≡ true → o ≡ Equal
    is_equal Less e = absurd (false≢true e)
    is_equal Equal e = refl
    is_equal Greater e = absurd (false≢true e)

pub flying_rule : (s : NodeState) (r q : Revision) → IsMemory s → IsInFlight (finished s r) q ↔ (IsInFlight s q × (q ≢ r))
flying_rule s r q is =
    let ds : List Drawn = with_end s.above r in
    let l : Revision = local_from (own_entry s) ds in (
      λ t. let before = still_flying r q s.above (Contains-from_filter (λ d. is_before l d.revision) ds (record { revision = q; ended = false }) t) in (before.0, other_is q r before.1),
      λ t. let there = stays_flying r q s.above t.0 (is_other q r t.1) in Contains-filter (λ d. is_before l d.revision) ds (record { revision = q; ended = false }) there (below_flying (own_entry s) ds q (rises_ended (own_entry s) s.above r is.rising) there),
    )

-- ---- draws rise

seen_time : (r : Revision) (o : Option Revision) → option_map_or (is_at_most r) o false ≡ true → r.time ≤ option_map_or (λ e. e.time) o 0
seen_time r None h = absurd (false≢true h)
seen_time r (Some e) h =
    elim (cases_lt e.time r.time) [ inl late ↦ absurd (both_ways (is_before r r) (not_before_itself r) (before_after r e h (time_before e r late))) | inr early ↦ early ]
  where
    before_after : (a b : Revision) → is_at_most a b ≡ true → is_before b a ≡ true → is_before a a ≡ true
    before_after a b low less = elim (at_most_less (revision_cmp a b) low) [ inl under ↦ before_along a b a (less_before a b under) less | inr same ↦ subst (λ (x : Revision). is_before x a ≡ true) (sym (revision_exact a b same)) less ]

no_node : (v : Entries) (r : Revision) → r.cluster ≡ 0 → sees v r ≡ false
no_node v r h = ap (λ k. option_map_or (is_at_most r) (entry v k) false) h

pub seen_before_draw : (s : NodeState) (o : Revision) → o.cluster ≤ 8 → sees s.head o ≡ true → is_before o (next_draw s) ≡ true
seen_before_draw s o high h =
    elim (cases_eq o.cluster 0) [
      | inl none ↦ absurd (both_ways (sees s.head o) (no_node s.head o none) h)
      | inr some ↦
          (let first = seen_time o (entry s.head o.cluster) h in
          let then' = entry_time s.head o.cluster (omega arith) high in
          time_before o (next_draw s) (omega arith))
    ]

pub drawn_before_draw : (s : NodeState) (o : Revision) → IsMemory s → Contains (revisions_in s.above) o → is_before o (next_draw s) ≡ true
drawn_before_draw s o is there =
    let at = drawn_at s.above o there in
    let late : at.0.revision.time ≤ s.last_time = All-contains (λ d. d.revision.time ≤ s.last_time) s.above at.0 is.times at.1 in
    let same : at.0.revision.time ≡ o.time = ap (λ (x : Revision). x.time) at.2 in
    time_before o (next_draw s) (omega arith)

-- ---- what is learned

entry-greatest : (v w : Entries) (k : ℕ) → entry (greatest v w) k ≡ greater_entry (entry v k) (entry w k)
entry-greatest v w zero = refl
entry-greatest v w (suc k) = rw (entry_at (greatest v w) k, entry_at v k, entry_at w k) (get_or-greatest v w k)

some_greater : (e : Revision) (f : Option Revision) → (g : Revision) × (greater_entry (Some e) f ≡ Some g)
some_greater e None = (e, refl)
some_greater e (Some f) = (cond (is_at_most e f) f e, refl)

pub learned_own : (s : NodeState) (v w : Entries) → IsMemory s → entry (learned s v w).head s.cluster ≡ entry s.head s.cluster
learned_own s v w is =
    let some = some_greater (own_entry s) (entry v s.cluster) in
    let there : entry (greatest s.head v) s.cluster ≡ Some some.0 = entry-greatest s.head v s.cluster ∙ (ap (λ o. greater_entry o (entry v s.cluster)) is.own ∙ some.1) in
    entry-with_entry (greatest s.head v) s.cluster some.0 (own_entry s) there is.own_node ∙ sym is.own

pub entry-with_other : (v : Entries) (r : Revision) (k : ℕ) → 1 ≤ r.cluster → k ≢ r.cluster → entry (with_entry v r) k ≡ entry v k
entry-with_other v r zero low other = refl
entry-with_other v r (suc k) low other =
    let apart : k ≢ r.cluster - 1 = omega arith in
    entry_at (with_entry v r) k ∙ (get_or-set_other v (r.cluster - 1) k (Some r) None apart ∙ sym (entry_at v k))

pub learned_others : (s : NodeState) (v w : Entries) (k : ℕ) → IsMemory s → k ≢ s.cluster → entry (learned s v w).head k ≡ greater_entry (entry s.head k) (entry v k)
learned_others s v w k is other =
    let node = is.own_node in
    let low = is.low in
    entry-with_other (greatest s.head v) (own_entry s) k (omega arith) (omega arith) ∙ entry-greatest s.head v k

pub learned_sweep : (s : NodeState) (v w : Entries) (k : ℕ) → entry (learned s v w).sweep k ≡ greater_entry (entry s.sweep k) (entry w k)
learned_sweep s v w k = entry-greatest s.sweep w k

pub learned_rising : (s : NodeState) (v w : Entries) → IsMemory s → is_below s.head (learned s v w).head ≡ true
learned_rising s v w is =
    entries_below s.head (learned s v w).head
    (λ k. elim (cases_eq k s.cluster) [
      | inl own ↦
          subst (λ (j : ℕ). is_entry_below (entry s.head j) (entry (learned s v w).head j) ≡ true) (sym own) (subst (λ (o : Option Revision). is_entry_below (entry s.head s.cluster) o ≡ true) (sym (learned_own s v w is)) (entry_itself (entry s.head s.cluster)))
      | inr other ↦
          subst (λ (o : Option Revision). is_entry_below (entry s.head k) o ≡ true) (sym (learned_others s v w k is other ∙ sym (entry-greatest s.head v k))) (below_entries s.head (greatest s.head v) (greatest_left s.head v) k)
    ])
