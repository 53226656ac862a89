-- A recovery ends all that is in flight, one after another.
use Rattle.std.proofs.Common.{◌≡◌, ◌≢◌, ℕ, zero, suc, ◌-◌, ◌≤◌, Bool, true, false, cond, Option, Some, List, [], ◌∷◌, length, get_or, set, filter, fold, refl, sym, ap, subst, ◌∙◌, arith}
use Rattle.std.specs.Prelude.{Contains, unwrap_or}
use Rattle.std.specs.List.{AllByRecursion}
use Rattle.std.specs.Option.{IsSomeAnd}
use Rattle.std.specs.List.Sorted.{IsStrictlySortedBy}
use Rattle.std.specs.Ordering.{is_eq, is_le, ordering_reverse}
use Rattle.std.specs.declared.cmp.Ordering.TheVariants.{Less}
use Rattle.std.proofs.lemmas.Bool.{not-true}
use Rattle.std.proofs.lemmas.Cmp.{tied_itself}
use Rattle.std.proofs.lemmas.List.{get_or_default, set-set}
use Rattle.std.proofs.lemmas.List.Elements.{All-contains, All-from_recursion, recursion_from_All}
use Rattle.jr_rev.specs.declared.revision.Revision.{Revision}
use Rattle.jr_rev.specs.declared.vector.Pin.{Pin}
use Rattle.jr_rev.specs.Revisions.{revision_cmp, is_before, is_at_most, is_same}
use Rattle.jr_rev.specs.Vectors.{Entries, entry, start_of, with_entry}
use Rattle.jr_rev.proofs.Order.{revision_total, at_most_itself}
use Rattle.oak_node.specs.declared.drawn.Drawn.{Drawn}
use Rattle.oak_node.specs.Memory.{NodeState, IsMemory, last_draw, own_entry, revisions_in, begins_in_flight}
use Rattle.oak_node.specs.Heads.{IsInFlight, finished, flying_in, last_drawn, local_from, with_end, with_own}
use Rattle.oak_node.specs.Stops.{IsGreatestDrawn, with_recovery}
use Rattle.oak_node.proofs.Changes.{kept_rise}
use Rattle.oak_node.proofs.Kept.{finish_memory, own_after, own_now, start_memory}
use Rattle.oak_node.proofs.Owns.{with_entry_same}
use Rattle.oak_node.proofs.Rising.{before_at_most, before_less, less_before}
use Rattle.oak_node.proofs.Rules.{entry-with_other, revision_at}
use Rattle.oak_node.proofs.Settling.{Follows, RisesFrom, at_flying, first_follows, local_least, others_follow, past_ended, rises_on}

-- ---- what is above the own entry begins at the first revision in flight

-- without those at the front that have ended
abbrev pub from_flight : List Drawn → List Drawn
from_flight [] = []
from_flight (d ∷ ds) = cond d.ended (from_flight ds) (d ∷ ds)

all_kept : (e : Revision) (ds : List Drawn) → Follows e (revisions_in ds) → filter (λ d. is_before e d.revision) ds ≡ ds
all_kept e [] h = refl
all_kept e (d ∷ ds) h = rw (less_before e d.revision h.0) (ap (λ xs. d ∷ xs) (all_kept e ds h.1))

behind_first : (e : Revision) (d : Drawn) (ds : List Drawn) → RisesFrom e (d ∷ ds) → Follows e (revisions_in ds)
unfolding IsStrictlySortedBy
behind_first e d ds h = h.0.1

above_is : (e : Revision) (ds : List Drawn) → RisesFrom e ds → filter (λ d. is_before (local_from e ds) d.revision) ds ≡ from_flight ds
above_is e [] h = refl
above_is e (d ∷ ds) h = by d.ended refl (above_is d.revision ds (rises_on e d ds h))
  where
    by : (b : Bool) → d.ended ≡ b → filter (λ x. is_before (local_from d.revision ds) x.revision) ds ≡ from_flight ds → filter (λ x. is_before (local_from e (d ∷ ds)) x.revision) (d ∷ ds) ≡ from_flight (d ∷ ds)
    by true is rest =
        subst (λ (l : Revision). filter (λ x. is_before l x.revision) (d ∷ ds) ≡ from_flight (d ∷ ds)) (sym (past_ended e d ds is h)) (rw (local_least d.revision ds (rises_on e d ds h), is) rest)
    by false is rest =
        subst (λ (l : Revision). filter (λ x. is_before l x.revision) (d ∷ ds) ≡ from_flight (d ∷ ds)) (sym (at_flying e d ds is h)) (rw (first_follows e d ds h) (ap (λ xs. d ∷ xs) (all_kept e ds (behind_first e d ds h)) ∙ sym (ap (λ (b : Bool). cond b (from_flight ds) (d ∷ ds)) is)))

flying_from : (ds : List Drawn) → flying_in (from_flight ds) ≡ flying_in ds
flying_from [] = refl
flying_from (d ∷ ds) = by d.ended refl (flying_from ds)
  where
    by : (b : Bool) → d.ended ≡ b → flying_in (from_flight ds) ≡ flying_in ds → flying_in (from_flight (d ∷ ds)) ≡ flying_in (d ∷ ds)
    by true is rest = rw is rest
    by false is rest = rw is refl

last_from : (e : Revision) (ds : List Drawn) → RisesFrom e ds → last_drawn (local_from e ds) (from_flight ds) ≡ last_drawn e ds
last_from e [] h = refl
last_from e (d ∷ ds) h = by d.ended refl (last_from d.revision ds (rises_on e d ds h))
  where
    by : (b : Bool) → d.ended ≡ b → last_drawn (local_from d.revision ds) (from_flight ds) ≡ last_drawn d.revision ds → last_drawn (local_from e (d ∷ ds)) (from_flight (d ∷ ds)) ≡ last_drawn e (d ∷ ds)
    by true is rest = subst (λ (l : Revision). last_drawn l (from_flight (d ∷ ds)) ≡ last_drawn e (d ∷ ds)) (sym (past_ended e d ds is h)) (rw is rest)
    by false is rest = rw is refl

from_shorter : (ds : List Drawn) → length (from_flight ds) ≤ length ds
from_shorter [] = omega arith
from_shorter (d ∷ ds) = by d.ended (from_shorter ds)
  where
    by : (b : Bool) → length (from_flight ds) ≤ length ds → length (cond b (from_flight ds) (d ∷ ds)) ≤ length (d ∷ ds)
    by true rest = omega arith
    by false rest = omega arith

-- ---- the first in flight ends

later_other : (r q : Revision) → revision_cmp r q ≡ Less → is_same q r ≡ false
later_other r q h = ap is_eq (revision_total.antisymm q r ∙ ap ordering_reverse h)

end_later : (r : Revision) (ds : List Drawn) → Follows r (revisions_in ds) → with_end ds r ≡ ds
end_later r [] h = refl
end_later r (d ∷ ds) h = rw (later_other r d.revision h.0) (ap (λ xs. d ∷ xs) (end_later r ds h.1))

end_first : (e : Revision) (d : Drawn) (ds : List Drawn) → RisesFrom e (d ∷ ds) → with_end (d ∷ ds) d.revision ≡ record { revision = d.revision; ended = true } ∷ ds
end_first e d ds h = rw (ap is_eq (tied_itself revision_total d.revision)) (ap (λ xs. record { revision = d.revision; ended = true } ∷ xs) (end_later d.revision ds (others_follow e d ds h)))

finish_first : (s : NodeState) (d : Drawn) (ds : List Drawn) → s.above ≡ d ∷ ds → IsMemory s → finished s d.revision ≡ record s { head = with_entry s.head (local_from d.revision ds); above = from_flight ds }
finish_first s d ds above is =
    let e : Revision = own_entry s in
    let first : Drawn = record { revision = d.revision; ended = true } in
    let rises : RisesFrom e (d ∷ ds) = subst (λ (xs : List Drawn). RisesFrom e xs) above is.rising in
    let rises' : RisesFrom e (first ∷ ds) = rises in
    let ended : with_end s.above d.revision ≡ first ∷ ds = ap (λ (xs : List Drawn). with_end xs d.revision) above ∙ end_first e d ds rises in
    ap (λ (xs : List Drawn). with_own (record s { above = xs }) (local_from e xs)) ended
    ∙ (ap (λ (xs : List Drawn). record s { head = with_entry s.head (local_from e (first ∷ ds)); above = xs }) (above_is e (first ∷ ds) rises')
    ∙ ap (λ (l : Revision). record s { head = with_entry s.head l; above = from_flight ds }) (past_ended e first ds refl rises'))

-- what is in flight behind the first of them stays, once that has ended
pub flying_rest : (s : NodeState) (d : Drawn) (ds : List Drawn) → s.above ≡ d ∷ ds → IsMemory s → flying_in (d ∷ ds) ≡ d.revision ∷ flying_in (finished s d.revision).above
flying_rest s d ds above is =
    let flies : d.ended ≡ false = not-true d.ended (subst (λ (xs : List Drawn). begins_in_flight xs ≡ true) above is.flying) in
    let start : flying_in (d ∷ ds) ≡ d.revision ∷ flying_in ds = rw flies refl in
    start ∙ ap (λ (rs : List Revision). d.revision ∷ rs) (sym (flying_from ds) ∙ ap (λ (x : NodeState). flying_in x.above) (sym (finish_first s d ds above is)))

pub above_shorter : (s : NodeState) (d : Drawn) (ds : List Drawn) → s.above ≡ d ∷ ds → IsMemory s → length (finished s d.revision).above ≤ length ds
above_shorter s d ds above is = subst (λ (x : NodeState). length x.above ≤ length ds) (sym (finish_first s d ds above is)) (from_shorter ds)

-- ---- all of them end

pub last_drawn-has : (P : Revision → Type 0) (e : Revision) (ds : List Drawn) → P e → AllByRecursion (λ d. P d.revision) ds → P (last_drawn e ds)
last_drawn-has P e [] p all = p
last_drawn-has P e (d ∷ ds) p all = last_drawn-has P d.revision ds all.0 all.1

pub last_node : (s : NodeState) → IsMemory s → (last_drawn (own_entry s) s.above).cluster ≡ s.cluster
last_node s is = last_drawn-has (λ q. q.cluster ≡ s.cluster) (own_entry s) s.above is.own_node (recursion_from_All (λ d. d.revision.cluster ≡ s.cluster) s.above is.of_node)

with_entry_twice : (v : Entries) (r q : Revision) → r.cluster ≡ q.cluster → with_entry (with_entry v r) q ≡ with_entry v q
with_entry_twice v r q same = ap (λ j. set (set v (j - 1) (Some r)) (q.cluster - 1) (Some q)) same ∙ set-set v (q.cluster - 1) (Some r) (Some q)

-- s with this own entry of the head, and nothing above it
abbrev pub settled_at : NodeState → Revision → NodeState
settled_at s e = record s { head = with_entry s.head e; above = [] }

ends_from : (n : ℕ) (s : NodeState) (ds : List Drawn) → s.above ≡ ds → length ds ≤ n → IsMemory s → fold finished s (flying_in ds) ≡ settled_at s (last_drawn (own_entry s) ds)
ends_from n s [] above few is =
    sym (ap (λ (v : Entries). record s { head = v; above = [] }) (with_entry_same s.head s.cluster (own_entry s) is.own is.own_node) ∙ ap (λ (xs : List Drawn). record s { above = xs }) (sym above))
ends_from zero s (d ∷ ds) above few is = absurd (omega arith)
ends_from (suc n) s (d ∷ ds) above few is =
    let r : Revision = d.revision in
    let l : Revision = local_from r ds in
    let q : Revision = last_drawn r ds in
    let now : NodeState = finished s r in
    let flies : d.ended ≡ false = not-true d.ended (subst (λ (xs : List Drawn). begins_in_flight xs ≡ true) above is.flying) in
    let rises : RisesFrom (own_entry s) (d ∷ ds) = subst (λ (xs : List Drawn). RisesFrom (own_entry s) xs) above is.rising in
    let moved : Revision = local_from (own_entry s) (with_end s.above r) in
    let is' : IsMemory now = finish_memory s r moved now.head now.above is refl refl refl in
    let first : now ≡ record s { head = with_entry s.head l; above = from_flight ds } = finish_first s d ds above is in
    let own : own_entry now ≡ l = own_now s r l now.head is (sym (moved_is (own_entry s) ds s.above above rises)) (ap (λ (x : NodeState). x.head) first) in
    let start : flying_in (d ∷ ds) ≡ r ∷ flying_in ds = rw flies refl in
    let node : l.cluster ≡ q.cluster = sym (ap (λ (x : Revision). x.cluster) own) ∙ (is'.own_node ∙ sym (ap (λ (xs : List Drawn). (last_drawn (own_entry s) xs).cluster) (sym above) ∙ last_node s is)) in
    ap (fold finished s) start
    ∙ (ap (fold finished now) (sym (flying_from ds))
    ∙ (ends_from n now (from_flight ds) (ap (λ (x : NodeState). x.above) first) (let k = from_shorter ds in omega arith) is'
    ∙ (ap (λ (e : Revision). settled_at now (last_drawn e (from_flight ds))) own
    ∙ (ap (settled_at now) (last_from r ds (rises_on (own_entry s) d ds rises))
    ∙ (ap (λ (x : NodeState). settled_at x q) first
    ∙ ap (λ (v : Entries). record s { head = v; above = [] }) (with_entry_twice s.head l q node))))))
  where
    moved_is : (e : Revision) (ds xs : List Drawn) → xs ≡ d ∷ ds → RisesFrom e (d ∷ ds) → local_from e (with_end xs d.revision) ≡ local_from d.revision ds
    moved_is e ds xs same h =
        ap (λ (ys : List Drawn). local_from e (with_end ys d.revision)) same
        ∙ (ap (local_from e) (end_first e d ds h)
        ∙ past_ended e (record { revision = d.revision; ended = true }) ds refl h)

-- what a recovery leaves, in one step
pub recovered_is : (s : NodeState) → IsMemory s → with_recovery s ≡ record s { head = with_entry s.head (last_drawn (own_entry s) s.above); above = []; pins = []; recovered = true }
recovered_is s is = ap (λ (x : NodeState). record x { pins = []; recovered = true }) (ends_from (length s.above) s s.above refl (omega arith) is)

-- each of the drawn revisions is at most the last
last_greatest : (e : Revision) (ds : List Drawn) → RisesFrom e ds → AllByRecursion (λ o. is_at_most o (last_drawn e ds) ≡ true) (e ∷ revisions_in ds)
last_greatest e [] h = (at_most_itself e, tt)
last_greatest e (d ∷ ds) h =
    let rest = last_greatest d.revision ds (rises_on e d ds h) in
    (ap is_le (before_less e (last_drawn d.revision ds) (before_at_most e d.revision (last_drawn d.revision ds) (first_follows e d ds h) rest.0)), rest)

-- ---- what is true of a memory stays

last_entry : (s : NodeState) → IsMemory s → entry (with_entry s.head (last_drawn (own_entry s) s.above)) s.cluster ≡ Some (last_drawn (own_entry s) s.above)
last_entry s is = own_after s (last_drawn (own_entry s) s.above) is (last_node s is)

pub recovered_memory : (s : NodeState) (l : Revision) (head : Entries) (above : List Drawn) (pins : List (ℕ × Pin)) → IsMemory s → s.stopped ≡ true → l ≡ last_drawn (own_entry s) s.above → head ≡ with_entry s.head l → above ≡ [] → pins ≡ []
    → IsMemory (record s { head = head; above = above; pins = pins; recovered = true })
recovered_memory s l head above pins is stopped last_is head_is none unpinned =
    let own_last : unwrap_or (entry head s.cluster) (start_of s.cluster) ≡ last_drawn (own_entry s) s.above =
    ap (λ o. unwrap_or o (start_of s.cluster)) (ap (λ v. entry v s.cluster) (head_is ∙ ap (with_entry s.head) last_is) ∙ last_entry s is) in
    start_memory (record s { head = head; above = above; pins = pins; recovered = true }) is.low is.high
    (subst (λ (o : Option Revision). IsSomeAnd o (λ e. e.cluster ≡ s.cluster)) (sym (ap (λ v. entry v s.cluster) (head_is ∙ ap (with_entry s.head) last_is) ∙ last_entry s is)) (last_node s is))
    none unpinned
    (kept_rise (own_entry s) (unwrap_or (entry head s.cluster) (start_of s.cluster)) (last_draw s) s.since s.changed is.kept (subst (λ (q : Revision). is_at_most (own_entry s) q ≡ true) (sym own_last) (last_greatest (own_entry s) s.above is.rising).0))
    (λ r. stopped)

pub recovered_same : (s : NodeState) (l : Revision) (head : Entries) (above : List Drawn) (pins : List (ℕ × Pin)) → IsMemory s → l ≡ last_drawn (own_entry s) s.above → head ≡ with_entry s.head l → above ≡ [] → pins ≡ []
    → record s { head = head; above = above; pins = pins; recovered = true } ≡ with_recovery s
recovered_same s l head above pins is last_is head_is none unpinned =
    rw (head_is, last_is, none, unpinned) (sym (recovered_is s is))

-- ---- what the laws say

pub nothing_flies : (s : NodeState) (q : Revision) → IsMemory s → ¬ IsInFlight (with_recovery s) q
nothing_flies s q is there =
    let within = subst (λ (x : NodeState). IsInFlight x q) (recovered_is s is) there in absurd (omega (arith, within.1))

pub own_greatest : (s : NodeState) → IsMemory s → IsGreatestDrawn (own_entry s ∷ revisions_in s.above) (own_entry (with_recovery s))
own_greatest s is =
    let e : Revision = own_entry s in
    let rs : List Revision = e ∷ revisions_in s.above in
    let own : own_entry (with_recovery s) ≡ last_drawn e s.above = ap own_entry (recovered_is s is) ∙ ap (λ o. unwrap_or o (start_of s.cluster)) (last_entry s is) in
    subst (λ (q : Revision). IsGreatestDrawn rs q) (sym own) (record {
      one =
          last_drawn-has (λ q. Contains rs q) e s.above (0, omega arith, refl)
          (recursion_from_All (λ d. Contains rs d.revision) s.above (λ k d h. let t = revision_at s.above (get_or s.above k d) (k, h, get_or_default s.above k (get_or s.above k d) d h) in (suc t.0, omega (arith, t.1), t.2)));
      greatest = λ o there. All-contains (λ q. is_at_most q (last_drawn e s.above) ≡ true) rs o (All-from_recursion (λ q. is_at_most q (last_drawn e s.above) ≡ true) rs (last_greatest e s.above is.rising)) there;
    })

pub others_stay : (s : NodeState) (k : ℕ) → IsMemory s → k ≢ s.cluster → entry (with_recovery s).head k ≡ entry s.head k
others_stay s k is other =
    let node = last_node s is in
    let low = is.low in
    ap (λ (x : NodeState). entry x.head k) (recovered_is s is)
    ∙ entry-with_other s.head (last_drawn (own_entry s) s.above) k (omega arith) (λ same. other (same ∙ node))

pub stays_stopped : (s : NodeState) → IsMemory s → (with_recovery s).stopped ≡ s.stopped
stays_stopped s is = ap (λ (x : NodeState). x.stopped) (recovered_is s is)
