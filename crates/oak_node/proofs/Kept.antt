-- Each call leaves what is true of each memory.
use Rattle.std.proofs.Common.{◌≡◌, ℕ, ◌<◌, ◌≤◌, true, false, Option, Some, None, List, [], ◌∷◌, ◌++◌, filter, refl, sym, ap, subst, ◌∙◌, arith}
use Rattle.std.specs.Prelude.{All, unwrap_or}
use Rattle.std.specs.List.{AllByRecursion}
use Rattle.std.specs.List.Sorted.{IsStrictlySortedBy}
use Rattle.std.specs.Map.{keys_of}
use Rattle.std.specs.Option.{IsSomeAnd, option_map_or}
use Rattle.std.specs.Ordering.{nat_cmp}
use Rattle.std.specs.declared.cmp.Ordering.TheVariants.{Less}
use Rattle.std.proofs.lemmas.List.{map_push}
use Rattle.std.proofs.lemmas.List.Elements.{recursion_from_All, All-filter, All-push, All-weaker, All-nil}
use Rattle.jr_rev.specs.declared.revision.Revision.{Revision}
use Rattle.jr_rev.specs.declared.vector.Pin.{Pin}
use Rattle.jr_rev.specs.Revisions.{revision_cmp, is_at_most, is_before}
use Rattle.jr_rev.specs.Vectors.{Entries, entry, with_entry, start_of}
use Rattle.oak_node.specs.declared.drawn.Drawn.{Drawn}
use Rattle.oak_node.specs.declared.pending.Note.{Note}
use Rattle.oak_node.specs.Changes.{oldest_own}
use Rattle.oak_node.specs.Memory.{NodeState, AreKept, IsMemory, last_draw, own_entry, revisions_in, begins_in_flight}
use Rattle.oak_node.specs.Heads.{latest_time, known_time, local_from, with_end}
use Rattle.oak_node.proofs.Changes.{kept_draw, kept_rise, kept_since, oldest_is}
use Rattle.oak_node.proofs.Owns.{entry-with_entry, with_entry_same, entry_time}
use Rattle.oak_node.proofs.Rests.{rises_ended, All-with_end, local_from-has, rest_rises}
use Rattle.oak_node.proofs.Rising.{before_less, not_before_at_most, same_revision, time_before}
use Rattle.oak_node.proofs.Settling.{RisesFrom, local_least, rest_flies}

-- ---- the start

pub start_own : (o : Option Revision) (k : ℕ) → IsSomeAnd o (λ e. e.cluster ≡ k) → (o ≡ Some (unwrap_or o (start_of k))) × ((unwrap_or o (start_of k)).cluster ≡ k)
start_own None k h = absurd h
start_own (Some e) k h = (refl, h)

pub start_memory : (s : NodeState) → 1 ≤ s.cluster → s.cluster ≤ 8 → IsSomeAnd (entry s.head s.cluster) (λ e. e.cluster ≡ s.cluster) → s.above ≡ [] → s.pins ≡ [] → AreKept (own_entry s) (last_draw s) s.since s.changed → (s.recovered ≡ true → s.stopped ≡ true) → IsMemory s
unfolding IsStrictlySortedBy
start_memory s low high has above pins kept stop =
    let own = start_own (entry s.head s.cluster) s.cluster has in
    record {
      low = low;
      high = high;
      own = own.0;
      own_node = own.1;
      rising = subst (λ (ds : List Drawn). RisesFrom (own_entry s) ds) (sym above) (tt, tt);
      flying = subst (λ (ds : List Drawn). begins_in_flight ds ≡ true) (sym above) refl;
      of_node = subst (λ (ds : List Drawn). All (λ d. d.revision.cluster ≡ s.cluster) ds) (sym above) (All-nil (λ d. d.revision.cluster ≡ s.cluster));
      times = subst (λ (ds : List Drawn). All (λ d. d.revision.time ≤ s.last_time) ds) (sym above) (All-nil (λ d. d.revision.time ≤ s.last_time));
      owners = subst (λ (ps : List (ℕ × Pin)). IsStrictlySortedBy nat_cmp (keys_of ps)) (sym pins) tt;
      kept = kept;
      stop = stop;
    }

-- ---- a draw

sorted_push : (rs : List Revision) (q : Revision) → IsStrictlySortedBy revision_cmp rs → AllByRecursion (λ r. revision_cmp r q ≡ Less) rs → IsStrictlySortedBy revision_cmp (rs ++ q ∷ [])
unfolding IsStrictlySortedBy
sorted_push [] q sorted all = (tt, tt)
sorted_push (r ∷ rs) q sorted all = (pushed rs sorted.0, sorted_push rs q sorted.1 all.1)
  where
    pushed : (ys : List Revision) → AllByRecursion (λ y. revision_cmp r y ≡ Less) ys → AllByRecursion (λ y. revision_cmp r y ≡ Less) (ys ++ q ∷ [])
    pushed [] h = (all.0, tt)
    pushed (y ∷ ys) h = (h.0, pushed ys h.1)

earlier_all : (ds : List Drawn) (t : ℕ) (q : Revision) → t < q.time → AllByRecursion (λ d. d.revision.time ≤ t) ds → AllByRecursion (λ r. revision_cmp r q ≡ Less) (revisions_in ds)
earlier_all [] t q h all = tt
earlier_all (d ∷ ds) t q h all = (before_less d.revision q (time_before d.revision q (let le = all.0 in omega arith)), earlier_all ds t q h all.1)

own_time : (s : NodeState) → IsMemory s → (own_entry s).time ≤ latest_time s.head
own_time s is = subst (λ (o : Option Revision). option_map_or (λ r. r.time) o 0 ≤ latest_time s.head) is.own (entry_time s.head s.cluster is.low is.high)

flies_push : (ds : List Drawn) (r : Revision) → begins_in_flight ds ≡ true → begins_in_flight (ds ++ record { revision = r; ended = false } ∷ []) ≡ true
flies_push [] r h = refl
flies_push (d ∷ ds) r h = h

pub draw_memory : (s : NodeState) (q : Revision) (above : List Drawn) → IsMemory s → known_time s < q.time → q.cluster ≡ s.cluster → above ≡ s.above ++ record { revision = q; ended = false } ∷ [] → IsMemory (record s { last_time = q.time; above = above })
draw_memory s q above is later node grown =
    let drawn : Drawn = record { revision = q; ended = false } in
    let late : s.last_time < q.time = omega arith in
    let own_late : (own_entry s).time < q.time = omega (arith, own_time s is) in
    let each : AllByRecursion (λ r. revision_cmp r q ≡ Less) (own_entry s ∷ revisions_in s.above) = (before_less (own_entry s) q (time_before (own_entry s) q own_late), earlier_all s.above s.last_time q late (recursion_from_All (λ d. d.revision.time ≤ s.last_time) s.above is.times)) in
    record {
      low = is.low;
      high = is.high;
      own = is.own;
      own_node = is.own_node;
      rising = subst (λ (ds : List Drawn). RisesFrom (own_entry s) ds) (sym grown) (subst (λ (rs : List Revision). IsStrictlySortedBy revision_cmp (own_entry s ∷ rs)) (sym (map_push (λ (d : Drawn). d.revision) s.above drawn)) (sorted_push (own_entry s ∷ revisions_in s.above) q is.rising each));
      flying = subst (λ (ds : List Drawn). begins_in_flight ds ≡ true) (sym grown) (flies_push s.above q is.flying);
      of_node = subst (λ (ds : List Drawn). All (λ d. d.revision.cluster ≡ s.cluster) ds) (sym grown) (All-push (λ d. d.revision.cluster ≡ s.cluster) s.above drawn is.of_node node);
      times = subst (λ (ds : List Drawn). All (λ d. d.revision.time ≤ q.time) ds) (sym grown) (All-push (λ d. d.revision.time ≤ q.time) s.above drawn (All-weaker (λ d. d.revision.time ≤ s.last_time) (λ d. d.revision.time ≤ q.time) (λ d h. omega arith) s.above is.times) (omega arith));
      owners = is.owners;
      kept = kept_draw (own_entry s) (last_draw s) (record { time = q.time; counter = 0; cluster = s.cluster }) s.since s.changed is.kept (time_before (last_draw s) (record { time = q.time; counter = 0; cluster = s.cluster }) late) refl;
      stop = is.stop;
    }

-- ---- an end

pub local_node : (s : NodeState) (r : Revision) → IsMemory s → (local_from (own_entry s) (with_end s.above r)).cluster ≡ s.cluster
local_node s r is =
    local_from-has (λ q. q.cluster ≡ s.cluster) (own_entry s) (with_end s.above r) (rises_ended (own_entry s) s.above r is.rising) is.own_node
    (recursion_from_All (λ d. d.revision.cluster ≡ s.cluster) (with_end s.above r) (All-with_end (λ q. q.cluster ≡ s.cluster) s.above r is.of_node))

-- what was drawn, and its revision's node and time, are kept by ends
pub own_after : (s : NodeState) (l : Revision) → IsMemory s → l.cluster ≡ s.cluster → entry (with_entry s.head l) s.cluster ≡ Some l
own_after s l is node = entry-with_entry s.head s.cluster (own_entry s) l is.own node

has_after : (s : NodeState) (r l : Revision) (head : Entries) → IsMemory s → l ≡ local_from (own_entry s) (with_end s.above r) → head ≡ with_entry s.head l → entry head s.cluster ≡ Some l
has_after s r l head is local_is head_is =
    ap (λ v. entry v s.cluster) head_is ∙ own_after s l is (ap (λ q. q.cluster) local_is ∙ local_node s r is)

-- the own entry of the head after an end
pub own_now : (s : NodeState) (r l : Revision) (head : Entries) → IsMemory s → l ≡ local_from (own_entry s) (with_end s.above r) → head ≡ with_entry s.head l → unwrap_or (entry head s.cluster) (start_of s.cluster) ≡ l
own_now s r l head is local_is head_is = ap (λ o. unwrap_or o (start_of s.cluster)) (has_after s r l head is local_is head_is)

pub finish_memory : (s : NodeState) (r l : Revision) (head : Entries) (above : List Drawn) → IsMemory s → l ≡ local_from (own_entry s) (with_end s.above r) → head ≡ with_entry s.head l → above ≡ filter (λ d. is_before l d.revision) (with_end s.above r) → IsMemory (record s { head = head; above = above })
finish_memory s r l head above is local_is head_is above_is =
    let ds : List Drawn = with_end s.above r in
    let node : l.cluster ≡ s.cluster = ap (λ q. q.cluster) local_is ∙ local_node s r is in
    let has : entry head s.cluster ≡ Some l = has_after s r l head is local_is head_is in
    let own_is : unwrap_or (entry head s.cluster) (start_of s.cluster) ≡ l = own_now s r l head is local_is head_is in
    record {
      low = is.low;
      high = is.high;
      own = has ∙ ap (λ q. Some q) (sym own_is);
      own_node = ap (λ q. q.cluster) own_is ∙ node;
      rising = subst (λ (q : Revision). RisesFrom q above) (sym own_is) (subst (λ (xs : List Drawn). RisesFrom l xs) (sym above_is) (rest_rises (own_entry s) l ds (rises_ended (own_entry s) s.above r is.rising)));
      flying = subst (λ (xs : List Drawn). begins_in_flight xs ≡ true) (sym above_is) (subst (λ (q : Revision). begins_in_flight (filter (λ d. is_before q d.revision) ds) ≡ true) (sym local_is) (rest_flies (own_entry s) ds (rises_ended (own_entry s) s.above r is.rising)));
      of_node = subst (λ (xs : List Drawn). All (λ d. d.revision.cluster ≡ s.cluster) xs) (sym above_is) (All-filter (λ d. is_before l d.revision) (λ d. d.revision.cluster ≡ s.cluster) ds (All-with_end (λ q. q.cluster ≡ s.cluster) s.above r is.of_node));
      times = subst (λ (xs : List Drawn). All (λ d. d.revision.time ≤ s.last_time) xs) (sym above_is) (All-filter (λ d. is_before l d.revision) (λ d. d.revision.time ≤ s.last_time) ds (All-with_end (λ q. q.time ≤ s.last_time) s.above r is.times));
      owners = is.owners;
      kept =
          kept_rise (own_entry s) (unwrap_or (entry head s.cluster) (start_of s.cluster)) (last_draw s) s.since s.changed is.kept
          (subst (λ (q : Revision). is_at_most (own_entry s) q ≡ true) (sym (own_is ∙ local_is)) (not_before_at_most (local_from (own_entry s) ds) (own_entry s) (local_least (own_entry s) ds (rises_ended (own_entry s) s.above r is.rising))));
      stop = is.stop;
    }

-- where the own entry did not rise, the head is as it was
pub head_still : (s : NodeState) (r l : Revision) → IsMemory s → l ≡ local_from (own_entry s) (with_end s.above r) → is_before (own_entry s) l ≡ false → with_entry s.head l ≡ s.head
head_still s r l is local_is still =
    let least : is_before l (own_entry s) ≡ false = ap (λ q. is_before q (own_entry s)) local_is ∙ local_least (own_entry s) (with_end s.above r) (rises_ended (own_entry s) s.above r is.rising) in
    let same : l ≡ own_entry s = same_revision l (own_entry s) least still in
    ap (λ q. with_entry s.head q) same ∙ with_entry_same s.head s.cluster (own_entry s) is.own is.own_node

-- ---- pins

pub pins_memory : (s : NodeState) (pins after : List (ℕ × Pin)) → IsMemory s → pins ≡ after → IsStrictlySortedBy nat_cmp (keys_of after) → IsMemory (record s { pins = pins })
pins_memory s pins after is same sorted = record {
  low = is.low;
  high = is.high;
  own = is.own;
  own_node = is.own_node;
  rising = is.rising;
  flying = is.flying;
  of_node = is.of_node;
  times = is.times;
  owners = subst (λ (ps : List (ℕ × Pin)). IsStrictlySortedBy nat_cmp (keys_of ps)) (sym same) sorted;
  kept = is.kept;
  stop = is.stop;
}

-- ---- what is learned

pub learn_memory : (s : NodeState) (head sweep : Entries) → IsMemory s → entry head s.cluster ≡ entry s.head s.cluster → IsMemory (record s { head = head; sweep = sweep })
learn_memory s head sweep is same =
    let own : unwrap_or (entry head s.cluster) (start_of s.cluster) ≡ own_entry s = ap (λ o. unwrap_or o (start_of s.cluster)) same in
    record {
      low = is.low;
      high = is.high;
      own = same ∙ (is.own ∙ ap (λ q. Some q) (sym own));
      own_node = ap (λ q. q.cluster) own ∙ is.own_node;
      rising = subst (λ (q : Revision). RisesFrom q s.above) (sym own) is.rising;
      flying = is.flying;
      of_node = is.of_node;
      times = is.times;
      owners = is.owners;
      kept = subst (λ (q : Revision). AreKept q (last_draw s) s.since s.changed) (sym own) is.kept;
      stop = is.stop;
    }

-- ---- what is dropped

pub drop_memory : (s : NodeState) (notes changed : List Note) (e : Revision) → IsMemory s → e ≡ oldest_own s → changed ≡ filter (λ note. is_before e note.revision) s.changed → IsMemory (record s { notes = notes; since = e; changed = changed })
drop_memory s notes changed e is oldest now =
    let at = oldest_is s is in
    record {
      low = is.low;
      high = is.high;
      own = is.own;
      own_node = is.own_node;
      rising = is.rising;
      flying = is.flying;
      of_node = is.of_node;
      times = is.times;
      owners = is.owners;
      kept =
          subst (λ (ns : List Note). AreKept (own_entry s) (last_draw s) e ns) (sym now)
          (kept_since (own_entry s) (last_draw s) s.since e s.changed is.kept (ap (λ (q : Revision). q.cluster) oldest ∙ at.0) (ap (λ (q : Revision). is_at_most q (own_entry s)) oldest ∙ at.1));
      stop = is.stop;
    }
