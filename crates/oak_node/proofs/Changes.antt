-- What is kept of a node's draws, and what a vector doesn't see of it.
use Rattle.std.proofs.Common.{◌≡◌, ℕ, zero, suc, ◌+◌, ◌-◌, ◌<◌, ◌≤◌, Bool, true, false, cond, not, Option, Some, None, List, [], ◌∷◌, ◌++◌, length, get_or, filter, fold, take, drop, refl, sym, ap, subst, ◌∙◌, arith}
use Rattle.std.specs.Prelude.{All, unwrap_or}
use Rattle.std.specs.List.{AllByRecursion}
use Rattle.std.specs.List.Sorted.{IsPartitionPoint, IsPartitionedBy, IsSortedByKey}
use Rattle.std.specs.Option.{IsSomeAnd, option_map_or}
use Rattle.std.specs.Ordering.{is_le, is_lt, nat_cmp, ord_min, ordering_then}
use Rattle.std.specs.declared.cmp.Ordering.{Ordering}
use Rattle.std.specs.declared.cmp.Ordering.TheVariants.{Less, Equal, Greater}
use Rattle.std.proofs.lemmas.Bool.{false≢true, both_ways, false_from_ne_true}
use Rattle.std.proofs.lemmas.Cmp.{nat_cmp_total, tied_itself}
use Rattle.std.proofs.lemmas.List.{append_assoc, append-nil, length-drop, take_all}
use Rattle.std.proofs.lemmas.List.Elements.{All-filter, All-nil, All-push, All-weaker, filter_more, filter_passes, recursion_from_All}
use Rattle.std.proofs.lemmas.List.Kept.{IsSortedBy-filter, IsSortedBy-push}
use Rattle.std.proofs.lemmas.List.Sorted.{ranks_by, sorted_far}
use Rattle.std.proofs.lemmas.List.Sums.{fold-append}
use Rattle.jr_rev.specs.declared.revision.Revision.{Revision}
use Rattle.jr_rev.specs.declared.vector.Pin.{Pin}
use Rattle.jr_rev.specs.Revisions.{revision_cmp, is_at_most, is_before}
use Rattle.jr_rev.specs.Vectors.{Entries, entry, is_below, is_entry_below, own_in, sees, start_of}
use Rattle.jr_rev.proofs.Bounds.{below_entries}
use Rattle.jr_rev.proofs.Order.{at_most_itself, at_most_trans, revision_total}
use Rattle.oak_node.specs.declared.pending.Note.{Note}
use Rattle.oak_node.specs.Changes.{changed_since, knowing_pins, known_from, oldest_own}
use Rattle.oak_node.specs.Memory.{NodeState, AreKept, IsMemory, own_entry}
use Rattle.oak_node.specs.Notes.{notes_of, without_seen}
use Rattle.oak_node.proofs.Owns.{entry-with_entry}
use Rattle.oak_node.proofs.Rising.{before_at_most, before_less, not_before_at_most, not_before_itself}

-- ---- each step keeps it

pub kept_start : (own last since : Revision) (changed : List Note) → since ≡ own → own.cluster ≡ last.cluster → changed ≡ [] → AreKept own last since changed
kept_start own last since changed same node none = record {
  node = ap (λ (r : Revision). r.cluster) same ∙ node;
  low = subst (λ (r : Revision). is_at_most r own ≡ true) (sym same) (at_most_itself own);
  of_node = subst (λ (ns : List Note). All (λ (note : Note). note.revision.cluster ≡ last.cluster) ns) (sym none) (All-nil (λ (note : Note). note.revision.cluster ≡ last.cluster));
  order = subst (λ (ns : List Note). IsSortedByKey (λ (note : Note). note.revision) revision_cmp ns) (sym none) (λ k d low h. absurd (omega (arith, h)));
  late = subst (λ (ns : List Note). All (λ (note : Note). is_at_most note.revision last ≡ true) ns) (sym none) (All-nil (λ (note : Note). is_at_most note.revision last ≡ true));
}

before_most : (a b : Revision) → is_before a b ≡ true → is_at_most a b ≡ true
before_most a b h = ap is_le (before_less a b h)

pub kept_draw : (own last next since : Revision) (changed : List Note) → AreKept own last since changed → is_before last next ≡ true → last.cluster ≡ next.cluster → AreKept own next since changed
kept_draw own last next since changed is later node = record {
  node = is.node ∙ node;
  low = is.low;
  of_node = All-weaker (λ (note : Note). note.revision.cluster ≡ last.cluster) (λ (note : Note). note.revision.cluster ≡ next.cluster) (λ note h. h ∙ node) changed is.of_node;
  order = is.order;
  late = All-weaker (λ (note : Note). is_at_most note.revision last ≡ true) (λ (note : Note). is_at_most note.revision next ≡ true) (λ note h. at_most_trans note.revision last next h (before_most last next later)) changed is.late;
}

pub kept_rise : (own high last since : Revision) (changed : List Note) → AreKept own last since changed → is_at_most own high ≡ true → AreKept high last since changed
kept_rise own high last since changed is rises = record { node = is.node; low = at_most_trans since own high is.low rises; of_node = is.of_node; order = is.order; late = is.late }

-- what is at most another is not after it
not_after : (a b : Revision) → is_at_most a b ≡ true → is_before b a ≡ false
not_after a b h = false_from_ne_true (is_before b a) (λ back. both_ways (is_before b b) (not_before_itself b) (before_at_most b a b back h))

kept_note : (own last since : Revision) (changed : List Note) (path : List (List ℕ)) → AreKept own last since changed → AreKept own last since (changed ++ record { path = path; revision = last } ∷ [])
kept_note own last since changed path is =
    let note : Note = record { path = path; revision = last } in
    record {
      node = is.node;
      low = is.low;
      of_node = All-push (λ (x : Note). x.revision.cluster ≡ last.cluster) changed note is.of_node refl;
      order =
          IsSortedBy-push (λ (x y : Note). is_lt (revision_cmp x.revision y.revision)) changed note is.order
          (λ d some. not_after (get_or changed (length changed - 1) d).revision last (is.late (length changed - 1) d (omega (arith, some))));
      late = All-push (λ (x : Note). is_at_most x.revision last ≡ true) changed note is.late (at_most_itself last);
    }

kept_notes : (own last since : Revision) (changed : List Note) (paths : List (List (List ℕ))) → AreKept own last since changed → AreKept own last since (changed ++ notes_of last paths)
kept_notes own last since changed [] is = subst (λ (ns : List Note). AreKept own last since ns) (sym (append-nil changed)) is
kept_notes own last since changed (p ∷ ps) is =
    let note : Note = record { path = p; revision = last } in
    subst (λ (ns : List Note). AreKept own last since ns) (append_assoc changed (note ∷ []) (notes_of last ps))
    (kept_notes own last since (changed ++ note ∷ []) ps (kept_note own last since changed p is))

-- paths are noted with the last draw
pub kept_noted : (own last since r : Revision) (changed more : List Note) (paths : List (List (List ℕ))) → AreKept own last since changed → r ≡ last → more ≡ changed ++ notes_of r paths → AreKept own last since more
kept_noted own last since r changed more paths is same noted =
    subst (λ (ns : List Note). AreKept own last since ns) (sym (noted ∙ ap (λ (q : Revision). changed ++ notes_of q paths) same)) (kept_notes own last since changed paths is)

pub kept_since : (own last since e : Revision) (changed : List Note) → AreKept own last since changed → e.cluster ≡ last.cluster → is_at_most e own ≡ true → AreKept own last e (filter (λ note. is_before e note.revision) changed)
kept_since own last since e changed is node low =
    let after : Note → Bool = λ note. is_before e note.revision in
    record {
      node = node;
      low = low;
      of_node = All-filter after (λ (x : Note). x.revision.cluster ≡ last.cluster) changed is.of_node;
      order = IsSortedBy-filter (λ (x y : Note). is_lt (revision_cmp x.revision y.revision)) (ranks_by revision_total (λ (x : Note). x.revision)) after changed is.order;
      late = All-filter after (λ (x : Note). is_at_most x.revision last ≡ true) changed is.late;
    }

-- ---- the oldest own entry in use

-- an entry that is of its cluster node
pub own_in_is : (k : ℕ) (v : Entries) → IsSomeAnd (entry v k) (λ e. e.cluster ≡ k) → own_in k v ≡ unwrap_or (entry v k) (start_of k)
own_in_is k v h = by (entry v k) h
  where
    by : (o : Option Revision) → IsSomeAnd o (λ e. e.cluster ≡ k) → option_map_or {T = Revision} (λ r. record r { cluster = k }) o (start_of k) ≡ unwrap_or o (start_of k)
    by None i = absurd i
    by (Some e) i = ap (λ (j : ℕ). record e { cluster = j }) (sym i)

pub own_in-node : (k : ℕ) (v : Entries) → (own_in k v).cluster ≡ k
own_in-node k v = by (entry v k)
  where
    by : (o : Option Revision) → (option_map_or {T = Revision} (λ r. record r { cluster = k }) o (start_of k)).cluster ≡ k
    by None = refl
    by (Some r) = refl

pub min_left : (a b : Revision) → is_at_most (ord_min revision_cmp a b) a ≡ true
min_left a b = by (is_before b a) refl
  where
    by : (c : Bool) → is_before b a ≡ c → is_at_most (cond c b a) a ≡ true
    by true h = before_most b a h
    by false h = at_most_itself a

min_node : (k : ℕ) (a b : Revision) → a.cluster ≡ k → b.cluster ≡ k → (ord_min revision_cmp a b).cluster ≡ k
min_node k a b h i = by (is_before b a)
  where
    by : (c : Bool) → (cond c b a).cluster ≡ k
    by true = i
    by false = h

oldest_of : (k : ℕ) (e : Revision) (pins : List (ℕ × Pin)) → e.cluster ≡ k
    → ((fold (λ e pin. ord_min revision_cmp e (own_in k pin.1.base)) e pins).cluster ≡ k)
    × (is_at_most (fold (λ e pin. ord_min revision_cmp e (own_in k pin.1.base)) e pins) e ≡ true)
oldest_of k e [] node = (node, at_most_itself e)
oldest_of k e (p ∷ ps) node =
    let rest = oldest_of k (ord_min revision_cmp e (own_in k p.1.base)) ps (min_node k e (own_in k p.1.base) node (own_in-node k p.1.base)) in
    (rest.0, at_most_trans _ (ord_min revision_cmp e (own_in k p.1.base)) e rest.1 (min_left e (own_in k p.1.base)))

pub oldest_is : (s : NodeState) → IsMemory s → ((oldest_own s).cluster ≡ s.cluster) × (is_at_most (oldest_own s) (own_entry s) ≡ true)
oldest_is s is = oldest_of s.cluster (own_entry s) (knowing_pins s) is.own_node

-- ---- what is kept never goes further back

le_then : (o p q t : Ordering) → is_le (ordering_then o (ordering_then p q)) ≡ true → is_le t ≡ true → is_le (ordering_then o (ordering_then p t)) ≡ true
le_then Less p q t h k = refl
le_then Equal Less q t h k = refl
le_then Equal Equal q t h k = k
le_then Equal Greater q t h k = absurd (false≢true h)
le_then Greater p q t h k = absurd (false≢true h)

-- what is at most an entry is at most the revision that the entry gives its cluster node
most_of_node : (k : ℕ) (a e : Revision) → a.cluster ≡ k → is_at_most a e ≡ true → is_at_most a (record e { cluster = k }) ≡ true
most_of_node k a e node h = le_then (nat_cmp a.time e.time) (nat_cmp a.counter e.counter) (nat_cmp a.cluster e.cluster) (nat_cmp a.cluster k) h (ap (λ (j : ℕ). is_le (nat_cmp j k)) node ∙ ap is_le (tied_itself nat_cmp_total k))

pub most_own : (k : ℕ) (a : Revision) (v : Entries) → a.cluster ≡ k → is_entry_below (Some a) (entry v k) ≡ true → is_at_most a (own_in k v) ≡ true
most_own k a v node = by (entry v k)
  where
    by : (o : Option Revision) → is_entry_below (Some a) o ≡ true → is_at_most a (option_map_or {T = Revision} (λ r. record r { cluster = k }) o (start_of k)) ≡ true
    by None h = absurd (false≢true h)
    by (Some e) h = most_of_node k a e node h

min_above : (a b c : Revision) → is_at_most a b ≡ true → is_at_most a c ≡ true → is_at_most a (ord_min revision_cmp b c) ≡ true
min_above a b c h i = by (is_before c b)
  where
    by : (d : Bool) → is_at_most a (cond d c b) ≡ true
    by true = i
    by false = h

oldest_above : (k : ℕ) (a e : Revision) (pins : List (ℕ × Pin)) → is_at_most a e ≡ true → AllByRecursion (λ pin. is_at_most a (own_in k pin.1.base) ≡ true) pins → is_at_most a (fold (λ e pin. ord_min revision_cmp e (own_in k pin.1.base)) e pins) ≡ true
oldest_above k a e [] h all = h
oldest_above k a e (p ∷ ps) h all = oldest_above k a (ord_min revision_cmp e (own_in k p.1.base)) ps (min_above a e (own_in k p.1.base) h all.0) all.1

-- since which a memory keeps what changed stands in the least vector of which it knows it
pub since_entry : (s : NodeState) → IsMemory s → entry (known_from s) s.cluster ≡ Some s.since
since_entry s is = entry-with_entry s.head s.cluster (own_entry s) s.since is.own is.kept.node

pub since_oldest : (s : NodeState) → IsMemory s → is_at_most s.since (oldest_own s) ≡ true
since_oldest s is =
    let knows : ℕ × Pin → Bool = λ pin. is_below (known_from s) pin.1.base in
    oldest_above s.cluster s.since (own_entry s) (knowing_pins s) is.kept.low
    (recursion_from_All (λ (pin : ℕ × Pin). is_at_most s.since (own_in s.cluster pin.1.base) ≡ true) (knowing_pins s)
    (All-weaker (λ pin. knows pin ≡ true) (λ (pin : ℕ × Pin). is_at_most s.since (own_in s.cluster pin.1.base) ≡ true)
    (λ pin h. most_own s.cluster s.since pin.1.base is.kept.node
    (subst (λ (o : Option Revision). is_entry_below o (entry pin.1.base s.cluster) ≡ true) (since_entry s is) (below_entries (known_from s) pin.1.base h s.cluster)))
    (knowing_pins s) (filter_passes knows s.pins)))

-- one pin more is passed
pub oldest_more : {X Y : Type 0} (f : Y → X → Y) (p : X → Bool) (a : Y) (xs : List X) (i : ℕ) (d : X) → i < length xs
    → fold f a (filter p (take (i + 1) xs)) ≡ cond (p (get_or xs i d)) (f (fold f a (filter p (take i xs))) (get_or xs i d)) (fold f a (filter p (take i xs)))
oldest_more {X} {Y} f p a xs i d h = ap (fold f a) (filter_more p xs i d h) ∙ (fold-append f a front (cond (p x) (x ∷ []) []) ∙ by (p x))
  where
    front : List X
    front = filter p (take i xs)

    x : X
    x = get_or xs i d

    by : (b : Bool) → fold f (fold f a front) (cond b (x ∷ []) []) ≡ cond b (f (fold f a front) x) (fold f a front)
    by true = refl
    by false = refl

-- ---- what a vector doesn't see

seen_earlier : (a b : Revision) (o : Option Revision) → is_at_most a b ≡ true → option_map_or (is_at_most b) o false ≡ true → option_map_or (is_at_most a) o false ≡ true
seen_earlier a b None h k = absurd (false≢true k)
seen_earlier a b (Some e) h k = at_most_trans a b e h k

-- what a vector sees of the changes stands at their front
pub seen_first : (own last since : Revision) (changed : List Note) (v : Entries) → AreKept own last since changed → IsPartitionedBy (λ (note : Note). sees v note.revision) changed
seen_first own last since changed v is i j d le lt seen =
    let a : Revision = (get_or changed i d).revision in
    let b : Revision = (get_or changed j d).revision in
    let far : is_before b a ≡ false = sorted_far (λ (x y : Note). is_lt (revision_cmp x.revision y.revision)) (ranks_by revision_total (λ (x : Note). x.revision)) changed is.order i j d le lt in
    let node : a.cluster ≡ b.cluster = is.of_node i d (omega arith) ∙ sym (is.of_node j d lt) in
    ap (λ (k : ℕ). option_map_or (is_at_most a) (entry v k) false) node ∙ seen_earlier a b (entry v b.cluster) (not_before_at_most b a far) seen

pub unseen_behind : {X : Type 0} (q : X → Bool) (xs : List X) (i : ℕ) → i ≤ length xs → IsPartitionPoint (λ y. q y ≡ true) (λ y. q y ≡ false) xs i → filter (λ x. not (q x)) xs ≡ drop i xs
unseen_behind q [] zero le point = refl
unseen_behind q [] (suc i) le point = absurd (omega (arith, le))
unseen_behind q (x ∷ xs) zero le point =
    rw (point.1 zero x (omega arith) (omega arith)) (ap (λ ys. x ∷ ys) (unseen_behind q xs zero (omega arith) ((λ k d low high. absurd (omega (arith, high))), (λ k d low high. point.1 (suc k) d (omega arith) (omega (arith, high))))))
unseen_behind q (x ∷ xs) (suc i) le point =
    rw (point.0 zero x (omega arith) (omega arith)) (unseen_behind q xs i (omega (arith, le)) ((λ k d low high. point.0 (suc k) d (omega arith) (omega (arith, high))), (λ k d low high. point.1 (suc k) d (omega arith) (omega (arith, high)))))

pub told_is : (s : NodeState) (v : Entries) (i : ℕ) → is_below (known_from s) v ≡ true → i ≤ length s.changed → IsPartitionPoint (λ (note : Note). sees v note.revision ≡ true) (λ (note : Note). sees v note.revision ≡ false) s.changed i
    → changed_since s v ≡ Some (take (length s.changed - i) (drop i s.changed))
told_is s v i known le point =
    ap (λ (b : Bool). cond b (Some (filter (λ (note : Note). not (sees v note.revision)) s.changed)) None) known
    ∙ ap (λ (ns : List Note). Some ns) (unseen_behind (λ (note : Note). sees v note.revision) s.changed i le point ∙ sym (take_all (length s.changed - i) (drop i s.changed) (omega (arith, length-drop i s.changed))))

-- ---- what is dropped

pub dropped_is : (s : NodeState) (notes changed : List Note) (e : Revision) → notes ≡ filter (λ note. not (sees s.head note.revision)) s.notes → e ≡ oldest_own s → changed ≡ filter (λ note. is_before e note.revision) s.changed
    → record s { notes = notes; since = e; changed = changed } ≡ without_seen s
dropped_is s notes changed e noted oldest now =
    (λ i. record s { notes = noted i; since = e; changed = now i })
    ∙ ap (λ (q : Revision). record s { notes = filter (λ note. not (sees s.head note.revision)) s.notes; since = q; changed = filter (λ note. is_before q note.revision) s.changed }) oldest
