-- A collection takes its bound once: the least of all that is held when it begins.
use Rattle.std.proofs.Common.{◌≡◌, ◌⊎◌, inl, inr, ℕ, suc, ◌+◌, ◌-◌, ◌≤◌, Bool, true, false, cond, List, [], ◌∷◌, ◌++◌, length, map, fold, Option, Some, None, refl, sym, ap, ◌∙◌, subst, arith, append_assoc}
use Rattle.std.specs.Prelude.{nat_lt, slice_get}
use Rattle.std.specs.List.{filter}
use Rattle.std.specs.Option.{option_flatten, option_map_or}
use Rattle.std.specs.declared.alloc.Global.{Global}
use Rattle.std.proofs.lemmas.List.{length-append, length-map}
use Rattle.jr_path.specs.declared.path.DocId.{DocId}
use Rattle.jr_path.specs.declared.path.DocId.TheVariants as id
use Rattle.jr_rev.specs.declared.vector.Pin.{Pin}
use Rattle.oak_doc.specs.declared.asks.Ask.TheVariants as ask
use Rattle.oak_doc.specs.declared.asks.MemoryAsk.TheVariants as memory
use Rattle.oak_doc.specs.declared.asks.RemoveOut.TheVariants as removal
use Rattle.oak_doc.specs.declared.asks.Reply.{Reply}
use Rattle.oak_doc.specs.declared.asks.Reply.TheVariants as reply
use Rattle.oak_doc.specs.declared.document.Document.{Document}
use Rattle.oak_doc.specs.declared.update.Kept.TheVariants as kept
use Rattle.oak_gc.specs.Bounding.{node_reply, those_that_tell}
use Rattle.oak_gc.specs.Bounds.{Told, bound_of, kept_pairs, lesser_pair, root_pair}
use Rattle.oak_gc.specs.Collecting.{Previous, begun, behind_node, due, fed, found_document, garbage_previous, going_on, has_garbage_in, last_of, no_pair, node_reading, removing, with_document, with_entries, with_previous_read, with_skip}
use Rattle.oak_gc.specs.Garbage.{garbage_in, is_garbage_document}
use Rattle.oak_gc.specs.declared.collector.Collector.{Collector}
use Rattle.oak_gc.specs.declared.reading.Step.{Step}
use Rattle.oak_gc.specs.declared.reading.Step.TheVariants as step
use Rattle.oak_gc.proofs.Bounding.{at_node, fold-append, more_to_ask, none_to_ask, one_node, pairs_more, pairs_of}
use Rattle.oak_machine.specs.declared.event.Event.TheVariants as event
use Rattle.oak_machine.specs.History.{Past}
use Rattle.oak_machine.specs.Runs.{is_bound}
use Rattle.oak_node.specs.Memory.{NodeState}
use Rattle.oak_store.specs.Tables.{Table, found}
use Rattle.oak_tidy.specs.declared.tidying.Tidying.{Tidying}
use Rattle.oak_tidy.specs.declared.tidying.Tidying.TheVariants as tidying
use Rattle.oak_tidy.specs.Replies.{all_parts, node_tells, table_after, told_by_memories, told_to}
use Rattle.oak_tidy.specs.Tidyings.{tidy_events}
use Rattle.oak_alone.proofs.Asked.{node_told, told}

-- ---- what has taken its bound keeps it

-- a collector at this step asks no more for its bound
abbrev pub IsBounded : Step → Type 0
IsBounded step.Root = ⊥
IsBounded (step.Node k) = ⊥
IsBounded step.Settings = ⊥
IsBounded _ = Unit {0}

-- a collector has taken this bound
pub record HasTaken (b : Pin) (c : Collector) : Type 0 where
  pub bound : c.bound ≡ b
  pub bounded : IsBounded c.step

module _ (b : Pin) where
  decides : (c : Collector) (g h : Bool) → c.bound ≡ b → HasTaken b (record c { step = cond g step.Remove (cond h step.Prune step.Next) })
  decides c true h is = record { bound = is; bounded = tt }
  decides c false true is = record { bound = is; bounded = tt }
  decides c false false is = record { bound = is; bounded = tt }

  goes : (c : Collector) → c.bound ≡ b → HasTaken b (going_on c)
  goes c is = by c.reading.listed
    where
      by : (ns : List ℕ) → HasTaken b (going_on (record c { reading = record c.reading { listed = ns } }))
      by [] = decides (record c { reading = record c.reading { listed = [] } }) (is_garbage_document c.bound.base c.bound.sweep c.reading.document) (has_garbage_in c.bound (record c.reading { listed = [] })) is
      by (n ∷ ns) = record { bound = is; bounded = tt }

  finds : (c : Collector) (d : Document) → c.bound ≡ b → HasTaken b (found_document c d)
  finds c d is = by d.id
    where
      by : (x : DocId) → HasTaken b (option_map_or (λ r. going_on (record c { reading = r })) (node_reading c.bound x d) (record c { step = step.Done }))
      by (id.Node p) = goes (record c { reading = record { at = p; document = d; garbage = garbage_in c.bound.base c.bound.sweep d; listed = map (λ e. e.number) d.prev; previous = [] } }) is
      by (id.Prev k p) = record { bound = is; bounded = tt }
      by id.Settings = record { bound = is; bounded = tt }

  nexts : (c : Collector) (o : Option Document) → c.bound ≡ b → HasTaken b (option_map_or (found_document c) o (record c { step = step.Done }))
  nexts c None is = record { bound = is; bounded = tt }
  nexts c (Some d) is = finds c d is

  removes : (c : Collector) → c.bound ≡ b → HasTaken b (removing c)
  removes c is = by (last_of c.reading.previous)
    where
      by : (o : Option ((ℕ × Document) × Previous)) → HasTaken b (option_map_or (λ l. record c { reading = record c.reading { previous = l.1 }; step = step.RemovePrevious l.0.0 l.0.1.mod_count }) o (record c { step = step.Next }))
      by None = record { bound = is; bounded = tt }
      by (Some l) = record { bound = is; bounded = tt }

  pub stays : (c : Collector) (st : Step) (r : Reply) → IsBounded st → c.bound ≡ b → HasTaken b (fed (record c { step = st }) r)
  stays c step.Root r of is = absurd of
  stays c (step.Node k) r of is = absurd of
  stays c step.Settings r of is = absurd of
  stays c step.First (reply.Found o) of is = nexts (record c { step = step.First }) o is
  stays c step.First r of is = record { bound = is; bounded = tt }
  stays c step.Next (reply.Found o) of is = nexts (record c { step = step.Next }) o is
  stays c step.Next r of is = record { bound = is; bounded = tt }
  stays c (step.Listed n) (reply.Found o) of is = goes (record c { reading = with_previous_read c.reading n o; step = step.Listed n }) is
  stays c (step.Listed n) r of is = record { bound = is; bounded = tt }
  stays c step.Prune (reply.Updated before) of is = removes (with_entries (record c { reading = record c.reading { previous = garbage_previous c.bound c.reading }; step = step.Prune }) (length c.reading.garbage)) is
  stays c step.Prune (reply.Unmet cause (kept.Number n)) of is = record { bound = is; bounded = tt }
  stays c step.Prune (reply.Unmet cause thing) of is = record { bound = is; bounded = tt }
  stays c step.Prune reply.Absent of is = record { bound = is; bounded = tt }
  stays c step.Prune r of is = record { bound = is; bounded = tt }
  stays c step.Remove (reply.Removed removal.Removed) of is = removes (with_document (record c { step = step.Remove })) is
  stays c step.Remove (reply.Removed (removal.Changed n)) of is = record { bound = is; bounded = tt }
  stays c step.Remove (reply.Removed removal.Absent) of is = record { bound = is; bounded = tt }
  stays c step.Remove r of is = record { bound = is; bounded = tt }
  stays c (step.RemovePrevious m read) (reply.Removed removal.Removed) of is = removes (with_document (record c { step = step.RemovePrevious m read })) is
  stays c (step.RemovePrevious m read) (reply.Removed (removal.Changed n)) of is = removes (with_skip (record c { step = step.RemovePrevious m read }) (id.Prev m c.reading.at) read n) is
  stays c (step.RemovePrevious m read) (reply.Removed removal.Absent) of is = removes (record c { step = step.RemovePrevious m read }) is
  stays c (step.RemovePrevious m read) r of is = record { bound = is; bounded = tt }
  stays c step.Done r of is = record { bound = is; bounded = tt }

-- it tells no bound more
no_bound : (s : ℕ) (c : Collector) (st : Step) (y : Tidying) (es : Past) → IsBounded st → filter is_bound (tidy_events s (tidying.Collect (record c { step = st })) y ++ es) ≡ filter is_bound es
no_bound s c step.Root y es of = absurd of
no_bound s c (step.Node k) y es of = absurd of
no_bound s c step.Settings y es of = absurd of
no_bound s c step.First y es of = refl
no_bound s c step.Next y es of = refl
no_bound s c (step.Listed n) y es of = refl
no_bound s c step.Prune y es of = refl
no_bound s c step.Remove y es of = refl
no_bound s c (step.RemovePrevious n read) y es of = refl
no_bound s c step.Done y es of = refl

-- ---- from the root to the settings

told_here : (front : List (Option Told)) (n : Option Told) (ns : List (Option Told)) → slice_get (front ++ n ∷ ns) (length front) ≡ Some n
told_here [] n ns = refl
told_here (m ∷ front) n ns = told_here front n ns

one_longer : (front : List (Option Told)) (n : Option Told) → length (front ++ n ∷ []) ≡ length front + 1
one_longer front n = length-append front (n ∷ [])

not_done : (a : Global) (n : ℕ) (base : Pin) (k : ℕ) (b : Bool) → due (record (begun a n) { bound = base; step = cond b (step.Node (k + 1)) step.Settings }) ≡ ask.Done → ⊥
not_done a n base k true h = cc
not_done a n base k false h = cc

module _ (s : ℕ) (ms : List NodeState) (a : Global) (t0 : Table) (root settings : Document) (root_is : found t0 (id.Node []) ≡ Some root) (settings_is : found t0 id.Settings ≡ Some settings) where
  -- the least of all that is held
  abbrev pub bound : Pin
  bound = bound_of root (those_that_tell (told ms)) settings

  -- it has heard nothing
  pub record HasBegun (t : Table) (c : Collector) : Type 0 where
    pub at : c ≡ begun a (length (told ms))
    pub same : t ≡ t0

  -- it has heard the root and the first cluster nodes
  pub record HasHeard (t : Table) (c : Collector) : Type 0 where
    pub front : List (Option Told)
    pub rest : List (Option Told)
    pub all : told ms ≡ front ++ rest
    pub base : Pin
    pub to_come : fold lesser_pair base (pairs_of rest) ≡ fold lesser_pair (root_pair root) (pairs_of (told ms))
    pub at : c ≡ at_node a (length (told ms)) base (length front)
    pub same : t ≡ t0

  -- how far it is, with the bounds that it has told
  abbrev pub Stands : Table → Collector → Past → Type 0
  Stands t c bounds = (HasBegun t c × (bounds ≡ [])) ⊎ (HasHeard t c × (bounds ≡ [])) ⊎ (HasTaken bound c × (bounds ≡ event.Bound bound.base bound.sweep ∷ []))

  -- it after one ask
  abbrev asked : Table → Collector → Collector
  asked t c = fed c (told_to (all_parts t ms []) (due c))

  -- the bounds that it has told then
  abbrev bounds_with : Table → Collector → Past → Past
  bounds_with t c es = filter is_bound (tidy_events s (tidying.Collect c) (tidying.Collect (asked t c)) ++ es)

  abbrev Onward : Table → Collector → Past → Type 0
  Onward t c es = Stands (table_after t (due c)) (asked t c) (bounds_with t c es)

  module _ (es : Past) (none : filter is_bound es ≡ []) where
    hears_root : Onward t0 (begun a (length (told ms))) es
    hears_root = inr (inl (
      record {
        front = [];
        rest = told ms;
        all = refl;
        base = root_pair root;
        to_come = refl;
        at = ap (λ (o : Option Document). record (begun a (length (told ms))) { bound = option_map_or root_pair o no_pair; step = behind_node (begun a (length (told ms))) 0 }) root_is;
        same = refl;
      },
      none,
    ))

    module _ (base : Pin) (front : List (Option Told)) where
      -- it asks the next cluster node, or the settings
      abbrev asking : Step → Collector
      asking st = record (begun a (length (told ms))) { bound = base; step = st }

      abbrev behind : Bool → Collector
      behind b = asking (cond b (step.Node (length front + 1)) step.Settings)

      hears_settings : fold lesser_pair base [] ≡ fold lesser_pair (root_pair root) (pairs_of (told ms)) → Onward t0 (asking step.Settings) es
      hears_settings to_come =
          let taken : fold lesser_pair base (option_map_or kept_pairs (found t0 id.Settings) []) ≡ bound =
          ap (λ (o : Option Document). fold lesser_pair base (option_map_or kept_pairs o [])) settings_is
          ∙ (ap (λ (b : Pin). fold lesser_pair b (kept_pairs settings)) to_come
          ∙ sym (fold-append lesser_pair (root_pair root) (pairs_of (told ms)) (kept_pairs settings))) in
          inr (inr (
            record { bound = taken; bounded = tt },
            ap (λ (b : Pin). event.Bound b.base b.sweep ∷ filter is_bound es) taken ∙ ap (λ (fs : Past). event.Bound bound.base bound.sweep ∷ fs) none,
          ))

      hears_node : (n : Option Told) (ns : List (Option Told)) → told ms ≡ front ++ n ∷ ns → nat_lt (length front) (length (told ms)) ≡ true
          → fold lesser_pair base (pairs_of (n ∷ ns)) ≡ fold lesser_pair (root_pair root) (pairs_of (told ms)) → Onward t0 (asking (step.Node (length front + 1))) es
      hears_node n ns all more to_come =
          let many : length ms ≡ length front + suc (length ns) = sym (length-map ms node_tells) ∙ (ap length all ∙ length-append front (n ∷ ns)) in
          let low : 1 ≤ length front + 1 = omega arith in
          let high : length front + 1 ≤ length ms = omega (arith, many) in
          let back : length front + 1 - 1 ≡ length front = omega arith in
          let answered : told_by_memories ms (memory.Pins (length front + 1)) ≡ node_reply n =
          node_told ms (length front + 1) (low, high)
          ∙ (ap (λ (k : ℕ). node_reply (option_flatten (slice_get (told ms) k))) back
          ∙ ap (λ (o : Option (Option Told)). node_reply (option_flatten o)) (ap (λ (xs : List (Option Told)). slice_get xs (length front)) all ∙ told_here front n ns)) in
          inr (inl (
            record {
              front = front ++ n ∷ [];
              rest = ns;
              all = all ∙ sym (append_assoc front (n ∷ []) ns);
              base = fold lesser_pair base (pairs_of (n ∷ []));
              to_come = pairs_more a (length (told ms)) n ns base ∙ to_come;
              at = ap (fed (asking (step.Node (length front + 1)))) answered
                  ∙ (subst (λ (b : Bool). fed (behind b) (node_reply n) ≡ at_node a (length (told ms)) (fold lesser_pair base (pairs_of (n ∷ []))) (length front + 1)) more (one_node a (length (told ms)) base n (length front) more)
                  ∙ ap (at_node a (length (told ms)) (fold lesser_pair base (pairs_of (n ∷ [])))) (sym (one_longer front n)));
              same = refl;
            },
            none,
          ))

      hears : (rest : List (Option Told)) → told ms ≡ front ++ rest → fold lesser_pair base (pairs_of rest) ≡ fold lesser_pair (root_pair root) (pairs_of (told ms))
          → Onward t0 (at_node a (length (told ms)) base (length front)) es
      hears [] all to_come =
          let last : nat_lt (length front) (length (told ms)) ≡ false = none_to_ask (length front) (length (told ms)) (sym (ap length all ∙ length-append front [])) in
          subst (λ (b : Bool). Onward t0 (behind b) es) (sym last) (hears_settings to_come)
      hears (n ∷ ns) all to_come =
          let more : nat_lt (length front) (length (told ms)) ≡ true = more_to_ask (length front) (length ns) (length (told ms)) (sym (ap length all ∙ length-append front (n ∷ ns))) in
          subst (λ (b : Bool). Onward t0 (behind b) es) (sym more) (hears_node n ns all more to_come)

  -- one ask more
  pub stands_on : (t : Table) (c : Collector) (es : Past) → Stands t c (filter is_bound es) → Onward t c es
  stands_on t c es (inl h) =
      subst (λ (x : Collector). Onward t x es) (sym h.0.at) (subst (λ (u : Table). Onward u (begun a (length (told ms))) es) (sym h.0.same) (hears_root es h.1))
  stands_on t c es (inr (inl h)) =
      let k = length h.0.front in
      subst (λ (x : Collector). Onward t x es) (sym h.0.at) (subst (λ (u : Table). Onward u (at_node a (length (told ms)) h.0.base k) es) (sym h.0.same) (hears es h.1 h.0.base h.0.front h.0.rest h.0.all h.0.to_come))
  stands_on t c es (inr (inr h)) = inr (inr (stays bound c c.step (told_to (all_parts t ms []) (due c)) h.0.bounded h.0.bound, no_bound s c c.step (tidying.Collect (asked t c)) es h.0.bounded ∙ h.1))

  -- what has nothing more to ask has told its bound, and no other
  pub one_bound : (t : Table) (c : Collector) (bounds : Past) → Stands t c bounds → due c ≡ ask.Done → bounds ≡ event.Bound bound.base bound.sweep ∷ []
  one_bound t c bounds (inl h) done = absurd (apart (sym (ap due h.0.at) ∙ done))
    where
      apart : ask.Find (id.Node []) ≡ ask.Done → ⊥
      apart e = cc
  one_bound t c bounds (inr (inl h)) done =
      let k = length h.0.front in
      absurd (not_done a (length (told ms)) h.0.base k (nat_lt k (length (told ms))) (sym (ap due h.0.at) ∙ done))
  one_bound t c bounds (inr (inr h)) done = h.1
