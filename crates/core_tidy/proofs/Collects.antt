-- Each step of a collection: what it makes of the world, and what the collection has heard, read and unlisted then.
use Rattle.std.proofs.Common.{◌≡◌, ◌⊎◌, inl, inr, ◌+◌, ◌<◌, ◌≤◌, ℕ, Bool, true, false, cond, not, ◌||◌, List, [], ◌∷◌, ◌++◌, map, Option, Some, None, Ok, Err, is_some, refl, sym, ap, ◌∙◌, subst, arith}
use Rattle.std.specs.Prelude.{◌==◌, nat_lt, slice_get}
use Rattle.std.specs.BTreeMap.{insert_entry, is_at}
use Rattle.std.specs.List.{All, AllByRecursion, filter, list_any}
use Rattle.std.specs.Map.{lookup, values_of}
use Rattle.std.specs.Option.{option_map, option_map_or}
use Rattle.std.specs.Ordering.{eq_by_cmp, nat_cmp}
use Rattle.std.proofs.lemmas.Bool.Decides.{nat_tests}
use Rattle.std.proofs.lemmas.Cmp.{nat_cmp_total}
use Rattle.std.proofs.lemmas.List.Elements.{All-from_recursion, recursion_from_All}
use mathlib.Core.Bool.{false≢true}
use Rattle.jr_path.specs.Ids.{id_cmp}
use Rattle.jr_path.specs.Names.{path_cmp}
use Rattle.jr_path.specs.declared.path.DocId.{DocId}
use Rattle.jr_path.specs.declared.path.DocId.TheVariants as id
use Rattle.jr_path.specs.declared.path.Path.{Path}
use Rattle.jr_path.proofs.Maps.{lookup-insert_entry}
use Rattle.jr_rev.specs.declared.vector.Pin.{Pin}
use Rattle.jr_rev.specs.declared.vector.RevVec.{RevVec}
use Rattle.jr_rev.specs.Vectors.{sees}
use Rattle.jr_rev.proofs.Bounds.{below_seen}
use Rattle.jr_rev.proofs.Entries.{number_same}
use Rattle.jr_tree.proofs.Entries.{tested}
use Rattle.jr_tree.proofs.Pointwise.{same_path}
use Rattle.oak_doc.specs.declared.asks.Ask.TheVariants as ask
use Rattle.oak_doc.specs.declared.asks.MemoryAsk.TheVariants as memory
use Rattle.oak_doc.specs.declared.asks.RemoveOut.{RemoveOut}
use Rattle.oak_doc.specs.declared.asks.RemoveOut.TheVariants as removal
use Rattle.oak_doc.specs.declared.asks.Reply.TheVariants as reply
use Rattle.oak_doc.specs.declared.document.Document.{Document}
use Rattle.oak_doc.specs.declared.document.PrevEntry.{PrevEntry}
use Rattle.oak_doc.specs.declared.update.Cond.TheVariants.{Unchanged}
use Rattle.oak_doc.specs.declared.update.OpFault.{OpFault}
use Rattle.oak_doc.specs.declared.update.OpFault.TheVariants as fault
use Rattle.oak_doc.specs.declared.update.UpdateOp.{UpdateOp}
use Rattle.oak_doc.specs.Updates.{after_changes, is_met, update_refusal, updated}
use Rattle.oak_gc.specs.Asking.{AsksForGarbage}
use Rattle.oak_gc.specs.Bounding.{node_reply}
use Rattle.oak_gc.specs.Bounds.{Told, root_pair}
use Rattle.oak_gc.specs.Collecting as collecting
use Rattle.oak_gc.specs.Collecting.{Previous, behind_node, decided, found_document, found_in, garbage_previous, going_on, has_garbage_in, last_of, lowered, no_pair, node_reading, on_next, prune_op, removing, with_document, with_entries, with_previous_read, with_skip}
use Rattle.oak_gc.specs.Garbage.{garbage_in, garbage_listed, is_garbage_document, is_garbage_listed, is_garbage_previous, pruning}
use Rattle.oak_gc.specs.declared.collector.Collector.{Collector}
use Rattle.oak_gc.specs.declared.reading.Reading.{Reading}
use Rattle.oak_gc.specs.declared.reading.Step.TheVariants as step
use Rattle.oak_gc.proofs.Behind.{behind, of_first}
use Rattle.oak_machine.specs.declared.event.Event.TheVariants as event
use Rattle.oak_machine.specs.declared.event.StepKind.TheVariants as kind
use Rattle.oak_machine.specs.History.{Past}
use Rattle.oak_machine.specs.Laws.{Says, Starts, StartsProper}
use Rattle.oak_machine.specs.Runs.{IsNode, is_bound, is_skip}
use Rattle.oak_machine.specs.Sessions.{has_left, has_login, since}
use Rattle.oak_node.specs.Pins.{pin_now}
use Rattle.oak_read.specs.Meaning.{Documents, documents_in}
use Rattle.oak_read.specs.Reading.{IsTable}
use Rattle.oak_store.specs.Tables.{Table, found, is_removable, next_number, removal_of}
use Rattle.oak_acts.specs.Acts.{replied, result_of}
use Rattle.oak_tidy.specs.declared.tidying.Tidying.TheVariants as tidying
use Rattle.oak_tidy.specs.Moves.{after_asking}
use Rattle.oak_tidy.specs.Replies.{told_by_memories}
use Rattle.oak_tidy.specs.Tidyings.{tidy_events}
use Rattle.oak_tidy.proofs.Moving.{absent_stay, changed_stay, documents_go, garbage_goes, refusals_go}
use Rattle.oak_tidy.proofs.Reading.{nodes_bound, settings_bound}
use Rattle.core_clash.specs.Collecting.{IsBoundOf}
use Rattle.core_clash.proofs.Basics.{or_left, or_right}
use Rattle.core_keep.specs.Dropping.{is_number_of}
use Rattle.core_keep.specs.From.{course_from}
use Rattle.core_keep.specs.Steps.{IsUnlisted}
use Rattle.core_keep.proofs.Garbage.{garbage_unwanted}
use Rattle.core_keep.proofs.Listing.{listed_garbage}
use Rattle.core_read.specs.Told.{IsIn}
use Rattle.core_read.proofs.Entries.{sorted_insert}
use Rattle.core_world.specs.Bounding.{CanAllBound, IsBounding, fed_settings}
use Rattle.core_world.specs.Collecting.{MayPrune, MayRemove, after_pruned, after_removed}
use Rattle.core_world.specs.Copying.{IsFoundIn}
use Rattle.core_world.specs.Held.{MayTakeBound, is_node_in}
use Rattle.core_world.specs.Kept.{IsKept}
use Rattle.core_world.specs.Numbers.{AreNumbered, IsPassed, last_number}
use Rattle.core_world.specs.States.{State, memory_at, nodes_in, origin}
use Rattle.core_world.specs.Steps.{after_went}
use Rattle.core_world.proofs.Bounding.{bounding_begins, bounding_node, bounding_skips, bounding_takes}
use Rattle.core_world.proofs.Collects.{pruned_prev, taken_is}
use Rattle.core_world.proofs.Copying.{found_drops, found_now}
use Rattle.core_world.proofs.Numbers.{passed_on, read_now}
use Rattle.core_world.proofs.Tables.{id_itself}
use Rattle.core_world.proofs.Whole.{layers_of}
use Rattle.core_tidy.specs.Collecting.{AreDropped, HasAsked, HasBound, IsDropped, IsListedBy, MayCollectAt}
use Rattle.core_tidy.specs.Ordered.{AreAllInOrder}
use Rattle.core_tidy.specs.Steps.{Bound, Makes, Pruned, Removed, Still, Unlisted, Went, lists_copy}
use Rattle.core_tidy.specs.Tidying.{HaveTheirNumbers}
use Rattle.core_tidy.proofs.Beside.{dropped_on, has_asked_on, its_bounding}
use Rattle.core_tidy.proofs.Making.{IsMade, made}
use Rattle.core_tidy.proofs.Numbered.{each_there, entry_among, in_found, in_passing, in_put, last_in, number_of_one, of_passing, passing_number}
use Rattle.core_tidy.proofs.Root.{root_wanted}
use Rattle.core_tidy.proofs.Since.{since_one}
use Rattle.core_tidy.proofs.Splits.{met_number, refused_number, skipped}

-- what a step of a collector of session s makes of a world, and what it has heard, read and unlisted then
pub record CollectsTo (starts : Starts) (says : Says) (w : State) (s : ℕ) (y : Collector) (u : State) : Type 0 where
  pub makes : Makes w s u
  pub lists : (p : Path) (k : ℕ) → lists_copy makes p k → ⊥
  pub may : MayCollectAt u s y y.step
  pub formers : u.formers ≡ w.formers

-- a document that was found to have another number was skipped with the two
skip_of : (t : Table) (i : DocId) (number f : ℕ) → removal_of t i number ≡ removal.Changed f → is_skip number f ≡ true
skip_of t i number f h = by (found t i) h
  where
    one : (a b : ℕ) → removal.Changed a ≡ removal.Changed b → a ≡ b
    one a b k = cc

    at : (d : Document) (b : Bool) → is_removable d number ≡ b → cond b removal.Removed (removal.Changed d.mod_count) ≡ removal.Changed f → is_skip number f ≡ true
    at d true m k = absurd (apart k)
      where
        apart : removal.Removed ≡ removal.Changed f → ⊥
        apart k = cc
    at d false m k = subst (λ (n : ℕ). is_skip number n ≡ true) (one d.mod_count f k) (skipped number d.mod_count (refused_number d.mod_count number m))

    by : (o : Option Document) → option_map_or (λ d. cond (is_removable d number) removal.Removed (removal.Changed d.mod_count)) o removal.Absent ≡ removal.Changed f → is_skip number f ≡ true
    by None k = absurd (apart k)
      where
        apart : removal.Absent ≡ removal.Changed f → ⊥
        apart k = cc
    by (Some d) k = at d (is_removable d number) refl k

-- not the one, or the other
abbrev IsFalse_or : Bool → Bool → Type 0
IsFalse_or a b = (a ≡ false) ⊎ (b ≡ true)

module _ (starts : Starts) (says : Says) (proper : StartsProper starts) (w : State) (kept : IsKept starts says w) (s : ℕ) (login : has_login w.past s ≡ true) (stays : has_left w.past s ≡ false) (numbered : AreNumbered w.table w.formers) (theirs : HaveTheirNumbers w.formers) (order : AreAllInOrder w.table) (table : IsTable w.table.documents) (bounds : CanAllBound w) where
  abbrev ds : Documents
  ds = documents_in w.table.documents

  its_made : (u : State) (m : Makes w s u) → IsMade starts says w u (lists_copy m)
  its_made u m = made starts says proper w kept s login stays numbered theirs order u m

  -- the world once that is answered for which x asks
  abbrev to : Collector → Collector → State
  to x y = after_asking w s (collecting.due x) (tidy_events s (tidying.Collect x) (tidying.Collect y))

  abbrev Goes : Collector → Collector → Type 0
  Goes x y = CollectsTo starts says w s y (to x y)

  sorted : Rattle.std.specs.FinMap.is_sorted id_cmp w.table.documents ≡ true
  sorted = tested id_cmp w.table.documents table.ordered

  -- ---- what goes on beside

  module _ (u : State) (m : Makes w s u) where
    bounding_then : (k : ℕ) (x : Pin) → IsBounding w k x → IsBounding u k x
    bounding_then k x h = let now = its_made u m in its_bounding starts says proper w u kept now.kept now.lets.step k x h

    asked_then : (r : Reading) (left : List ℕ) → HasAsked w.table r left → HasAsked u.table r left
    asked_then r left h = let now = its_made u m in has_asked_on starts says proper w u kept now.kept now.lets.step (lists_copy m) now.lets r left h

    dropped_then : (p : Path) (k : ℕ) → IsDropped w.table p k → IsDropped u.table p k
    dropped_then p k h = let now = its_made u m in dropped_on starts says proper w u kept now.kept now.lets.step (lists_copy m) now.lets p k h

    passed_then : (p : Path) (k : ℕ) → IsPassed w.table p k → IsPassed u.table p k
    passed_then p k h = let now = its_made u m in passed_on w.table u.table now.lets.step.table.numbers p k h

  -- a counted step of the session leaves its bound
  bound_then : (x : Collector) → HasBound w s x → HasBound (after_went w s kind.Collect) s x
  bound_then x has = record {
    bound = record { bounded = λ r h. has.bound.bounded r h; swept = λ r h. has.bound.swept r h; below = has.bound.below };
    taken = since_one w.past s (event.Went s kind.Collect) refl refl has.taken;
    skips = has.skips;
  }

  -- ---- where it goes

  module _ (u : State) where
    -- behind a cluster node, or the root
    behind_may : (z : Collector) (k : ℕ) → z.clusters ≡ u.clusters → k ≤ u.clusters → IsBounding u (k + 1) z.bound → z.collected.skipped ≡ [] → MayCollectAt u s (record z { step = behind_node z k }) (behind_node z k)
    behind_may z k all most bounding none = by (nat_lt k z.clusters) refl
      where
        by : (b : Bool) → nat_lt k z.clusters ≡ b → MayCollectAt u s (record z { step = cond b (step.Node (k + 1)) step.Settings }) (cond b (step.Node (k + 1)) step.Settings)
        by true h = (bounding, none)
        by false h =
            let last : k ≡ u.clusters = (let over : u.clusters ≤ k = (subst (λ (n : ℕ). n ≤ k) all (grind (arith, nat_tests))) in omega (arith, most, over)) in
            (subst (λ (n : ℕ). IsBounding u (n + 1) z.bound) last bounding, none)

    -- once all is read that a document lists
    decided_may : (z : Collector) → HasBound u s z → HasAsked u.table z.reading [] → (a b : Bool) → MayCollectAt u s (record z { step = cond a step.Remove (cond b step.Prune step.Next) }) (cond a step.Remove (cond b step.Prune step.Next))
    decided_may z bound asked true b = (record { bound = bound.bound; taken = bound.taken; skips = bound.skips }, asked)
    decided_may z bound asked false true = (record { bound = bound.bound; taken = bound.taken; skips = bound.skips }, asked)
    decided_may z bound asked false false = record { bound = bound.bound; taken = bound.taken; skips = bound.skips }

    -- one that asks next for what is left
    going_may : (z : Collector) → HasBound u s z → HasAsked u.table z.reading z.reading.listed → MayCollectAt u s (going_on z) (going_on z).step
    going_may z bound asked = by z.reading.listed asked
      where
        by : (ns : List ℕ) → HasAsked u.table z.reading ns → MayCollectAt u s (going_on (record z { reading = record z.reading { listed = ns } })) (going_on (record z { reading = record z.reading { listed = ns } })).step
        by [] asked =
            decided_may (record z { reading = record z.reading { listed = [] } }) (record { bound = bound.bound; taken = bound.taken; skips = bound.skips })
            (record { read = asked.read; order = asked.order; found = asked.found; sorted = asked.sorted; listed = asked.listed; left_listed = asked.left_listed })
            (is_garbage_document z.bound.base z.bound.sweep z.reading.document) (has_garbage_in z.bound (record z.reading { listed = [] }))
        by (n ∷ ns) asked = (
          record { bound = bound.bound; taken = bound.taken; skips = bound.skips },
          record { read = asked.read; order = asked.order; found = asked.found; sorted = asked.sorted; listed = asked.listed; left_listed = asked.left_listed },
        )

    -- one that removes what it unlisted
    removing_may : (z : Collector) → HasBound u s z → AreDropped u.table z.reading.at z.reading.previous → MayCollectAt u s (removing z) (removing z).step
    removing_may z bound dropped = by (last_of z.reading.previous) refl
      where
        by : (o : Option ((ℕ × Document) × Previous)) → last_of z.reading.previous ≡ o
            → MayCollectAt u s (option_map_or (λ l. record z { reading = record z.reading { previous = l.1 }; step = step.RemovePrevious l.0.0 l.0.1.mod_count }) o (on_next z)) (option_map_or (λ l. record z { reading = record z.reading { previous = l.1 }; step = step.RemovePrevious l.0.0 l.0.1.mod_count }) o (on_next z)).step
        by None is = record { bound = bound.bound; taken = bound.taken; skips = bound.skips }
        by (Some l) is =
            let stands = last_in z.reading.previous l is in
            (record { bound = bound.bound; taken = bound.taken; skips = bound.skips }, dropped l.0.0 l.0.1 stands.0, λ n x i. dropped n x (stands.1 (n, x) i))

  -- ---- the bound

  -- the root is read
  pub root_to : (x : Collector) → x.clusters ≡ w.clusters → x.collected.skipped ≡ [] → Goes (record x { step = step.Root }) (collecting.fed (record x { step = step.Root }) (reply.Found (nodes_in w.table [])))
  root_to x all none = record { makes = went; lists = λ p k h. h; may = may; formers = refl }
    where
      u : State
      u = after_went w s kind.Bound

      went : Makes w s u
      went = Went kind.Bound refl refl refl

      at_root : IsBounding w 1 (option_map_or root_pair (nodes_in w.table []) no_pair)
      at_root = subst (λ (o : Option Document). IsBounding w 1 (option_map_or root_pair o no_pair)) (sym kept.root.there) (bounding_begins starts says proper w (layers_of starts says w kept) kept.begun kept.root.document kept.root.there)

      may : MayCollectAt u s (record x { bound = option_map_or root_pair (nodes_in w.table []) no_pair; step = behind_node x 0 }) (behind_node x 0)
      may = behind_may u (record x { bound = option_map_or root_pair (nodes_in w.table []) no_pair }) 0 all (omega arith) (bounding_then u went 1 _ at_root) none

  -- a cluster node tells what it holds
  module _ (x : Collector) (k : ℕ) (all : x.clusters ≡ w.clusters) (node : IsNode w.clusters k) (bounding : IsBounding w k x.bound) (none : x.collected.skipped ≡ []) where
    abbrev asking : Collector
    asking = record x { step = step.Node k }

    abbrev heard : State
    heard = after_went w s kind.Bound

    hears : Makes w s heard
    hears = Went kind.Bound refl refl refl

    is_there : is_node_in w.clusters k ≡ true
    is_there = let low : 1 ≤ k = node.0 in let high : k ≤ w.clusters = node.1 in grind (arith, nat_tests)

    recovered_is : (memory_at w.memories k).recovered ≡ Rattle.oak_machine.specs.Sessions.is_recovered w.past k
    recovered_is = (kept.sessions.memories.memory k node).recovered

    abbrev tells : Told
    tells = record { head = pin_now (memory_at w.memories k); pins = values_of (memory_at w.memories k).pins }

    fed_by : (b : Bool) → (memory_at w.memories k).recovered ≡ b → MayCollectAt heard s (collecting.fed asking (node_reply (cond b None (Some tells)))) (collecting.fed asking (node_reply (cond b None (Some tells)))).step
    fed_by true is = behind_may heard x k all node.1 (bounding_then heard hears (k + 1) x.bound (bounding_skips w k x.bound (sym recovered_is ∙ is) bounding)) none
    fed_by false is =
        behind_may heard (lowered x (record { base = tells.head.base; sweep = tells.head.sweep } ∷ tells.pins)) k all node.1
        (bounding_then heard hears (k + 1) _ (subst (λ (b : Pin). IsBounding w (k + 1) b) (sym (sym fed_here ∙ nodes_bound w k asking refl is_there is)) (bounding_node starts says proper w (layers_of starts says w kept) kept.begun bounds k x.bound bounding node))) none
      where
        fed_here : (collecting.fed asking (told_by_memories w.memories (memory.Pins k))).bound ≡ (lowered x (record { base = tells.head.base; sweep = tells.head.sweep } ∷ tells.pins)).bound
        fed_here = ap (λ (b : Bool). (collecting.fed asking (node_reply (cond b None (Some tells)))).bound) is

    pub node_to : Goes asking (collecting.fed asking (told_by_memories w.memories (memory.Pins k)))
    unfolding hears
    node_to = record { makes = hears; lists = λ p j h. h; may = fed_by (memory_at w.memories k).recovered refl; formers = refl }

  -- the settings tell what they keep, and the bound is taken
  module _ (x : Collector) (bounding : IsBounding w (w.clusters + 1) x.bound) (none : x.collected.skipped ≡ []) where
    abbrev last_asking : Collector
    last_asking = record x { step = step.Settings }

    abbrev bounded : Collector
    bounded = collecting.fed last_asking (reply.Found (ds id.Settings))

    its_bound : bounded.bound ≡ fed_settings w x.bound
    its_bound = settings_bound w last_asking refl

    takes : MayTakeBound w bounded.bound.base bounded.bound.sweep
    takes = subst (λ (b : Pin). MayTakeBound w b.base b.sweep) (sym its_bound) (bounding_takes starts says proper w (layers_of starts says w kept) kept.begun bounds x.bound bounding)

    pub settings_to : Goes last_asking bounded
    settings_to = record {
      makes = Bound bounded.bound.base bounded.bound.sweep refl takes;
      lists = λ p j h. h;
      may = record {
        bound = record {
          bounded = λ r h. or_left (sees bounded.bound.base r) _ h;
          swept = λ r h. or_left (sees bounded.bound.sweep r) _ h;
          below = λ r h. below_seen bounded.bound.sweep bounded.bound.base r takes.swept h;
        };
        taken = refl;
        skips = subst (λ l. All (λ skip. is_skip skip.1 skip.2 ≡ true) l) (sym none) (All-from_recursion (λ skip. is_skip skip.1 skip.2 ≡ true) [] tt);
      };
      formers = refl;
    }

  -- ---- documents

  -- a document is found behind another
  module _ (x : Collector) (o : Option DocId) (bound : HasBound w s x) where
    abbrev then : State
    then = after_went w s kind.Collect

    looks : Makes w s then
    looks = Went kind.Collect refl refl refl

    -- what is found stands under its id
    stands : (e : DocId × Document) → slice_get (behind o w.table.documents) 0 ≡ Some e → ds e.1.id ≡ Some e.1
    stands e h =
        let there = of_first o (λ e. lookup (is_at (id_cmp e.0)) w.table.documents ≡ Some e.1) w.table.documents (each_there w.table.documents sorted) e h in
        let named = of_first o (λ e. e.1.id ≡ e.0) w.table.documents (recursion_from_All (λ e. e.1.id ≡ e.0) w.table.documents table.named) e h in
        ap ds named ∙ there

    abbrev read_of : Path → Document → Reading
    read_of p d = record { at = p; document = d; garbage = garbage_in x.bound.base x.bound.sweep d; listed = map (λ e. e.number) d.prev; previous = [] }

    has_read : (p : Path) (d : Document) → ds (id.Node p) ≡ Some d → HasAsked w.table (read_of p d) (map (λ e. e.number) d.prev)
    has_read p d is = record {
      read = read_now w.table w.formers numbered (id.Node p) d is;
      order = record { names = (order (id.Node p) d is).names };
      found = λ e i new early. elim new [ inl left ↦ absurd (false≢true (sym left ∙ entry_among d.prev e i)) | inr some ↦ absurd (false≢true some) ];
      sorted = refl;
      listed = λ n y i. absurd i;
      left_listed = λ n i. number_of_one d.prev n i;
    }

    -- what is found is read
    next_may : (r : Option (DocId × Document)) → slice_get (behind o w.table.documents) 0 ≡ r → MayCollectAt then s (option_map_or (found_document x) (option_map (λ e. e.1) r) (record x { step = step.Done })) (option_map_or (found_document x) (option_map (λ e. e.1) r) (record x { step = step.Done })).step
    next_may None h = let b = bound_then x bound in record { bound = b.bound; taken = b.taken; skips = b.skips }
    next_may (Some e) h = by e.1.id refl
      where
        by : (i : DocId) → e.1.id ≡ i → MayCollectAt then s (option_map_or (λ r. going_on (record x { reading = r })) (node_reading x.bound i e.1) (record x { step = step.Done })) (option_map_or (λ r. going_on (record x { reading = r })) (node_reading x.bound i e.1) (record x { step = step.Done })).step
        by (id.Node p) is =
            let b = bound_then x bound in
            going_may then (record x { reading = read_of p e.1 }) (record { bound = b.bound; taken = b.taken; skips = b.skips })
            (asked_then then looks (read_of p e.1) (map (λ e. e.number) e.1.prev) (has_read p e.1 (ap ds (sym is) ∙ stands e h)))
        by (id.Prev n p) is = let b = bound_then x bound in record { bound = b.bound; taken = b.taken; skips = b.skips }
        by id.Settings is = let b = bound_then x bound in record { bound = b.bound; taken = b.taken; skips = b.skips }

  pub first_to : (x : Collector) → HasBound w s x → Goes (record x { step = step.First }) (collecting.fed (record x { step = step.First }) (reply.Found (option_map (λ (e : DocId × Document). e.1) (slice_get (behind None w.table.documents) 0))))
  first_to x bound = record {
    makes = Went kind.Collect refl refl refl;
    lists = λ p k h. h;
    may = next_may (record x { step = step.First }) None (record { bound = bound.bound; taken = bound.taken; skips = bound.skips }) (slice_get (behind None w.table.documents) 0) refl;
    formers = refl;
  }

  pub next_to : (x : Collector) → HasBound w s x → Goes (record x { step = step.Next }) (collecting.fed (record x { step = step.Next }) (reply.Found (option_map (λ (e : DocId × Document). e.1) (slice_get (behind (Some (id.Node x.reading.at)) w.table.documents) 0))))
  next_to x bound = record {
    makes = Went kind.Collect refl refl refl;
    lists = λ p k h. h;
    may = next_may (record x { step = step.Next }) (Some (id.Node x.reading.at)) (record { bound = bound.bound; taken = bound.taken; skips = bound.skips }) (slice_get (behind (Some (id.Node x.reading.at)) w.table.documents) 0) refl;
    formers = refl;
  }

  -- a previous document that the document lists is looked for
  module _ (x : Collector) (n : ℕ) (bound : HasBound w s x) (asked : HasAsked w.table x.reading (n ∷ x.reading.listed)) where
    abbrev r : Reading
    r = x.reading

    abbrev its : Option Document
    its = ds (id.Prev n r.at)

    abbrev read_then : Reading
    read_then = with_previous_read r n its

    -- what is found under a number then
    found_then : (k : ℕ) → (o : Option Document) → lookup (is_at (nat_cmp k)) (option_map_or (insert_entry nat_cmp r.previous n) o r.previous) ≡ option_map_or (λ d. cond (eq_by_cmp nat_cmp k n) (Some d) (lookup (is_at (nat_cmp k)) r.previous)) o (lookup (is_at (nat_cmp k)) r.previous)
    found_then k None = refl
    found_then k (Some d) = lookup-insert_entry nat_cmp nat_cmp_total k n d r.previous

    -- of the entry with this number what is there is found
    here : (e : PrevEntry) → IsIn e r.document.prev → e.number ≡ n → r.document.mod_count < last_number → (o : Option Document) → its ≡ o → IsFoundIn w.table r.at r.document e (lookup (is_at (nat_cmp e.number)) (option_map_or (insert_entry nat_cmp r.previous n) o r.previous))
    here e i same early (Some d) is =
        subst (λ (f : Option Document). IsFoundIn w.table r.at r.document e f) (sym (found_then e.number (Some d) ∙ (ap (λ b. cond b (Some d) (lookup (is_at (nat_cmp e.number)) r.previous)) (tied e.number n same) ∙ (sym is ∙ ap (λ (k : ℕ). ds (id.Prev k r.at)) (sym same)))))
        (found_now w.table r.at r.document e early asked.read i)
      where
        tied : (a b : ℕ) → a ≡ b → eq_by_cmp nat_cmp a b ≡ true
        tied a b h = grind (arith, nat_tests)
    here e i same early None is = by (lookup (is_at (nat_cmp e.number)) r.previous) refl
      where
        there : ds (id.Prev e.number r.at) ≡ None
        there = ap (λ (k : ℕ). ds (id.Prev k r.at)) same ∙ is

        by : (f : Option Document) → lookup (is_at (nat_cmp e.number)) r.previous ≡ f → IsFoundIn w.table r.at r.document e (lookup (is_at (nat_cmp e.number)) r.previous)
        by None at = subst (λ (f : Option Document). IsFoundIn w.table r.at r.document e f) (there ∙ sym at) (found_now w.table r.at r.document e early asked.read i)
        by (Some d) at = asked.found e i (inr (ap is_some at)) early

    -- of another entry what was found
    beside_it : (e : PrevEntry) → IsIn e r.document.prev → (e.number == n) ≡ false → IsFalse_or (is_number_of r.listed e) (is_some (lookup (is_at (nat_cmp e.number)) (option_map_or (insert_entry nat_cmp r.previous n) its r.previous))) → r.document.mod_count < last_number
        → IsFoundIn w.table r.at r.document e (lookup (is_at (nat_cmp e.number)) (option_map_or (insert_entry nat_cmp r.previous n) its r.previous))
    beside_it e i other new early =
        subst (λ (f : Option Document). IsFoundIn w.table r.at r.document e f) (sym same) (asked.found e i (elim new [
          | inl left ↦ inl (ap (λ b. b || is_number_of r.listed e) other ∙ left)
          | inr some ↦ inr (ap is_some (sym same) ∙ some)
        ]) early)
      where
        untied : (a b : ℕ) → (a == b) ≡ false → eq_by_cmp nat_cmp a b ≡ false
        untied a b h = grind (arith, nat_tests)

        as_it_was : (o : Option Document) → option_map_or (λ d. cond (eq_by_cmp nat_cmp e.number n) (Some d) (lookup (is_at (nat_cmp e.number)) r.previous)) o (lookup (is_at (nat_cmp e.number)) r.previous) ≡ lookup (is_at (nat_cmp e.number)) r.previous
        as_it_was None = refl
        as_it_was (Some d) = ap (λ b. cond b (Some d) (lookup (is_at (nat_cmp e.number)) r.previous)) (untied e.number n other)

        same : lookup (is_at (nat_cmp e.number)) (option_map_or (insert_entry nat_cmp r.previous n) its r.previous) ≡ lookup (is_at (nat_cmp e.number)) r.previous
        same = found_then e.number its ∙ as_it_was its

    more_found : (e : PrevEntry) → IsIn e r.document.prev → IsFalse_or (is_number_of r.listed e) (is_some (lookup (is_at (nat_cmp e.number)) (option_map_or (insert_entry nat_cmp r.previous n) its r.previous))) → r.document.mod_count < last_number
        → IsFoundIn w.table r.at r.document e (lookup (is_at (nat_cmp e.number)) (option_map_or (insert_entry nat_cmp r.previous n) its r.previous))
    more_found e i new early = by (e.number == n) refl
      where
        by : (b : Bool) → (e.number == n) ≡ b → IsFoundIn w.table r.at r.document e (lookup (is_at (nat_cmp e.number)) (option_map_or (insert_entry nat_cmp r.previous n) its r.previous))
        by true h = here e i (number_same e.number n h) early its refl
        by false h = beside_it e i h new early

    has_more : HasAsked w.table read_then r.listed
    has_more = record {
      read = asked.read;
      order = asked.order;
      found = more_found;
      sorted = put its;
      listed = λ k y i. from its k y i;
      left_listed = λ k i. asked.left_listed k (inr i);
    }
      where
        put : (o : Option Document) → Rattle.std.specs.FinMap.is_sorted nat_cmp (option_map_or (insert_entry nat_cmp r.previous n) o r.previous) ≡ true
        put None = asked.sorted
        put (Some d) = sorted_insert nat_cmp nat_cmp_total n d r.previous asked.sorted

        from : (o : Option Document) (k : ℕ) (y : Document) → IsIn (k, y) (option_map_or (insert_entry nat_cmp r.previous n) o r.previous) → IsListedBy r.document k
        from None k y i = asked.listed k y i
        from (Some d) k y i = elim (in_put n d r.previous (k, y) i) [
          | inl one ↦ subst (λ (f : ℕ × Document). IsListedBy r.document f.0) one (asked.left_listed n (inl refl))
          | inr j ↦ asked.listed k y j
        ]

    pub listed_to : Goes (record x { step = step.Listed n }) (collecting.fed (record x { step = step.Listed n }) (reply.Found its))
    listed_to = record {
      makes = Still refl;
      lists = λ p k h. h;
      may = going_may w (record x { reading = read_then; step = step.Listed n }) (record { bound = bound.bound; taken = bound.taken; skips = bound.skips }) has_more;
      formers = refl;
    }

  -- ---- garbage

  -- a skip more
  more_skips : (l : List (DocId × ℕ × ℕ)) (i : DocId) (read found : ℕ) → All (λ skip. is_skip skip.1 skip.2 ≡ true) l → is_skip read found ≡ true → All (λ skip. is_skip skip.1 skip.2 ≡ true) (l ++ (i, read, found) ∷ [])
  more_skips l i read found all one = All-from_recursion (λ skip. is_skip skip.1 skip.2 ≡ true) (l ++ (i, read, found) ∷ []) (over l (recursion_from_All (λ skip. is_skip skip.1 skip.2 ≡ true) l all))
    where
      over : (l : List (DocId × ℕ × ℕ)) → AllByRecursion (λ skip. is_skip skip.1 skip.2 ≡ true) l → AllByRecursion (λ skip. is_skip skip.1 skip.2 ≡ true) (l ++ (i, read, found) ∷ [])
      over [] h = (one, tt)
      over (e ∷ es) h = (h.0, over es h.1)

  -- where the document is there as it was read, what it lists is behind
  listed_passed : (p : Path) (d : Document) (n : ℕ) → ds (id.Node p) ≡ Some d → IsListedBy d n → IsPassed w.table p n
  listed_passed p d n is l =
      let f = kept.sessions.readers.told.listed p d is l.0 l.1 in
      subst (IsPassed w.table p) l.2 (numbered.passed p l.0.number f.0 f.1)

  module _ (x : Collector) (bound : HasBound w s x) (asked : HasAsked w.table x.reading []) (named : x.reading.document.id ≡ id.Node x.reading.at) where
    abbrev rd : Reading
    rd = x.reading

    abbrev doc : Document
    doc = rd.document

    abbrev mb : RevVec
    mb = x.bound.base

    abbrev tb : RevVec
    tb = x.bound.sweep

    -- the collector goes on to the next document
    skips_on : (y : Collector) → y.bound ≡ x.bound → y.collected.skipped ≡ x.collected.skipped → HasBound (after_went w s kind.Collect) s y
    skips_on y same none = let b = bound_then x bound in record {
      bound = subst (λ (v : Pin). IsBoundOf (event.Went s kind.Collect ∷ w.past) v.base v.sweep) (sym same) b.bound;
      taken = b.taken;
      skips = subst (λ l. All (λ skip. is_skip skip.1 skip.2 ≡ true) l) (sym none) b.skips;
    }

    skipped_on : (y : Collector) (i : DocId) (read found : ℕ) → y.bound ≡ x.bound → y.collected.skipped ≡ x.collected.skipped ++ (i, read, found) ∷ [] → is_skip read found ≡ true → HasBound (after_went w s kind.Collect) s y
    skipped_on y i read found same one skip = let b = bound_then x bound in record {
      bound = subst (λ (v : Pin). IsBoundOf (event.Went s kind.Collect ∷ w.past) v.base v.sweep) (sym same) b.bound;
      taken = b.taken;
      skips = subst (λ l. All (λ skip. is_skip skip.1 skip.2 ≡ true) l) (sym one) (more_skips x.collected.skipped i read found b.skips skip);
    }

    -- the same at another state with these events
    at_state : (u : State) (y : Collector) → u.past ≡ event.Went s kind.Collect ∷ w.past → HasBound (after_went w s kind.Collect) s y → HasBound u s y
    at_state u y same has = record {
      bound = subst (λ (l : Past). IsBoundOf l y.bound.base y.bound.sweep) (sym same) has.bound;
      taken = subst (λ (l : Past). list_any is_bound (since l s) ≡ true) (sym same) has.taken;
      skips = has.skips;
    }

    -- ---- an update

    abbrev numbers : List ℕ
    numbers = garbage_listed mb tb (found_in rd.previous) doc

    module _ (asks : AsksForGarbage (record x { step = step.Prune })) where
      abbrev pruning_it : Collector
      pruning_it = record x { step = step.Prune }

      abbrev op : UpdateOp
      op = prune_op x.bound rd

      op_is : op ≡ pruning mb tb doc numbers
      op_is = one op (pruning mb tb doc numbers) asks.2
        where
          one : (a b : UpdateOp) → ask.Update a ≡ ask.Update b → a ≡ b
          one a b h = cc

      found_at : (o : Option Document) → nodes_in w.table rd.at ≡ o → result_of w.table op ≡ updated o op (next_number w.table)
      found_at o is = ap (λ (i : DocId). updated (found w.table i) op (next_number w.table)) named ∙ ap (λ (o : Option Document). updated o op (next_number w.table)) is

      refused_to : (f : OpFault) (y : Collector) → result_of w.table op ≡ Err f → HasBound (after_went w s kind.Collect) s y → Goes pruning_it (record y { step = step.Next })
      refused_to f y is has = record {
        makes = Went kind.Collect (refusals_go w s op f kind.Collect is) refl refl;
        lists = λ p k h. h;
        may = at_state (to pruning_it (record y { step = step.Next })) (record y { step = step.Next }) refl (record { bound = has.bound; taken = has.taken; skips = has.skips });
        formers = refl;
      }

      -- the update is made
      module _ (c : Document) (is : nodes_in w.table rd.at ≡ Some c) (same : c.mod_count ≡ doc.mod_count) (never : doc.mod_count ≡ last_number → ⊥) (after : Document) (result : result_of w.table op ≡ Ok after) where
        early : doc.mod_count < last_number
        early = let a : doc.mod_count ≤ w.table.number = asked.read.within in let b : w.table.number ≤ last_number = numbered.low in apart (nat_lt doc.mod_count last_number) refl
          where
            apart : (t : Bool) → nat_lt doc.mod_count last_number ≡ t → doc.mod_count < last_number
            apart true h = grind (arith, nat_tests)
            apart false h =
                let a : doc.mod_count ≤ w.table.number = asked.read.within in
                let b : w.table.number ≤ last_number = numbered.low in
                let over : last_number ≤ doc.mod_count = grind (arith, nat_tests) in
                absurd (never (omega (arith, a, b, over)))

        stands_so : nodes_in w.table rd.at ≡ Some doc
        stands_so = is ∙ ap Some (asked.read.same early c is same)

        garbage_there : (e : PrevEntry) → IsIn e doc.prev → is_number_of numbers e ≡ true
            → IsFoundIn w.table rd.at doc e (found_in rd.previous (id.Prev e.number rd.at)) × ((y : Document) → found_in rd.previous (id.Prev e.number rd.at) ≡ Some y → is_garbage_previous mb tb doc y ≡ true)
        garbage_there e i one =
            let f = passing_number (is_garbage_listed mb tb (found_in rd.previous) doc) doc.prev e one in
            (asked.found e i (inl refl) early, λ y h. garbage f.0 f.2 (ap (λ (k : ℕ). lookup (is_at (nat_cmp k)) rd.previous) (sym f.3) ∙ h))
          where
            garbage : (f : PrevEntry) → is_garbage_listed mb tb (found_in rd.previous) doc f ≡ true → {y : Document} → lookup (is_at (nat_cmp f.number)) rd.previous ≡ Some y → is_garbage_previous mb tb doc y ≡ true
            garbage f g {y} h = sym (ap (λ (o : Option Document). option_map_or (is_garbage_previous mb tb doc) o false) h) ∙ g

        may_prune : MayPrune w mb tb rd.at doc op
        may_prune = subst (λ (o : UpdateOp). MayPrune w mb tb rd.at doc o) (sym op_is)
            (found_drops w mb tb rd.at doc c numbers (λ (k : ℕ). found_in rd.previous (id.Prev k rd.at)) bound.bound asked.order early asked.read garbage_there is same)

        goes : to pruning_it (collecting.fed pruning_it (reply.Updated (Some c))) ≡ after_pruned w s rd.at doc op
        goes = garbage_goes w s rd.at doc after op named stands_so result

        pruned_makes : Makes w s (to pruning_it (collecting.fed pruning_it (reply.Updated (Some c))))
        pruned_makes = Pruned mb tb rd.at doc op goes may_prune

        abbrev now : Document
        now = after_changes (Some doc) op (next_number w.table)

        now_there : nodes_in (after_pruned w s rd.at doc op).table rd.at ≡ Some now
        now_there = Rattle.core_world.proofs.Tables.put_is w.table (id.Node rd.at) now (next_number w.table) (id.Node rd.at) ∙ ap (λ b. cond b (Some now) (ds (id.Node rd.at))) (id_itself (id.Node rd.at))

        now_prev : now.prev ≡ filter (λ e. not (is_number_of numbers e)) doc.prev
        now_prev = ap (λ (o : UpdateOp). (after_changes (Some doc) o (next_number w.table)).prev) op_is ∙ unlisted_by
          where
            unlisted_by : (after_changes (Some doc) (pruning mb tb doc numbers) (next_number w.table)).prev ≡ filter (λ e. not (is_number_of numbers e)) doc.prev
            unlisted_by = pruned_prev ds mb tb rd.at doc (pruning mb tb doc numbers) (next_number w.table) (garbage_in mb tb doc) numbers
                (record { changes = refl; entries = listed_garbage mb tb doc asked.order; previous = λ e i one y h. let g = garbage_there e i one in g.1 y (sym (g.0.there doc stands_so refl) ∙ h) })

        dropped_now : AreDropped (after_pruned w s rd.at doc op).table rd.at (garbage_previous x.bound rd)
        dropped_now n y i = record {
          passed = subst (λ (t : State). IsPassed t.table rd.at n) goes (passed_then (to pruning_it (collecting.fed pruning_it (reply.Updated (Some c)))) pruned_makes rd.at n (listed_passed rd.at doc n stands_so (asked.listed n y among.0)));
          unlisted = λ d there e j at. unlisted d there e j at;
        }
          where
            among : IsIn (n, y) rd.previous × (is_garbage_previous mb tb doc y ≡ true)
            among = of_passing (λ (e : ℕ × Document). is_garbage_previous mb tb doc e.1) rd.previous (n, y) i

            unlisted : IsUnlisted (documents_in (after_pruned w s rd.at doc op).table.documents) rd.at n
            unlisted d there e j at =
                let same : now ≡ d = one now d (sym now_there ∙ there) in
                let old = of_passing (λ (e : PrevEntry). not (is_number_of numbers e)) doc.prev e (subst (λ l. IsIn e l) (ap (λ (z : Document). z.prev) (sym same) ∙ now_prev) j) in
                let it = in_found nat_cmp nat_cmp_total n y rd.previous asked.sorted among.0 in
                let garbage : is_garbage_listed mb tb (found_in rd.previous) doc e ≡ true = ap (λ (k : ℕ). option_map_or (is_garbage_previous mb tb doc) (lookup (is_at (nat_cmp k)) rd.previous) false) at ∙ (ap (λ (o : Option Document). option_map_or (is_garbage_previous mb tb doc) o false) it ∙ among.1) in
                false≢true (sym (ap not (entry_among (filter (is_garbage_listed mb tb (found_in rd.previous) doc) doc.prev) e (in_passing (is_garbage_listed mb tb (found_in rd.previous) doc) doc.prev e old.0 garbage))) ∙ old.1)
              where
                one : (a b : Document) → ◌≡◌ {A = Option Document} (Some a) (Some b) → a ≡ b
                one a b h = cc

        pruned_to : Goes pruning_it (collecting.fed pruning_it (reply.Updated (Some c)))
        unfolding pruned_makes
        pruned_to = record {
          makes = pruned_makes;
          lists = λ p k h. h;
          may = removing_may (to pruning_it (collecting.fed pruning_it (reply.Updated (Some c)))) (with_entries (record x { reading = record rd { previous = garbage_previous x.bound rd }; step = step.Prune }) _)
              (at_state (to pruning_it (collecting.fed pruning_it (reply.Updated (Some c)))) _ refl (skips_on _ refl refl)) (subst (λ (t : State). AreDropped t.table rd.at (garbage_previous x.bound rd)) (sym goes) dropped_now);
          formers = refl;
        }

      pub prune_to : (o : Option Document) → nodes_in w.table rd.at ≡ o → Goes pruning_it (collecting.fed pruning_it (replied o (updated o op (next_number w.table))))
      prune_to None is = refused_to fault.Absent x (found_at None is) (skips_on x refl refl)
      prune_to (Some c) is = by (is_met (Some c) (Some (Unchanged doc.mod_count))) refl (found_at (Some c) is)
        where
          by : (b : Bool) → is_met (Some c) (Some (Unchanged doc.mod_count)) ≡ b → result_of w.table op ≡ cond b (Ok (after_changes (Some c) op (next_number w.table))) (Err (update_refusal (Some c) (Some (Unchanged doc.mod_count))))
              → Goes pruning_it (collecting.fed pruning_it (replied (Some c) (cond b (Ok (after_changes (Some c) op (next_number w.table))) (Err (update_refusal (Some c) (Some (Unchanged doc.mod_count)))))))
          by true met result = let m = met_number c.mod_count doc.mod_count met in pruned_to c is m.0 m.1 (after_changes (Some c) op (next_number w.table)) result
          by false met result =
              refused_to (update_refusal (Some c) (Some (Unchanged doc.mod_count))) (with_skip x doc.id doc.mod_count c.mod_count) result
              (skipped_on (with_skip x doc.id doc.mod_count c.mod_count) doc.id doc.mod_count c.mod_count refl refl (skipped doc.mod_count c.mod_count (refused_number c.mod_count doc.mod_count met)))

    -- ---- a removal

    module _ (asks : AsksForGarbage (record x { step = step.Remove })) where
      abbrev removing_it : Collector
      removing_it = record x { step = step.Remove }

      abbrev told : RemoveOut → Collector
      told r = collecting.fed removing_it (reply.Removed r)

      -- the document is there as it was read
      removed_there : (o : Option Document) → nodes_in w.table rd.at ≡ o → option_map_or (λ d. cond (is_removable d doc.mod_count) removal.Removed (removal.Changed d.mod_count)) o removal.Absent ≡ removal.Removed
          → (nodes_in w.table rd.at ≡ Some doc) × (doc.mod_count ≡ last_number → ⊥)
      removed_there None is h = absurd (apart h)
        where
          apart : removal.Absent ≡ removal.Removed → ⊥
          apart h = cc
      removed_there (Some c) is h = by (is_removable c doc.mod_count) refl h
        where
          apart : removal.Changed c.mod_count ≡ removal.Removed → ⊥
          apart h = cc

          low : (doc.mod_count ≡ last_number → ⊥) → doc.mod_count < last_number
          low never = by (nat_lt doc.mod_count last_number) refl
            where
              by : (t : Bool) → nat_lt doc.mod_count last_number ≡ t → doc.mod_count < last_number
              by true h = grind (arith, nat_tests)
              by false h =
                  let a : doc.mod_count ≤ w.table.number = asked.read.within in
                  let b : w.table.number ≤ last_number = numbered.low in
                  let over : last_number ≤ doc.mod_count = grind (arith, nat_tests) in
                  absurd (never (omega (arith, a, b, over)))

          by : (b : Bool) → is_removable c doc.mod_count ≡ b → cond b removal.Removed (removal.Changed c.mod_count) ≡ removal.Removed → (nodes_in w.table rd.at ≡ Some doc) × (doc.mod_count ≡ last_number → ⊥)
          by true m k = let met = met_number c.mod_count doc.mod_count m in (is ∙ ap Some (asked.read.same (low met.1) c is met.0), met.1)
          by false m k = absurd (apart k)

      removal_there : removal_of w.table doc.id doc.mod_count ≡ removal.Removed → (nodes_in w.table rd.at ≡ Some doc) × (doc.mod_count ≡ last_number → ⊥)
      removal_there h = removed_there (nodes_in w.table rd.at) refl (ap (λ (i : DocId). removal_of w.table i doc.mod_count) (sym named) ∙ h)

      -- where another is found, the numbers are those of a skip
      changed_skip : (f : ℕ) → removal_of w.table doc.id doc.mod_count ≡ removal.Changed f → is_skip doc.mod_count f ≡ true
      changed_skip f h = skip_of w.table doc.id doc.mod_count f h

      module _ (is : removal_of w.table doc.id doc.mod_count ≡ removal.Removed) where
        there : nodes_in w.table rd.at ≡ Some doc
        there = (removal_there is).0

        below_root : eq_by_cmp path_cmp [] rd.at ≡ false
        below_root = by (eq_by_cmp path_cmp [] rd.at) refl
          where
            by : (b : Bool) → eq_by_cmp path_cmp [] rd.at ≡ b → b ≡ false
            by false h = refl
            by true h = absurd (
                let at : [] ≡ rd.at = same_path [] rd.at h in
                root_wanted (origin w) w.past ds _ kept.sessions.committing.kept doc (ap (λ (q : Path). ds (id.Node q)) at ∙ there)
                (garbage_unwanted (course_from (origin w) w.past) [] mb tb (λ r k. or_right (sees (origin w).at r) _ (bound.bound.bounded r k)) (λ r k. or_right (sees (origin w).at r) _ (bound.bound.swept r k)) doc asks.0))

        may_remove : MayRemove w mb tb rd.at doc
        may_remove = record { bound = bound.bound; sorted = sorted; below = below_root; there = there; garbage = asks.0 }

        gone : to removing_it (told removal.Removed) ≡ after_removed w s (id.Node rd.at)
        gone = documents_go w s doc.id doc.mod_count is ∙ ap (after_removed w s) named

        removes : Makes w s (to removing_it (told removal.Removed))
        removes = Removed mb tb rd.at doc gone may_remove

        dropped_with : AreDropped (after_removed w s (id.Node rd.at)).table rd.at rd.previous
        dropped_with n y i = record {
          passed = subst (λ (t : State). IsPassed t.table rd.at n) gone (passed_then (to removing_it (told removal.Removed)) removes rd.at n (listed_passed rd.at doc n there (asked.listed n y i)));
          unlisted = λ d h e j at. false≢true (ap is_some (sym (taken_is w.table (id.Node rd.at) (id.Node rd.at) sorted ∙ ap (λ b. cond b None (ds (id.Node rd.at))) (id_itself (id.Node rd.at))) ∙ h));
        }

        removed_may : MayCollectAt (to removing_it (told removal.Removed)) s (told removal.Removed) (told removal.Removed).step
        removed_may = removing_may (to removing_it (told removal.Removed)) (with_document removing_it) (at_state (to removing_it (told removal.Removed)) _ refl (skips_on _ refl refl)) (subst (λ (t : State). AreDropped t.table rd.at rd.previous) (sym gone) dropped_with)

      pub remove_to : (r : RemoveOut) → removal_of w.table doc.id doc.mod_count ≡ r → Goes removing_it (told r)
      unfolding removes
      remove_to removal.Removed is = record { makes = removes is; lists = λ p k h. h; may = removed_may is; formers = refl }
      remove_to (removal.Changed f) is = record {
        makes = Went kind.Collect (changed_stay w s doc.id doc.mod_count f kind.Collect is) refl refl;
        lists = λ p k h. h;
        may = let b = skipped_on (with_skip x doc.id doc.mod_count f) doc.id doc.mod_count f refl refl (changed_skip f is) in at_state (to removing_it (told (removal.Changed f))) (told (removal.Changed f)) refl (record { bound = b.bound; taken = b.taken; skips = b.skips });
        formers = refl;
      }
      remove_to removal.Absent is = record {
        makes = Went kind.Collect (absent_stay w s doc.id doc.mod_count kind.Collect is) refl refl;
        lists = λ p k h. h;
        may = let b = skips_on x refl refl in at_state (to removing_it (told removal.Absent)) (told removal.Absent) refl (record { bound = b.bound; taken = b.taken; skips = b.skips });
        formers = refl;
      }

  -- a previous document that it unlisted is taken away
  module _ (x : Collector) (n number : ℕ) (bound : HasBound w s x) (dropped : IsDropped w.table x.reading.at n) (rest : AreDropped w.table x.reading.at x.reading.previous) where
    abbrev taking : Collector
    taking = record x { step = step.RemovePrevious n number }

    abbrev after : RemoveOut → Collector
    after r = collecting.fed taking (reply.Removed r)

    takes_it : (r : RemoveOut) → removal_of w.table (id.Prev n x.reading.at) number ≡ r → Makes w s (to taking (after r))
    takes_it removal.Removed is = Unlisted x.reading.at n (documents_go w s (id.Prev n x.reading.at) number is) (record { sorted = sorted; unlisted = dropped.unlisted }) (inl dropped.passed)
    takes_it (removal.Changed f) is = Went kind.Collect (changed_stay w s (id.Prev n x.reading.at) number f kind.Collect is) refl refl
    takes_it removal.Absent is = Went kind.Collect (absent_stay w s (id.Prev n x.reading.at) number kind.Collect is) refl refl

    lists_none : (r : RemoveOut) (is : removal_of w.table (id.Prev n x.reading.at) number ≡ r) (p : Path) (k : ℕ) → lists_copy (takes_it r is) p k → ⊥
    unfolding takes_it
    lists_none removal.Removed is p k h = h
    lists_none (removal.Changed f) is p k h = h
    lists_none removal.Absent is p k h = h

    rest_then : (r : RemoveOut) → removal_of w.table (id.Prev n x.reading.at) number ≡ r → AreDropped (to taking (after r)).table x.reading.at x.reading.previous
    rest_then r is k y i = dropped_then (to taking (after r)) (takes_it r is) x.reading.at k (rest k y i)

    its_may : (r : RemoveOut) (is : removal_of w.table (id.Prev n x.reading.at) number ≡ r) → MayCollectAt (to taking (after r)) s (after r) (after r).step
    its_may removal.Removed is = removing_may (to taking (after removal.Removed)) (with_document taking) (let b = bound_then x bound in record { bound = b.bound; taken = b.taken; skips = b.skips }) (rest_then removal.Removed is)
    its_may (removal.Changed f) is =
        removing_may (to taking (after (removal.Changed f))) (with_skip taking (id.Prev n x.reading.at) number f)
        (let b = bound_then x bound in record { bound = b.bound; taken = b.taken; skips = more_skips x.collected.skipped (id.Prev n x.reading.at) number f b.skips (skip_of w.table (id.Prev n x.reading.at) number f is) }) (rest_then (removal.Changed f) is)
    its_may removal.Absent is = removing_may (to taking (after removal.Absent)) taking (let b = bound_then x bound in record { bound = b.bound; taken = b.taken; skips = b.skips }) (rest_then removal.Absent is)

    pub remove_previous_to : (r : RemoveOut) → removal_of w.table (id.Prev n x.reading.at) number ≡ r → Goes taking (after r)
    remove_previous_to r is = record { makes = takes_it r is; lists = lists_none r is; may = its_may r is; formers = refl }
