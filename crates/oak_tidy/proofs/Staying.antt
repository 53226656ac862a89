-- Whatever it is fed, a collector asks none but the cluster nodes that there are.
use Rattle.std.proofs.Common.{◌≡◌, ◌≢◌, ◌+◌, ◌≤◌, ℕ, Bool, true, false, cond, length, List, [], ◌∷◌, ◌++◌, Option, Some, None, map, refl, sym, ap, subst, ◌∙◌, arith}
use Rattle.std.specs.Prelude.{nat_lt}
use Rattle.std.specs.Option.{option_map_or}
use Rattle.std.proofs.lemmas.Bool.Decides.{nat_tests}
use Rattle.jr_path.specs.declared.path.DocId.{DocId}
use Rattle.jr_path.specs.declared.path.DocId.TheVariants as id
use Rattle.oak_doc.specs.declared.asks.Ask.TheVariants as ask
use Rattle.oak_doc.specs.declared.asks.RemoveOut.TheVariants as removal
use Rattle.oak_doc.specs.declared.asks.Reply.{Reply}
use Rattle.oak_doc.specs.declared.asks.Reply.TheVariants as reply
use Rattle.oak_doc.specs.declared.document.Document.{Document}
use Rattle.oak_doc.specs.declared.update.Kept.TheVariants as kept
use Rattle.oak_gc.specs.Bounds.{kept_pairs, root_pair}
use Rattle.oak_gc.specs.Bounding.{collector_after}
use Rattle.oak_gc.specs.Collecting.{Previous, begun, fed, found_document, garbage_previous, going_on, has_garbage_in, last_of, lowered, no_pair, node_reading, removing, with_document, with_entries, with_previous_read, with_skip}
use Rattle.oak_gc.specs.Garbage.{garbage_in, is_garbage_document}
use Rattle.oak_gc.specs.declared.collector.Collector.{Collector}
use Rattle.oak_gc.specs.declared.reading.Step.{Step}
use Rattle.oak_gc.specs.declared.reading.Step.TheVariants as step
use Rattle.oak_machine.specs.Runs.{IsNode}
use Rattle.oak_tidy.specs.declared.tidying.Tidying.{Tidying}
use Rattle.oak_tidy.specs.declared.tidying.Tidying.TheVariants as tidying
use Rattle.oak_tidy.specs.Tidyings.{IsCollecting, AsksNodesOf, CollectsAt, AsksWithin, CanTidy, tidying_ask, tidying_fed}

-- no cluster node is asked at this step
abbrev IsElsewhere : Step → Type 0
IsElsewhere (step.Node k) = ⊥
IsElsewhere _ = Unit {0}

-- the document that was read last is the node's
abbrev IsRead : Collector → Type 0
IsRead c = c.reading.document.id ≡ id.Node c.reading.at

module _ (n : ℕ) where
  elsewhere : (c : Collector) → c.clusters ≡ n → IsElsewhere c.step → CollectsAt c.step c.reading → AsksNodesOf n c
  elsewhere c all away at = record { all = all; asked = λ k h. absurd (subst IsElsewhere h away); at = at }

  pub begun_asks : (c : Collector) → c.clusters ≡ n → c.step ≡ step.Root → AsksNodesOf n c
  begun_asks c all is = elsewhere c all (subst IsElsewhere (sym is) tt) (subst (λ (st : Step). CollectsAt st c.reading) (sym is) tt)

  within : (k : ℕ) → nat_lt k n ≡ true → IsNode n (k + 1)
  within k h = let low : 1 ≤ k + 1 = omega arith in let high : k + 1 ≤ n = grind (arith, nat_tests) in (low, high)

  behind : (c : Collector) (k : ℕ) (b : Bool) → c.clusters ≡ n → nat_lt k c.clusters ≡ b → AsksNodesOf n (record c { step = cond b (step.Node (k + 1)) step.Settings })
  behind c k true all is = record { all = all; asked = λ j h. let same : k + 1 ≡ j = cc in subst (IsNode n) same (within k (ap (nat_lt k) (sym all) ∙ is)); at = tt }
  behind c k false all is = elsewhere (record c { step = step.Settings }) all tt tt

  decides : (c : Collector) (a b : Bool) → c.clusters ≡ n → IsRead c → AsksNodesOf n (record c { step = cond a step.Remove (cond b step.Prune step.Next) })
  decides c true b all read = elsewhere (record c { step = step.Remove }) all tt read
  decides c false true all read = elsewhere (record c { step = step.Prune }) all tt read
  decides c false false all read = elsewhere (record c { step = step.Next }) all tt tt

  goes : (c : Collector) → c.clusters ≡ n → IsRead c → AsksNodesOf n (going_on c)
  goes c all read = by c.reading.listed
    where
      by : (ns : List ℕ) → AsksNodesOf n (going_on (record c { reading = record c.reading { listed = ns } }))
      by [] = decides (record c { reading = record c.reading { listed = [] } }) (is_garbage_document c.bound.base c.bound.sweep c.reading.document) (has_garbage_in c.bound (record c.reading { listed = [] })) all read
      by (m ∷ ms) = elsewhere (record c { reading = record c.reading { listed = ms }; step = step.Listed m }) all tt read

  finds : (c : Collector) (d : Document) → c.clusters ≡ n → AsksNodesOf n (found_document c d)
  finds c d all = by d.id refl
    where
      by : (x : DocId) → d.id ≡ x → AsksNodesOf n (option_map_or (λ r. going_on (record c { reading = r })) (node_reading c.bound x d) (record c { step = step.Done }))
      by (id.Node p) is = goes (record c { reading = record { at = p; document = d; garbage = garbage_in c.bound.base c.bound.sweep d; listed = map (λ e. e.number) d.prev; previous = [] } }) all is
      by (id.Prev k p) is = elsewhere (record c { step = step.Done }) all tt tt
      by id.Settings is = elsewhere (record c { step = step.Done }) all tt tt

  nexts : (c : Collector) (found : Option Document) → c.clusters ≡ n → AsksNodesOf n (option_map_or (found_document c) found (record c { step = step.Done }))
  nexts c None all = elsewhere (record c { step = step.Done }) all tt tt
  nexts c (Some d) all = finds c d all

  removes : (c : Collector) → c.clusters ≡ n → AsksNodesOf n (removing c)
  removes c all = by (last_of c.reading.previous)
    where
      by : (o : Option ((ℕ × Document) × Previous)) → AsksNodesOf n (option_map_or (λ l. record c { reading = record c.reading { previous = l.1 }; step = step.RemovePrevious l.0.0 l.0.1.mod_count }) o (record c { step = step.Next }))
      by None = elsewhere (record c { step = step.Next }) all tt tt
      by (Some l) = elsewhere _ all tt tt

  stays : (c : Collector) (st : Step) (r : Reply) → AsksNodesOf n (record c { step = st }) → AsksNodesOf n (fed (record c { step = st }) r)
  stays c step.Root (reply.Found found) of = behind (record c { bound = option_map_or root_pair found no_pair }) 0 (nat_lt 0 c.clusters) of.all refl
  stays c step.Root r of = of
  stays c (step.Node k) (reply.Pins head sweep pins) of = behind (lowered c (record { base = head; sweep = sweep } ∷ pins)) k (nat_lt k c.clusters) of.all refl
  stays c (step.Node k) reply.Gone of = behind c k (nat_lt k c.clusters) of.all refl
  stays c (step.Node k) r of = of
  stays c step.Settings (reply.Found found) of = elsewhere (record (lowered c (option_map_or kept_pairs found [])) { step = step.First }) of.all tt tt
  stays c step.Settings r of = of
  stays c step.First (reply.Found found) of = nexts (record c { step = step.First }) found of.all
  stays c step.First r of = of
  stays c step.Next (reply.Found found) of = nexts (record c { step = step.Next }) found of.all
  stays c step.Next r of = of
  stays c (step.Listed m) (reply.Found found) of = goes (record c { reading = with_previous_read c.reading m found; step = step.Listed m }) of.all of.at
  stays c (step.Listed m) r of = of
  stays c step.Prune (reply.Updated before) of = removes (with_entries (record c { reading = record c.reading { previous = garbage_previous c.bound c.reading }; step = step.Prune }) (length c.reading.garbage)) of.all
  stays c step.Prune (reply.Unmet cause (kept.Number found)) of = elsewhere _ of.all tt tt
  stays c step.Prune (reply.Unmet cause thing) of = of
  stays c step.Prune reply.Absent of = elsewhere _ of.all tt tt
  stays c step.Prune r of = of
  stays c step.Remove (reply.Removed removal.Removed) of = removes (with_document (record c { step = step.Remove })) of.all
  stays c step.Remove (reply.Removed (removal.Changed found)) of = elsewhere _ of.all tt tt
  stays c step.Remove (reply.Removed removal.Absent) of = elsewhere _ of.all tt tt
  stays c step.Remove r of = of
  stays c (step.RemovePrevious m read) (reply.Removed removal.Removed) of = removes (with_document (record c { step = step.RemovePrevious m read })) of.all
  stays c (step.RemovePrevious m read) (reply.Removed (removal.Changed found)) of = removes (with_skip (record c { step = step.RemovePrevious m read }) (id.Prev m c.reading.at) read found) of.all
  stays c (step.RemovePrevious m read) (reply.Removed removal.Absent) of = removes (record c { step = step.RemovePrevious m read }) of.all
  stays c (step.RemovePrevious m read) r of = of
  stays c step.Done r of = of

  one_more : (c : Collector) (rs : List Reply) (r : Reply) → collector_after c (rs ++ r ∷ []) ≡ fed (collector_after c rs) r
  one_more c [] r = refl
  one_more c (q ∷ qs) r = one_more (fed c q) qs r

  fed_on : (x : Collector) (r : Reply) → IsCollecting n x → IsCollecting n (fed x r)
  fed_on x r of = record { alloc = of.alloc; replies = of.replies ++ r ∷ []; reached = ap (λ (c : Collector). fed c r) of.reached ∙ sym (one_more (begun of.alloc n) of.replies r) }

pub asks_stay : (n : ℕ) (x : Tidying) (r : Reply) → AsksWithin n x → AsksWithin n (tidying_fed x r)
asks_stay n (tidying.Split x) r of = tt
asks_stay n (tidying.Collect x) r of = (stays n x x.step r of.0, fed_on n x r of.1)

-- what goes on can go on
pub goes_can : (n : ℕ) (x y : Tidying) (r : Reply) → AsksWithin n x → y ≡ tidying_fed x r → tidying_ask (tidying_fed x r) ≢ ask.Done → CanTidy n y
goes_can n x y r asks same busy = subst (CanTidy n) (sym same) (record { busy = busy; asks = asks_stay n x r asks })
