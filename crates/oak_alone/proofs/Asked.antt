-- What documents and memories answer to a collection, a store that it alone asks answers too.
use Rattle.std.proofs.Common.{◌≡◌, ◌≢◌, ℕ, zero, suc, ◌-◌, ◌<◌, ◌≤◌, List, [], length, map, Option, Some, Result, Ok, Err, refl, sym, ap, ◌∙◌, subst, arith}
use Rattle.std.proofs.Math.ListN.{get_or}
use Rattle.std.specs.Prelude.{slice_get}
use Rattle.std.specs.Option.{option_flatten, option_map, unwrap_or}
use Rattle.std.proofs.lemmas.Option.{slice_get-get_or, slice_get-map}
use Rattle.jr_path.specs.declared.path.DocId.{DocId}
use Rattle.jr_rev.specs.Vectors.{no_entries}
use Rattle.oak_doc.specs.declared.asks.Ask.TheVariants as ask
use Rattle.oak_doc.specs.declared.asks.Reply.{Reply}
use Rattle.oak_doc.specs.declared.document.Document.{Document}
use Rattle.oak_doc.specs.declared.update.OpFault.{OpFault}
use Rattle.oak_doc.specs.declared.update.OpFault.TheVariants as fault
use Rattle.oak_doc.specs.Updates.{updated}
use Rattle.oak_gc.specs.Bounding.{node_reply}
use Rattle.oak_gc.specs.Bounds.{Told}
use Rattle.oak_gc.specs.Collecting.{due, fed, prune_op}
use Rattle.oak_gc.specs.Resting.{CollectionEndsIn, Emptied, StoreAlone, after, after_asks, asked_once, collector_answer, store_after}
use Rattle.oak_gc.specs.declared.collector.Collector.{Collector}
use Rattle.oak_gc.specs.declared.reading.Step.{Step}
use Rattle.oak_gc.specs.declared.reading.Step.TheVariants as step
use Rattle.oak_machine.specs.Runs.{IsNode}
use Rattle.oak_node.specs.Memory.{NodeState, begun}
use Rattle.oak_prev.specs.Resting.{update_reply}
use Rattle.oak_store.specs.Tables.{Table, found, next_number}
use Rattle.core_world.specs.States.{memory_at}
use Rattle.core_world.specs.Steps.{with_result}
use Rattle.oak_acts.specs.Acts.{replied}
use Rattle.oak_tidy.specs.Replies.{all_parts, node_tells, table_after, told_to}
use Rattle.oak_tidy.specs.Tidyings.{AsksNodesOf}

pub replies : (o : Option Document) (r : Result Document OpFault) → replied o r ≡ update_reply o r
replies o (Ok d) = refl
replies o (Err (fault.Unmet c k)) = refl
replies o (Err fault.Absent) = refl
replies o (Err fault.Memory) = refl

results : (t : Table) (x : DocId) (r : Result Document OpFault) → with_result t x r ≡ store_after t x r
results t x (Ok d) = refl
results t x (Err refused) = refl

-- a store, and the one collector that it answers
abbrev pub alone : Table → Collector → StoreAlone
alone t c = record { store = t; collector = c }

module _ (ms : List NodeState) where
  abbrev pub told : List (Option Told)
  told = map node_tells ms

  -- a cluster node tells what its memory holds
  pub node_told : (k : ℕ) → IsNode (length ms) k → node_reply (node_tells (memory_at ms k)) ≡ node_reply (option_flatten (slice_get told (k - 1)))
  node_told k is =
      let low : 1 ≤ k = is.0 in
      let high : k ≤ length ms = is.1 in
      let within : k - 1 < length ms = omega (arith, low, high) in
      let there : slice_get ms (k - 1) ≡ Some (get_or ms (k - 1) (begun k no_entries)) = slice_get-get_or ms (k - 1) (begun k no_entries) within in
      ap (λ (o : Option NodeState). node_reply (node_tells (unwrap_or o (begun k no_entries)))) there
      ∙ sym (ap (λ (o : Option (Option Told)). node_reply (option_flatten o)) (slice_get-map node_tells ms (k - 1) ∙ ap (option_map node_tells) there))

  answers : (t : Table) (c : Collector) (st : Step) → due (record c { step = st }) ≢ ask.Done → ((k : ℕ) → st ≡ step.Node k → IsNode (length ms) k)
      → told_to (all_parts t ms []) (due (record c { step = st })) ≡ collector_answer told t (due (record c { step = st }))
  answers t c step.Root busy nodes = refl
  answers t c (step.Node k) busy nodes = node_told k (nodes k refl)
  answers t c step.Settings busy nodes = refl
  answers t c step.First busy nodes = refl
  answers t c step.Next busy nodes = refl
  answers t c (step.Listed n) busy nodes = refl
  answers t c step.Prune busy nodes = let op = prune_op c.bound c.reading in replies (found t op.id) (updated (found t op.id) op (next_number t))
  answers t c step.Remove busy nodes = refl
  answers t c (step.RemovePrevious n read) busy nodes = refl
  answers t c step.Done busy nodes = absurd (busy refl)

  stores : (t : Table) (c : Collector) (st : Step) → table_after t (due (record c { step = st })) ≡ after t (due (record c { step = st }))
  stores t c step.Root = refl
  stores t c (step.Node k) = refl
  stores t c step.Settings = refl
  stores t c step.First = refl
  stores t c step.Next = refl
  stores t c (step.Listed n) = refl
  stores t c step.Prune = let op = prune_op c.bound c.reading in results t op.id (updated (found t op.id) op (next_number t))
  stores t c step.Remove = refl
  stores t c (step.RemovePrevious n read) = refl
  stores t c step.Done = refl

  -- an ask with its answer is one of such a store
  asks_so : (t : Table) (c : Collector) → due c ≢ ask.Done → AsksNodesOf (length ms) c
      → asked_once told (alone t c) ≡ alone (table_after t (due c)) (fed c (told_to (all_parts t ms []) (due c)))
  asks_so t c busy asks =
      sym (ap (λ (u : Table). alone u (fed c (told_to (all_parts t ms []) (due c)))) (stores t c c.step)
      ∙ ap (λ (r : Reply). alone (after t (due c)) (fed c r)) (answers t c c.step busy asks.asked))

  abbrev pub EndsIn : Table → Collector → Emptied → Type 0
  EndsIn t c out = CollectionEndsIn told (alone t c) out

  -- it ends as before
  pub goes_on : (t : Table) (c : Collector) (out : Emptied) → due c ≢ ask.Done → AsksNodesOf (length ms) c → EndsIn t c out → EndsIn (table_after t (due c)) (fed c (told_to (all_parts t ms []) (due c))) out
  goes_on t c out busy asks e = subst (λ (w : StoreAlone). CollectionEndsIn told w out) (asks_so t c busy asks) (by e.0 e.1 e.2 e.3)
    where
      by : (n : ℕ) → (after_asks told n (alone t c)).store ≡ out.store → due (after_asks told n (alone t c)).collector ≡ ask.Done → (after_asks told n (alone t c)).collector.collected ≡ out.collected
          → CollectionEndsIn told (asked_once told (alone t c)) out
      by zero store done counted = absurd (busy done)
      by (suc n) store done counted = (n, store, done, counted)

  -- once nothing is due, nothing changes
  rests : (n : ℕ) (t : Table) (c : Collector) → after_asks told n (alone t (record c { step = step.Done })) ≡ alone t (record c { step = step.Done })
  rests zero t c = refl
  rests (suc n) t c = rests n t c

  is_done : (c : Collector) (st : Step) → due (record c { step = st }) ≡ ask.Done → st ≡ step.Done
  is_done c step.Root h = cc
  is_done c (step.Node k) h = cc
  is_done c step.Settings h = cc
  is_done c step.First h = cc
  is_done c step.Next h = cc
  is_done c (step.Listed n) h = cc
  is_done c step.Prune h = cc
  is_done c step.Remove h = cc
  is_done c (step.RemovePrevious n read) h = cc
  is_done c step.Done h = refl

  -- and it has ended so
  pub has_ended : (t : Table) (c : Collector) (out : Emptied) → due c ≡ ask.Done → EndsIn t c out → (t ≡ out.store) × (c.collected ≡ out.collected)
  has_ended t c out done e =
      let at : c ≡ record c { step = step.Done } = ap (λ (st : Step). record c { step = st }) (is_done c c.step done) in
      let same : after_asks told e.0 (alone t c) ≡ alone t c = subst (λ (x : Collector). after_asks told e.0 (alone t x) ≡ alone t x) (sym at) (rests e.0 t c) in
      (sym (ap (λ (w : StoreAlone). w.store) same) ∙ e.1, sym (ap (λ (w : StoreAlone). w.collector.collected) same) ∙ e.3)
