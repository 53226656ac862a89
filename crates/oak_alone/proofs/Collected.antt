-- A collection that steps alone ends as one over a store that it alone asks.
use Rattle.std.proofs.Common.{◌≡◌, ◌≢◌, inl, ℕ, List, [], ◌∷◌, length, Some, refl, sym, ap, ◌∙◌, subst}
use Rattle.std.specs.List.{filter}
use Rattle.std.specs.declared.alloc.Global.{Global}
use Rattle.std.proofs.lemmas.List.{length-map}
use Rattle.jr_path.specs.declared.path.DocId.TheVariants as id
use Rattle.oak_clean.specs.Clean.{after_collection}
use Rattle.oak_doc.specs.declared.asks.Ask.TheVariants as ask
use Rattle.oak_doc.specs.declared.asks.Collected.{Collected}
use Rattle.oak_doc.specs.declared.document.Document.{Document}
use Rattle.oak_gc.specs.Collecting.{begun, due}
use Rattle.oak_gc.specs.Resting.{Emptied}
use Rattle.oak_gc.specs.declared.collector.Collector.{Collector}
use Rattle.oak_gc.proofs.Resting.{collects_by_the_least}
use Rattle.oak_machine.specs.declared.event.Event.{Event}
use Rattle.oak_machine.specs.declared.event.Event.TheVariants as event
use Rattle.oak_machine.specs.History.{Past}
use Rattle.oak_machine.specs.Runs.{is_bound}
use Rattle.oak_node.specs.Memory.{NodeState}
use Rattle.oak_port.specs.declared.task.TaskEnd.{TaskEnd}
use Rattle.oak_port.specs.declared.task.TaskEnd.TheVariants as ends
use Rattle.oak_read.specs.Reading.{IsTable}
use Rattle.oak_store.specs.Tables.{Table, found}
use Rattle.oak_tidy.specs.declared.tidying.Tidying.{Tidying}
use Rattle.oak_tidy.specs.declared.tidying.Tidying.TheVariants as tidying
use Rattle.oak_tidy.specs.Replies.{all_parts, node_tells, table_after, told_to}
use Rattle.oak_tidy.specs.Tidyings.{CanTidy, TidiesTo, tidying_ask}
use Rattle.oak_tidy.proofs.Reading.{collections_begin}
use Rattle.oak_tidy.proofs.Staying.{goes_can}
use Rattle.oak_alone.proofs.Asked.{EndsIn, goes_on, has_ended, told}
use Rattle.oak_alone.proofs.Bounded.{Stands, bound, one_bound, stands_on}
use Rattle.oak_alone.proofs.Steps.{IsKeptAlone, events_with, next_of}

module _ (s : ℕ) (ms : List NodeState) (a : Global) (t0 : Table) (root settings : Document) (root_is : found t0 (id.Node []) ≡ Some root) (settings_is : found t0 id.Settings ≡ Some settings) where
  -- what it makes of the documents, and counts
  abbrev pub out : Emptied
  out = after_collection (bound s ms a t0 root settings root_is settings_is) t0

  -- a collection goes on
  pub record IsAt (c : Collector) (t : Table) (es : Past) : Type 0 where
    pub can : CanTidy (length ms) (tidying.Collect c)
    pub ends : EndsIn ms t c out
    pub stands : Stands s ms a t0 root settings root_is settings_is t c (filter is_bound es)

  abbrev pub Collects : Tidying → Table → Past → Type 0
  Collects (tidying.Collect c) t es = IsAt c t es
  Collects (tidying.Split x) t es = ⊥

  -- it has ended, and tells this
  pub record HasEnded (e : Event) (t : Table) (es : Past) : Type 0 where
    pub documents : t ≡ out.store
    pub counted : e ≡ event.Collected s out.collected
    pub bounds : filter is_bound es ≡ event.Bound (bound s ms a t0 root settings root_is settings_is).base (bound s ms a t0 root settings root_is settings_is).sweep ∷ []

  goes : (x : Tidying) (t : Table) (es : Past) → Collects x t es → tidying_ask (next_of ms t x) ≢ ask.Done → Collects (next_of ms t x) (table_after t (tidying_ask x)) (events_with s ms t x es)
  goes (tidying.Collect c) t es is busy = record {
    can = goes_can (length ms) (tidying.Collect c) (next_of ms t (tidying.Collect c)) (told_to (all_parts t ms []) (due c)) is.can.asks refl busy;
    ends = goes_on ms t c out is.can.busy is.can.asks.0 is.ends;
    stands = stands_on s ms a t0 root settings root_is settings_is t c es is.stands;
  }
  goes (tidying.Split x) t es is busy = absurd is

  ends_so : (x : Tidying) (t : Table) (es : Past) → Collects x t es → (e : TaskEnd) (tells : Event) → TidiesTo s (next_of ms t x) e tells → HasEnded tells (table_after t (tidying_ask x)) (events_with s ms t x es)
  ends_so (tidying.Collect c) t es is (ends.Collected k) tells h =
      let so = has_ended ms (table_after t (due c)) _ out h.0 (goes_on ms t c out is.can.busy is.can.asks.0 is.ends) in
      record {
        documents = so.0;
        counted = h.2 ∙ ap (λ (k : Collected). event.Collected s k) (h.1 ∙ so.1);
        bounds = one_bound s ms a t0 root settings root_is settings_is (table_after t (due c)) _ _ (stands_on s ms a t0 root settings root_is settings_is t c es is.stands) h.0;
      }
  ends_so (tidying.Collect c) t es is _ tells h = absurd h
  ends_so (tidying.Split x) t es is e tells h = absurd is

  pub collects_alone : IsKeptAlone s ms Collects HasEnded
  collects_alone = record { goes = goes; ends = ends_so }

  -- it begins
  pub collection_begins : IsTable t0.documents → Collects (tidying.Collect (begun a (length ms))) t0 []
  collection_begins is =
      let many : length (told ms) ≡ length ms = length-map ms node_tells in
      record {
        can = collections_begin (length ms) a;
        ends = subst (λ (n : ℕ). EndsIn ms t0 (begun a n) out) many (collects_by_the_least (told ms) t0 a root settings is root_is settings_is);
        stands = inl (record { at = ap (begun a) (sym many); same = refl }, refl);
      }
