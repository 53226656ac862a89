-- What a collector asks for a document is what its bound says of it.
use Rattle.std.specs.Prelude.{◌≡◌, ℕ, List, IsTrue, IsFalse}
use Rattle.std.specs.declared.alloc.Global.{Global}
use Rattle.oak_doc.specs.declared.asks.Ask.TheVariants as ask
use Rattle.oak_doc.specs.declared.asks.Reply.{Reply}
use Rattle.oak_gc.specs.Bounding.{collector_after}
use Rattle.oak_gc.specs.Collecting.{begun, due, found_in}
use Rattle.oak_gc.specs.Garbage.{garbage_listed, has_garbage, is_garbage_document, pruning}
use Rattle.oak_gc.specs.declared.collector.Collector.{Collector}
use Rattle.oak_gc.specs.declared.reading.Step.{Step}
use Rattle.oak_gc.specs.declared.reading.Step.TheVariants as step

-- a collector asks for the removal of a document where all of it is garbage of its bound, and for the update that drops just the garbage, where there is some, by its bound and the previous documents that were found
abbrev pub AsksForGarbage : Collector → Type 0
AsksForGarbage c = by c.step
  where
    by : Step → Type 0
    by step.Remove = IsTrue (is_garbage_document c.bound.base c.bound.sweep c.reading.document) × (due c ≡ ask.RemoveIf c.reading.document.id c.reading.document.mod_count)
    by step.Prune =
        IsFalse (is_garbage_document c.bound.base c.bound.sweep c.reading.document)
        × IsTrue (has_garbage c.bound.base c.bound.sweep (found_in c.reading.previous) c.reading.document)
        × (due c ≡ ask.Update (pruning c.bound.base c.bound.sweep c.reading.document (garbage_listed c.bound.base c.bound.sweep (found_in c.reading.previous) c.reading.document)))
    by _ = Unit {0}

-- so does a collector after any replies
abbrev pub AskForGarbage : Type 0
AskForGarbage = (a : Global) (clusters : ℕ) (rs : List Reply) → AsksForGarbage (collector_after (begun a clusters) rs)
