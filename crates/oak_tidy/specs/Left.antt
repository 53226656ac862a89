-- How many steps are left at most of what tidies documents, where it alone takes steps.
use Rattle.std.specs.Prelude.{ℕ, ◌+◌, ◌-◌, ◌<◌, Bool, true, false, ◌&&◌, List, [], ◌∷◌, length, Option, None, Some}
use Rattle.std.specs.List.{filter}
use Rattle.std.specs.Option.{option_map_or}
use Rattle.std.specs.BTreeMap.Range.{range_contains}
use Rattle.std.specs.declared.ops.Bound.TheVariants.{Excluded, Unbounded}
use Rattle.jr_path.specs.Ids.{id_cmp}
use Rattle.jr_path.specs.declared.path.DocId.{DocId}
use Rattle.jr_path.specs.declared.path.DocId.TheVariants as id
use Rattle.oak_doc.specs.declared.document.Document.{Document}
use Rattle.oak_gc.specs.declared.collector.Collector.{Collector}
use Rattle.oak_gc.specs.declared.reading.Step.{Step as CollectStep}
use Rattle.oak_gc.specs.declared.reading.Step.TheVariants as collect_step
use Rattle.oak_prev.specs.Wanted.{roots_wanted}
use Rattle.oak_prev.specs.declared.splitter.Splitter.{Splitter}
use Rattle.oak_prev.specs.declared.splitter.Step.{Step as SplitStep}
use Rattle.oak_prev.specs.declared.splitter.Step.TheVariants as split_step
use Rattle.oak_read.specs.Meaning.{documents_in}
use Rattle.oak_read.specs.Reading.{IsTable}
use Rattle.oak_store.specs.Tables.{Table}
use Rattle.oak_tidy.specs.declared.tidying.Tidying.{Tidying}
use Rattle.oak_tidy.specs.declared.tidying.Tidying.TheVariants as tidying
use Rattle.oak_tidy.specs.Replies.{AllParts, table_after}
use Rattle.oak_tidy.specs.Tidyings.{CanTidy, tidied_on, tidying_ask}

-- the id of a node's document
abbrev pub is_nodes : DocId → Bool
is_nodes (id.Node p) = true
is_nodes (id.Prev n p) = false
is_nodes id.Settings = false

-- a node's document behind an id; behind none, each node's
abbrev pub stands_behind : Option DocId → DocId → Bool
stands_behind None y = is_nodes y
stands_behind (Some x) y = is_nodes y && range_contains id_cmp (Excluded x) Unbounded y

-- the node documents behind an id in store order
abbrev pub nodes_behind : Option DocId → List (DocId × Document) → List (DocId × Document)
nodes_behind x es = filter (λ e. stands_behind x e.0) es

-- a splitter asks for the document, for commit roots, for two updates, and for the previous
-- document again, to remove it
abbrev pub split_left : List (DocId × Document) → Splitter → ℕ
split_left es s = by s.step
  where
    by : SplitStep → ℕ
    by split_step.Read =
        option_map_or (λ d. length (roots_wanted s.pin d)) (documents_in es (id.Node s.path)) 0 + 6
    by split_step.Root = length s.left + 5
    by (split_step.Previous e n) = 4
    by (split_step.Main e n) = 3
    by (split_step.Find k o) = 2
    by (split_step.Remove k found o) = 1
    by (split_step.Done o) = 0

-- for one document: its reading, that of each previous one that is listed, its change, and the
-- removal of each previous one
abbrev pub document_steps : Document → ℕ
document_steps d = length d.prev + length d.prev + 3

-- the steps that a collection makes at most of these documents
abbrev pub all_steps : List (DocId × Document) → ℕ
all_steps [] = 0
all_steps (e ∷ es) = document_steps e.1 + all_steps es

-- a collector asks for its bound, and then for the documents behind the one that it read
abbrev pub collect_left : List (DocId × Document) → Collector → ℕ
collect_left es c = by c.step
  where
    by : CollectStep → ℕ
    by collect_step.Root = all_steps (nodes_behind None es) + c.clusters + 4
    by (collect_step.Node k) = all_steps (nodes_behind None es) + (c.clusters - k) + 3
    by collect_step.Settings = all_steps (nodes_behind None es) + 2
    by collect_step.First = all_steps (nodes_behind None es) + 1
    by collect_step.Next = all_steps (nodes_behind (Some (id.Node c.reading.at)) es) + 1
    by (collect_step.Listed n) =
        all_steps (nodes_behind (Some (id.Node c.reading.at)) es)
        + (length c.reading.listed + length c.reading.listed + length c.reading.previous + 4)
    by collect_step.Prune =
        all_steps (nodes_behind (Some (id.Node c.reading.at)) es)
        + (length c.reading.previous + 2)
    by collect_step.Remove =
        all_steps (nodes_behind (Some (id.Node c.reading.at)) es)
        + (length c.reading.previous + 2)
    by (collect_step.RemovePrevious n read) =
        all_steps (nodes_behind (Some (id.Node c.reading.at)) es)
        + (length c.reading.previous + 2)
    by collect_step.Done = 0

-- how many steps are left at most
abbrev pub tidying_left : Table → Tidying → ℕ
tidying_left t (tidying.Split x) = split_left t.documents x
tidying_left t (tidying.Collect x) = collect_left t.documents x

-- each step lowers that number
abbrev pub StepsLower : Type 0
StepsLower = (p : AllParts) (clusters : ℕ) (x : Tidying) → IsTable p.table.documents
    → CanTidy clusters x
    → tidying_left (table_after p.table (tidying_ask x)) (tidied_on p x) < tidying_left p.table x
