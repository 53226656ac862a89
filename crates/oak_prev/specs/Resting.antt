-- A splitter over documents in which nobody else writes.
use Rattle.std.specs.Prelude.{◌≡◌, ℕ, zero, suc, ◌^◌, ◌-◌, Bool, cond, ◌&&◌, ◌==◌, List, Option, None, is_none, is_some, Result, Ok, Err}
use Rattle.std.specs.Option.{option_map_or}
use Rattle.std.specs.declared.alloc.Global.{Global}
use Rattle.jr_path.specs.declared.path.Path.{Path}
use Rattle.jr_path.specs.declared.path.DocId.{DocId}
use Rattle.jr_path.specs.declared.path.DocId.TheVariants as id
use Rattle.jr_rev.specs.declared.vector.Pin.{Pin}
use Rattle.oak_doc.specs.declared.asks.Ask.{Ask}
use Rattle.oak_doc.specs.declared.asks.Ask.TheVariants as ask
use Rattle.oak_doc.specs.declared.asks.Reply.{Reply}
use Rattle.oak_doc.specs.declared.asks.Reply.TheVariants as reply
use Rattle.oak_doc.specs.declared.asks.SplitEnd.{SplitEnd}
use Rattle.oak_doc.specs.declared.asks.SplitEnd.TheVariants as end
use Rattle.oak_doc.specs.declared.document.Document.{Document}
use Rattle.oak_doc.specs.declared.update.OpFault.{OpFault}
use Rattle.oak_doc.specs.declared.update.OpFault.TheVariants as fault
use Rattle.oak_doc.specs.Updates.{updated}
use Rattle.oak_read.specs.Meaning.{Documents, documents_in}
use Rattle.oak_read.specs.Reading.{IsTable}
use Rattle.oak_prev.specs.Splits.{listed_as, moved_count}
use Rattle.oak_prev.specs.Splitting.{begun, due, fed}
use Rattle.oak_prev.specs.declared.splitter.Splitter.{Splitter}
use Rattle.oak_prev.specs.declared.splitter.Step.TheVariants as step

-- what an update of a document is answered
abbrev pub update_reply : Option Document → Result Document OpFault → Reply
update_reply before (Ok after) = reply.Updated before
update_reply before (Err (fault.Unmet c k)) = reply.Unmet c k
update_reply before (Err fault.Absent) = reply.Absent
update_reply before (Err fault.Memory) = reply.NoMemory

-- what documents answer a splitter that reads and updates each of them once, before its update
abbrev pub splitter_answer : List (DocId × Document) → Ask → Reply
splitter_answer table (ask.Find x) = reply.Found (documents_in table x)
splitter_answer table (ask.Update op) = update_reply (documents_in table op.id) (updated (documents_in table op.id) op 0)
splitter_answer table _ = reply.Found None

-- a splitter after n replies of such documents, each to what is due
abbrev pub splitter_after : List (DocId × Document) → ℕ → Splitter → Splitter
splitter_after table zero s = s
splitter_after table (suc n) s = splitter_after table n (fed s (splitter_answer table (due s)))

-- after some replies it ends so
abbrev pub SplitEndsIn : List (DocId × Document) → Splitter → SplitEnd → Type 0
SplitEndsIn table s o = (n : ℕ) × ((splitter_after table n s).step ≡ step.Done o)

-- the number is the last one, on which no update is made
abbrev pub is_last : ℕ → Bool
is_last n = n == 2 ^ 64 - 1

-- how the split of a document ends: all that moves, where something does and there is no previous document of its id; a document with the last number is skipped
abbrev pub end_of : Documents → Pin → Path → Document → SplitEnd
end_of ds pin p d = cond (is_some (listed_as ds pin d) && is_none (ds (id.Prev d.mod_count p))) (cond (is_last d.mod_count) (end.Skipped d.mod_count d.mod_count) (end.Split (moved_count ds pin d))) (end.Split 0)

-- how a split ends; without a document nothing moves
abbrev pub split_end : Documents → Pin → Path → SplitEnd
split_end ds pin p = option_map_or (end_of ds pin p) (ds (id.Node p)) (end.Split 0)

-- over such documents a splitter ends with the count of what moves by their meaning
abbrev pub SplitsWhatMoves : Type 0
SplitsWhatMoves = (table : List (DocId × Document)) (a : Global) (pin : Pin) (p : Path) → IsTable table → SplitEndsIn table (begun a pin p) (split_end (documents_in table) pin p)
