-- What a splitter asks, and what it keeps after a reply.
use Rattle.std.specs.Prelude.{ℕ, [], ◌∷◌, Option, None}
use Rattle.std.specs.Option.{option_map_or}
use Rattle.std.specs.declared.alloc.Global.{Global}
use Rattle.jr_path.specs.declared.path.Path.{Path}
use Rattle.jr_path.specs.declared.path.DocId.TheVariants as id
use Rattle.jr_rev.specs.declared.vector.Pin.{Pin}
use Rattle.oak_doc.specs.declared.asks.Ask.{Ask}
use Rattle.oak_doc.specs.declared.asks.Ask.TheVariants as ask
use Rattle.oak_doc.specs.declared.asks.Reply.{Reply}
use Rattle.oak_doc.specs.declared.asks.Reply.TheVariants as reply
use Rattle.oak_doc.specs.declared.asks.SplitEnd.{SplitEnd}
use Rattle.oak_doc.specs.declared.asks.SplitEnd.TheVariants as end
use Rattle.oak_doc.specs.declared.document.Document.{Document}
use Rattle.oak_doc.specs.declared.update.Kept.TheVariants as kept
use Rattle.oak_doc.specs.Updates.{document_of}
use Rattle.oak_read.specs.Meaning.{Documents}
use Rattle.oak_read.specs.Reading.{with_known}
use Rattle.oak_read.specs.Wanted.{Ids}
use Rattle.oak_prev.specs.Moving.{documents_known}
use Rattle.oak_prev.specs.Splits.{listed_as, main_write, moved_count, previous_write}
use Rattle.oak_prev.specs.Wanted.{roots_wanted}
use Rattle.oak_prev.specs.declared.reading.Reading.{Reading}
use Rattle.oak_prev.specs.declared.splitter.Splitter.{Splitter}
use Rattle.oak_prev.specs.declared.splitter.Step.{Step}
use Rattle.oak_prev.specs.declared.splitter.Step.TheVariants as step

-- what a splitter knows before it has read the document
abbrev pub unread_splitter : Reading
unread_splitter = record { document = document_of None id.Settings; roots = [] }

-- a splitter of the document of the node at a path, at a pin
abbrev pub begun : Global → Pin → Path → Splitter
begun a pin p = record { alloc = a; pin = pin; path = p; reading = unread_splitter; asked = id.Settings; left = []; step = step.Read }

-- the documents that a splitter knows
abbrev pub known : Splitter → Documents
known s = documents_known s.reading.document s.reading.roots

-- ---- what it asks for

-- what is due
abbrev pub due : Splitter → Ask
due s = due_at s.step
  where
    due_at : Step → Ask
    due_at step.Read = ask.Find (id.Node s.path)
    due_at step.Root = ask.Find s.asked
    due_at (step.Previous e n) = ask.Update (previous_write (known s) s.pin s.reading.document)
    due_at (step.Main e n) = ask.Update (main_write (known s) s.pin s.reading.document e)
    due_at (step.Find k o) = ask.Find (id.Prev k s.path)
    due_at (step.Remove k found o) = ask.RemoveIf (id.Prev k s.path) found
    due_at (step.Done o) = ask.Done

-- ---- what it keeps

-- it has ended
abbrev pub split_ended : Splitter → SplitEnd → Splitter
split_ended s o = record s { step = step.Done o }

-- each status is known: next the previous document is written, where something moves
abbrev pub statuses_known : Splitter → Splitter
statuses_known s = option_map_or (λ e. record s { step = step.Previous e (moved_count (known s) s.pin s.reading.document) }) (listed_as (known s) s.pin s.reading.document) (split_ended s (end.Split 0))

-- next the first of the commit roots that are left to be asked for, and behind all of them what moves
abbrev pub on_next_root : Splitter → Splitter
on_next_root s = by s.left
  where
    by : Ids → Splitter
    by [] = statuses_known s
    by (x ∷ xs) = record s { asked = x.0; left = xs; step = step.Root }

-- the document is there: next the status of what it may move
abbrev pub fed_read : Splitter → Document → Splitter
fed_read s d = on_next_root (record s { reading = record { document = d; roots = [] }; left = roots_wanted s.pin d })

-- a commit root, or none, was found
abbrev pub fed_commit_root : Splitter → Option Document → Splitter
fed_commit_root s found = on_next_root (record s { reading = record s.reading { roots = with_known s.reading.roots s.asked found } })

-- next the previous document of a number is removed again, and then the splitter ends so
abbrev pub removing_copy : Splitter → ℕ → SplitEnd → Splitter
removing_copy s k o = record s { step = step.Find k o }

-- what a splitter keeps after a reply
abbrev pub fed : Splitter → Reply → Splitter
fed s r = by s.step r
  where
    by : Step → Reply → Splitter
    by step.Read (reply.Found found) = option_map_or (fed_read s) found (split_ended s (end.Split 0))
    by step.Root (reply.Found found) = fed_commit_root s found
    by (step.Previous e n) (reply.Updated before) = record s { step = step.Main e n }
    by (step.Previous e n) (reply.Unmet cond k) = split_ended s (end.Split 0)
    by (step.Main e n) (reply.Updated before) = split_ended s (end.Split n)
    by (step.Main e n) (reply.Unmet cond (kept.Number found)) = removing_copy s e.number (end.Skipped e.number found)
    by (step.Main e n) reply.Absent = removing_copy s e.number (end.Split 0)
    by (step.Find k o) (reply.Found found) = option_map_or (λ d. record s { step = step.Remove k d.mod_count o }) found (split_ended s o)
    by (step.Remove k found o) (reply.Removed out) = split_ended s o
    by _ _ = s
