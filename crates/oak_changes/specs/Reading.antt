-- What a reader of changes asks, and what it keeps after a reply.
use Rattle.std.specs.Prelude.{true, List, [], ◌∷◌, ◌++◌, Option, None, Some}
use Rattle.std.specs.Option.{option_map_or}
use Rattle.std.specs.declared.alloc.Global.{Global}
use Rattle.jr_path.specs.declared.path.Path.{Path}
use Rattle.jr_path.specs.declared.path.DocId.{DocId}
use Rattle.jr_path.specs.declared.path.DocId.TheVariants as id
use Rattle.jr_rev.specs.declared.vector.Pin.{Pin}
use Rattle.jr_rev.specs.declared.vector.RevVec.{RevVec}
use Rattle.oak_doc.specs.declared.document.Document.{Document}
use Rattle.oak_doc.specs.declared.asks.Ask.{Ask}
use Rattle.oak_doc.specs.declared.asks.Ask.TheVariants as ask
use Rattle.oak_doc.specs.declared.asks.Reply.{Reply}
use Rattle.oak_doc.specs.declared.asks.Reply.TheVariants as reply
use Rattle.oak_read.specs.Meaning.{documents_in}
use Rattle.oak_read.specs.Reading.{with_known}
use Rattle.oak_read.specs.Wanted.{left_of, previous_wanted, roots_wanted}
use Rattle.oak_changes.specs.Saying.{document_said, grouped}
use Rattle.oak_changes.specs.declared.changes.ChangesReader.{ChangesReader}
use Rattle.oak_changes.specs.declared.changes.Step.{Step}
use Rattle.oak_changes.specs.declared.changes.Step.TheVariants as step
use Rattle.oak_changes.specs.declared.said.Said.{Said}

-- a reader of what the pin's base sees and the vector doesn't
abbrev pub changes_reader : Global → RevVec → Pin → ChangesReader
changes_reader a from pin = record { alloc = a; from = from; pin = pin; at = []; known = []; said = []; step = step.First }

-- what is due
abbrev pub due : ChangesReader → Ask
due r = due_at r.step
  where
    due_at : Step → Ask
    due_at step.First = ask.NextAfter None
    due_at step.Next = ask.NextAfter (Some (id.Node r.at))
    due_at (step.Previous left) = ask.Find left.first
    due_at (step.Roots left) = ask.Find left.first
    due_at (step.Done o) = ask.Done

-- a reader of changes that knows one document more, where one is found under the id
abbrev pub noted : ChangesReader → DocId → Option Document → ChangesReader
noted r x found = record r { known = with_known r.known x found }

-- there is no further document of a node
abbrev pub changes_ended : ChangesReader → ChangesReader
changes_ended r = record r { said = []; step = step.Done (grouped r.said) }

-- what the node's documents that were found tell
abbrev pub told : ChangesReader → List Said
told r = document_said (documents_in r.known) r.pin.sweep r.from r.pin.base (id.Node r.at)

-- all that the node takes is known: what its documents tell, and next the document behind it
abbrev pub changes_on_roots : ChangesReader → ChangesReader
changes_on_roots r = record r { said = r.said ++ told r; step = step.Next }

-- the node's document and its previous documents are known: next the commit roots
abbrev pub changes_on_previous : ChangesReader → ChangesReader
changes_on_previous r = option_map_or (λ left. record r { step = step.Roots left }) (left_of (roots_wanted r.pin.sweep r.pin.base r.known true r.at)) (changes_on_roots r)

-- the node's document is known: next the previous documents
abbrev pub changes_on_main : ChangesReader → ChangesReader
changes_on_main r = option_map_or (λ left. record r { step = step.Previous left }) (left_of (previous_wanted r.known r.at)) (changes_on_previous r)

-- what is due has come: next the second of the documents that are left, or what comes behind them
abbrev pub changes_settled : ChangesReader → ChangesReader
changes_settled r = by r.step
  where
    by : Step → ChangesReader
    by step.First = r
    by step.Next = r
    by (step.Previous left) = option_map_or (λ more. record r { step = step.Previous more }) (left_of left.rest) (changes_on_previous r)
    by (step.Roots left) = option_map_or (λ more. record r { step = step.Roots more }) (left_of left.rest) (changes_on_roots r)
    by (step.Done o) = r

-- the document of the node at a path comes; those of the node before go
abbrev pub begun_at : ChangesReader → Path → Document → ChangesReader
begun_at r p d = changes_on_main (record r { at = p; known = (id.Node p, d) ∷ [] })

-- a document comes, of a node or not
abbrev pub with_document : ChangesReader → DocId → Document → ChangesReader
with_document r (id.Node p) d = begun_at r p d
with_document r _ d = changes_ended r

-- what a reader keeps once the next document in store order comes, or none is left
abbrev pub fed_next : ChangesReader → Option Document → ChangesReader
fed_next r None = changes_ended r
fed_next r (Some d) = with_document r d.id d

-- what a reader keeps after a reply
abbrev pub fed : ChangesReader → Reply → ChangesReader
fed r (reply.Found found) = by r.step
  where
    by : Step → ChangesReader
    by step.First = fed_next r found
    by step.Next = fed_next r found
    by (step.Previous left) = changes_settled (noted r left.first found)
    by (step.Roots left) = changes_settled (noted r left.first found)
    by (step.Done o) = r
fed r _ = r
