-- A reader of changes over documents at rest.
use Rattle.std.specs.Prelude.{◌≡◌, ℕ, zero, suc, List}
use Rattle.std.specs.Map.{keys_of}
use Rattle.std.specs.declared.alloc.Global.{Global}
use Rattle.jr_path.specs.declared.path.DocId.{DocId}
use Rattle.jr_rev.specs.declared.vector.Pin.{Pin}
use Rattle.jr_rev.specs.declared.vector.RevVec.{RevVec}
use Rattle.jr_tree.specs.declared.shared.CommitChanges.{CommitChanges}
use Rattle.oak_doc.specs.declared.document.Document.{Document}
use Rattle.oak_read.specs.Meaning.{documents_in}
use Rattle.oak_read.specs.Reading.{IsTable, answer}
use Rattle.oak_changes.specs.Saying.{changes_said}
use Rattle.oak_changes.specs.Reading.{changes_reader, due, fed}
use Rattle.oak_changes.specs.declared.changes.ChangesReader.{ChangesReader}
use Rattle.oak_changes.specs.declared.changes.Step.TheVariants as step

-- a reader after n replies of documents at rest, each to what is due
abbrev pub changes_after : List (DocId × Document) → ℕ → ChangesReader → ChangesReader
changes_after table zero r = r
changes_after table (suc n) r = changes_after table n (fed r (answer table (due r)))

-- after some replies of documents at rest the reader gives this
abbrev pub ChangesEndIn : List (DocId × Document) → ChangesReader → List CommitChanges → Type 0
ChangesEndIn table r o = (n : ℕ) × ((changes_after table n r).step ≡ step.Done o)

-- a reader ends in what the documents say of the commits that its pin's base sees and the vector doesn't
abbrev pub ReadsChanges : Type 0
ReadsChanges = (table : List (DocId × Document)) (a : Global) (from : RevVec) (pin : Pin) → IsTable table
    → ChangesEndIn table (changes_reader a from pin) (changes_said (documents_in table) pin.sweep from pin.base (keys_of table))
