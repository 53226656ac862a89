-- Readers that are answered step by step, while documents and journal go on between their steps.
use Rattle.std.specs.Prelude.{◌≡◌, ℕ, zero, suc, List, [], ◌∷◌, length, Option, is_some, IsTrue}
use Rattle.std.specs.Ordering.{eq_by_cmp}
use Rattle.std.specs.List.{fold, list_any}
use Rattle.jr_path.specs.Ids.{id_cmp}
use Rattle.jr_path.specs.declared.path.Path.{Path}
use Rattle.jr_path.specs.declared.path.DocId.{DocId}
use Rattle.jr_rev.specs.declared.vector.Pin.{Pin}
use Rattle.oak_doc.specs.declared.document.Document.{Document}
use Rattle.oak_read.specs.Meaning.{documents_in}
use Rattle.oak_read.specs.Reading.{IsTable, answer, due, fed}
use Rattle.oak_read.specs.declared.reader.Reader.{Reader}
use Rattle.oak_read.specs.declared.reader.ReadOut.{ReadOut}
use Rattle.oak_read.specs.declared.reader.Step.{Step}
use Rattle.oak_read.specs.declared.reader.Step.TheVariants as step
use Rattle.oak_machine.specs.History.{Past}
use Rattle.core_watch.specs.Standing.{path_read}

-- a moment: the documents, and what the journal tells so far
pub record Moment : Type 0 where
  pub table : List (DocId × Document)
  pub past : Past

-- a reader after the documents of a moment have answered it
abbrev pub answered : Reader → Moment → Reader
answered r m = fed r (answer m.table (due r))

-- a reader after those of each of some moments, one after another
abbrev pub after_moments : List Moment → Reader → Reader
after_moments ms r = fold answered r ms

-- a reader at this pin, of the children of a path or of a node, made for the path p
pub record IsReaderFor (pin : Pin) (parent : Option Path) (p : Path) (r : Reader) : Type 0 where
  pub same_pin : r.pin ≡ pin
  pub same_kind : r.parent ≡ parent
  pub same_path : path_read r ≡ p

-- the commit roots that are left to be read
abbrev pub roots_left : Step → ℕ
roots_left (step.Roots left) = suc (length left.rest)
roots_left _ = 0

-- a reader is done
abbrev pub IsReaderDone : Step → Type 0
IsReaderDone (step.Done o) = Unit {0}
IsReaderDone _ = ⊥

-- the first n of moments without end
abbrev pub first_moments : ℕ → (ℕ → Moment) → List Moment
first_moments zero f = []
first_moments (suc n) f = f 0 ∷ first_moments n (λ i. f (suc i))

-- at a moment the documents are in store order, and each has one of these ids
pub record HasIdsAmong (ids : List DocId) (m : Moment) : Type 0 where
  pub ordered : IsTable m.table
  pub among : (x : DocId) → IsTrue (is_some (documents_in m.table x))
      → IsTrue (list_any (eq_by_cmp id_cmp x) ids)

-- after some of moments without end a reader is done, and gives one of these
abbrev pub ReaderEndsWith : (ReadOut → Type 0) → (ℕ → Moment) → Reader → Type 0
ReaderEndsWith P f r =
    (n : ℕ) × (o : ReadOut) × ((after_moments (first_moments n f) r).step ≡ step.Done o) × P o
