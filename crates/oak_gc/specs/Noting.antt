-- What is noted of a document, and of what it lists, as code reads it.
use Rattle.std.specs.Prelude.{cond, List, [], ◌∷◌}
use Rattle.oak_doc.specs.declared.document.Document.{Document}
use Rattle.oak_doc.specs.declared.document.PrevEntry.{PrevEntry}
use Rattle.oak_doc.specs.declared.update.Change.{Change}
use Rattle.oak_doc.specs.declared.update.Change.TheVariants as change
use Rattle.jr_rev.specs.declared.vector.Pin.{Pin}
use Rattle.oak_gc.specs.Collecting.{found_in}
use Rattle.oak_gc.specs.Garbage.{is_garbage_listed}
use Rattle.oak_gc.specs.declared.reading.Noted.{Noted}
use Rattle.oak_gc.specs.declared.reading.Reading.{Reading}

-- what is read of a document, by what was noted
abbrev pub reading_with : Document → Noted → Reading
reading_with d noted = record { at = noted.at; document = d; garbage = noted.garbage; listed = noted.listed; previous = [] }

-- the unlisting of a previous document, where all of it is garbage
abbrev pub unlisting : Pin → Reading → PrevEntry → List Change
unlisting bound r e = cond (is_garbage_listed bound.base bound.sweep (found_in r.previous) r.document e) (change.Unlist e.number ∷ []) []
