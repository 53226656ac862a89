-- Two wrong statements: a collection leaves garbage where its bound sweeps what its base doesn't see, and where a document has the last number.
use Rattle.std.proofs.Common.{◌≡◌, ℕ, true, false, [], ◌∷◌, None, Some, refl, sym}
use Rattle.std.specs.Prelude.{◌^◌, ◌-◌}
use Rattle.std.proofs.lemmas.Bool.{false≢true}
use Rattle.jr_path.specs.declared.path.DocId.TheVariants as id
use Rattle.jr_path.specs.declared.path.Path.{Path}
use Rattle.jr_rev.specs.declared.revision.Revision.{Revision}
use Rattle.jr_rev.specs.declared.vector.Pin.{Pin}
use Rattle.jr_rev.specs.Vectors.{Entries, no_entries, with_entry}
use Rattle.oak_doc.specs.declared.document.Document.{Document}
use Rattle.oak_doc.specs.Updates.{document_of}
use Rattle.oak_gc.specs.Garbage.{has_garbage}
use Rattle.oak_store.specs.Tables.{Table, found}
use Rattle.oak_clean.specs.Clean.{IsClean, after_collection}

abbrev at : ℕ → Revision
at t = record { time = t; counter = 0; cluster = 1 }

abbrev upto : ℕ → Entries
upto t = with_entry no_entries (at t)

-- a store of one document
abbrev store_of : Document → Table
store_of d = record { documents = (id.Node [], d) ∷ []; number = 1 }

-- ---- a bound whose sweep vector sees more than its base

abbrev wide : Pin
wide = record { base = upto 1; sweep = upto 2 }

-- the node is gone, and a later commit root keeps its document
abbrev kept_by_a_root : Document
kept_by_a_root = record (document_of None (id.Node [])) { mod_count = 1; deleted = (at 1, true) ∷ []; commit_root = (at 2, 0) ∷ [] }

-- once the root went, nothing keeps it
abbrev kept_by_none : Document
kept_by_none = record (document_of None (id.Node [])) { mod_count = 2; deleted = (at 1, true) ∷ [] }

leaves_a_document : found (after_collection wide (store_of kept_by_a_root)).store (id.Node []) ≡ Some kept_by_none
leaves_a_document = refl

pub wide_bounds_leave_garbage : IsClean wide (after_collection wide (store_of kept_by_a_root)).store → ⊥
wide_bounds_leave_garbage clean = false≢true (sym (clean [] kept_by_none leaves_a_document refl))

-- ---- a document with the last number

abbrev bound : Pin
bound = record { base = upto 1; sweep = upto 1 }

abbrev of_last_number : Document
of_last_number = record (document_of None (id.Node [])) { mod_count = 2 ^ 64 - 1; deleted = (at 1, true) ∷ [] }

leaves_the_last : found (after_collection bound (store_of of_last_number)).store (id.Node []) ≡ Some of_last_number
leaves_the_last = refl

pub last_numbers_leave_garbage : ((p : Path) (d : Document) → found (after_collection bound (store_of of_last_number)).store (id.Node p) ≡ Some d
    → has_garbage bound.base bound.sweep (found (after_collection bound (store_of of_last_number)).store) d ≡ false) → ⊥
last_numbers_leave_garbage clean = false≢true (sym (clean [] of_last_number leaves_the_last))
