-- The text of a table of documents: a line for each, in store order.
use Rattle.std.specs.Prelude.{ℕ, List, ◌++◌, codes}
use Rattle.std.specs.List.{flat_map}
use Rattle.jr_docs.specs.Documents.{document_line}
use Rattle.oak_doc.specs.declared.document.Document.{Document}
use Rattle.oak_store.specs.Tables.{Table}

-- a document's JSON with no spaces, and a line feed
abbrev pub line_of_document : Document → List ℕ
line_of_document d = document_line d ++ codes "\n"

-- the lines of the documents of a table, in store order
abbrev pub documents_text : Table → List ℕ
documents_text t = flat_map (λ e. line_of_document e.1) t.documents
