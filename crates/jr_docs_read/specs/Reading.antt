-- What reading answers, and what it comes to field by field.
use Rattle.std.specs.Prelude.{ℕ, Bool, ◌&&◌, ◌==◌, false, List, ◌∷◌, Result, Ok, Err, map}
use Rattle.serde_json.specs.Data.{Members, no_members}
use Rattle.jr_docs.specs.Documents.{fields_of}
use Rattle.jr_docs.specs.Members.{put_fields}
use Rattle.jr_docs_read.specs.Printed.{as_node, of_root}
use Rattle.jr_docs_read.specs.declared.fault.DocFault.{DocFault}
use Rattle.jr_docs_read.specs.declared.fault.DocFault.TheVariants.{NotADocument, Memory}
use Rattle.jr_docs_read.specs.declared.reading.Kind.{Kind}
use Rattle.jr_docs_read.specs.declared.reading.Kind.TheVariants as kind
use Rattle.jr_path.specs.declared.path.DocId.{DocId}
use Rattle.jr_path.specs.declared.path.DocId.TheVariants as id
use Rattle.jr_path.specs.declared.path.Path.{Path}
use Rattle.oak_doc.specs.declared.document.Document.{Document}

-- something is obtained of which this holds, unless memory is refused
abbrev pub Obtains : {T : Type 0} → (T → Type 0) → Result T DocFault → Type 0
Obtains P (Ok x) = P x
Obtains P (Err NotADocument) = ⊥
Obtains P (Err Memory) = Unit {0}

-- whose document it is, by its id
abbrev pub document_kind : DocId → Kind
document_kind (id.Node p) = kind.Node
document_kind (id.Prev n p) = kind.Prev
document_kind id.Settings = kind.Settings

-- the members of a document's JSON
abbrev pub printed_members : Document → Members
printed_members d = put_fields no_members (fields_of d)

-- a member's name begins with `p:`, as a property's does
abbrev pub is_property : List ℕ → Bool
is_property (a ∷ b ∷ n) = a == 112 && b == 58
is_property _ = false

-- x with what d tells of commits
abbrev pub with_commits : Document → Document → Document
with_commits d x =
    record x { deleted = d.deleted; commit_root = d.commit_root; revisions = d.revisions }

-- x with the marks of d
abbrev pub with_marks_of : Document → Document → Document
with_marks_of d x =
    record x { collisions = map as_node d.collisions; touched = d.touched; guard = d.guard }

-- x with the vectors of d, the document of the node at a path
abbrev pub with_vectors : Path → Document → Document → Document
with_vectors p d x = record x { last_rev = d.last_rev; sweep_rev = of_root p d.sweep_rev }
