-- What a committer looks at: a document, with what moved to its previous documents put back.
use Rattle.std.specs.Prelude.{List, [], ◌∷◌, map, Option, None, Some}
use Rattle.std.specs.List.{flat_map, fold}
use Rattle.std.specs.Map.{keys_of}
use Rattle.jr_path.specs.declared.path.DocId.{DocId}
use Rattle.jr_path.specs.declared.path.DocId.TheVariants as id
use Rattle.jr_path.specs.declared.name.Name.{Name}
use Rattle.jr_path.specs.declared.path.Path.{Path}
use Rattle.jr_value.specs.declared.value.Property.{Property}
use Rattle.jr_rev.specs.declared.revision.Revision.{Revision}
use Rattle.jr_rev.specs.declared.vector.RevVec.{RevVec}
use Rattle.oak_clash.specs.declared.mark.MarkAt.{MarkAt}
use Rattle.oak_doc.specs.declared.document.Document.{Document}
use Rattle.oak_doc.specs.declared.update.Change.{Change}
use Rattle.oak_doc.specs.declared.update.Change.TheVariants as change
use Rattle.oak_doc.specs.Updates.{Props, changed, document_of, values_of_property, with_revision, with_values}
use Rattle.oak_read.specs.Wanted.{listed}
use Rattle.oak_commit.specs.Clashing.{found}
use Rattle.oak_commit.specs.Meeting.{dues_in}
use Rattle.oak_commit.specs.declared.look.Looked.{Looked}
use Rattle.oak_commit.specs.declared.look.Looked.TheVariants as looked

-- what moved to a previous document, as the changes by which it was written
abbrev pub entries_in : Document → List Change
entries_in x = flat_map (λ n. map (λ e. change.Prop n e.0 e.1) (values_of_property x.props n)) (keys_of x.props)

-- the document of the node at p, with what moved to a previous document put back
abbrev pub put_back : Path → Option Document → Document → Option Document
put_back p doc x = Some (fold changed (document_of doc (id.Node p)) (entries_in x))

-- what a committer looks at: a document, with what moved to its previous documents put back
abbrev pub whole : Path → Option Document → List Document → Option Document
whole p doc xs = fold (put_back p) doc xs

-- a document with what moved to a previous one put back, where that is there
abbrev pub with_found : Document → Option Document → Document
with_found d None = d
with_found d (Some x) = fold changed d (entries_in x)

-- ---- a look, as code takes it

-- with these values of a property put
abbrev pub with_all : Props → Name → List (Revision × Option Property) → Props
with_all ps n vs = fold (λ qs v. with_values qs n (with_revision (values_of_property qs n) v.0 v.1)) ps vs

-- with the values of these properties put
abbrev pub with_properties : Props → Props → Props
with_properties ps es = fold (λ qs e. with_all qs e.0 e.1) ps es

-- the next previous document is to be asked for; or all is looked at, and these marks are to be made of what is met
abbrev pub looked_at : RevVec → Revision → List MarkAt → Path → Document → List DocId → Looked
looked_at base r ms p d [] = looked.Met (dues_in (Some d) (found base r p ms (Some d)))
looked_at base r ms p d (i ∷ is) = looked.More (record { document = d; first = i; rest = is })

-- how far a look is that begins at the document before its write
abbrev pub looked_before : RevVec → Revision → List MarkAt → Path → Option Document → Looked
looked_before base r ms p None = looked.Met []
looked_before base r ms p (Some d) = looked_at base r ms p d (listed p d)
