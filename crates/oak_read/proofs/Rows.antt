-- What the documents of a first save mean: /a is added with p = 5 as r1-0-1.
use Rattle.std.proofs.Common.{◌≡◌, ℕ, false, Some, None, List, [], ◌∷◌, refl, pos}
use Rattle.std.specs.Ordering.{eq_by_cmp}
use Rattle.std.specs.Map.{lookup}
use Rattle.jr_path.specs.declared.path.DocId.{DocId}
use Rattle.jr_path.specs.declared.path.DocId.TheVariants.{Node, Prev, Settings}
use Rattle.jr_path.specs.Names.{path_cmp}
use Rattle.jr_value.specs.declared.value.Property.{Property}
use Rattle.jr_value.specs.declared.value.Property.TheVariants.{Single}
use Rattle.jr_value.specs.declared.value.Value.TheVariants.{Long}
use Rattle.jr_rev.specs.declared.revision.Revision.{Revision}
use Rattle.jr_rev.specs.Vectors.{start, with_entry}
use Rattle.oak_doc.specs.declared.document.Document.{Document}
use Rattle.oak_doc.specs.Updates.{document_of}
use Rattle.oak_read.specs.Meaning.{Documents, found_node, found_children, documents_in}

abbrev a : List (List ℕ)
a = (97 ∷ []) ∷ []

abbrev p : List ℕ
p = 112 ∷ []

abbrev start_revision : Revision
start_revision = record { time = 0; counter = 0; cluster = 1 }

abbrev r : Revision
r = record { time = 1; counter = 0; cluster = 1 }

abbrev five : Property
five = Single (Long (pos 5))

-- the document of /a
abbrev document_a : Document
document_a = record (document_of None (Node a)) { mod_count = 6; deleted = (r, false) ∷ []; commit_root = (r, 0) ∷ []; props = (p, (r, Some five) ∷ []) ∷ [] }

-- the root before and after the last write
abbrev root : Document
root = record (document_of None (Node [])) { mod_count = 5; deleted = (start_revision, false) ∷ []; touched = (r, tt) ∷ []; last_rev = start 1; sweep_rev = start 1 }

abbrev root_after : Document
root_after = record root { mod_count = 7; revisions = (r, tt) ∷ [] }

-- the documents before and after the last write
abbrev documents : Document → Documents
documents rooted (Node q) = lookup (eq_by_cmp path_cmp q) (([], rooted) ∷ (a, document_a) ∷ [])
documents rooted (Prev n q) = None
documents rooted Settings = None

not_yet : found_node (documents root) (start 1) (with_entry (start 1) r) a ≡ None
not_yet = refl

there : found_node (documents root_after) (start 1) (with_entry (start 1) r) a ≡ Some (record { props = (p, five) ∷ []; born = Some r })
there = refl

not_seen : found_node (documents root_after) (start 1) (start 1) a ≡ None
not_seen = refl

-- the same from a table
abbrev table : Document → List (DocId × Document)
table rooted = (Node [], rooted) ∷ (Node a, document_a) ∷ []

child_there : found_children (documents_in (table root_after)) (start 1) (with_entry (start 1) r) (Node [] ∷ Node a ∷ []) [] ≡ (97 ∷ [], Some r) ∷ []
child_there = refl

child_not_yet : found_children (documents_in (table root)) (start 1) (with_entry (start 1) r) (Node [] ∷ Node a ∷ []) [] ≡ []
child_not_yet = refl

-- of one revision the document's entry counts, before that of a previous document
abbrev listing : Document
listing = record document_a { prev = record { number = 4; high = r; low = r } ∷ [] }

abbrev previous : Document
previous = record (document_of None (Prev 4 a)) { commit_root = (r, 0) ∷ []; props = (p, (r, None) ∷ []) ∷ (113 ∷ [], (r, Some five) ∷ []) ∷ [] }

with_previous : found_node (documents_in ((Node [], root_after) ∷ (Node a, listing) ∷ (Prev 4 a, previous) ∷ [])) (start 1) (with_entry (start 1) r) a ≡ Some (record { props = (p, five) ∷ (113 ∷ [], five) ∷ []; born = Some r })
with_previous = refl
