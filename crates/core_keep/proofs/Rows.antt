-- What fails where a premise is left out, and a split that computes.
use Rattle.std.proofs.Common.{◌≡◌, ℕ, true, false, Some, None, [], ◌∷◌, refl}
use Rattle.std.specs.Prelude.{codes, ◌==◌}
use Rattle.std.specs.Ordering.{eq_by_cmp}
use Rattle.std.specs.Prelude.{cond}
use Rattle.jr_path.specs.Names.{path_cmp}
use Rattle.jr_path.specs.declared.name.Name.{Name}
use Rattle.jr_path.specs.declared.path.Path.{Path}
use Rattle.jr_path.specs.declared.path.DocId.TheVariants as id
use Rattle.jr_value.specs.declared.value.Property.{Property}
use Rattle.jr_value.specs.declared.value.Property.TheVariants.{Single}
use Rattle.jr_value.specs.declared.value.Value.TheVariants as value
use Rattle.jr_rev.specs.declared.revision.Revision.{Revision}
use Rattle.jr_rev.specs.declared.vector.RevVec.{RevVec}
use Rattle.jr_rev.specs.declared.vector.Pin.{Pin}
use Rattle.jr_rev.specs.Vectors.{no_entries, is_below}
use Rattle.jr_tree.specs.declared.edit.Write.TheVariants.{Here, Gone}
use Rattle.jr_tree.specs.Trees.{node_at}
use Rattle.oak_doc.specs.declared.document.Document.{Document}
use Rattle.oak_doc.specs.Updates.{document_of}
use Rattle.oak_read.specs.Meaning.{Documents, found_node, commit_root_of}
use Rattle.core_read.specs.Commits.{Commits, Sight, tree_seen}
use Rattle.core_keep.specs.Garbage.{is_garbage_document}

abbrev a : Path
a = codes "a" ∷ []

abbrev n : Name
n = codes "n"

abbrev rev : ℕ → ℕ → Revision
rev time cluster = record { time = time; counter = 0; cluster = cluster }

abbrev two : Revision → Revision → RevVec
two r q = Some r ∷ Some q ∷ None ∷ None ∷ None ∷ None ∷ None ∷ None ∷ []

-- ---- two edits that add one node, of which neither base sees the other, and one that takes it away
-- The edits are apart as reading without collections needs it, since none writes a property. A bound sees the first and the third; there the node is absent, so its document goes. Then the second is written, and what the documents mean isn't the tree.

abbrev adders : Commits
adders = (rev 4 1, Gone a ∷ []) ∷ (rev 3 2, Here a ∷ []) ∷ (rev 2 1, Here a ∷ []) ∷ []

abbrev all : Sight
all r = true

abbrev bound : RevVec
bound = two (rev 4 1) (rev 0 2)

abbrev everything : RevVec
everything = two (rev 4 1) (rev 3 2)

-- the document before the collection
abbrev taken_away : Document
taken_away = record (document_of None (id.Node a)) { deleted = (rev 2 1, false) ∷ (rev 4 1, true) ∷ [] }

is_dropped : is_garbage_document bound bound taken_away ≡ true
is_dropped = refl

-- the document that the second makes afterwards
abbrev made_again : Document
made_again = record (document_of None (id.Node a)) { deleted = (rev 3 2, false) ∷ [] }

abbrev afterwards : Documents
afterwards (id.Node p) = cond (eq_by_cmp path_cmp p a) (Some made_again) None
afterwards (id.Prev k p) = None
afterwards id.Settings = None

not_in_tree : node_at (tree_seen all adders) a ≡ None
not_in_tree = refl

but_found : found_node afterwards everything everything a ≡ Some (record { props = []; born = Some (rev 3 2) })
but_found = refl

-- ---- a document that is its own commit root, after a split: the status of what moved is asked of it

abbrev first_value : Property
first_value = Single (value.Name (codes "x"))

abbrev second_value : Property
second_value = Single (value.Name (codes "y"))

abbrev main : Document
main = record (document_of None (id.Node a)) {
  deleted = (rev 1 1, false) ∷ [];
  revisions = (rev 1 1, tt) ∷ (rev 2 1, tt) ∷ [];
  prev = record { number = 9; high = rev 1 1; low = rev 1 1 } ∷ [];
  props = (n, (rev 2 1, Some second_value) ∷ []) ∷ [];
}

abbrev moved : Document
moved = record (document_of None (id.Prev 9 a)) { props = (n, (rev 1 1, Some first_value) ∷ []) ∷ [] }

abbrev split : Documents
split (id.Node p) = cond (eq_by_cmp path_cmp p a) (Some main) None
split (id.Prev k p) = cond (k == 9) (Some moved) None
split id.Settings = None

abbrev early : RevVec
early = two (rev 1 1) (rev 0 2)

reads_moved : found_node split no_entries early a ≡ Some (record { props = (n, first_value) ∷ []; born = Some (rev 1 1) })
reads_moved = refl

root_of_moved : commit_root_of moved (rev 1 1) ≡ id.Node a
root_of_moved = refl

-- ---- the settings read first: a checkpoint that is made between their reading and that of its node isn't bounded

-- at first nothing is kept, and a session of node 1 holds this
abbrev held_early : Pin
held_early = record { base = early; sweep = early }

-- it makes a checkpoint and moves on to the head, which alone its node tells then
abbrev head_late : Pin
head_late = record { base = everything; sweep = everything }

-- so the bound is the head, which isn't at most the checkpoint
bound_too_high : is_below head_late.base held_early.base ≡ false
bound_too_high = refl
