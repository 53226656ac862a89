-- Steps on the documents at one path.
use Rattle.std.specs.Prelude.{◌≡◌, ◌⊎◌, ℕ, Bool, List, [], ◌∷◌, Option, None, Some, is_some, IsTrue, IsFalse}
use Rattle.std.specs.Option.{option_and_then, option_map_or, option_or}
use Rattle.std.specs.Ordering.{eq_by_cmp}
use Rattle.std.specs.List.{filter}
use Rattle.jr_path.specs.Names.{path_cmp}
use Rattle.jr_path.specs.declared.name.Name.{Name}
use Rattle.jr_path.specs.declared.path.Path.{Path}
use Rattle.jr_path.specs.declared.path.DocId.TheVariants as id
use Rattle.jr_rev.specs.declared.revision.Revision.{Revision}
use Rattle.jr_rev.specs.Revisions.{is_before}
use Rattle.oak_doc.specs.declared.document.Document.{Document}
use Rattle.oak_doc.specs.declared.document.PrevEntry.{PrevEntry}
use Rattle.oak_doc.specs.Updates.{of_revision, values_of_property}
use Rattle.oak_read.specs.Meaning.{Documents, latest}
use Rattle.core_read.specs.Commits.{Sight}
use Rattle.core_read.specs.Holds.{has_revision, IsSameAt}
use Rattle.core_read.specs.Told.{IsIn}
use Rattle.core_keep.specs.Standing.{shows_node, HasEntryOf}
use Rattle.core_keep.specs.Keeps.{Course, edit_in, IsPrevious}

-- the documents are the same but for those at p
pub record IsChangeAt (ds now : Documents) (p : Path) : Type 0 where
  pub node : (q : Path) → IsFalse (eq_by_cmp path_cmp q p) → now (id.Node q) ≡ ds (id.Node q)
  pub previous : (k : ℕ) (q : Path) → IsFalse (eq_by_cmp path_cmp q p) → now (id.Prev k q)
      ≡ ds (id.Prev k q)

-- the node's document alone is changed, and it is d now
pub record IsMainAt (ds now : Documents) (p : Path) (d : Document) : Type 0 where
  pub elsewhere : IsChangeAt ds now p
  pub at : now (id.Node p) ≡ Some d
  pub previous_here : (k : ℕ) → now (id.Prev k p) ≡ ds (id.Prev k p)

-- the document has what there was, but for entries of these revisions, and nothing more is said to
-- be committed but what is
pub record IsSameBesides (c : Course) (own : Sight) (p : Path) (o : Option Document)
    (d : Document) : Type 0 where
  pub at : (q : Revision) → IsFalse (own q) → IsSameAt q o d
  pub said : (q : Revision) → IsFalse (own q) → IsTrue (has_revision o q)
      → IsTrue (has_revision (Some d) q)
  pub unsaid : (q : Revision) → edit_in c q ≡ None → IsFalse (c.old q) → IsFalse (has_revision o q)
      → IsFalse (has_revision (Some d) q)
  pub whole : d.prev ≡ option_map_or (λ d. d.prev) o []
  pub named : d.id ≡ id.Node p

-- entries that went: a bound sees each, and a later one that stands
pub record AreLeft {X : Type 0} (c : Course) (es left : List (Revision × X)) : Type 0 where
  pub each : (q : Revision) → (of_revision left q ≡ of_revision es q)
      ⊎ ((of_revision left q ≡ None) × IsTrue (c.bound q) × ((r : Revision)
      × IsTrue (is_before q r) × IsTrue (c.bound r) × IsTrue (is_some (of_revision left r))))

-- statuses and notes that went: a swept bound sees each
pub record AreNotes {X : Type 0} (c : Course) (es left : List (Revision × X)) : Type 0 where
  pub sub : (q : Revision) → IsTrue (is_some (of_revision left q))
      → IsTrue (is_some (of_revision es q))
  pub kept : (q : Revision) → IsFalse (c.swept q) → of_revision left q ≡ of_revision es q

-- of a document entries went, and statuses, and it lists no more previous documents, of which each
-- entry is seen by a bound that sees a later one that stands
pub record IsPruned (ds : Documents) (c : Course) (p : Path) (old d : Document) : Type 0 where
  -- entries may go, of the node and of each property
  pub deleted : AreLeft c old.deleted d.deleted
  pub props : (n : Name) → AreLeft c (values_of_property old.props n) (values_of_property d.props n)
  -- notes of commit roots may go, and statuses
  pub roots : AreNotes c old.commit_root d.commit_root
  pub revisions : AreNotes c old.revisions d.revisions
  -- previous documents may be listed no more: each entry of theirs a bound sees, and a later one
  -- that the bound sees too stays
  pub prev : (keep : PrevEntry → Bool) × (d.prev ≡ filter keep old.prev)
      × ((e : PrevEntry) → IsIn e old.prev → IsFalse (keep e) → (x : Document)
      → ds (id.Prev e.number p) ≡ Some x
      → (n : Name) (q : Revision) → IsTrue (is_some (of_revision (values_of_property x.props n) q))
      → IsTrue (c.bound q)
      × ((r : Revision) × IsTrue (is_before q r) × IsTrue (c.bound r)
      × IsTrue (is_some (of_revision (values_of_property d.props n) r))))
  pub named : d.id ≡ id.Node p

-- entries of properties went to a previous document x, which the document lists first now
pub record IsMoved (c : Course) (p : Path) (old d : Document) (e : PrevEntry)
    (x : Document) : Type 0 where
  -- the document lists the previous one first, and is else as it was, but for properties
  pub prev : d.prev ≡ e ∷ old.prev
  pub deleted : d.deleted ≡ old.deleted
  pub roots : d.commit_root ≡ old.commit_root
  pub revisions : d.revisions ≡ old.revisions
  pub named : d.id ≡ id.Node p
  -- each entry of a property is in one of the two, and not in both
  pub props : (n : Name) (q : Revision)
      → option_or (of_revision (values_of_property d.props n) q)
      (of_revision (values_of_property x.props n) q)
      ≡ of_revision (values_of_property old.props n) q
  pub parted : (n : Name) (q : Revision)
      → IsTrue (is_some (of_revision (values_of_property x.props n) q))
      → of_revision (values_of_property d.props n) q ≡ None
  -- what went has the commit root that it had
  pub noted : (n : Name) (q : Revision)
      → IsTrue (is_some (of_revision (values_of_property x.props n) q))
      → of_revision x.commit_root q ≡ of_revision old.commit_root q
  pub listed : IsPrevious c p d e.number x

-- entries of properties went from a document to x, and it has the rest as it was, but for the
-- previous documents that it lists
pub record IsParted (old d x : Document) : Type 0 where
  pub deleted : d.deleted ≡ old.deleted
  pub roots : d.commit_root ≡ old.commit_root
  pub revisions : d.revisions ≡ old.revisions
  pub collisions : d.collisions ≡ old.collisions
  pub touched : d.touched ≡ old.touched
  pub guard : d.guard ≡ old.guard
  pub named : d.id ≡ old.id
  pub props : (n : Name) (q : Revision)
      → option_or (of_revision (values_of_property d.props n) q)
      (of_revision (values_of_property x.props n) q)
      ≡ of_revision (values_of_property old.props n) q

-- a document may go whole with what it lists: bounds see each entry, swept bounds each status, and
-- the node is absent there
pub record IsUnwanted (c : Course) (p : Path) (old : Document) : Type 0 where
  pub entries : (q : Revision) → HasEntryOf q old → IsTrue (c.bound q)
  pub statuses : (q : Revision) → IsTrue (has_revision (Some old) q) → IsTrue (c.swept q)
  pub absent : option_and_then shows_node (latest (filter (λ e. c.bound e.0) old.deleted)) ≡ None

-- the documents are the same but for a previous document of the node at p
pub record IsPreviousAt (ds now : Documents) (p : Path) (k : ℕ) : Type 0 where
  pub node : (q : Path) → now (id.Node q) ≡ ds (id.Node q)
  pub elsewhere : (j : ℕ) (q : Path) → IsFalse (eq_by_cmp path_cmp q p) → now (id.Prev j q)
      ≡ ds (id.Prev j q)
  pub other : (j : ℕ) → (j ≡ k → ⊥) → now (id.Prev j p) ≡ ds (id.Prev j p)

-- the document of the node at p doesn't list this number
abbrev pub IsUnlisted : Documents → Path → ℕ → Type 0
IsUnlisted ds p k =
    (d : Document) → ds (id.Node p) ≡ Some d → (e : PrevEntry) → IsIn e d.prev → e.number ≡ k → ⊥
