-- What a document had when it listed a previous document of some number, and what is told of it
-- ever after.
use Rattle.std.specs.Prelude.{◌≡◌, ◌⊎◌, ◌==◌, ◌&&◌, ℕ, cond, List, [], Option, None, Some, is_some, IsTrue, IsFalse}
use Rattle.std.specs.Ordering.{eq_by_cmp}
use Rattle.jr_path.specs.Names.{path_cmp}
use Rattle.jr_path.specs.declared.name.Name.{Name}
use Rattle.jr_path.specs.declared.path.Path.{Path}
use Rattle.jr_path.specs.declared.path.DocId.TheVariants as id
use Rattle.jr_value.specs.declared.value.Property.{Property}
use Rattle.jr_rev.specs.declared.revision.Revision.{Revision}
use Rattle.jr_rev.specs.Revisions.{is_before}
use Rattle.jr_tree.specs.declared.edit.Write.{Write}
use Rattle.jr_tree.specs.Items.{put_of, written}
use Rattle.oak_doc.specs.declared.document.Document.{Document}
use Rattle.oak_doc.specs.declared.document.PrevEntry.{PrevEntry}
use Rattle.oak_doc.specs.Updates.{of_revision, values_of_property}
use Rattle.oak_read.specs.Meaning.{Documents, commit_root_of}
use Rattle.core_read.specs.Commits.{Sight}
use Rattle.core_read.specs.Holds.{has_revision}
use Rattle.core_read.specs.Told.{IsIn}
use Rattle.core_keep.specs.Standing.{all_at, values_in}
use Rattle.core_keep.specs.Keeps.{Course, edit_in, is_done}

-- a document as it was when it listed a previous document of some number, and the revisions that
-- were done then
pub record Former : Type 0 where
  pub document : Document
  pub done : Sight

-- a former document had this value of a property, of a revision that was done
abbrev pub Had : Former → Name → Revision → Option Property → Type 0
Had f n r x = IsTrue (f.done r) × (of_revision (values_of_property f.document.props n) r ≡ Some x)

-- an entry of a property stands in some documents
abbrev pub IsAmong : List Document → Name → Revision → Type 0
IsAmong all n r = IsTrue (is_some (of_revision (values_in n all) r))

-- a value of a property stands in some documents, or a later one does that is seen
abbrev pub IsKeptIn : Sight → List Document → Name → Revision → Option Property → Type 0
IsKeptIn s all n r x =
    (of_revision (values_in n all) r ≡ Some x)
    ⊎ ((q : Revision) × IsTrue (is_before r q) × IsTrue (s q) × IsAmong all n q)

-- of a former document of the node at p
pub record IsFormer (ds : Documents) (c : Course) (p : Path) (f : Former) : Type 0 where
  pub named : f.document.id ≡ id.Node p
  -- what was done is done
  pub done : (r : Revision) → IsTrue (f.done r) → IsTrue (is_done c r)
  -- the values are what commits write
  pub genuine : (n : Name) (r : Revision) (ws : List Write) (x : Option Property)
      → Had f n r x → edit_in c r ≡ Some ws → written (put_of p n) ws ≡ Some x
  -- each that no swept bound sees is said on the commit root that it noted
  pub said : (n : Name) (r : Revision) (x : Option Property)
      → Had f n r x → IsFalse (c.swept r)
      → IsTrue (has_revision (ds (commit_root_of f.document r)) r)

-- each value that a former document had stands at its path, or a later one does that a bound sees
abbrev pub IsFollowed : Documents → Course → Path → Former → Type 0
IsFollowed ds c p f = (n : Name) (r : Revision) (x : Option Property) → Had f n r x
    → IsKeptIn c.bound (all_at ds p) n r x

-- some documents show each value that a former one had and that is seen, or a later one
abbrev pub IsShownIn : Sight → Former → List Document → Type 0
IsShownIn v f all = (n : Name) (r : Revision) (x : Option Property) → Had f n r x
    → IsTrue (v r) → IsKeptIn v all n r x

-- a previous document has the former one's number, and no value but such as that had, with the same
-- commit roots
pub record IsCopyOf (p : Path) (k : ℕ) (f : Former) (x : Document) : Type 0 where
  pub numbered : f.document.mod_count ≡ k
  pub named : x.id ≡ id.Prev k p
  pub plain : x.deleted ≡ []
  pub had : (n : Name) (r : Revision) (y : Option Property)
      → of_revision (values_of_property x.props n) r ≡ Some y → Had f n r y
  pub roots : (n : Name) (r : Revision)
      → IsTrue (is_some (of_revision (values_of_property x.props n) r))
      → commit_root_of x r ≡ commit_root_of f.document r

-- of each node the former documents, by the numbers of the previous documents that they were the
-- first to list
abbrev pub Formers : Type 0
Formers = Path → ℕ → Option Former

-- what is told of former documents
pub record AreFormers (ds : Documents) (c : Course) (formers : Formers) : Type 0 where
  -- each listed previous document has one, which is followed
  pub listed : (p : Path) (d : Document) → ds (id.Node p) ≡ Some d → (e : PrevEntry) → IsIn e d.prev
      → (f : Former) × (formers p e.number ≡ Some f) × IsFollowed ds c p f
  pub former : (p : Path) (k : ℕ) (f : Former) → formers p k ≡ Some f → IsFormer ds c p f
  -- which has the number: the previous document is there, as long as it is listed
  pub there : (p : Path) (d : Document) → ds (id.Node p) ≡ Some d → (e : PrevEntry) → IsIn e d.prev
      → (f : Former) → formers p e.number ≡ Some f → f.document.mod_count ≡ e.number
      → IsTrue (is_some (ds (id.Prev e.number p)))
  -- a previous document of such a number is a copy of what it had
  pub copies : (p : Path) (k : ℕ) (f : Former) (x : Document)
      → formers p k ≡ Some f → ds (id.Prev k p) ≡ Some x → IsCopyOf p k f x

-- a step on documents and on what a journal tells
pub record StaysOn (ds now : Documents) (c later : Course) : Type 0 where
  -- commits, bounds and statuses stay
  pub edits : (r : Revision) (ws : List Write) → edit_in c r ≡ Some ws → edit_in later r ≡ Some ws
  pub bound : (r : Revision) → IsTrue (c.bound r) → IsTrue (later.bound r)
  pub swept : (r : Revision) → IsTrue (c.swept r) → IsTrue (later.swept r)
  -- what was there from the beginning is so still, and isn't committed
  pub old : (r : Revision) → IsTrue (c.old r) → IsTrue (later.old r) × (edit_in later r ≡ None)
  pub said : (p : Path) (r : Revision) (ws : List Write)
      → edit_in c r ≡ Some ws → IsFalse (c.swept r) → IsTrue (has_revision (ds (id.Node p)) r)
      → IsTrue (has_revision (now (id.Node p)) r)
  -- no list grows, and what is listed stays
  pub lists : (p : Path) (d : Document) → now (id.Node p) ≡ Some d → (e : PrevEntry) → IsIn e d.prev
      → (old : Document) × (ds (id.Node p) ≡ Some old) × IsIn e old.prev
      × (now (id.Prev e.number p) ≡ ds (id.Prev e.number p))
  -- where the document stands, so does each value that is done, or a later one
  pub stands : (p : Path) (d : Document) → now (id.Node p) ≡ Some d
      → (n : Name) (q : Revision) (x : Option Property)
      → IsTrue (is_done c q) → of_revision (values_in n (all_at ds p)) q ≡ Some x
      → IsKeptIn later.bound (all_at now p) n q x

-- the former documents that there were are among those that there are
abbrev pub FormersGrow : Formers → Formers → Type 0
FormersGrow formers more = (p : Path) (k : ℕ) (f : Former) → formers p k ≡ Some f
    → more p k ≡ Some f

-- a document becomes a former one: it lists a previous document of this number now
abbrev pub with_former : Formers → Path → ℕ → Former → Formers
with_former formers p k f q j = cond (eq_by_cmp path_cmp q p && (j == k)) (Some f) (formers q j)

-- a document as it is, with the revisions that are done now
abbrev pub former_now : Course → Document → Former
former_now c d = record { document = d; done = is_done c }
