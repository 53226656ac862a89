-- A reader that goes document by document, while documents and journal go on: the node's document,
-- then the previous documents that this lists, then commit roots.
use Rattle.std.specs.Prelude.{◌≡◌, ◌⊎◌, ◌==◌, ◌||◌, ℕ, Bool, true, cond, List, [], ◌∷◌, Option, None, Some, is_some, IsTrue, IsFalse}
use Rattle.std.specs.List.{filter, filter_map}
use Rattle.jr_path.specs.declared.name.Name.{Name}
use Rattle.jr_path.specs.declared.path.Path.{Path}
use Rattle.jr_path.specs.declared.path.DocId.TheVariants as id
use Rattle.jr_rev.specs.declared.revision.Revision.{Revision}
use Rattle.jr_rev.specs.Revisions.{is_before}
use Rattle.jr_tree.specs.Trees.{born_at, property_at}
use Rattle.jr_tree.specs.Items.{put_of}
use Rattle.oak_doc.specs.declared.document.Document.{Document}
use Rattle.oak_doc.specs.declared.document.PrevEntry.{PrevEntry}
use Rattle.oak_doc.specs.Updates.{of_revision, values_of_property}
use Rattle.oak_read.specs.Meaning.{Documents, commit_root_of, latest}
use Rattle.core_read.specs.Commits.{Sight, last_entry}
use Rattle.core_read.specs.Holds.{has_revision}
use Rattle.core_read.specs.Told.{IsIn}
use Rattle.core_keep.specs.Standing.{gone_of, gone_in, values_in, shows_node, shows_value, HasEntryOf}
use Rattle.core_keep.specs.Keeps.{Course, is_done, Matches}
use Rattle.core_keep.specs.Steps.{IsUnlisted}

-- what a reader goes by: its copy of the node's document, and for each number that it lists what it
-- found, or will find
abbrev pub gone_by : Document → (ℕ → Option Document) → List Document
gone_by copy look = copy ∷ filter_map (λ e. look e.number) copy.prev

-- a later entry of a property, which is seen, stands in a document
abbrev pub HasLater : Sight → Document → Name → Revision → Type 0
HasLater v d n r =
    (q : Revision) × IsTrue (is_before r q) × IsTrue (v q)
    × IsTrue (is_some (of_revision (values_of_property d.props n) q))

-- each entry of a previous document that is seen has a later one in a document
abbrev pub IsOutdone : Sight → Document → Document → Type 0
IsOutdone v d x =
    (n : Name) (r : Revision) → IsTrue (v r)
    → IsTrue (is_some (of_revision (values_of_property x.props n) r)) → HasLater v d n r

-- the node's document lists the number
abbrev pub IsListed : Documents → Path → ℕ → Type 0
IsListed ds p k =
    (d : Document) × (ds (id.Node p) ≡ Some d) × ((e : PrevEntry) × IsIn e d.prev × (e.number ≡ k))

-- a reader that has a copy of the node's document, and has asked for some of the previous
-- documents, reads the tree: what it goes by shows what the commits show that its base sees, the
-- status of each is said; of what it will ask for it goes by what is there, which is listed still
-- or outdone by the copy, or by nothing
pub record Reads (ds : Documents) (c : Course) (v t : Sight) (p : Path) (copy : Document)
    (asked : ℕ → Bool) (look : ℕ → Option Document) : Type 0 where
  -- what it will find of a listed one that it hasn't asked for is there now, or nothing
  pub follows : (e : PrevEntry) → IsIn e copy.prev → IsFalse (asked e.number)
      → (look e.number ≡ ds (id.Prev e.number p)) ⊎ (look e.number ≡ None)
  -- what it goes by shows the node and its properties as its base sees them
  pub node :
      Matches shows_node (born_at c.tree p) (last_entry (gone_of p) v c.commits)
      (latest (filter (λ e. v e.0) (gone_in (gone_by copy look))))
  pub prop : (n : Name)
      → Matches shows_value (property_at c.tree p n) (last_entry (put_of p n) v c.commits)
      (latest (filter (λ e. v e.0) (values_in n (gone_by copy look))))
  pub named : copy.id ≡ id.Node p
  -- a previous document that it goes by has its own id, and no entry of the node
  pub previous : (e : PrevEntry) → IsIn e copy.prev → (x : Document) → look e.number ≡ Some x
      → (x.id ≡ id.Prev e.number p) × (x.deleted ≡ [])
  -- each entry that it sees is of what is done, and of what its sweep vector doesn't see the
  -- commit root says so
  pub done : (x : Document) → IsIn x (gone_by copy look) → (r : Revision) → IsTrue (v r)
      → HasEntryOf r x → IsTrue (is_done c r)
  pub said : (x : Document) → IsIn x (gone_by copy look) → (r : Revision) → IsTrue (v r)
      → IsFalse (t r) → HasEntryOf r x → IsTrue (has_revision (ds (commit_root_of x r)) r)
  -- the document has no entry that the reader sees but of what its copy has
  pub within : (d : Document) → ds (id.Node p) ≡ Some d → (n : Name) (q : Revision) → IsTrue (v q)
      → IsTrue (is_some (of_revision (values_of_property d.props n) q))
      → IsTrue (is_some (of_revision (values_of_property copy.props n) q))
  -- what it hasn't asked for is still listed, or the copy outdoes it
  pub left : (e : PrevEntry) → IsIn e copy.prev → IsFalse (asked e.number) → (x : Document)
      → look e.number ≡ Some x → IsListed ds p e.number ⊎ IsOutdone v copy x

-- what others do between two steps of such a reader: no commit that it sees comes, what is said
-- stays said; the node's document gets no entry that it sees, and lists no more only what the
-- document outdoes; and of the previous documents that it will ask for just those change that
-- nobody lists
pub record GoesOn (ds now : Documents) (c later : Course) (v t : Sight) (p : Path) (copy : Document)
    (asked : ℕ → Bool) : Type 0 where
  pub tree : later.tree ≡ c.tree
  -- of the node and each property the last commit that the reader sees stays
  pub node_last : last_entry (gone_of p) v later.commits ≡ last_entry (gone_of p) v c.commits
  pub prop_last : (n : Name) → last_entry (put_of p n) v later.commits
      ≡ last_entry (put_of p n) v c.commits
  -- what is done stays so, and what is said of what the reader sees stays said
  pub done : (r : Revision) → IsTrue (is_done c r) → IsTrue (is_done later r)
  pub said : (q : Path) (r : Revision) → IsTrue (is_done c r) → IsTrue (v r) → IsFalse (t r)
      → IsTrue (has_revision (ds (id.Node q)) r) → IsTrue (has_revision (now (id.Node q)) r)
  -- the node's document gets no entry that the reader sees
  pub sub : (d : Document) → now (id.Node p) ≡ Some d → (n : Name) (q : Revision) → IsTrue (v q)
      → IsTrue (is_some (of_revision (values_of_property d.props n) q))
      → (old : Document) × (ds (id.Node p) ≡ Some old)
      × IsTrue (is_some (of_revision (values_of_property old.props n) q))
  -- only what the document outdoes is listed no more
  pub list : (k : ℕ) (x : Document) → ds (id.Prev k p) ≡ Some x → IsListed ds p k → IsListed now p k
      ⊎ ((old : Document) × (ds (id.Node p) ≡ Some old) × IsOutdone v old x)
  -- which of the previous documents stay; those that don't are listed by nobody
  pub stays : ℕ → Bool
  pub previous : (e : PrevEntry) → IsIn e copy.prev → IsFalse (asked e.number)
      → (IsTrue (stays e.number) × (now (id.Prev e.number p) ≡ ds (id.Prev e.number p)))
      ⊎ (IsFalse (stays e.number) × IsUnlisted ds p e.number)

-- a number more was asked
abbrev pub asked_too : (ℕ → Bool) → ℕ → ℕ → Bool
asked_too asked k j = cond (j == k) true (asked j)

-- what a reader goes by after others went on: what it found, and of what it will ask for what
-- stayed
abbrev pub look_on : (ℕ → Bool) → (ℕ → Bool) → (ℕ → Option Document) → ℕ → Option Document
look_on asked stays look k = cond (asked k || stays k) (look k) None

-- what it goes by where it asks for one more: what is there
abbrev pub look_too : (ℕ → Option Document) → ℕ → Option Document → ℕ → Option Document
look_too look k o j = cond (j == k) o (look j)

-- what a reader knows in the end: its copy, what it found of what this lists, and commit roots that
-- say each status that it needs
pub record Knows (known : Documents) (v t : Sight) (p : Path) (copy : Document)
    (look : ℕ → Option Document) : Type 0 where
  pub main : known (id.Node p) ≡ Some copy
  pub previous : (e : PrevEntry) → IsIn e copy.prev → known (id.Prev e.number p) ≡ look e.number
  pub said : (x : Document) → IsIn x (gone_by copy look) → (r : Revision) → IsTrue (v r)
      → IsFalse (t r) → HasEntryOf r x → IsTrue (has_revision (known (commit_root_of x r)) r)
