-- What holds of a reader between its steps, while commits, splits and collections go on.
use Rattle.std.specs.Prelude.{◌≡◌, ℕ, Bool, true, false, List, [], ◌∷◌, Option, None, Some, is_some, is_none, IsTrue, IsFalse}
use Rattle.std.specs.Map.{lookup}
use Rattle.std.specs.BTreeMap.{is_at}
use Rattle.std.specs.FinMap.{is_sorted}
use Rattle.std.specs.List.{list_all}
use Rattle.std.specs.Ordering.{is_le, is_lt}
use Rattle.jr_path.specs.Ids.{id_cmp}
use Rattle.jr_path.specs.declared.path.Path.{Path}
use Rattle.jr_path.specs.declared.path.DocId.{DocId}
use Rattle.jr_path.specs.declared.path.DocId.TheVariants as id
use Rattle.jr_rev.specs.declared.revision.Revision.{Revision}
use Rattle.jr_rev.specs.declared.vector.RevVec.{RevVec}
use Rattle.jr_rev.specs.declared.vector.Pin.{Pin}
use Rattle.jr_rev.specs.Vectors.{sees}
use Rattle.jr_tree.specs.Trees.{Nodes}
use Rattle.oak_doc.specs.declared.document.Document.{Document}
use Rattle.oak_doc.specs.declared.document.PrevEntry.{PrevEntry}
use Rattle.oak_read.specs.Meaning.{Documents, documents_in, commit_root_of}
use Rattle.oak_read.specs.Wanted.{Known, Ids}
use Rattle.oak_read.specs.declared.reader.Reader.{Reader}
use Rattle.oak_read.specs.declared.reader.Step.{Step}
use Rattle.oak_read.specs.declared.reader.Step.TheVariants as step
use Rattle.oak_machine.specs.declared.event.Start.{Start}
use Rattle.oak_machine.specs.History.{Past}
use Rattle.oak_machine.specs.Commits.{tree_at}
use Rattle.core_read.specs.Holds.{has_revision}
use Rattle.core_read.specs.Told.{IsIn}
use Rattle.core_keep.specs.From.{course_from}
use Rattle.core_keep.specs.Keeps.{Course}
use Rattle.core_keep.specs.Readers.{gone_by, GoesOn, Reads}
use Rattle.core_keep.specs.Formers.{Former, Formers, IsShownIn}
use Rattle.core_watch.specs.Standing.{HasEntry, is_known_or_left, Child, HasNames, HasBegun, IsOnWay, IsNodeOf, AreChildrenOf}

-- a copy of the document of the node at p: by it and by the previous documents that it lists the
-- tree is read there; it says all that the document says of what v sees and t doesn't; and of each
-- number that it lists there is a former document, which is shown
pub record IsCopy (ds : Documents) (c : Course) (formers : Formers) (v t : RevVec) (p : Path)
    (d : Document) : Type 0 where
  pub look : ℕ → Option Document
  pub reads : Reads ds c (sees v) (sees t) p d (λ k. false) look
  pub said : (q : Revision) → IsTrue (sees v q) → IsFalse (sees t q)
      → IsTrue (has_revision (ds (id.Node p)) q) → IsTrue (has_revision (Some d) q)
  pub listed : (e : PrevEntry) → IsIn e d.prev → (f : Former) × (formers p e.number ≡ Some f)
      × IsShownIn (sees v) f (gone_by d look)

-- what is known are copies of nodes' documents, in store order, and previous documents
pub record AreCopies (ds : Documents) (c : Course) (formers : Formers) (v t : RevVec)
    (known : Known) : Type 0 where
  pub rising : IsTrue (is_sorted id_cmp known)
  pub each : (p : Path) (d : Document) → documents_in known (id.Node p) ≡ Some d
      → IsCopy ds c formers v t p d

-- what is left to be read stands in store order, and isn't known
pub record AreToRead (known : Known) (left : Ids) : Type 0 where
  pub rising : IsTrue (is_sorted id_cmp left)
  pub unknown : IsTrue (list_all (λ e. is_none (documents_in known e.0)) left)

-- the id is among those left
abbrev pub is_left : Ids → DocId → Bool
is_left left x = is_some (lookup (is_at (id_cmp x)) left)

-- a previous document isn't left any more
abbrev pub is_asked : Ids → Path → ℕ → Bool
is_asked left p k = is_none (lookup (is_at (id_cmp (id.Prev k p))) left)

-- the node's document is known, and of the previous documents that it lists just those are left
-- that weren't asked for; of the others what was found is known; and each former document is shown
pub record IsAsking (ds : Documents) (c : Course) (formers : Formers) (v t : RevVec) (known : Known)
    (left : Ids) (p : Path) : Type 0 where
  pub document : Document
  pub there : documents_in known (id.Node p) ≡ Some document
  pub look : ℕ → Option Document
  pub reads : Reads ds c (sees v) (sees t) p document (is_asked left p) look
  pub found : (e : PrevEntry) → IsIn e document.prev → IsTrue (is_asked left p e.number)
      → documents_in known (id.Prev e.number p) ≡ look e.number
  pub waiting : AreToRead known left
  pub previous : (x : DocId) → IsTrue (is_left left x) → (e : PrevEntry) × IsIn e document.prev
      × (x ≡ id.Prev e.number p)
  pub listed : (e : PrevEntry) → IsIn e document.prev → (f : Former) × (formers p e.number ≡ Some f)
      × IsShownIn (sees v) f (gone_by document look)

-- all of these were asked for; and of the entries that v sees and t doesn't each commit root is
-- known or left
pub record AreRootsAsked (ds : Documents) (c : Course) (v t : RevVec) (known : Known) (left : Ids)
    (whole : Bool) (p : Path) : Type 0 where
  pub document : Document
  pub there : documents_in known (id.Node p) ≡ Some document
  pub look : ℕ → Option Document
  pub reads : Reads ds c (sees v) (sees t) p document (λ k. true) look
  pub found : (e : PrevEntry) → IsIn e document.prev → documents_in known (id.Prev e.number p)
      ≡ look e.number
  pub roots : (x : Document) → IsIn x (gone_by document look) → (q : Revision) → IsTrue (sees v q)
      → IsFalse (sees t q) → HasEntry whole x q
      → IsTrue (is_known_or_left known left (commit_root_of x q))
  pub waiting : AreToRead known left
  pub nodes : (x : DocId) → IsTrue (is_left left x) → (q : Path) × (x ≡ id.Node q)

-- no previous document of a node behind this one is known
abbrev pub IsUnknownBehind : Path → Known → Type 0
IsUnknownBehind at known =
    (q : Path) (k : ℕ) → IsTrue (is_lt (id_cmp (id.Node at) (id.Node q)))
    → documents_in known (id.Prev k q) ≡ None

module _ (ds : Documents) (c : Course) (formers : Formers) (tree : Nodes) (pin : Pin) where
  -- what is so at a step
  abbrev pub Stands : Option Path → Path → Known → List Child → Step → Type 0
  Stands None at known names step.Main = known ≡ []
  Stands (Some p) at known names step.Main = HasBegun p at names × (known ≡ [])
  Stands None at known names step.Next = ⊥
  Stands (Some p) at known names step.Next = HasNames is_le tree p at names
      × IsUnknownBehind at known
  Stands parent at known names (step.Previous left) =
      IsAsking ds c formers pin.base pin.sweep known ((left.first, tt) ∷ left.rest) at
      × IsOnWay is_lt tree parent at names × IsUnknownBehind at known
  Stands parent at known names (step.Roots left) =
      AreRootsAsked ds c pin.base pin.sweep known ((left.first, tt) ∷ left.rest) (is_none parent) at
      × IsOnWay is_lt tree parent at names × IsUnknownBehind at known
  Stands None at known names (step.Done o) = IsNodeOf tree at o
  Stands (Some p) at known names (step.Done o) = AreChildrenOf tree p o

-- a reader of a node or of children reads the tree at its base: what it knows are copies of
-- documents, and it stands where its step says
pub record ReadsTree (start : Start) (ds : Documents) (past : Past) (formers : Formers) (r : Reader)
    : Type 0 where
  pub copies : AreCopies ds (course_from start past) formers r.pin.base r.pin.sweep r.known
  pub stands :
      Stands ds (course_from start past) formers (tree_at (Some start) past r.pin.base) r.pin
      r.parent r.at r.known r.names r.step

-- between two moments nothing changed that a reader at a pin sees
pub record ReadsOn (start : Start) (pin : Pin) (ds now : Documents)
    (past later : Past) : Type 0 where
  pub tree : tree_at (Some start) later pin.base ≡ tree_at (Some start) past pin.base
  -- no status came of what its base sees and its sweep vector doesn't
  pub silent : (p : Path) (q : Revision) → IsTrue (sees pin.base q) → IsFalse (sees pin.sweep q)
      → IsTrue (has_revision (now (id.Node p)) q) → IsTrue (has_revision (ds (id.Node p)) q)
  -- and each reader of a document goes on
  pub goes : (p : Path) (copy : Document) (asked : ℕ → Bool)
      → GoesOn ds now (course_from start past) (course_from start later) (sees pin.base)
      (sees pin.sweep)
      p copy asked
