-- What each kind of update does to what committers look at.
use Rattle.std.proofs.Common.{◌≡◌, true, false, ◌⊎◌, Some, Option, List, is_some}
use Rattle.jr_path.specs.declared.path.Path.{Path}
use Rattle.jr_path.specs.declared.path.Item.{Item}
use Rattle.jr_rev.specs.declared.revision.Revision.{Revision}
use Rattle.jr_rev.specs.declared.vector.RevVec.{RevVec}
use Rattle.jr_rev.specs.Vectors.{sees}
use Rattle.oak_clash.specs.declared.mark.Mark.{Mark}
use Rattle.oak_clash.specs.declared.mark.MarkAt.{MarkAt}
use Rattle.oak_clash.specs.Clashes.{clash, commit_root, Meets}
use Rattle.oak_doc.specs.declared.document.Document.{Document}
use Rattle.core_read.specs.Holds.{root_entry}
use Rattle.oak_commit.specs.Clashing.{Met, marked, noted, collision}
use Rattle.core_clash.specs.Views.{In, mark_at, AreOrdered}
use Rattle.core_clash.specs.Core.{Docs}
use Rattle.core_clash.specs.Sound.{IsRooted}

-- r writes the document of p with its marks ms
pub record Writes (a b : Docs) (r : Revision) (p : Path) (ms : List MarkAt) : Type 0 where
  pub ordered : (q : Path) → AreOrdered q (a q) → AreOrdered q (b q)
  pub keeps : (q : Path) (o : Revision) (m : Mark) → marked (a q) o m ≡ true → marked (b q) o m ≡ true
  pub adds : (m : Mark) → In (mark_at p m) ms → marked (b p) r m ≡ true
  pub only : (q : Path) (o : Revision) (m : Mark) → marked (b q) o m ≡ true → (marked (a q) o m ≡ true) ⊎ ((q ≡ p) × (o ≡ r) × In (mark_at p m) ms)
  pub notes : (q : Path) (o : Revision) → noted (b q) o ≡ noted (a q) o
  pub collisions : (q : Path) (o : Revision) → collision (b q) o ≡ collision (a q) o
  pub keeps_roots : (q : Path) (o : Revision) (root : Path) → IsRooted (a q) o root → ((q ≡ p) × (o ≡ r)) ⊎ IsRooted (b q) o root
  pub only_roots : (q : Path) (o : Revision) → is_some (root_entry (b q) o) ≡ true → ((q ≡ p) × (o ≡ r)) ⊎ (is_some (root_entry (a q) o) ≡ true)
  pub adds_root : (m : Mark) → In (mark_at p m) ms → is_some (root_entry (a p) r) ≡ false → IsRooted (b p) r (commit_root ms)

-- e is marked as the collision of o in the document of p, where there is none
pub record Marks (a b : Docs) (p : Path) (o : Revision) (e : Revision × Item) : Type 0 where
  pub ordered : (q : Path) → AreOrdered q (a q) → AreOrdered q (b q)
  pub free : noted (a p) o ≡ false
  pub marks : (q : Path) (x : Revision) (m : Mark) → marked (b q) x m ≡ marked (a q) x m
  pub notes : (q : Path) (x : Revision) → noted (b q) x ≡ noted (a q) x
  pub keeps : (q : Path) (x : Revision) → is_some (collision (a q) x) ≡ true → is_some (collision (b q) x) ≡ true
  pub adds : is_some (collision (b p) o) ≡ true
  pub only : (q : Path) (x : Revision) (f : Revision × Item) → collision (b q) x ≡ Some f → (collision (a q) x ≡ Some f) ⊎ ((x ≡ o) × (f ≡ e))
  pub keeps_roots : (q : Path) (x : Revision) (root : Path) → IsRooted (a q) x root → IsRooted (b q) x root
  pub only_roots : (q : Path) (x : Revision) → is_some (root_entry (b q) x) ≡ true → is_some (root_entry (a q) x) ≡ true

-- r is noted as committed in the document of p, where it has no collision
pub record Notes (a b : Docs) (p : Path) (r : Revision) : Type 0 where
  pub ordered : (q : Path) → AreOrdered q (a q) → AreOrdered q (b q)
  pub free : is_some (collision (a p) r) ≡ false
  pub marks : (q : Path) (o : Revision) (m : Mark) → marked (b q) o m ≡ marked (a q) o m
  pub keeps : (q : Path) (o : Revision) → noted (a q) o ≡ true → noted (b q) o ≡ true
  pub adds : noted (b p) r ≡ true
  pub only : (q : Path) (o : Revision) → noted (b q) o ≡ true → (noted (a q) o ≡ true) ⊎ (o ≡ r)
  pub collisions : (q : Path) (o : Revision) → collision (b q) o ≡ collision (a q) o
  pub keeps_roots : (q : Path) (x : Revision) (root : Path) → IsRooted (a q) x root → IsRooted (b q) x root
  pub only_roots : (q : Path) (x : Revision) → is_some (root_entry (b q) x) ≡ true → is_some (root_entry (a q) x) ≡ true

-- the entries of r go from the document of p
pub record Undoes (a b : Docs) (p : Path) (r : Revision) : Type 0 where
  pub ordered : (q : Path) → AreOrdered q (a q) → AreOrdered q (b q)
  pub keeps : (q : Path) (o : Revision) (m : Mark) → marked (a q) o m ≡ true → ((q ≡ p) × (o ≡ r)) ⊎ (marked (b q) o m ≡ true)
  pub only : (q : Path) (o : Revision) (m : Mark) → marked (b q) o m ≡ true → marked (a q) o m ≡ true
  pub gone : (m : Mark) → marked (b p) r m ≡ true → ⊥
  pub keeps_notes : (q : Path) (o : Revision) → noted (a q) o ≡ true → (o ≡ r) ⊎ (noted (b q) o ≡ true)
  pub only_notes : (q : Path) (o : Revision) → noted (b q) o ≡ true → noted (a q) o ≡ true
  pub collisions : (q : Path) (o : Revision) → collision (b q) o ≡ collision (a q) o
  pub keeps_roots : (q : Path) (o : Revision) (root : Path) → IsRooted (a q) o root → ((q ≡ p) × (o ≡ r)) ⊎ IsRooted (b q) o root
  pub only_roots : (q : Path) (o : Revision) → is_some (root_entry (b q) o) ≡ true → is_some (root_entry (a q) o) ≡ true
  pub gone_root : is_some (root_entry (b p) r) ≡ true → ⊥

-- these are the marks that a document has of o
abbrev pub AreMarksOf : Option Document → Revision → Path → List MarkAt → Type 0
AreMarksOf doc o p os = ((n : Mark) → In (mark_at p n) os → marked doc o n ≡ true) × ((n : Mark) → marked doc o n ≡ true → In (mark_at p n) os)

-- what is met: another outside the base, by a mark in the document
pub record IsMet (base : RevVec) (r : Revision) (p : Path) (ms : List MarkAt) (doc : Option Document) (f : Met) : Type 0 where
  pub apart : f.other ≡ r → ⊥
  pub outside : sees base f.other ≡ false
  pub mark : (n : Mark) × (marked doc f.other n ≡ true)
  pub mine : (os : List MarkAt) → AreMarksOf doc f.other p os → Meets ms os f.mine
  pub theirs : (os : List MarkAt) → AreMarksOf doc f.other p os → Meets os ms f.theirs

-- what r meets in the document of p before it writes it
pub record Meeting (base : RevVec) (r : Revision) (p : Path) (ms : List MarkAt) (doc : Option Document) (fs : List Met) : Type 0 where
  pub each : (f : Met) → In f fs → IsMet base r p ms doc f
  pub all : (o : Revision) (m n : Mark) → (r ≡ o → ⊥) → sees base o ≡ false → In (mark_at p m) ms → marked doc o n ≡ true → clash m n ≡ true → (f : Met) × In f fs × (f.other ≡ o)
