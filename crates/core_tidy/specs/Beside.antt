-- What steps of others leave to a split or a collection.
use Rattle.std.specs.Prelude.{◌≡◌, ◌⊎◌, ◌++◌, ◌≤◌, ℕ}
use Rattle.jr_path.specs.declared.path.DocId.TheVariants as id
use Rattle.jr_path.specs.declared.path.Path.{Path}
use Rattle.jr_rev.specs.declared.vector.Pin.{Pin}
use Rattle.oak_doc.specs.declared.document.Document.{Document}
use Rattle.oak_machine.specs.History.{Past}
use Rattle.oak_read.specs.Meaning.{Documents, documents_in}
use Rattle.core_heads.specs.Sound.{IsGood, Seen}
use Rattle.core_keep.specs.Holding.{IsHoldingStep}
use Rattle.core_keep.specs.Steps.{IsMainAt, IsUnlisted}
use Rattle.core_tidy.specs.Ordered.{IsTableStep}
use Rattle.core_tidy.specs.Tidying.{HaveTheirNumbers}
use Rattle.core_world.specs.Copying.{IsCopied, LetsCopy}
use Rattle.core_world.specs.Held.{holding_in}
use Rattle.core_world.specs.Numbers.{AreNumbered, IsPassed, IsSplitting, last_number}
use Rattle.core_world.specs.States.{State, listed_at, nodes_in, origin}

-- a step from one state of a world to the next
pub record IsWorldStep (w u : State) : Type 0 where
  pub own : Past
  pub grown : u.past ≡ own ++ w.past
  pub clusters : u.clusters ≡ w.clusters
  pub sessions : u.sessions ≡ w.sessions
  pub begin : u.begin ≡ w.begin
  -- numbers come once, entries stay in order, and what is held rises
  pub table : IsTableStep w.table u.table
  pub holds : IsHoldingStep (holding_in w) (holding_in u)
  pub numbered : AreNumbered u.table u.formers
  pub own_numbers : HaveTheirNumbers u.formers

-- the step of one that keeps such copies leaves what the others have read and written
pub record LetsTidy (w u : State) (Keeps : Path → ℕ → Type 0) : Type 0 where
  pub step : IsWorldStep w u
  -- copies of others, also of a number of which the one that steps keeps a copy itself, where that
  -- is behind the node
  pub copies : (p : Path) (k : ℕ) (x : Document) → IsCopied w.table p k x
      → (Keeps p k → IsPassed w.table p k) → LetsCopy w.table u.table p k
  -- no previous document changes that is listed
  pub previous : (p : Path) (k : ℕ)
      → (documents_in u.table.documents (id.Prev k p)
      ≡ documents_in w.table.documents (id.Prev k p))
      ⊎ IsUnlisted (documents_in w.table.documents) p k
  -- what another split has read it may still move
  pub splits : (known : Documents) (pin : Pin) (p : Path) (old : Document)
      → IsGood w.begin w.past (Seen pin.base)
      → IsSplitting (origin w) w.past w.table w.formers known pin p old
      → IsSplitting (origin u) u.past u.table u.formers known pin p old

-- a step by which no former document is told of and no previous document changes, and of the nodes'
-- documents none, or one, which lists then what it listed
pub record IsPlainStep (w u : State) : Type 0 where
  pub own : Past
  pub grown : u.past ≡ own ++ w.past
  pub clusters : u.clusters ≡ w.clusters
  pub sessions : u.sessions ≡ w.sessions
  pub begin : u.begin ≡ w.begin
  pub formers : u.formers ≡ w.formers
  pub low : u.table.number ≤ last_number
  pub table : IsTableStep w.table u.table
  pub holds : IsHoldingStep (holding_in w) (holding_in u)
  pub previous : (k : ℕ) (p : Path) → documents_in u.table.documents (id.Prev k p)
      ≡ documents_in w.table.documents (id.Prev k p)
  pub nodes : ((p : Path) → nodes_in u.table p ≡ nodes_in w.table p)
      ⊎ ((p : Path) × (d : Document)
      × IsMainAt (documents_in w.table.documents) (documents_in u.table.documents) p d
      × (d.prev ≡ listed_at w.table p))
