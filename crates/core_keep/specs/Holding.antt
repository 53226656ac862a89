-- What is held while a collection reads its bound node by node.
use Rattle.std.specs.Prelude.{◌≡◌, ◌⊎◌, ℕ, Bool, List, [], ◌∷◌, IsTrue, IsFalse}
use Rattle.jr_rev.specs.declared.vector.Pin.{Pin}
use Rattle.jr_rev.specs.Vectors.{is_below}
use Rattle.core_read.specs.Told.{IsIn}

-- at a moment: the head of each cluster node with its sweep vector, its pins, and whether it takes
-- part no more, as one that was recovered or is none; and what the settings keep
pub record Holding : Type 0 where
  pub heads : ℕ → Pin
  pub pins : ℕ → List Pin
  pub gone : ℕ → Bool
  pub kept : List Pin

-- a pair is at most another, in both vectors
abbrev pub IsPairBelow : Pin → Pin → Type 0
IsPairBelow a b = IsTrue (is_below a.base b.base) × IsTrue (is_below a.sweep b.sweep)

-- a step: heads rise; a pin is one of its node or goes to its head; what the settings keep they
-- kept, or it is a pin of a node; who is gone stays so, and pins nothing
pub record IsHoldingStep (a b : Holding) : Type 0 where
  pub heads : (k : ℕ) → IsPairBelow (a.heads k) (b.heads k)
  pub pins : (k : ℕ) (x : Pin) → IsFalse (b.gone k) → IsIn x (b.pins k) → IsIn x (a.pins k)
      ⊎ (x ≡ a.heads k)
  pub kept : (x : Pin) → IsIn x b.kept → IsIn x a.kept
      ⊎ ((k : ℕ) × IsFalse (a.gone k) × IsIn x (a.pins k))
  pub gone : (k : ℕ) → IsTrue (a.gone k) → IsTrue (b.gone k)

-- steps lead from one moment over others to another
abbrev pub Leads : List Holding → Holding → Holding → Type 0
Leads [] a b = a ≡ b
Leads (x ∷ xs) a b = IsHoldingStep a x × Leads xs x b

-- a bound was read: each cluster node's head and pins, if it wasn't gone, at a moment of its own,
-- and then, last, the settings; and it is at most all of these
pub record IsBoundRead (bound : Pin) (last : Holding) : Type 0 where
  pub at : ℕ → Holding
  pub way : ℕ → List Holding
  pub leads : (k : ℕ) → Leads (way k) (at k) last
  pub head : (k : ℕ) → IsFalse ((at k).gone k) → IsPairBelow bound ((at k).heads k)
  pub pins : (k : ℕ) → IsFalse ((at k).gone k) → (x : Pin) → IsIn x ((at k).pins k)
      → IsPairBelow bound x
  pub kept : (x : Pin) → IsIn x last.kept → IsPairBelow bound x

-- at a moment the bound is at most all that is held, and each head
pub record IsBelowAll (bound : Pin) (h : Holding) : Type 0 where
  pub head : (k : ℕ) → IsFalse (h.gone k) → IsPairBelow bound (h.heads k)
  pub pins : (k : ℕ) → IsFalse (h.gone k) → (x : Pin) → IsIn x (h.pins k) → IsPairBelow bound x
  pub kept : (x : Pin) → IsIn x h.kept → IsPairBelow bound x
