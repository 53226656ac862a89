-- Which bytes are the text of a revision or of a vector, and where other bytes go wrong.
use Rattle.std.specs.Prelude.{◌≡◌, ℕ, ◌+◌, ◌<◌, ◌≤◌, ◌^◌, List, ◌∷◌, ◌++◌, length, take}
use Rattle.std.specs.List.{AllZip, join_with_byte}
use Rattle.jr_rev.specs.Digits.{Spells}
use Rattle.jr_rev.specs.Vectors.{Entries, IsVector, revisions_of}
use Rattle.jr_rev.specs.declared.revision.Revision.{Revision}

-- r<time>-<counter>-<cluster>, each in hexadecimal digits
pub record IsRevisionText (text : List ℕ) (r : Revision) : Type 0 where
  pub time : List ℕ
  pub counter : List ℕ
  pub cluster : List ℕ
  pub is_time : Spells 16 time r.time
  pub is_counter : Spells 8 counter r.counter
  pub is_cluster : Spells 8 cluster r.cluster
  pub spelled : text ≡ 114 ∷ (time ++ (45 ∷ (counter ++ (45 ∷ cluster))))

-- the text of some revision
abbrev pub IsSomeRevisionText : List ℕ → Type 0
IsSomeRevisionText text = (r : Revision) × IsRevisionText text r

-- the texts of its revisions, in the order of their cluster nodes, with a comma between two
pub record IsVectorText (text : List ℕ) (v : Entries) : Type 0 where
  pub vector : IsVector v
  pub texts : List (List ℕ)
  pub each : AllZip IsRevisionText texts (revisions_of v)
  pub joined : text ≡ join_with_byte 44 texts

-- the text of some vector
abbrev pub IsSomeVectorText : List ℕ → Type 0
IsSomeVectorText text = (v : Entries) × IsVectorText text v

-- some text of this kind begins so
abbrev pub Begins : (List ℕ → Type 0) → List ℕ → Type 0
Begins IsText front = (more : List ℕ) × IsText (front ++ more)

-- the first byte, or the end, that no text of this kind has there
pub record IsTextFault (IsText : List ℕ → Type 0) (text : List ℕ) (offset : ℕ) : Type 0 where
  pub within : offset ≤ length text
  pub before : Begins IsText (take offset text)
  pub there : offset < length text → Begins IsText (take (offset + 1) text) → ⊥
  pub at_end : offset ≡ length text → IsText text → ⊥

-- the numbers of the revision fit its fields
pub record FitsFields (r : Revision) : Type 0 where
  pub time : r.time < 2 ^ 64
  pub counter : r.counter < 2 ^ 32
  pub cluster : r.cluster < 2 ^ 32
