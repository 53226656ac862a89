-- The revisions of a vector's text, read from a place on.
use Rattle.std.specs.Prelude.{◌≡◌, ◌≢◌, ℕ, ◌+◌, ◌-◌, ◌<◌, ◌≤◌, ◌⊎◌, List, [], ◌∷◌, ◌++◌, None, length, drop, slice_index, slice_index_or}
use Rattle.jr_rev.specs.Grammar.{IsRevisionText, IsTextFault}
use Rattle.jr_rev.specs.Vectors.{Entries, IsVector, revisions_of}
use Rattle.jr_rev.specs.declared.revision.Revision.{Revision}

-- the text of a revision of a cluster node from k to 8, and behind it what is asked
pub record Listed (k : ℕ) (r : Revision) (Behind : List ℕ → Type 0) (text : List ℕ) : Type 0 where
  pub low : k ≤ r.cluster
  pub high : r.cluster ≤ 8
  pub piece : List ℕ
  pub rest : List ℕ
  pub is : IsRevisionText piece r
  pub split : text ≡ piece ++ rest
  pub behind : Behind rest

-- a comma and a text before each revision, with rising cluster nodes from k on
abbrev pub IsBehind : ℕ → List Revision → List ℕ → Type 0
IsBehind k [] text = text ≡ []
IsBehind k (r ∷ rs) text = (more : List ℕ) × (text ≡ 44 ∷ more) × Listed k r (IsBehind (r.cluster + 1) rs) more

-- one revision or more, with rising cluster nodes from k on
abbrev pub AreListedRevisions : ℕ → List ℕ → Type 0
AreListedRevisions k text = (r : Revision) × (rs : List Revision) × Listed k r (IsBehind (r.cluster + 1) rs) text

-- no entry below that of node k
abbrev pub IsClear : ℕ → Entries → Type 0
IsClear k v = (i : ℕ) → i + 1 < k → slice_index_or v i None ≡ None

-- the vector has just the revisions of the text
pub record Reads (k : ℕ) (text : List ℕ) (v : Entries) : Type 0 where
  pub vector : IsVector v
  pub clear : IsClear k v
  pub first : Revision
  pub others : List Revision
  pub revisions : revisions_of v ≡ first ∷ others
  pub listed : Listed k first (IsBehind (first.cluster + 1) others) text

-- where the list of revisions that begins at a place first goes wrong
abbrev pub MissesList : ℕ → List ℕ → ℕ → ℕ → Type 0
MissesList k text at offset = (at ≤ offset) × IsTextFault (AreListedRevisions k) (drop at text) (offset - at)

-- a dash stands at a place, and behind it the digit of a cluster node from k to 8
pub record TakesCluster (k : ℕ) (text : List ℕ) (at cluster : ℕ) : Type 0 where
  pub within : at + 1 < length text
  pub dash : slice_index text at ≡ 45
  pub digit : slice_index text (at + 1) ≡ 48 + cluster
  pub low : k ≤ cluster
  pub high : cluster ≤ 8

-- the dash isn't there, or no such digit is behind it
abbrev pub MissesCluster : ℕ → List ℕ → ℕ → ℕ → Type 0
MissesCluster k text at offset =
    ((offset ≡ at) × (at < length text → slice_index text at ≢ 45))
    ⊎ ((offset ≡ at + 1) × (at < length text) × (slice_index text at ≡ 45) × (at + 1 < length text → (c : ℕ) → k ≤ c → c ≤ 8 → slice_index text (at + 1) ≢ 48 + c))
