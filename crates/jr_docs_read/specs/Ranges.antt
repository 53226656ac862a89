-- Which documents a store can hold: each id, revision, vector and value is in its range.
use Rattle.std.specs.Prelude.{◌≡◌, ℕ, ◌<◌, ◌^◌, All, FitsSigned, List, length, Option, None, Some}
use Rattle.std.specs.Int.{w64}
use Rattle.std.specs.List.Sorted.{IsStrictlySortedBy}
use Rattle.std.specs.Map.{keys_of}
use Rattle.std.specs.Ordering.{nat_cmp}
use Rattle.std.specs.declared.cmp.Ordering.{Ordering}
use Rattle.jr_path.specs.Grammar.{IsName}
use Rattle.jr_path.specs.Names.{item_path, name_cmp}
use Rattle.jr_path.specs.declared.name.Name.{Name}
use Rattle.jr_path.specs.declared.path.DocId.{DocId}
use Rattle.jr_path.specs.declared.path.DocId.TheVariants.{Node, Prev, Settings}
use Rattle.jr_path.specs.declared.path.Item.{Item}
use Rattle.jr_path.specs.declared.path.Path.{Path}
use Rattle.jr_rev.specs.Grammar.{FitsFields}
use Rattle.jr_rev.specs.Revisions.{revision_cmp}
use Rattle.jr_rev.specs.Vectors.{Entries, IsVector, revisions_of}
use Rattle.jr_rev.specs.declared.revision.Revision.{Revision}
use Rattle.jr_rev.specs.declared.vector.Pin.{Pin}
use Rattle.jr_value.specs.Ranges.{IsReadableProperty}
use Rattle.jr_value.specs.declared.value.Property.{Property}
use Rattle.jr_value.specs.declared.value.Property.TheVariants.{Single, Many}
use Rattle.jr_value.specs.declared.value.Value.{Value}
use Rattle.jr_value.specs.declared.value.Value.TheVariants as value
use Rattle.oak_doc.specs.declared.document.Document.{Document}
use Rattle.oak_doc.specs.declared.document.PrevEntry.{PrevEntry}

-- the names of a path are in the grammar, and fewer than 2^64
pub record IsPathInRange (p : Path) : Type 0 where
  pub names : All IsName p
  pub depth : length p < 2 ^ 64

-- the path of an id, and the number of a previous document
abbrev pub IsIdInRange : DocId → Type 0
IsIdInRange (Node p) = IsPathInRange p
IsIdInRange (Prev n p) = (n < 2 ^ 64) × IsPathInRange p
IsIdInRange Settings = Unit {0}

-- a vector of revisions that fit
pub record IsVectorInRange (v : Entries) : Type 0 where
  pub vector : IsVector v
  pub fits : All FitsFields (revisions_of v)

-- a vector and its sweep vector
pub record IsPinInRange (p : Pin) : Type 0 where
  pub base : IsVectorInRange p.base
  pub sweep : IsVectorInRange p.sweep

-- the marking revision, and the path of the item
pub record IsCollisionInRange (c : Revision × Item) : Type 0 where
  pub revision : FitsFields c.0
  pub names : All IsName (item_path c.1)

-- one that names a node
pub record IsNodeCollision (c : Revision × Item) : Type 0 where
  pub in_range : IsCollisionInRange c
  pub node : c.1.name ≡ None

-- the value of a property, where it has one
abbrev pub IsHeldInRange : Option Property → Type 0
IsHeldInRange None = Unit {0}
IsHeldInRange (Some p) = IsReadableProperty p

-- a previous document that is listed
pub record IsListedInRange (e : PrevEntry) : Type 0 where
  pub number : e.number < 2 ^ 64
  pub high : FitsFields e.high
  pub low : FitsFields e.low

-- the keys of a map rise, and each key and value is in its range
pub record IsMapOf {K V : Type 0} (cmp : K → K → Ordering) (IsKey : K → Type 0)
    (IsValue : V → Type 0) (es : List (K × V)) : Type 0 where
  pub rise : IsStrictlySortedBy cmp (keys_of es)
  pub each : All (λ e. IsKey e.0 × IsValue e.1) es

-- a map by revision
abbrev pub IsByRevision : {V : Type 0} → (V → Type 0) → List (Revision × V) → Type 0
IsByRevision IsValue es = IsMapOf revision_cmp FitsFields IsValue es

-- anything there is
abbrev pub IsAny : {V : Type 0} → V → Type 0
IsAny v = Unit {0}

-- a number of 32 bits
abbrev pub IsShort : ℕ → Type 0
IsShort n = n < 2 ^ 32

-- the properties of a document by name, each with its values by revision
abbrev pub ArePropsInRange : List (Name × List (Revision × Option Property)) → Type 0
ArePropsInRange ps = IsMapOf name_cmp IsName (IsByRevision IsHeldInRange) ps

-- a store can hold the document
pub record IsStorable (d : Document) : Type 0 where
  pub id : IsIdInRange d.id
  pub deleted : IsByRevision IsAny d.deleted
  pub commit_root : IsByRevision IsShort d.commit_root
  pub revisions : IsByRevision IsAny d.revisions
  pub collisions : IsByRevision IsCollisionInRange d.collisions
  pub touched : IsByRevision IsAny d.touched
  pub guard : IsByRevision IsAny d.guard
  pub last_rev : IsVectorInRange d.last_rev
  pub sweep_rev : IsVectorInRange d.sweep_rev
  pub prev : All IsListedInRange d.prev
  pub props : ArePropsInRange d.props
  pub sessions : IsShort d.sessions
  pub checkpoints : IsMapOf name_cmp IsAny IsPinInRange d.checkpoints
  pub readers : IsMapOf nat_cmp IsShort IsPinInRange d.readers

-- a store can hold the document, and its collisions name nodes, as those that are read do
pub record IsReadSoFar (d : Document) : Type 0 where
  pub storable : IsStorable d
  pub nodes : IsByRevision IsNodeCollision d.collisions

-- the numbers and identifiers of a value fit their types
abbrev pub IsTyped : Value → Type 0
IsTyped (value.Long n) = FitsSigned w64 n
IsTyped (value.Date n) = FitsSigned w64 n
IsTyped (value.Reference id) = id < 2 ^ 128
IsTyped (value.WeakReference id) = id < 2 ^ 128
IsTyped x = Unit {0}

-- each value of a property has numbers and identifiers that fit their types
abbrev pub AreTyped : Property → Type 0
AreTyped (Single x) = IsTyped x
AreTyped (Many k xs) = All IsTyped xs
