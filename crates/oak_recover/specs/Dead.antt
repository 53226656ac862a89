-- What a stopped cluster node left in a document.
use Rattle.std.specs.Prelude.{ℕ, Bool, cond, not, ◌&&◌, ◌==◌, List, [], ◌∷◌, map}
use Rattle.std.specs.BTreeMap.{insert_entry}
use Rattle.std.specs.List.{filter, fold}
use Rattle.std.specs.Map.{keys_of}
use Rattle.jr_rev.specs.declared.revision.Revision.{Revision}
use Rattle.jr_rev.specs.declared.vector.RevVec.{RevVec}
use Rattle.jr_rev.specs.Revisions.{is_before, revision_cmp}
use Rattle.oak_doc.specs.declared.document.Document.{Document}
use Rattle.oak_read.specs.Meaning.{Documents, is_committed}

-- the revisions of a document's entries, field by field, but for its collisions
abbrev pub field_revisions : Document → List (List Revision)
field_revisions d = keys_of d.deleted ∷ keys_of d.commit_root ∷ keys_of d.revisions ∷ keys_of d.touched ∷ keys_of d.guard ∷ map (λ p. keys_of p.1) d.props

-- a set of revisions, ascending
abbrev pub Revisions : Type 0
Revisions = List (Revision × Unit {0})

-- r is of cluster node k, and behind the revision l
abbrev pub is_after : ℕ → Revision → Revision → Bool
is_after k l r = r.cluster == k && is_before l r

-- with r, where it is one of those
abbrev pub with_after : ℕ → Revision → Revisions → Revision → Revisions
with_after k l set r = cond (is_after k l r) (insert_entry revision_cmp set r tt) set

-- with each of these that is
abbrev pub with_each : ℕ → Revision → Revisions → List Revision → Revisions
with_each k l set rs = fold (with_after k l) set rs

-- the revisions of cluster node k behind l in the entries of a document
abbrev pub revisions_after : ℕ → Revision → Document → Revisions
revisions_after k l d = fold (with_each k l) [] (field_revisions d)

-- those of them that are dead: not committed as they stand in the document
abbrev pub dead_in : Documents → RevVec → ℕ → Revision → Document → List Revision
dead_in ds t k l d = filter (λ r. not (is_committed ds t d r)) (keys_of (revisions_after k l d))

-- and those that are committed
abbrev pub committed_in : Documents → RevVec → ℕ → Revision → Document → List Revision
committed_in ds t k l d = filter (is_committed ds t d) (keys_of (revisions_after k l d))
