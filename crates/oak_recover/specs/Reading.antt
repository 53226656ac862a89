-- What a recovery knows of the document that it read last.
use Rattle.std.specs.Prelude.{ℕ, Bool, false, cond, not, ◌&&◌, List, [], Option, None, Some, is_some}
use Rattle.std.specs.BTreeMap.{insert_entry, is_at}
use Rattle.std.specs.List.{filter, fold}
use Rattle.std.specs.Map.{keys_of, remove_entry, values_of}
use Rattle.std.specs.Ordering.{eq_by_cmp}
use Rattle.jr_path.specs.Ids.{id_cmp}
use Rattle.jr_path.specs.declared.path.DocId.{DocId}
use Rattle.jr_path.specs.declared.path.DocId.TheVariants as id
use Rattle.jr_rev.specs.declared.revision.Revision.{Revision}
use Rattle.jr_rev.specs.declared.vector.RevVec.{RevVec}
use Rattle.jr_rev.specs.Revisions.{is_before, revision_cmp}
use Rattle.jr_rev.specs.Vectors.{sees}
use Rattle.oak_doc.specs.declared.document.Document.{Document}
use Rattle.oak_doc.specs.Updates.{of_revision}
use Rattle.oak_read.specs.Meaning.{commit_root_of}
use Rattle.oak_read.specs.Wanted.{Ids}
use Rattle.oak_recover.specs.Dead.{revisions_after}
use Rattle.oak_recover.specs.declared.reading.Reading.{Reading}

-- revisions of which it isn't known whether they are committed, each with its commit root
abbrev pub Doubts : Type 0
Doubts = List (Revision × DocId)

-- the doubts with one revision more, under its commit root
abbrev pub with_doubt : Document → Doubts → Revision → Doubts
with_doubt d es r = insert_entry revision_cmp es r (commit_root_of d r)

-- those of some revisions that the sweep vector doesn't see
abbrev pub doubts_in : RevVec → Document → List Revision → Doubts
doubts_in t d rs = fold (with_doubt d) [] (filter (λ r. not (sees t r)) rs)

-- the later of two revisions, where there are two
abbrev pub with_later : Option Revision → Revision → Option Revision
with_later None r = Some r
with_later (Some q) r = Some (cond (is_before q r) r q)

-- an id more, but for that of the document itself
abbrev pub with_other : DocId → Ids → DocId → Ids
with_other own ids x = cond (eq_by_cmp id_cmp x own) ids (insert_entry id_cmp ids x tt)

-- the commit roots of those in doubt, each once, in store order, but for the document itself
abbrev pub roots_of : DocId → Doubts → Ids
roots_of own doubts = fold (with_other own) [] (values_of doubts)

-- x is the commit root of the revision, and has it
abbrev pub is_confirmed : DocId → Option Document → Revision × DocId → Bool
is_confirmed x None e = false
is_confirmed x (Some d) e = eq_by_cmp id_cmp e.1 x && is_some (of_revision d.revisions e.0)

-- before a document is read
abbrev pub unread_document : Reading
unread_document = record { at = id.Settings; doubts = []; committed = None; asked = id.Settings; left = [] }

-- the commit root x, or none, was found: whatever it has is committed
abbrev pub root_answered : Reading → DocId → Option Document → Reading
root_answered s x found = record s {
  doubts = filter (λ e. not (is_confirmed x found e)) s.doubts;
  committed = fold with_later s.committed (keys_of (filter (is_confirmed x found) s.doubts));
}

-- a dead revision is undone
abbrev pub without_doubt : Reading → Revision → Reading
without_doubt s r = record s { doubts = remove_entry (is_at (revision_cmp r)) s.doubts }

-- of a document before any other is asked: what the sweep vector sees is committed
abbrev pub swept_of : RevVec → Document → List Revision → Reading
swept_of t d rs = record { at = d.id; doubts = doubts_in t d rs; committed = fold with_later None (filter (sees t) rs); asked = id.Settings; left = [] }

-- with the commit roots that are left to be asked
abbrev pub with_roots : Reading → Reading
with_roots s = record s { left = roots_of s.at s.doubts }

-- what is known of a document by itself: what the sweep vector sees is committed, and what it has as its own commit root
abbrev pub read_of : RevVec → ℕ → Revision → Document → Reading
read_of t k l d = with_roots (root_answered (swept_of t d (keys_of (revisions_after k l d))) d.id (Some d))
