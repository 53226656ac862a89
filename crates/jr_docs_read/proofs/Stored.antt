-- A store can hold what is read so far.
use Rattle.std.proofs.Common.{◌≡◌, Bool, List, ℕ, arith, refl, sym, ap, ◌∙◌}
use Rattle.std.specs.Prelude.{All, None}
use Rattle.std.proofs.lemmas.List.Elements.{All-nil}
use Rattle.std.specs.Ordering.{nat_cmp}
use Rattle.jr_docs_read.specs.Printed.{IsPlain, as_printed, printed_at}
use Rattle.jr_docs_read.specs.Ranges.{ArePropsInRange, IsAny, IsByRevision, IsCollisionInRange, IsIdInRange, IsListedInRange}
use Rattle.jr_docs_read.specs.Ranges.{IsMapOf, IsNodeCollision, IsPinInRange, IsReadSoFar, IsShort, IsVectorInRange}
use Rattle.jr_docs_read.proofs.Ranged.{no_map}
use Rattle.jr_path.specs.Grammar.{IsName}
use Rattle.jr_path.specs.Names.{name_cmp}
use Rattle.jr_path.specs.declared.path.DocId.{DocId}
use Rattle.jr_path.specs.declared.path.Item.{Item}
use Rattle.jr_rev.specs.Grammar.{FitsFields}
use Rattle.jr_rev.specs.Revisions.{revision_cmp}
use Rattle.jr_rev.specs.Vectors.{Entries, no_entries}
use Rattle.jr_rev.specs.declared.revision.Revision.{Revision}
use Rattle.jr_rev.specs.declared.vector.Pin.{Pin}
use Rattle.oak_doc.specs.Updates.{Props, document_of}
use Rattle.oak_doc.specs.declared.document.Document.{Document}
use Rattle.oak_doc.specs.declared.document.PrevEntry.{PrevEntry}

abbrev Marks : Type 0
Marks = List (Revision × Unit {0})

pub commits_stored : (x : Document) (a : List (Revision × Bool)) (b : List (Revision × ℕ)) (e : Marks) → IsByRevision IsAny a → IsByRevision IsShort b → IsByRevision IsAny e → IsReadSoFar x → IsReadSoFar (record x { deleted = a; commit_root = b; revisions = e })
commits_stored x a b e p q r h = record {
  storable = record {
    id = h.storable.id;
    deleted = p;
    commit_root = q;
    revisions = r;
    collisions = h.storable.collisions;
    touched = h.storable.touched;
    guard = h.storable.guard;
    last_rev = h.storable.last_rev;
    sweep_rev = h.storable.sweep_rev;
    prev = h.storable.prev;
    props = h.storable.props;
    sessions = h.storable.sessions;
    checkpoints = h.storable.checkpoints;
    readers = h.storable.readers;
  };
  nodes = h.nodes;
}

in_range_nodes : (es : List (Revision × (Revision × Item))) → IsByRevision IsNodeCollision es → IsByRevision IsCollisionInRange es
in_range_nodes es h = record { rise = h.rise; each = λ k d lt. ((h.each k d lt).0, (h.each k d lt).1.in_range) }

pub marks_stored : (x : Document) (a : List (Revision × (Revision × Item))) (b e : Marks) → IsByRevision IsNodeCollision a → IsByRevision IsAny b → IsByRevision IsAny e → IsReadSoFar x → IsReadSoFar (record x { collisions = a; touched = b; guard = e })
marks_stored x a b e p q r h = record {
  storable = record {
    id = h.storable.id;
    deleted = h.storable.deleted;
    commit_root = h.storable.commit_root;
    revisions = h.storable.revisions;
    collisions = in_range_nodes a p;
    touched = q;
    guard = r;
    last_rev = h.storable.last_rev;
    sweep_rev = h.storable.sweep_rev;
    prev = h.storable.prev;
    props = h.storable.props;
    sessions = h.storable.sessions;
    checkpoints = h.storable.checkpoints;
    readers = h.storable.readers;
  };
  nodes = p;
}

pub vectors_stored : (x : Document) (a b : Entries) → IsVectorInRange a → IsVectorInRange b → IsReadSoFar x → IsReadSoFar (record x { last_rev = a; sweep_rev = b })
vectors_stored x a b p q h = record {
  storable = record {
    id = h.storable.id;
    deleted = h.storable.deleted;
    commit_root = h.storable.commit_root;
    revisions = h.storable.revisions;
    collisions = h.storable.collisions;
    touched = h.storable.touched;
    guard = h.storable.guard;
    last_rev = p;
    sweep_rev = q;
    prev = h.storable.prev;
    props = h.storable.props;
    sessions = h.storable.sessions;
    checkpoints = h.storable.checkpoints;
    readers = h.storable.readers;
  };
  nodes = h.nodes;
}

pub node_stored : (x : Document) (prev : List PrevEntry) (props : Props) → All IsListedInRange prev → IsReadSoFar x → ArePropsInRange props → IsReadSoFar (record x { prev = prev; props = props })
node_stored x prev props p h q = record {
  storable = record {
    id = h.storable.id;
    deleted = h.storable.deleted;
    commit_root = h.storable.commit_root;
    revisions = h.storable.revisions;
    collisions = h.storable.collisions;
    touched = h.storable.touched;
    guard = h.storable.guard;
    last_rev = h.storable.last_rev;
    sweep_rev = h.storable.sweep_rev;
    prev = p;
    props = q;
    sessions = h.storable.sessions;
    checkpoints = h.storable.checkpoints;
    readers = h.storable.readers;
  };
  nodes = h.nodes;
}

pub prev_stored : (x : Document) (roots : List (Revision × ℕ)) (props : Props) → IsByRevision IsShort roots → IsReadSoFar x → ArePropsInRange props → IsReadSoFar (record x { commit_root = roots; props = props })
prev_stored x roots props p h q = record {
  storable = record {
    id = h.storable.id;
    deleted = h.storable.deleted;
    commit_root = p;
    revisions = h.storable.revisions;
    collisions = h.storable.collisions;
    touched = h.storable.touched;
    guard = h.storable.guard;
    last_rev = h.storable.last_rev;
    sweep_rev = h.storable.sweep_rev;
    prev = h.storable.prev;
    props = q;
    sessions = h.storable.sessions;
    checkpoints = h.storable.checkpoints;
    readers = h.storable.readers;
  };
  nodes = h.nodes;
}

pub settings_stored : (x : Document) (n : ℕ) (checkpoints : List (List ℕ × Pin)) (readers : List (ℕ × Pin)) → IsShort n → IsMapOf name_cmp IsAny IsPinInRange checkpoints → IsReadSoFar x → IsMapOf nat_cmp IsShort IsPinInRange readers
    → IsReadSoFar (record x { sessions = n; checkpoints = checkpoints; readers = readers })
settings_stored x n checkpoints readers p q h r = record {
  storable = record {
    id = h.storable.id;
    deleted = h.storable.deleted;
    commit_root = h.storable.commit_root;
    revisions = h.storable.revisions;
    collisions = h.storable.collisions;
    touched = h.storable.touched;
    guard = h.storable.guard;
    last_rev = h.storable.last_rev;
    sweep_rev = h.storable.sweep_rev;
    prev = h.storable.prev;
    props = h.storable.props;
    sessions = p;
    checkpoints = q;
    readers = r;
  };
  nodes = h.nodes;
}

no_vector : IsVectorInRange no_entries
no_vector = record { vector = record { eight = refl; stands = refl }; fits = All-nil FitsFields }

-- a document with an id and a number alone
pub begun_stored : (x : Document) (id : DocId) (n : ℕ) → x ≡ document_of None id → IsIdInRange id → IsReadSoFar (record x { mod_count = n })
begun_stored x id n is h = rw is (record {
  storable = record {
    id = h;
    deleted = no_map revision_cmp FitsFields IsAny;
    commit_root = no_map revision_cmp FitsFields IsShort;
    revisions = no_map revision_cmp FitsFields IsAny;
    collisions = no_map revision_cmp FitsFields IsCollisionInRange;
    touched = no_map revision_cmp FitsFields IsAny;
    guard = no_map revision_cmp FitsFields IsAny;
    last_rev = no_vector;
    sweep_rev = no_vector;
    prev = All-nil IsListedInRange;
    props = no_map name_cmp IsName _;
    sessions = omega arith;
    checkpoints = no_map name_cmp IsAny IsPinInRange;
    readers = no_map nat_cmp IsShort IsPinInRange;
  };
  nodes = no_map revision_cmp FitsFields IsNodeCollision;
})

-- no entry of `_deleted` is in what is told of a previous document
pub plain_told : (d : Document) → as_printed d ≡ d → IsPlain d
plain_told d told n p is = sym (ap (λ (x : Document). x.deleted) told) ∙ ap (λ (i : DocId). (printed_at i d).deleted) is
