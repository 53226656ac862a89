use Rattle.std.proofs.Common.{◌≡◌, ◌++◌}
use Rattle.std.specs.Vec.Iter.{into_iter_items}
use Rattle.oak_store.specs.Tables.{by_id}
use Rattle.oak_open.proofs.open.by_id.Given as goal

-- the documents so far, and those that are left
abbrev pub invariant-loop-document : goal.invariant-loop-document
invariant-loop-document l = l.table ++ by_id (into_iter_items l.document-iterator) ≡ by_id l.fn.documents.items
