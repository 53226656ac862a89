use Rattle.std.proofs.Common.{◌≡◌, map, take}
use Rattle.std.specs.List.{flat_map}
use Rattle.std.specs.Map.Iter.{deref}
use Rattle.oak_read.specs.Meaning.{documents_in, counting, latest}
use Rattle.oak_read.specs.Shown.{shown}
use Rattle.oak_read.proofs.node.deleted_at.Given as goal

-- the latest of the documents so far
abbrev pub invariant-loop-document : goal.invariant-loop-document
invariant-loop-document l = shown l.best ≡ latest (flat_map (counting (documents_in l.documents) l.pin.sweep l.pin.base (λ d. d.deleted)) (map deref (take l.document-index l.all)))
