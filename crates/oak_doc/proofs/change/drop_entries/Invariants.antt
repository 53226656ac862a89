use Rattle.std.proofs.Common.{◌≡◌, fold, take}
use Rattle.oak_doc.specs.Updates.{pruned}
use Rattle.oak_doc.proofs.change.drop_entries.Given as goal

-- the entries so far are dropped
abbrev pub invariant-loop-key : goal.invariant-loop-key
invariant-loop-key l = l.document ≡ fold pruned l.initial.document (take l.key-index l.keys)
