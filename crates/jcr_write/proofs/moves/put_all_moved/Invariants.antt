use Rattle.std.proofs.Common.{◌≡◌, map, take}
use Rattle.std.specs.Map.Iter.{deref_pair}
use Rattle.jcr_write.specs.Writes.{all_moved}
use Rattle.jcr_write.proofs.moves.put_all_moved.Given as goal

-- the nodes so far are moved
abbrev pub invariant-loop-at : goal.invariant-loop-at
invariant-loop-at l = record {
  sight : l.draft.sight ≡ l.initial.draft.sight;
  steps : l.draft.steps ≡ all_moved l.from l.to l.initial.draft.steps (map deref_pair (take l.at-index l.nodes));
}
