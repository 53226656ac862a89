use Rattle.std.proofs.Common.{◌≡◌, map, take}
use Rattle.std.specs.Map.Iter.{deref_pair}
use Rattle.jcr_write.specs.Writes.{all_gone}
use Rattle.jcr_write.proofs.moves.put_all_gone.Given as goal

-- the nodes so far are gone
abbrev pub invariant-loop-at : goal.invariant-loop-at
invariant-loop-at l = record {
  sight : l.draft.sight ≡ l.initial.draft.sight;
  steps : l.draft.steps ≡ all_gone l.initial.draft.steps (map deref_pair (take l.at-index l.nodes));
}
