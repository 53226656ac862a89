use Rattle.std.proofs.Common.{◌≡◌, map, take}
use Rattle.std.specs.Prelude.{not}
use Rattle.std.specs.Map.Iter.{deref}
use Rattle.oak_read.specs.Meaning.{documents_in}
use Rattle.oak_changes.specs.Saying.{states_of}
use Rattle.oak_changes.proofs.states.node_states.Given as goal

-- the states of the documents so far
abbrev pub invariant-loop-document : goal.invariant-loop-document
invariant-loop-document l = l.states ≡ states_of (documents_in l.documents) l.pin.sweep l.pin.base (λ d. d.deleted) not (map deref (take l.document-index l.all))
