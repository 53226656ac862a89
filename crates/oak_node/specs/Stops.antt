-- A cluster node that is stopped, and the recovery of its memory by another.
use Rattle.std.specs.Prelude.{List, [], true, fold, Contains, IsTrue}
use Rattle.jr_rev.specs.declared.revision.Revision.{Revision}
use Rattle.jr_rev.specs.Revisions.{is_at_most}
use Rattle.oak_node.specs.Memory.{NodeState}
use Rattle.oak_node.specs.Heads.{finished, flying_in}

-- s, once the node is stopped
abbrev pub with_stop : NodeState → NodeState
with_stop s = record s { stopped = true }

-- s, once all that was in flight has ended, in ascending order
abbrev pub with_ends : NodeState → NodeState
with_ends s = fold finished s (flying_in s.above)

-- s, once the memory is recovered: all that was in flight has ended, and no owner has a pin
abbrev pub with_recovery : NodeState → NodeState
with_recovery s = record (with_ends s) { pins = []; recovered = true }

-- r is one of the drawn revisions, and none of them is greater
pub record IsGreatestDrawn (drawn : List Revision) (r : Revision) : Type 0 where
  pub one : Contains drawn r
  pub greatest : (o : Revision) → Contains drawn o → IsTrue (is_at_most o r)
