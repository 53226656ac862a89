use Rattle.core_begun.proofs.Collecting.{world_copy, known_tree}
use Rattle.core_begun.proofs.readers_since_a_start_go_on.Goals as goal

pub returns-clause-begins : goal.returns-clause-begins
returns-clause-begins c = world_copy

pub returns-clause-ends : goal.returns-clause-ends
returns-clause-ends c = known_tree
