use Rattle.std.proofs.Common.{◌+◌, ◌*◌, length}
use Rattle.jr_tree.specs.Trees.{subtree_of}
use Rattle.jr_part.proofs.Among.{Fine}
use Rattle.jr_part.proofs.part.Part.+lacks_below.Given as goal

abbrev pub decreases-lacks_below : goal.decreases-lacks_below
decreases-lacks_below l = 2 * length (subtree_of l.self.now.nodes l.path.now) + 1

abbrev pub decreases-lacks_among : goal.decreases-lacks_among
decreases-lacks_among l = 2 * length (subtree_of l.self.now.nodes l.path.now)

-- nothing lacks below the children so far
abbrev pub invariant-lacks_among-loop-name : goal.invariant-lacks_among-loop-name
invariant-lacks_among-loop-name l = Fine l.self l.path l.names l.name-index
