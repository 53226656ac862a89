use Rattle.std.proofs.Common.{◌≡◌, [], drop}
use Rattle.std.specs.List.{flat_map}
use Rattle.jr_tree.specs.Merging.{with_room}
use Rattle.jcr_plan.specs.Checked.{touched_by}
use Rattle.jcr_plan.proofs.touched.touched_nodes.Given as goal

-- what is left leads there
abbrev pub invariant-loop-write : goal.invariant-loop-write
invariant-loop-write l = with_room l.tree (flat_map touched_by (drop l.write-index l.writes)) ≡ with_room [] (flat_map touched_by l.writes)
