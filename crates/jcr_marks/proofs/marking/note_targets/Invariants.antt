use Rattle.std.proofs.Common.{◌≡◌, drop}
use Rattle.std.specs.List.{filter_map, flat_map}
use Rattle.jcr_ref.specs.References.{target_of}
use Rattle.oak_clash.specs.declared.mark.Mark.TheVariants.{Touch}
use Rattle.oak_machine.specs.Marks.{with_marks}
use Rattle.jcr_marks.specs.Marks.{mark_each, new_references}
use Rattle.jcr_marks.proofs.marking.note_targets.Given as goal

-- what is left leads there
abbrev pub invariant-loop-target : goal.invariant-loop-target
invariant-loop-target l =
    with_marks l.found (mark_each Touch (drop l.target-index l.target-items)) ≡ with_marks l.initial.found (mark_each Touch (filter_map (target_of l.new) (flat_map (new_references l.old) l.writes)))
