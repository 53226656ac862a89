use Rattle.std.proofs.Common.{◌≡◌, ◌&&◌, drop, map}
use Rattle.std.specs.List.{filter}
use Rattle.std.specs.Map.{keys_of}
use Rattle.std.specs.Map.Iter.{deref_pair}
use Rattle.oak_clash.specs.declared.mark.Mark.TheVariants.{Guard}
use Rattle.oak_machine.specs.Marks.{with_marks}
use Rattle.jcr_marks.specs.Marks.{is_covered_anew, mark_each, stays}
use Rattle.jcr_marks.specs.ByWrite.{covered_below}
use Rattle.jcr_marks.proofs.marking.note_covered.Given as goal

-- what is left leads there
abbrev pub invariant-loop-at : goal.invariant-loop-at
invariant-loop-at l =
    with_marks l.found (mark_each Guard (filter (λ q. stays l.old l.new q && is_covered_anew l.old l.new q) (keys_of (map deref_pair (drop l.at-index l.at-items)))))
    ≡ with_marks l.initial.found (mark_each Guard (covered_below l.old l.new l.path))
