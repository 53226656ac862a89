use Rattle.std.proofs.Common.{◌≡◌, ◌++◌, drop}
use Rattle.std.specs.Option.{option_copied}
use Rattle.jcr_marks.specs.ByWrite.{references_added}
use Rattle.jcr_marks.proofs.marking.push_each.Given as goal

-- what is left leads there
abbrev pub invariant-loop-value : goal.invariant-loop-value
invariant-loop-value l = l.ids.items ++ references_added (option_copied l.before) (drop l.value-index l.values) ≡ l.initial.ids.items ++ references_added (option_copied l.before) l.values
