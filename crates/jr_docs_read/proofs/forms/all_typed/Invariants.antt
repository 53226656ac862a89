use Rattle.std.proofs.Common.{ℕ, ◌<◌, get_or}
use Rattle.jr_docs_read.specs.Ranges.{IsTyped}
use Rattle.jr_value.specs.declared.value.Value.{Value}
use Rattle.jr_docs_read.proofs.forms.all_typed.Given as goal

-- the values so far fit their types
abbrev pub invariant-loop-value : goal.invariant-loop-value
invariant-loop-value l = (k : ℕ) (d : Value) → k < l.value-index → IsTyped (get_or l.values k d)
