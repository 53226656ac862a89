use Rattle.std.proofs.Common.{◌≡◌, ◌++◌}
use Rattle.std.specs.List.{flat_map}
use Rattle.std.specs.String.{string_bytes}
use Rattle.std.specs.Str.Iter.{chars_rest}
use Rattle.cnd_print.specs.Printing.{escaped}
use Rattle.cnd_print.proofs.printing.put_escaped.Given as goal

abbrev pub invariant-loop-c : goal.invariant-loop-c
invariant-loop-c l =
    (goal.iterator-loop-c).can_next l.c-iterator ×
    (string_bytes l.out ++ flat_map escaped (chars_rest l.c-iterator) ≡ string_bytes l.initial.out ++ flat_map escaped l.text)
