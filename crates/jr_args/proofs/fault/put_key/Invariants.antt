use Rattle.std.proofs.Common.{◌≡◌, ◌++◌}
use Rattle.std.specs.List.{flat_map}
use Rattle.std.specs.String.{string_bytes}
use Rattle.std.specs.Str.Iter.{chars_rest}
use Rattle.jr_args.specs.Pointers.{escaped_pointer}
use Rattle.jr_args.proofs.fault.put_key.Given as goal

abbrev pub invariant-loop-c : goal.invariant-loop-c
invariant-loop-c l =
    (goal.iterator-loop-c).can_next l.c-iterator ×
    (string_bytes l.text ++ flat_map escaped_pointer (chars_rest l.c-iterator) ≡ string_bytes l.initial.text ++ flat_map escaped_pointer l.key)
