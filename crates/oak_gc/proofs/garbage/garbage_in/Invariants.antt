use Rattle.std.proofs.Common.{◌≡◌, ◌++◌}
use Rattle.std.specs.List.{flat_map}
use Rattle.std.specs.Map.{keys_of}
use Rattle.oak_doc.specs.declared.update.Field.TheVariants as field
use Rattle.oak_gc.specs.Garbage.{garbage_in, is_superseded, keys_where}
use Rattle.oak_gc.proofs.garbage.garbage_in.Given as goal

-- the entries so far, and those of the properties that are left
abbrev pub invariant-loop-name : goal.invariant-loop-name
invariant-loop-name l =
    l.keys ++ flat_map (λ p. keys_where (is_superseded l.bound.base l.bound.sweep (keys_of p.1)) (field.Prop p.0) p.1) l.name-iterator
    ≡ garbage_in l.bound.base l.bound.sweep l.document
