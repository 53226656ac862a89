use Rattle.std.proofs.Common.{◌≡◌, drop}
use Rattle.std.specs.List.{filter_map, list_any}
use Rattle.jr_value.specs.Values.{same_bytes}
use Rattle.jcr_ref.specs.References.{number_named, uuid_text}
use Rattle.jcr_ref.proofs.references.one_names.Given as goal

-- what is left decides
abbrev pub invariant-loop-value : goal.invariant-loop-value
invariant-loop-value l = list_any (λ n. same_bytes (uuid_text n) l.id) (filter_map number_named (drop l.value-index l.values)) ≡ list_any (λ n. same_bytes (uuid_text n) l.id) (filter_map number_named l.values)
