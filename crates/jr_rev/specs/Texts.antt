-- The texts of revisions and vectors.
use Rattle.std.specs.Prelude.{ℕ, false, List, ◌++◌, codes}
use Rattle.std.specs.Option.{option_map}
use Rattle.std.specs.Fmt.{radix_digits}
use Rattle.std.specs.List.{filter_map, join_with_byte}
use Rattle.jr_rev.specs.declared.revision.Revision.{Revision}
use Rattle.jr_rev.specs.Vectors.{Entries}

-- in lower-case hexadecimal, without leading zeros
abbrev pub hexadecimal : ℕ → List ℕ
hexadecimal n = radix_digits 16 false n

-- `r`, and time, counter and cluster node joined by `-`
abbrev pub revision_text : Revision → List ℕ
revision_text r = codes "r" ++ hexadecimal r.time ++ codes "-" ++ hexadecimal r.counter ++ codes "-" ++ hexadecimal r.cluster

-- the revisions, in the order of the cluster nodes, joined by `,`
abbrev pub vector_text : Entries → List ℕ
vector_text v = join_with_byte 44 (filter_map (option_map revision_text) v)
