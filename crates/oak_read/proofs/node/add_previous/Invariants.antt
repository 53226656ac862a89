use Rattle.std.proofs.Common.{◌≡◌, ◌++◌, map, take}
use Rattle.std.specs.List.{filter_map}
use Rattle.std.specs.Map.Iter.{deref}
use Rattle.jr_path.specs.declared.path.DocId.TheVariants as id
use Rattle.oak_read.specs.Meaning.{documents_in}
use Rattle.oak_read.proofs.node.add_previous.Given as goal

-- the previous documents so far are added
abbrev pub invariant-loop-entry : goal.invariant-loop-entry
invariant-loop-entry l = map deref l.all.items ≡ map deref l.initial.all.items ++ filter_map (λ e. documents_in l.documents (id.Prev e.number l.path)) (take l.entry-index l.listed)
