use Rattle.std.proofs.Common.{◌≡◌, map, fold, take}
use Rattle.jr_path.specs.declared.path.DocId.TheVariants as id
use Rattle.oak_read.specs.Wanted.{with_unknown}
use Rattle.oak_read.proofs.wanted.add_listed.Given as goal

-- the entries so far are added
abbrev pub invariant-loop-entry : goal.invariant-loop-entry
invariant-loop-entry l = l.wanted ≡ fold (with_unknown l.known) l.initial.wanted (map (λ e. id.Prev e.number l.path) (take l.entry-index l.entries))
