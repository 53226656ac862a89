use Rattle.std.proofs.Common.{◌≡◌, ◌++◌, map, take}
use Rattle.jr_path.specs.declared.path.DocId.TheVariants.{Prev}
use Rattle.oak_commit.proofs.look.put_listed.Given as goal

-- the ids of the entries so far
abbrev pub invariant-loop-entry : goal.invariant-loop-entry
invariant-loop-entry l = l.ids ≡ l.initial.ids ++ map (λ e. Prev e.number l.path) (take l.entry-index l.entries)
