use Rattle.std.proofs.Common.{◌≡◌, [], take, true}
use Rattle.std.specs.List.{fold}
use Rattle.std.specs.BTreeMap.{insert_entry}
use Rattle.jr_path.specs.Names.{path_cmp}
use Rattle.oak_clash.proofs.marked.marked.Given as goal

-- the paths of the marks so far
abbrev pub invariant-loop-mark : goal.invariant-loop-mark
invariant-loop-mark l = l.marked ≡ fold (λ es m. insert_entry path_cmp es m.path true) [] (take l.mark-index l.marks)
