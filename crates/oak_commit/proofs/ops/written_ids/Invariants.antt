use Rattle.std.proofs.Common.{◌≡◌, ◌++◌, [], take, true}
use Rattle.std.specs.List.{fold}
use Rattle.std.specs.Map.{keys_of}
use Rattle.std.specs.BTreeMap.{insert_entry}
use Rattle.jr_path.specs.Ids.{id_cmp}
use Rattle.jr_path.specs.declared.path.DocId.TheVariants as id
use Rattle.oak_commit.specs.Writing.{written_ids}
use Rattle.oak_commit.proofs.ops.written_ids.Given as goal

-- the ids of the marks so far
abbrev pub invariant-loop-mark : goal.invariant-loop-mark
invariant-loop-mark l = l.marked ≡ fold (λ es m. insert_entry id_cmp es (id.Node m.path) true) [] (take l.mark-index l.marks)

-- the ids so far, and those that are left
abbrev pub invariant-loop-id : goal.invariant-loop-id
invariant-loop-id l = l.ids ++ keys_of l.id-iterator ≡ written_ids l.marks
