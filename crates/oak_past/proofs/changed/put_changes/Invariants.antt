use Rattle.std.proofs.Common.{◌≡◌, take}
use Rattle.std.specs.BTreeMap.{insert_entry}
use Rattle.std.specs.List.{fold}
use Rattle.jr_tree.specs.Edits.{item_cmp, item_of}
use Rattle.oak_machine.specs.Changed.{item_change}
use Rattle.oak_past.proofs.changed.put_changes.Given as goal

-- the changes of the writes so far are put
abbrev pub invariant-loop-write : goal.invariant-loop-write
invariant-loop-write l = l.changes ≡ fold (λ es w. insert_entry item_cmp es (item_of w) (item_change l.tree w)) l.initial.changes (take l.write-index l.writes)
