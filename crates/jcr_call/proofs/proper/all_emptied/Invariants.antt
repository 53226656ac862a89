use Rattle.std.proofs.Common.{◌≡◌, drop}
use Rattle.std.specs.List.{list_all}
use Rattle.jr_tree.specs.Edits.{is_emptied}
use Rattle.jcr_call.proofs.proper.all_emptied.Given as goal

-- what is left decides
abbrev pub invariant-loop-write : goal.invariant-loop-write
invariant-loop-write l = list_all (is_emptied l.tree l.writes) (drop l.write-index l.writes)
    ≡ list_all (is_emptied l.tree l.writes) l.writes
