use Rattle.std.proofs.Common.{◌≡◌, drop}
use Rattle.std.specs.List.{list_all}
use Rattle.jr_tree.specs.Edits.{item_of}
use Rattle.jcr_call.specs.Rooted.{is_rooted}
use Rattle.jcr_call.proofs.rooted.are_rooted.Given as goal

-- what is left decides
abbrev pub invariant-loop-write : goal.invariant-loop-write
invariant-loop-write l = list_all (λ w. is_rooted l.tree (item_of w).path) (drop l.write-index l.writes)
    ≡ list_all (λ w. is_rooted l.tree (item_of w).path) l.writes
