use Rattle.std.proofs.Common.{◌≡◌, drop}
use Rattle.std.specs.List.{find}
use Rattle.jr_items.specs.Items.{child_path}
use Rattle.jcr_frozen.specs.Histories.{is_numbered}
use Rattle.jcr_version.proofs.checkin.first_numbered.Given as goal

-- what is left decides
abbrev pub invariant-loop-name : goal.invariant-loop-name
invariant-loop-name l =
    find (λ n. is_numbered l.number l.tree (child_path l.path n)) (drop l.name-index l.names)
    ≡ find (λ n. is_numbered l.number l.tree (child_path l.path n)) l.names
