use Rattle.std.proofs.Common.{◌≡◌, ◌++◌, drop, map}
use Rattle.jr_items.specs.Items.{child_path}
use Rattle.jcr_frozen.specs.Histories.{versions_of}
use Rattle.jcr_frozen.proofs.histories.versions_of.Given as goal

-- what is left leads there
abbrev pub invariant-loop-name : goal.invariant-loop-name
invariant-loop-name l = l.versions.items ++ map (child_path l.history) (drop l.name-index l.name-items) ≡ versions_of l.tree l.history
