use Rattle.std.proofs.Common.{◌≡◌, ◌++◌}
use Rattle.jr_items.specs.Items.{adding}
use Rattle.jcr_version.proofs.writes.push_adding.Given as goal

-- what is left leads there
abbrev pub invariant-loop-path : goal.invariant-loop-path
invariant-loop-path l = l.writes ++ adding l.path-iterator.rest.items ≡ l.initial.writes ++ adding l.fn.nodes.items
