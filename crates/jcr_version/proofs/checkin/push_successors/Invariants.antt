use Rattle.std.proofs.Common.{◌≡◌, ◌++◌, drop, map}
use Rattle.std.specs.List.{filter}
use Rattle.jcr_version.specs.Edits.{succeed}
use Rattle.jcr_frozen.specs.Histories.{is_referenced}
use Rattle.jcr_version.proofs.checkin.push_successors.Given as goal

-- what is left leads there
abbrev pub invariant-loop-version : goal.invariant-loop-version
invariant-loop-version l =
    l.writes ++ map (succeed l.tree l.id) (filter (is_referenced l.references l.tree) (drop l.version-index l.versions))
    ≡ l.initial.writes ++ map (succeed l.tree l.id) (filter (is_referenced l.references l.tree) l.versions)
