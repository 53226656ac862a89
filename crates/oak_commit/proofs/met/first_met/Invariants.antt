use Rattle.std.proofs.Common.{◌≡◌, ◌≤◌, drop, filter, length}
use Rattle.std.specs.List.{list_any}
use Rattle.std.specs.Option.{option_copied}
use Rattle.oak_clash.specs.Clashes.{clash, first_mark}
use Rattle.oak_commit.proofs.met.first_met.Given as goal

-- the first of the marks from a place on
abbrev pub invariant-loop-at : goal.invariant-loop-at
invariant-loop-at l = (option_copied l.first ≡ first_mark (filter (λ m. list_any (clash m) l.others) (drop l.at l.mine))) × (l.at ≤ length l.mine)
