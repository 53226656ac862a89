use Rattle.std.proofs.Common.{◌≡◌}
use Rattle.std.specs.List.{fold}
use Rattle.jcr_frozen.specs.Frozen.{share_of, with_in_share}
use Rattle.jcr_frozen.proofs.frozen.share_of.Given as goal

-- what is left leads there
abbrev pub invariant-loop-name : goal.invariant-loop-name
invariant-loop-name l = fold (with_in_share l.share l.types l.node) l.props l.name-iterator ≡ share_of l.share l.types l.node
