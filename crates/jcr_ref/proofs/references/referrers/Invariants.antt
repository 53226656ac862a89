use Rattle.std.proofs.Common.{◌≡◌, ◌++◌}
use Rattle.jcr_ref.specs.References.{referrers}
use Rattle.jcr_ref.proofs.references.referrers.Given as goal

-- what is left decides
abbrev pub invariant-loop-at : goal.invariant-loop-at
invariant-loop-at l = l.items.items ++ referrers l.at-iterator l.id ≡ referrers l.tree l.id
