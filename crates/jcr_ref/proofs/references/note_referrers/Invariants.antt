use Rattle.std.proofs.Common.{◌≡◌, ◌++◌}
use Rattle.jcr_ref.specs.References.{properties_where, refers}
use Rattle.jcr_ref.proofs.references.note_referrers.Given as goal

-- what is left decides
abbrev pub invariant-loop-name : goal.invariant-loop-name
invariant-loop-name l = l.items.items ++ properties_where (refers l.id) l.at l.name-iterator ≡ l.initial.items.items ++ properties_where (refers l.id) l.at l.node.props
