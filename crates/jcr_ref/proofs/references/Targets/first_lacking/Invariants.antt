use Rattle.std.proofs.Common.{◌≡◌}
use Rattle.jr_items.specs.Items.{first_of}
use Rattle.jcr_ref.specs.References.{is_dangling, properties_where}
use Rattle.jcr_ref.proofs.references.Targets.first_lacking.Given as goal

-- what is left decides
abbrev pub invariant-loop-name : goal.invariant-loop-name
invariant-loop-name l = first_of (properties_where (is_dangling l.self.tree.now l.at) l.at l.name-iterator) ≡ first_of (properties_where (is_dangling l.self.tree.now l.at) l.at l.node.props)
