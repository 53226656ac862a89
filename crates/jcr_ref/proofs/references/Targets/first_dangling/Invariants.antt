use Rattle.std.proofs.Common.{◌≡◌}
use Rattle.jr_items.specs.Items.{first_of}
use Rattle.jcr_ref.specs.References.{is_dangling, items_where, dangling}
use Rattle.jcr_ref.proofs.references.Targets.first_dangling.Given as goal

-- what is left decides
abbrev pub invariant-loop-at : goal.invariant-loop-at
invariant-loop-at l = first_of (items_where (is_dangling l.self.tree.now) l.at-iterator) ≡ dangling l.self.tree.now
