use Rattle.std.proofs.Common.{◌≡◌, ◌++◌, map}
use Rattle.jr_tree.specs.declared.edit.Write.TheVariants.{Put}
use Rattle.jcr_version.proofs.writes.push_props.Given as goal

-- what is left leads there
abbrev pub invariant-loop-name : goal.invariant-loop-name
invariant-loop-name l = l.writes ++ map (λ x. Put l.path x.0 x.1) l.name-iterator ≡ l.initial.writes ++ map (λ x. Put l.path x.0 x.1) l.fn.node.props
