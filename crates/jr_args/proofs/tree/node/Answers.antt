use Rattle.std.proofs.Common.{refl}
use Rattle.jr_args.proofs.Readings.{exits, goes, means}
use Rattle.jr_args.proofs.tree.node.Goals as goal

pub returns-in_err-node_type : goal.returns-in_err-node_type
returns-in_err-node_type c = exits _ _ _ _ c.from_residual.ensures.1 c.in_err-node_type.ensures

pub returns-in_err-mixins : goal.returns-in_err-mixins
returns-in_err-mixins c = goes _ _ _ _ c.in_ok-node_type.ensures (exits _ _ _ _ c.from_residual-in_err-mixins.ensures.1 c.in_err-mixins.ensures)

pub returns-in_err-props : goal.returns-in_err-props
returns-in_err-props c = goes _ _ _ _ c.in_ok-node_type.ensures (goes _ _ _ _ c.in_ok-mixins.ensures (exits _ _ _ _ c.from_residual-in_err-props.ensures.1 c.in_err-props.ensures))

pub returns : goal.returns
returns c = means _ _ _ _ c.in_ok-node_type.ensures (means _ _ _ _ c.in_ok-mixins.ensures (means _ _ _ _ c.in_ok-props.ensures refl))
