use Rattle.std.proofs.Common.{refl}
use Rattle.std.specs.Prelude.{codes}
use Rattle.jr_path.proofs.OwnNames.{prefixed_name}
use Rattle.jr_builtin.proofs.table.hierarchy_node.Goals as goal

pub primary-requires : goal.primary-requires
primary-requires c = prefixed_name (codes "nt") (codes "hierarchyNode") refl

pub above-requires : goal.above-requires
above-requires c = prefixed_name (codes "mix") (codes "created") refl
