use Rattle.std.proofs.Common.{refl}
use Rattle.std.specs.Prelude.{codes}
use Rattle.jr_path.proofs.OwnNames.{prefixed_name}
use Rattle.jr_builtin.proofs.table.folder.Goals as goal

pub primary-requires : goal.primary-requires
primary-requires c = prefixed_name (codes "nt") (codes "folder") refl

pub above-requires : goal.above-requires
above-requires c = prefixed_name (codes "nt") (codes "hierarchyNode") refl

pub any_child-requires-clause-required : goal.any_child-requires-clause-required
any_child-requires-clause-required c = prefixed_name (codes "nt") (codes "hierarchyNode") refl
