use Rattle.std.proofs.Common.{refl}
use Rattle.std.specs.Prelude.{codes}
use Rattle.jr_path.proofs.OwnNames.{prefixed_name}
use Rattle.jr_builtin.proofs.table.file.Goals as goal

pub primary-requires : goal.primary-requires
primary-requires c = prefixed_name (codes "nt") (codes "file") refl

pub above-requires : goal.above-requires
above-requires c = prefixed_name (codes "nt") (codes "hierarchyNode") refl

pub child-requires-clause-name : goal.child-requires-clause-name
child-requires-clause-name c = prefixed_name (codes "jcr") (codes "content") refl

pub child-requires-clause-required : goal.child-requires-clause-required
child-requires-clause-required c = prefixed_name (codes "nt") (codes "base") refl

pub main_item-requires : goal.main_item-requires
main_item-requires c = prefixed_name (codes "jcr") (codes "content") refl
