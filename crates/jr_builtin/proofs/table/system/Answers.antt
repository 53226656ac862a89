use Rattle.std.proofs.Common.{refl}
use Rattle.std.specs.Prelude.{codes}
use Rattle.jr_path.proofs.OwnNames.{prefixed_name}
use Rattle.jr_builtin.proofs.table.system.Goals as goal

pub primary-requires : goal.primary-requires
primary-requires c = prefixed_name (codes "rep") (codes "system") refl

pub child-requires-clause-name : goal.child-requires-clause-name
child-requires-clause-name c = prefixed_name (codes "jcr") (codes "versionStorage") refl

pub child-requires-clause-required : goal.child-requires-clause-required
child-requires-clause-required c = prefixed_name (codes "rep") (codes "versionStorage") refl
