use Rattle.std.proofs.Common.{refl}
use Rattle.std.specs.Prelude.{codes}
use Rattle.jr_path.proofs.OwnNames.{prefixed_name}
use Rattle.jr_builtin.proofs.table.base.Goals as goal

pub primary-requires : goal.primary-requires
primary-requires c = prefixed_name (codes "nt") (codes "base") refl

pub prop-requires : goal.prop-requires
prop-requires c = prefixed_name (codes "jcr") (codes "primaryType") refl

pub prop-requires-2 : goal.prop-requires-2
prop-requires-2 c = prefixed_name (codes "jcr") (codes "mixinTypes") refl
