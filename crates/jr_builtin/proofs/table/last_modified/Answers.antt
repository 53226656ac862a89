use Rattle.std.proofs.Common.{refl}
use Rattle.std.specs.Prelude.{codes}
use Rattle.jr_path.proofs.OwnNames.{prefixed_name}
use Rattle.jr_builtin.proofs.table.last_modified.Goals as goal

pub mixin-requires : goal.mixin-requires
mixin-requires c = prefixed_name (codes "mix") (codes "lastModified") refl

pub prop-requires : goal.prop-requires
prop-requires c = prefixed_name (codes "jcr") (codes "lastModified") refl

pub prop-requires-2 : goal.prop-requires-2
prop-requires-2 c = prefixed_name (codes "jcr") (codes "lastModifiedBy") refl
