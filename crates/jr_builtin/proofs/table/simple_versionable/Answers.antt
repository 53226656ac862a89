use Rattle.std.proofs.Common.{refl}
use Rattle.std.specs.Prelude.{codes}
use Rattle.jr_path.proofs.OwnNames.{prefixed_name}
use Rattle.jr_builtin.proofs.table.simple_versionable.Goals as goal

pub mixin-requires : goal.mixin-requires
mixin-requires c = prefixed_name (codes "mix") (codes "simpleVersionable") refl

pub switch-requires : goal.switch-requires
switch-requires c = prefixed_name (codes "jcr") (codes "isCheckedOut") refl
