use Rattle.std.proofs.Common.{refl}
use Rattle.std.specs.Prelude.{codes}
use Rattle.jr_path.proofs.OwnNames.{prefixed_name}
use Rattle.jr_builtin.proofs.table.versionable.Goals as goal

pub mixin-requires : goal.mixin-requires
mixin-requires c = prefixed_name (codes "mix") (codes "versionable") refl

pub above-requires : goal.above-requires
above-requires c = prefixed_name (codes "mix") (codes "simpleVersionable") refl

pub above-requires-2 : goal.above-requires-2
above-requires-2 c = prefixed_name (codes "mix") (codes "referenceable") refl

pub prop-requires : goal.prop-requires
prop-requires c = prefixed_name (codes "jcr") (codes "versionHistory") refl

pub prop-requires-2 : goal.prop-requires-2
prop-requires-2 c = prefixed_name (codes "jcr") (codes "baseVersion") refl

pub prop-requires-3 : goal.prop-requires-3
prop-requires-3 c = prefixed_name (codes "jcr") (codes "predecessors") refl
