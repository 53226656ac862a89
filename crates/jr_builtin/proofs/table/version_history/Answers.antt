use Rattle.std.proofs.Common.{refl}
use Rattle.std.specs.Prelude.{codes}
use Rattle.jr_path.proofs.OwnNames.{prefixed_name}
use Rattle.jr_builtin.proofs.table.version_history.Goals as goal

pub primary-requires : goal.primary-requires
primary-requires c = prefixed_name (codes "nt") (codes "versionHistory") refl

pub above-requires : goal.above-requires
above-requires c = prefixed_name (codes "mix") (codes "referenceable") refl

pub prop-requires : goal.prop-requires
prop-requires c = prefixed_name (codes "jcr") (codes "versionableUuid") refl

pub child-requires-clause-name : goal.child-requires-clause-name
child-requires-clause-name c = prefixed_name (codes "jcr") (codes "rootVersion") refl

pub child-requires-clause-required : goal.child-requires-clause-required
child-requires-clause-required c = prefixed_name (codes "nt") (codes "version") refl

pub child-requires-2-clause-name : goal.child-requires-2-clause-name
child-requires-2-clause-name c = prefixed_name (codes "jcr") (codes "versionLabels") refl

pub child-requires-2-clause-required : goal.child-requires-2-clause-required
child-requires-2-clause-required c = prefixed_name (codes "nt") (codes "versionLabels") refl

pub any_child-requires-clause-required : goal.any_child-requires-clause-required
any_child-requires-clause-required c = prefixed_name (codes "nt") (codes "version") refl
