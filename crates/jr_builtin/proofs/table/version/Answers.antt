use Rattle.std.proofs.Common.{refl}
use Rattle.std.specs.Prelude.{codes}
use Rattle.jr_path.proofs.OwnNames.{prefixed_name}
use Rattle.jr_builtin.proofs.table.version.Goals as goal

pub primary-requires : goal.primary-requires
primary-requires c = prefixed_name (codes "nt") (codes "version") refl

pub above-requires : goal.above-requires
above-requires c = prefixed_name (codes "mix") (codes "referenceable") refl

pub prop-requires : goal.prop-requires
prop-requires c = prefixed_name (codes "jcr") (codes "created") refl

pub prop-requires-2 : goal.prop-requires-2
prop-requires-2 c = prefixed_name (codes "jcr") (codes "predecessors") refl

pub prop-requires-3 : goal.prop-requires-3
prop-requires-3 c = prefixed_name (codes "jcr") (codes "successors") refl

pub child-requires-clause-name : goal.child-requires-clause-name
child-requires-clause-name c = prefixed_name (codes "jcr") (codes "frozenNode") refl

pub child-requires-clause-required : goal.child-requires-clause-required
child-requires-clause-required c = prefixed_name (codes "nt") (codes "frozenNode") refl
