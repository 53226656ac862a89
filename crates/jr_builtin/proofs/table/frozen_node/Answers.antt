use Rattle.std.proofs.Common.{refl}
use Rattle.std.specs.Prelude.{codes}
use Rattle.jr_path.proofs.OwnNames.{prefixed_name}
use Rattle.jr_builtin.proofs.table.frozen_node.Goals as goal

pub primary-requires : goal.primary-requires
primary-requires c = prefixed_name (codes "nt") (codes "frozenNode") refl

pub prop-requires : goal.prop-requires
prop-requires c = prefixed_name (codes "jcr") (codes "frozenPrimaryType") refl

pub prop-requires-2 : goal.prop-requires-2
prop-requires-2 c = prefixed_name (codes "jcr") (codes "frozenMixinTypes") refl

pub prop-requires-3 : goal.prop-requires-3
prop-requires-3 c = prefixed_name (codes "jcr") (codes "frozenUuid") refl

pub any_child-requires-clause-required : goal.any_child-requires-clause-required
any_child-requires-clause-required c = prefixed_name (codes "nt") (codes "frozenNode") refl
