use Rattle.std.proofs.Common.{refl}
use Rattle.std.specs.Prelude.{codes}
use Rattle.jr_path.proofs.OwnNames.{prefixed_name}
use Rattle.jr_builtin.proofs.table.resource.Goals as goal

pub primary-requires : goal.primary-requires
primary-requires c = prefixed_name (codes "nt") (codes "resource") refl

pub above-requires : goal.above-requires
above-requires c = prefixed_name (codes "mix") (codes "mimeType") refl

pub above-requires-2 : goal.above-requires-2
above-requires-2 c = prefixed_name (codes "mix") (codes "lastModified") refl

pub prop-requires : goal.prop-requires
prop-requires c = prefixed_name (codes "jcr") (codes "data") refl

pub main_item-requires : goal.main_item-requires
main_item-requires c = prefixed_name (codes "jcr") (codes "data") refl
