use Rattle.std.proofs.Common.{refl}
use Rattle.std.specs.Prelude.{codes}
use Rattle.jr_path.proofs.OwnNames.{prefixed_name}
use Rattle.sql_eval.proofs.join.type_properties.Goals as goal

pub of-requires : goal.of-requires
of-requires c = prefixed_name (codes "jcr") (codes "primaryType") refl

pub of-requires-2 : goal.of-requires-2
of-requires-2 c = prefixed_name (codes "jcr") (codes "mixinTypes") refl
