use Rattle.std.proofs.Common.{refl}
use Rattle.std.specs.Prelude.{codes}
use Rattle.jr_path.proofs.OwnNames.{plain_name}
use Rattle.oak_read.proofs.reader.least_name.Goals as goal

pub of-requires : goal.of-requires
of-requires c = plain_name (codes "!") refl
