use Rattle.std.proofs.Common.{subst}
use Rattle.jr_path.specs.Paths.{RefusesText}
use Rattle.jcr_ref.proofs.PathNamed.{named, unnamed}
use Rattle.jcr_ref.proofs.identifiers.path_named.Goals as goal

pub returns-in-Ok : goal.returns-in-Ok
returns-in-Ok c = named c.args.id.now _ c.in-Ok.ensures.path

pub returns-in-Err-BadPath : goal.returns-in-Err-BadPath
returns-in-Err-BadPath c = unnamed c.args.id.now c.in-Err-BadPath.field-0-0 (subst (RefusesText c.args.id.now) c.in-Err-BadPath.field-0-is c.in-Err-BadPath.ensures.fault)
