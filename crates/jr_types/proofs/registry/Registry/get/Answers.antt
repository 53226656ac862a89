use Rattle.std.proofs.Common.{sym}
use Rattle.jr_types.proofs.registry.Registry.get.Goals as goal

pub returns-in-Some : goal.returns-in-Some
returns-in-Some c = c.in-Some.ensures.definition

pub returns-in-None : goal.returns-in-None
returns-in-None c = sym c.in-None.ensures
