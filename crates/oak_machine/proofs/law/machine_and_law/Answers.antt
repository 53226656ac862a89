use Rattle.oak_machine.proofs.Apart.{law_apart}
use Rattle.oak_machine.proofs.law.machine_and_law.Goals as goal

pub returns : goal.returns
returns c s law h e = law_apart (c.L.Law.may_start law) (c.L.Law.may_say law) h e
