use Rattle.jr_rev.proofs.Entries.{set_vector}
use Rattle.jr_rev.proofs.vector.RevVec.set.Goals as goal

pub invariant_of-self : goal.invariant_of-self
invariant_of-self c = set_vector _ _ c.self.invariant c.requires.low
