use Rattle.jr_types.proofs.Found.{defined_at, got, missed}
use Rattle.jr_types.proofs.registry.Registry.at.Goals as goal

pub returns-in-Some : goal.returns-in-Some
returns-in-Some c = defined_at _ _ _ _ c.self.view_is (rw c.as_slice.ensures at (got _ _ _ c.in-Some.ensures.lookup.1 c.in-Some.ensures.lookup.3.0))

pub returns-in-None : goal.returns-in-None
returns-in-None c = defined_at _ _ _ _ c.self.view_is (rw c.as_slice.ensures at (missed _ _ c.in-None.ensures.lookup.3))
