use Rattle.jr_types.proofs.Found.{nothing, stands, under}
use Rattle.jr_types.proofs.registry.Registry.registered.Goals as goal

pub returns-in-Some : goal.returns-in-Some
returns-in-Some c = under _ _ _ _ c.self.view_is c.self.invariant.types c.self.invariant.places_are _ _ c.in-Some.ensures
    (rw c.as_slice.ensures at (stands _ (λ r. r.now) c.as_slice.result.now _ c.get-in-Some.result c.get-in-Some.ensures.lookup.1 c.get-in-Some.ensures.lookup.3))

pub returns-in-None : goal.returns-in-None
returns-in-None c = nothing _ _ _ _ c.self.view_is c.self.invariant.types c.self.invariant.places_are c.in-None.ensures
