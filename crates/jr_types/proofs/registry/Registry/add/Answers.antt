use Rattle.std.proofs.Common.{sym}
use Rattle.jr_types.proofs.Kept.{added_kept, added_places, added_view}
use Rattle.jr_types.proofs.registry.Registry.add.Goals as goal

pub invariant_of-self-in-Ok : goal.invariant_of-self-in-Ok
invariant_of-self-in-Ok c = record {
  types = added_kept c.self.inside.types c.self.inside.places c.args.self.now c.args.definition c.self.view_is (sym c.in-Ok.ensures.lawful)
      c.in-Ok.line c.in-Ok.ensures.line.0 _ c.in-Ok.ensures.line.1 c.in-Ok.ensures.line.2 c.in_ok-put-in-Ok.ensures.types c.self.invariant.types;
  places_are = added_places c.self.inside.types c.self.inside.places c.args.self.now c.args.definition c.self.view_is (sym c.in-Ok.ensures.lawful)
      c.in-Ok.line c.in-Ok.ensures.line.0 _ c.in-Ok.ensures.line.1 c.in-Ok.ensures.line.2 c.in_ok-put-in-Ok.ensures.types
      c.in-Ok.name _ c.in-Ok.ensures.named c.in_ok-put-in-Ok.ensures.places c.self.invariant.places_are;
  primary_is = c.self.invariant.primary_is;
  mixins_is = c.self.invariant.mixins_is;
  order_is = c.self.invariant.order_is;
}

pub returns-in_ok-put-in-Ok-clause-ok : goal.returns-in_ok-put-in-Ok-clause-ok
returns-in_ok-put-in-Ok-clause-ok c = added_view c.self.inside.types c.self.inside.places c.args.self.now c.args.definition c.self.view_is (sym c.in-Ok.ensures.lawful)
    c.in-Ok.line c.in-Ok.ensures.line.0 _ c.in-Ok.ensures.line.1 c.in-Ok.ensures.line.2 c.in_ok-put-in-Ok.ensures.types
