use Rattle.jr_types.proofs.Lines.{above_more, on_ok}
use Rattle.jr_types.proofs.registry.Registry.add_places_of.Goals as goal

pub returns : goal.returns
returns c = on_ok c.add_places.result (λ e names h. above_more c.args.self.now _ c.line.result.now _ c.args.name.now c.line.ensures.within c.line.ensures.line e names h) c.add_places.ensures
