use Rattle.jcr_session.proofs.Tidying.{tidied_forgoes, tidied_room, tidied_settles}
use Rattle.std.proofs.Common.{◌∙◌}
use Rattle.jcr_session.proofs.tidy.show.Goals as goal

pub show_text-requires-clause-settles : goal.show_text-requires-clause-settles
show_text-requires-clause-settles g c = tidied_settles (g.P.Port.law c.args.port.now) (g.P.Port.shown c.args.port.now) c.args.run.now c.args.ended c.requires.stands c.as_str.result.now (c.as_str.ensures.value ∙ c.in-Ok.ensures)

pub show_text-requires-clause-forgoes : goal.show_text-requires-clause-forgoes
show_text-requires-clause-forgoes g c = tidied_forgoes (g.P.Port.law c.args.port.now) (g.P.Port.shown c.args.port.now) c.args.run.now c.args.ended c.requires.stands

pub show_text-requires-clause-room : goal.show_text-requires-clause-room
show_text-requires-clause-room g c = tidied_room (g.P.Port.law c.args.port.now) (g.P.Port.shown c.args.port.now) c.args.run.now c.args.ended c.requires.stands

pub forgo-requires-clause-forgoes : goal.forgo-requires-clause-forgoes
forgo-requires-clause-forgoes g c = tidied_forgoes (g.P.Port.law c.args.port.now) (g.P.Port.shown c.args.port.now) c.args.run.now c.args.ended c.requires.stands

pub forgo-requires-clause-room : goal.forgo-requires-clause-room
forgo-requires-clause-room g c = tidied_room (g.P.Port.law c.args.port.now) (g.P.Port.shown c.args.port.now) c.args.run.now c.args.ended c.requires.stands
