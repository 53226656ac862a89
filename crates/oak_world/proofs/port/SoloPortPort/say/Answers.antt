use Rattle.std.proofs.Common.{ap, length, subst}
use Rattle.oak_machine.specs.Runs.{IsRun}
use Rattle.oak_world.specs.Worlds.{WorldOf, actor_in, live, work_in}
use Rattle.oak_world.proofs.Keeping.{rest_shown}
use Rattle.oak_world.proofs.Porting.{is_resting, lawful_told, room_by, say_answers}
use Rattle.oak_world.proofs.port.SoloPortPort.say.Goals as goal

pub say-requires-clause-rest : goal.say-requires-clause-rest
say-requires-clause-rest g c = is_resting (g.L.Law.may_start c.args.self.now.world.now.law) (g.L.Law.may_say c.args.self.now.world.now.law) c.args.self.now.world.now c.args.self.now.actor c.args.self.now.there c.is_kept.ensures.run c.is_kept.ensures.seats c.args.self.now.world.ghost_name c.requires.idle

pub say-requires-clause-may : goal.say-requires-clause-may
say-requires-clause-may g c = record {
  next = c.requires.next;
  lawful = lawful_told c.args.self.now.world.now c.args.self.now.actor (g.L.Law.may_say c.args.self.now.world.now.law) c.args.index c.args.text.now (rest_shown (work_in c.args.self.now.world.now.actors c.args.self.now.actor) c.requires.idle) c.requires.lawful;
  room = room_by (actor_in c.args.self.now.world.now.actors c.args.self.now.actor).reply (length c.args.text.now) c.requires.place;
}

pub returns-clause-law : goal.returns-clause-law
returns-clause-law g c = ap (λ (w : WorldOf _). w.law) c.say.ensures

pub returns-clause-said : goal.returns-clause-said
returns-clause-said g c =
    say_answers (g.L.Law.may_start c.args.self.now.world.now.law) (g.L.Law.may_say c.args.self.now.world.now.law) c.args.self.now.world.now c.args.self.now.actor c.args.self.now.there c.is_kept.ensures.run c.is_kept.ensures.seats c.args.self.now.world.ghost_name c.requires.idle c.say.new.self c.args.index c.args.text.now c.say.ensures
    (subst (λ law. IsRun (g.L.Law.may_start law) (g.L.Law.may_say law) (live c.say.new.self.history)) (ap (λ (w : WorldOf _). w.law) c.say.ensures) c.is_kept-2.ensures.run)
