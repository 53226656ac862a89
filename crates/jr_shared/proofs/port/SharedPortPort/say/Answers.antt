use Rattle.std.proofs.Common.{sym, subst, ◌∙◌}
use Rattle.atomic_table.specs.Seated.{TableId}
use Rattle.seat_lock.specs.Passes.{view_of}
use Rattle.oak_machine.specs.History.{Past}
use Rattle.oak_machine.specs.Laws.{after}
use Rattle.oak_world.specs.Worlds.{told_first}
use Rattle.oak_world.proofs.Keeping.{rest_shown, told_shown}
use Rattle.jr_shared.specs.Holds.{actor_by}
use Rattle.jr_shared.specs.Seen.{history_by, law_by}
use Rattle.jr_shared.proofs.Got.{law_has}
use Rattle.jr_shared.proofs.Through.{answers, framed_new, has_new, law_stays, others_new, rest_new, told_new, weight_new}
use Rattle.jr_shared.proofs.port.SharedPortPort.say.Goals as goal

pub say-requires-clause-rest : goal.say-requires-clause-rest
say-requires-clause-rest g c = rest_shown (actor_by (view_of c.args.self.now.pass.now) c.args.self.now.actor).work c.requires.idle

pub say-requires-clause-lawful : goal.say-requires-clause-lawful
say-requires-clause-lawful g c l has =
    let does = (actor_by (view_of c.args.self.now.pass.now) c.args.self.now.actor).work in
    subst (λ k. g.L.Law.may_say k (after (told_first does) (history_by (view_of c.args.self.now.pass.now))) c.args.self.now.actor c.args.index c.args.text.now) (law_has (view_of c.args.self.now.pass.now) c.args.self.now.framed l has)
    (subst (λ (es : Past). g.L.Law.may_say (law_by (view_of c.args.self.now.pass.now) c.args.self.now.framed) (after es (history_by (view_of c.args.self.now.pass.now))) c.args.self.now.actor c.args.index c.args.text.now) (told_shown does (rest_shown does c.requires.idle)) c.requires.lawful)

pub invariant_of-self : goal.invariant_of-self
invariant_of-self g c = record {
  own = c.say.ensures.own;
  table = ◌∙◌ {A = TableId} c.say.ensures.own (◌∙◌ {A = TableId} (sym {A = TableId} c.args.self.now.own) c.args.self.now.table);
  rest = rest_new g.L.Law (view_of c.args.self.now.pass.now) (view_of c.say.new.pass) c.args.self.now.actor _ c.say.ensures.hold;
  weight = weight_new g.L.Law (view_of c.args.self.now.pass.now) (view_of c.say.new.pass) c.args.self.now.actor _ c.say.ensures.hold ∙ c.args.self.now.weight;
  others = λ q apart. others_new g.L.Law (view_of c.args.self.now.pass.now) (view_of c.say.new.pass) c.args.self.now.actor _ c.say.ensures.hold q apart ∙ c.args.self.now.others q apart;
  told = told_new g.L.Law (view_of c.args.self.now.pass.now) (view_of c.say.new.pass) c.args.self.now.actor _ c.say.ensures.hold;
  seat = has_new g.L.Law (view_of c.args.self.now.pass.now) (view_of c.say.new.pass) c.args.self.now.actor _ c.say.ensures.hold c.args.self.now.seat;
  framed = framed_new g.L.Law (view_of c.args.self.now.pass.now) (view_of c.say.new.pass) c.args.self.now.actor _ c.say.ensures.hold;
}

pub returns-clause-law : goal.returns-clause-law
returns-clause-law g c = law_stays g.L.Law (view_of c.args.self.now.pass.now) (view_of c.say.new.pass) c.args.self.now.actor _ c.say.ensures.hold c.args.self.now.framed _

pub returns-clause-said : goal.returns-clause-said
returns-clause-said g c = answers g.L.Law (view_of c.args.self.now.pass.now) (view_of c.say.new.pass) c.args.self.now.actor _ c.say.ensures.hold c.args.self.now.seat c.args.self.now.told c.args.self.now.framed c.args.self.now.pass.ghost_name c.args.index c.args.text.now c.say.ensures.hold.made_is (rest_shown (actor_by (view_of c.args.self.now.pass.now) c.args.self.now.actor).work c.requires.idle)
