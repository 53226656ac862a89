use Rattle.std.proofs.Common.{length, sym, subst, ◌∙◌}
use Rattle.seat_lock.specs.Passes.{view_of}
use Rattle.jr_shared.proofs.Acts.{say_acts}
use Rattle.jr_shared.proofs.Got.{actor_got, has_law, may_say, next_same, there, work_got}
use Rattle.jr_shared.proofs.Holding.{has_author, is_got, locked, on_frame, on_longer, on_others, on_steady, one_hold}
use Rattle.oak_world.specs.Worlds.{ActorState, IsAtRest, actor_in}
use Rattle.oak_world.proofs.Porting.{room_by}
use Rattle.oak_port.specs.Ports.{HasRoom}
use Rattle.jr_shared.proofs.shared.SharedWorld.say.Goals as goal

pub say-requires-clause-rest : goal.say-requires-clause-rest
say-requires-clause-rest g c = record {
  there = there g.L.Law (view_of c.args.pass.now) c.acquire-hold.result.value.world
      (is_got g.L.Law (view_of c.args.pass.now) c.acquire-hold.result.value.world c.is_whole.ensures c.acquire-hold.ensures.frame c.acquire-hold.ensures.longer c.acquire-hold.ensures.parts c.acquire-hold.ensures.steady) c.args.actor c.requires.seat;
  rest = subst IsAtRest (work_got g.L.Law (view_of c.args.pass.now) c.acquire-hold.result.value.world
      (is_got g.L.Law (view_of c.args.pass.now) c.acquire-hold.result.value.world c.is_whole.ensures c.acquire-hold.ensures.frame c.acquire-hold.ensures.longer c.acquire-hold.ensures.parts c.acquire-hold.ensures.steady) c.args.actor c.requires.seat) c.requires.rest;
}

pub say-requires-clause-may : goal.say-requires-clause-may
say-requires-clause-may g c =
    let old = view_of c.args.pass.now in
    let world = c.acquire-hold.result.value.world in
    let got = (is_got g.L.Law (view_of c.args.pass.now) c.acquire-hold.result.value.world c.is_whole.ensures c.acquire-hold.ensures.frame c.acquire-hold.ensures.longer c.acquire-hold.ensures.parts c.acquire-hold.ensures.steady) in
    record {
      next = c.requires.next ∙ sym (next_same g.L.Law old world got c.args.actor c.requires.seat c.requires.told);
      lawful = may_say g.L.Law old world got c.args.actor c.requires.seat c.requires.told c.args.index c.args.text.now (c.requires.lawful world.law (has_law g.L.Law old world got));
      room = room_by (actor_in world.actors c.args.actor).reply (length c.args.text.now) (subst (λ (a : ActorState). HasRoom a.reply (length c.args.text.now)) (actor_got g.L.Law old world got c.args.actor c.requires.seat) c.requires.place);
    }

pub release-requires-clause-goes_on : goal.release-requires-clause-goes_on
release-requires-clause-goes_on g c =
    let x = c.acquire-hold.result.value in
    let z = c.acquire-hold.result.taken.value in
    let y = locked c.say.new.self in
    let got = c.acquire-hold.ensures.got in
    let acts = say_acts c.args.actor c.args.index c.args.text.now c.acquire-hold.result.value.world c.is_whole.ensures.told c.say.new.self c.say.ensures in
    record {
      longer = on_longer c.args.actor x z y got acts;
      frame_is = on_frame c.args.actor x z y got acts;
      others = on_others c.args.actor x z y got acts (view_of c.acquire-hold.new.pass) (has_author (view_of c.args.pass.now) (view_of c.acquire-hold.new.pass) x c.args.actor c.requires.seat c.acquire-hold.ensures.pass);
      steady_is = on_steady c.args.actor x z y got acts;
    }

pub returns-clause-hold : goal.returns-clause-hold
returns-clause-hold g c =
    let x = c.acquire-hold.result.value in
    let y = locked c.say.new.self in
    one_hold g.L.Law (view_of c.args.pass.now) (view_of c.acquire-hold.new.pass) (view_of c.release.new.pass) c.args.actor _ x y
    (is_got g.L.Law (view_of c.args.pass.now) c.acquire-hold.result.value.world c.is_whole.ensures c.acquire-hold.ensures.frame c.acquire-hold.ensures.longer c.acquire-hold.ensures.parts c.acquire-hold.ensures.steady)
    c.is_whole-2.ensures c.say.ensures
    (say_acts c.args.actor c.args.index c.args.text.now c.acquire-hold.result.value.world c.is_whole.ensures.told c.say.new.self c.say.ensures)
    c.acquire-hold.ensures.pass c.release.ensures.pass
