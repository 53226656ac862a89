use Rattle.std.proofs.Common.{sym, ◌∙◌}
use Rattle.seat_lock.specs.Passes.{view_of}
use Rattle.jr_shared.proofs.Acts.{start_acts}
use Rattle.jr_shared.proofs.Got.{asked_got, has_law, may_begin, there, work_got}
use Rattle.jr_shared.proofs.Holding.{has_author, is_got, locked, on_frame, on_longer, on_others, on_steady, one_hold}
use Rattle.jr_shared.proofs.shared.SharedWorld.start.Goals as goal

pub start-result-requires-clause-idle : goal.start-result-requires-clause-idle
start-result-requires-clause-idle g c = record {
  there = there g.L.Law (view_of c.args.pass.now) c.acquire-hold.result.value.world
      (is_got g.L.Law (view_of c.args.pass.now) c.acquire-hold.result.value.world c.is_whole.ensures c.acquire-hold.ensures.frame c.acquire-hold.ensures.longer c.acquire-hold.ensures.parts c.acquire-hold.ensures.steady) c.args.actor c.requires.seat;
  idle = sym (work_got g.L.Law (view_of c.args.pass.now) c.acquire-hold.result.value.world
      (is_got g.L.Law (view_of c.args.pass.now) c.acquire-hold.result.value.world c.is_whole.ensures c.acquire-hold.ensures.frame c.acquire-hold.ensures.longer c.acquire-hold.ensures.parts c.acquire-hold.ensures.steady) c.args.actor c.requires.seat) ∙ c.requires.idle;
}

pub start-result-requires-clause-may : goal.start-result-requires-clause-may
start-result-requires-clause-may g c =
    let world = c.acquire-hold.result.value.world in
    may_begin g.L.Law (view_of c.args.pass.now) world
    (is_got g.L.Law (view_of c.args.pass.now) c.acquire-hold.result.value.world c.is_whole.ensures c.acquire-hold.ensures.frame c.acquire-hold.ensures.longer c.acquire-hold.ensures.parts c.acquire-hold.ensures.steady) c.args.actor c.requires.seat c.requires.told c.args.task
    (c.requires.may world.law (has_law g.L.Law (view_of c.args.pass.now) world
    (is_got g.L.Law (view_of c.args.pass.now) c.acquire-hold.result.value.world c.is_whole.ensures c.acquire-hold.ensures.frame c.acquire-hold.ensures.longer c.acquire-hold.ensures.parts c.acquire-hold.ensures.steady)))

pub start-result-requires-clause-asked : goal.start-result-requires-clause-asked
start-result-requires-clause-asked g c =
    let world = c.acquire-hold.result.value.world in
    let got = is_got g.L.Law (view_of c.args.pass.now) world c.is_whole.ensures c.acquire-hold.ensures.frame c.acquire-hold.ensures.longer c.acquire-hold.ensures.parts c.acquire-hold.ensures.steady in
    asked_got g.L.Law (view_of c.args.pass.now) world got c.args.actor c.requires.seat c.requires.told (g.L.Law.asks world.law) c.args.task
    (c.requires.asked world.law (has_law g.L.Law (view_of c.args.pass.now) world got))

pub release-requires-clause-goes_on : goal.release-requires-clause-goes_on
release-requires-clause-goes_on g c =
    let x = c.acquire-hold.result.value in
    let z = c.acquire-hold.result.taken.value in
    let y = locked c.start-result.new.self in
    let got = c.acquire-hold.ensures.got in
    let acts = start_acts c.args.actor c.acquire-hold.result.value.world c.start-result.new.self c.args.task c.start-result.result (record { ok = c.start-result.ensures.ok; err = c.start-result.ensures.err }) in
    record {
      longer = on_longer c.args.actor x z y got acts;
      frame_is = on_frame c.args.actor x z y got acts;
      others = on_others c.args.actor x z y got acts (view_of c.acquire-hold.new.pass) (has_author (view_of c.args.pass.now) (view_of c.acquire-hold.new.pass) x c.args.actor c.requires.seat c.acquire-hold.ensures.pass);
      steady_is = on_steady c.args.actor x z y got acts;
    }

pub returns-clause-hold : goal.returns-clause-hold
returns-clause-hold g c =
    let x = c.acquire-hold.result.value in
    let y = locked c.start-result.new.self in
    one_hold g.L.Law (view_of c.args.pass.now) (view_of c.acquire-hold.new.pass) (view_of c.release.new.pass) c.args.actor _ x y
    (is_got g.L.Law (view_of c.args.pass.now) c.acquire-hold.result.value.world c.is_whole.ensures c.acquire-hold.ensures.frame c.acquire-hold.ensures.longer c.acquire-hold.ensures.parts c.acquire-hold.ensures.steady)
    c.is_whole-2.ensures (record { ok = c.start-result.ensures.ok; err = c.start-result.ensures.err })
    (start_acts c.args.actor c.acquire-hold.result.value.world c.start-result.new.self c.args.task c.start-result.result (record { ok = c.start-result.ensures.ok; err = c.start-result.ensures.err }))
    c.acquire-hold.ensures.pass c.release.ensures.pass
