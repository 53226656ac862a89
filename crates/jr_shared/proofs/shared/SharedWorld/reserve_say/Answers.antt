use Rattle.seat_lock.specs.Passes.{view_of}
use Rattle.jr_shared.proofs.Acts.{reserve_acts}
use Rattle.jr_shared.proofs.Got.{there}
use Rattle.jr_shared.proofs.Holding.{has_author, is_got, locked, on_frame, on_longer, on_others, on_steady, one_hold}
use Rattle.jr_shared.proofs.shared.SharedWorld.reserve_say.Goals as goal

pub reserve_say-result-requires : goal.reserve_say-result-requires
reserve_say-result-requires g c =
    there g.L.Law (view_of c.args.pass.now) c.acquire-hold.result.value.world
    (is_got g.L.Law (view_of c.args.pass.now) c.acquire-hold.result.value.world c.is_whole.ensures c.acquire-hold.ensures.frame c.acquire-hold.ensures.longer c.acquire-hold.ensures.parts c.acquire-hold.ensures.steady) c.args.actor c.requires.seat

pub release-requires-clause-goes_on : goal.release-requires-clause-goes_on
release-requires-clause-goes_on g c =
    let x = c.acquire-hold.result.value in
    let z = c.acquire-hold.result.taken.value in
    let y = locked c.reserve_say-result.new.self in
    let got = c.acquire-hold.ensures.got in
    let acts = reserve_acts c.args.actor c.args.bytes c.acquire-hold.result.value.world c.reserve_say-result.new.self c.reserve_say-result.result (record { ok = c.reserve_say-result.ensures.ok; err = c.reserve_say-result.ensures.err }) in
    record {
      longer = on_longer c.args.actor x z y got acts;
      frame_is = on_frame c.args.actor x z y got acts;
      others = on_others c.args.actor x z y got acts (view_of c.acquire-hold.new.pass) (has_author (view_of c.args.pass.now) (view_of c.acquire-hold.new.pass) x c.args.actor c.requires.seat c.acquire-hold.ensures.pass);
      steady_is = on_steady c.args.actor x z y got acts;
    }

pub returns-clause-hold : goal.returns-clause-hold
returns-clause-hold g c =
    let x = c.acquire-hold.result.value in
    let y = locked c.reserve_say-result.new.self in
    one_hold g.L.Law (view_of c.args.pass.now) (view_of c.acquire-hold.new.pass) (view_of c.release.new.pass) c.args.actor _ x y
    (is_got g.L.Law (view_of c.args.pass.now) c.acquire-hold.result.value.world c.is_whole.ensures c.acquire-hold.ensures.frame c.acquire-hold.ensures.longer c.acquire-hold.ensures.parts c.acquire-hold.ensures.steady)
    c.is_whole-2.ensures (record { ok = c.reserve_say-result.ensures.ok; err = c.reserve_say-result.ensures.err })
    (reserve_acts c.args.actor c.args.bytes c.acquire-hold.result.value.world c.reserve_say-result.new.self c.reserve_say-result.result (record { ok = c.reserve_say-result.ensures.ok; err = c.reserve_say-result.ensures.err }))
    c.acquire-hold.ensures.pass c.release.ensures.pass
