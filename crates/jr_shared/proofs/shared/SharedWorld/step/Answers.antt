use Rattle.std.proofs.Common.{subst, sym}
use Rattle.seat_lock.specs.Passes.{view_of}
use Rattle.oak_world.specs.Worlds.{IsAtRest}
use Rattle.jr_shared.proofs.Acts.{step_acts}
use Rattle.jr_shared.proofs.Got.{there, work_got}
use Rattle.jr_shared.proofs.Holding.{has_author, is_got, locked, on_frame, on_longer, on_others, on_steady, one_hold}
use Rattle.jr_shared.proofs.shared.SharedWorld.step.Goals as goal

pub step-out-requires-clause-there : goal.step-out-requires-clause-there
step-out-requires-clause-there g c =
    there g.L.Law (view_of c.args.pass.now) c.acquire-hold.result.value.world
    (is_got g.L.Law (view_of c.args.pass.now) c.acquire-hold.result.value.world c.is_whole.ensures c.acquire-hold.ensures.frame c.acquire-hold.ensures.longer c.acquire-hold.ensures.parts c.acquire-hold.ensures.steady) c.args.actor c.requires.seat

pub step-out-requires-clause-busy : goal.step-out-requires-clause-busy
step-out-requires-clause-busy g c rests = c.requires.busy (subst IsAtRest (sym (work_got g.L.Law (view_of c.args.pass.now) c.acquire-hold.result.value.world
    (is_got g.L.Law (view_of c.args.pass.now) c.acquire-hold.result.value.world c.is_whole.ensures c.acquire-hold.ensures.frame c.acquire-hold.ensures.longer c.acquire-hold.ensures.parts c.acquire-hold.ensures.steady) c.args.actor c.requires.seat)) rests)

pub release-requires-clause-goes_on : goal.release-requires-clause-goes_on
release-requires-clause-goes_on g c =
    let x = c.acquire-hold.result.value in
    let z = c.acquire-hold.result.taken.value in
    let y = locked c.step-out.new.self in
    let got = c.acquire-hold.ensures.got in
    let acts = step_acts g.L.Law c.args.actor c.acquire-hold.result.value.world c.step-out.new.self c.step-out.result (record { made = c.step-out.ensures.made; told = c.step-out.ensures.seen; lowers = c.step-out.ensures.lowers }) c.args.pass.ghost_name in
    record {
      longer = on_longer c.args.actor x z y got acts;
      frame_is = on_frame c.args.actor x z y got acts;
      others = on_others c.args.actor x z y got acts (view_of c.acquire-hold.new.pass) (has_author (view_of c.args.pass.now) (view_of c.acquire-hold.new.pass) x c.args.actor c.requires.seat c.acquire-hold.ensures.pass);
      steady_is = on_steady c.args.actor x z y got acts;
    }

pub returns-clause-hold : goal.returns-clause-hold
returns-clause-hold g c =
    let x = c.acquire-hold.result.value in
    let y = locked c.step-out.new.self in
    one_hold g.L.Law (view_of c.args.pass.now) (view_of c.acquire-hold.new.pass) (view_of c.release.new.pass) c.args.actor _ x y
    (is_got g.L.Law (view_of c.args.pass.now) c.acquire-hold.result.value.world c.is_whole.ensures c.acquire-hold.ensures.frame c.acquire-hold.ensures.longer c.acquire-hold.ensures.parts c.acquire-hold.ensures.steady)
    c.is_whole-2.ensures (record { made = c.step-out.ensures.made; told = c.step-out.ensures.seen; lowers = c.step-out.ensures.lowers })
    (step_acts g.L.Law c.args.actor c.acquire-hold.result.value.world c.step-out.new.self c.step-out.result (record { made = c.step-out.ensures.made; told = c.step-out.ensures.seen; lowers = c.step-out.ensures.lowers }) c.args.pass.ghost_name)
    c.acquire-hold.ensures.pass c.release.ensures.pass
