use Rattle.std.proofs.Common.{refl}
use Rattle.seat_lock.specs.Passes.{view_of}
use Rattle.jr_shared.proofs.Acts.{unmoved}
use Rattle.jr_shared.proofs.Got.{there}
use Rattle.jr_shared.proofs.Holding.{is_got, on_frame, on_kept, on_longer, on_steady, one_hold}
use Rattle.jr_shared.proofs.shared.SharedWorld.changed.Goals as goal

pub changed-changed-requires : goal.changed-changed-requires
changed-changed-requires g c =
    there g.L.Law (view_of c.args.pass.now) c.acquire-hold.result.value.world
    (is_got g.L.Law (view_of c.args.pass.now) c.acquire-hold.result.value.world c.is_whole.ensures c.acquire-hold.ensures.frame c.acquire-hold.ensures.longer c.acquire-hold.ensures.parts c.acquire-hold.ensures.steady) c.args.actor c.requires.seat

pub release-requires-clause-goes_on : goal.release-requires-clause-goes_on
release-requires-clause-goes_on g c =
    let x = c.acquire-hold.result.value in
    let z = c.acquire-hold.result.taken.value in
    let got = c.acquire-hold.ensures.got in
    let acts = unmoved c.args.actor x.world in
    record {
      longer = on_longer c.args.actor x z x got acts;
      frame_is = on_frame c.args.actor x z x got acts;
      others = λ q not. on_kept x z got q;
      steady_is = on_steady c.args.actor x z x got acts;
    }

pub returns-clause-hold : goal.returns-clause-hold
returns-clause-hold g c =
    let x = c.acquire-hold.result.value in
    let y = c.acquire-hold.result.value in
    one_hold g.L.Law (view_of c.args.pass.now) (view_of c.acquire-hold.new.pass) (view_of c.release.new.pass) c.args.actor _ x y
    (is_got g.L.Law (view_of c.args.pass.now) c.acquire-hold.result.value.world c.is_whole.ensures c.acquire-hold.ensures.frame c.acquire-hold.ensures.longer c.acquire-hold.ensures.parts c.acquire-hold.ensures.steady)
    c.is_whole.ensures (record { same = refl; known = c.changed-changed.ensures.known; told = c.changed-changed.ensures.told })
    (unmoved c.args.actor c.acquire-hold.result.value.world)
    c.acquire-hold.ensures.pass c.release.ensures.pass
