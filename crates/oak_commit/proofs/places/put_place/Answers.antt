use Rattle.std.proofs.Common.{sym}
use Rattle.oak_commit.proofs.Indexed.{put_at_places}
use Rattle.oak_commit.proofs.places.put_place.Goals as goal

pub returns-in-Some : goal.returns-in-Some
returns-in-Some c =
    rw c.inner_mut.ensures.shows at
    (put_at_places c.inner_mut.result.now.entries c.args.path.now c.args.at c.in-Some.known.now c.push.new.self
    (c.get_mut.follows.lender c.push.new.self).entries
    c.get_mut.ensures.ordered (sym c.in-Some.ensures.value) c.in_ok-push.ensures.ok
    (c.get_mut.follows.holds c.push.new.self).0)
