use Rattle.oak_prev.proofs.Entries.{listed_is}
use Rattle.oak_prev.proofs.moving.listed_by.Goals as goal

pub returns-in-Some-Some : goal.returns-in-Some-Some
returns-in-Some-Some c =
    rw c.inner-revisions.ensures at (listed_is c.args.number c.inner-revisions.result.now.entries (c.in-Some-Some.low.now, c.in-Some-Some.field-0-1-0.now) (c.in-Some-Some.high.now, c.in-Some-Some.field-0-1-1.now) c.in-Some-Some.ensures.first c.in-Some-Some.ensures'.last)
