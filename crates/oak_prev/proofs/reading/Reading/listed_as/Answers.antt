use Rattle.std.proofs.Common.{refl}
use Rattle.oak_prev.specs.Moving.{documents_known}
use Rattle.oak_prev.proofs.Entries.{nothing_listed, something_listed}
use Rattle.oak_prev.proofs.reading.Reading.listed_as.Goals as goal

pub returns-in-Some : goal.returns-in-Some
returns-in-Some c =
    something_listed (documents_known c.args.self.now.document c.args.self.now.roots) c.args.pin.now c.args.self.now.document c.in_ok-moved.moved.items c.as_slice-entries.result.now c.in_ok-moved.ensures c.as_slice-entries.ensures.value
    c.in_ok-revisions.revisions c.listed_by.result c.in-Some.entry _ c.in_ok-revisions.ensures c.listed_by.ensures c.in-Some.is refl

pub returns : goal.returns
returns c =
    nothing_listed (documents_known c.args.self.now.document c.args.self.now.roots) c.args.pin.now c.args.self.now.document c.in_ok-moved.moved.items c.as_slice-entries.result.now c.in_ok-moved.ensures c.as_slice-entries.ensures.value
    c.in_ok-revisions.revisions c.listed_by.result c.in_ok-revisions.ensures c.listed_by.ensures c.in-None.is
