use Rattle.oak_prev.specs.Moving.{documents_known}
use Rattle.oak_prev.proofs.Entries.{previous_is}
use Rattle.oak_prev.proofs.reading.Reading.previous_write.Goals as goal

pub returns : goal.returns
returns c =
    previous_is (documents_known c.args.self.now.document c.args.self.now.roots) c.args.pin.now c.args.self.now.document c.in_ok-moved.moved.items c.as_slice.result.now c.in_ok-moved.ensures c.as_slice.ensures.value
    c.as_slice-2.result.now c.in_ok-revisions.revisions c.in_ok-path.path c.new-changes.result c.put_roots.new.changes c.put_entries.new.changes
    c.as_slice-2.ensures.value c.in_ok-revisions.ensures c.new-changes.ensures c.in_ok-put_roots.ensures c.in_ok-put_entries.ensures c.in_ok-path.ensures
