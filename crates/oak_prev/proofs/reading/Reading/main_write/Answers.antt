use Rattle.oak_prev.specs.Moving.{documents_known}
use Rattle.oak_prev.proofs.Entries.{main_is}
use Rattle.oak_prev.proofs.reading.Reading.main_write.Goals as goal

pub returns : goal.returns
returns c =
    main_is (documents_known c.args.self.now.document c.args.self.now.roots) c.args.pin.now c.args.self.now.document c.in_ok-moved.moved.items c.as_slice.result.now c.in_ok-moved.ensures c.as_slice.ensures.value
    c.args.entry c.in_ok-entry_keys.field-0 c.in_ok-copy.field-0 c.new-changes.result c.push.new.self c.push-2.new.self
    c.in_ok-entry_keys.ensures c.new-changes.ensures c.in_ok-push.ensures.ok c.in_ok-push-2.ensures.ok c.in_ok-copy.ensures
