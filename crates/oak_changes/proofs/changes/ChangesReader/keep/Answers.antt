use Rattle.oak_changes.proofs.Feeding.{restored}
use Rattle.oak_changes.proofs.changes.ChangesReader.keep.Goals as goal

pub returns-in-Err-clause-err : goal.returns-in-Err-clause-err
returns-in-Err-clause-err c =
    restored c.args.self.now c.settle.new.self c.put.new.self c.remove.new.self _ c.args.id.now c.args.document c.requires c.in_ok-copy.ensures c.in_ok-put.ensures.ok c.in-Err.ensures.err c.remove.ensures.entries
