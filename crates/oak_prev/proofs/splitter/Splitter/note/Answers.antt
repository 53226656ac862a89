use Rattle.std.proofs.Common.{sym, ◌∙◌}
use Rattle.oak_prev.proofs.Restoring.{restored}
use Rattle.oak_prev.proofs.splitter.Splitter.note.Goals as goal

pub returns-in-Err-clause-err : goal.returns-in-Err-clause-err
returns-in-Err-clause-err c =
    restored c.args.self.now c.go_on-2.new.self c.put.new.self c.remove.new.self _ c.args.document (sym c.contains.ensures ∙ c.if-contains.false) c.in_ok-id.ensures c.in_ok-put.ensures.ok c.in-Err.ensures.err c.remove.ensures.entries
