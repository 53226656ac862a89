use Rattle.std.proofs.Common.{sym, ◌∙◌}
use Rattle.jcr_view.proofs.Moved.{read_refused, read_text}
use Rattle.jcr_view.proofs.whole.evaluate.Goals as goal

pub returns-else-is_writing-clause-text : goal.returns-else-is_writing-clause-text
returns-else-is_writing-clause-text c = read_text c.args.types.now c.args.who.now c.args.base.now
    c.args.view.now c.args.command.now c.read.result (sym c.is_writing.ensures ∙ c.if-is_writing.false)
    c.read.ensures

pub returns-else-is_writing-clause-refused : goal.returns-else-is_writing-clause-refused
returns-else-is_writing-clause-refused c = read_refused c.args.types.now c.args.who.now c.args.base.now
    c.args.view.now c.args.command.now c.read.result (sym c.is_writing.ensures ∙ c.if-is_writing.false)
    c.read.ensures
