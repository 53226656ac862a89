use Rattle.std.proofs.Common.{sym, ◌∙◌}
use Rattle.jr_overlay.specs.Overlays.{known_view}
use Rattle.jcr_view.proofs.Shown.{shown_refused}
use Rattle.jcr_view.proofs.pending.Pending.run.Goals as goal

pub returns-else-is_writing-clause-refused : goal.returns-else-is_writing-clause-refused
returns-else-is_writing-clause-refused c = shown_refused c.args.types.now c.args.who.now
    (known_view c.args.part.now c.args.self.now) c.args.part.now.nodes c.args.command.now
    c.read.result (sym c.is_writing.ensures ∙ c.if-is_writing.false) c.read.ensures
