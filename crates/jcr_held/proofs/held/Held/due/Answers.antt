use Rattle.jcr_held.proofs.Dues.{due_as_law, is_due, pending_due}
use Rattle.jcr_held.proofs.held.Held.due.Goals as goal

pub returns-in-Save-clause-due : goal.returns-in-Save-clause-due
returns-in-Save-clause-due c = λ d h on.
    pending_due d c.args.self.now c.args.command.now c.pending_due.result c.requires.settled h c.in-Save.is c.pending_due.ensures

pub returns-in_default : goal.returns-in_default
returns-in_default c = record {
  some = is_due c.args.footing.now c.args.command.now c.requires.commits c.in_default.not-Save c.edit_due.result c.edit_due.ensures;
  due = λ d h on. due_as_law d c.args.command.now c.in_default.not-Save c.edit_due.result (c.edit_due.ensures d on);
}
