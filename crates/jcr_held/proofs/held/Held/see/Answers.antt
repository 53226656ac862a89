use Rattle.jcr_held.proofs.Answering.{of_no_token, sees}
use Rattle.jcr_held.proofs.Holding.{view_known_of}
use Rattle.jcr_held.proofs.held.Held.see.Goals as goal

pub returns-in_default : goal.returns-in_default
returns-in_default c = λ d h.
    let other = c.in_default.not-Token in
    sees c.needs_are_enough.ensures c.steps_count.ensures.over c.steps_count.ensures.view d c.args.self.now c.args.command.now h
    c.requires.ready.settled (view_known_of c.args.self.now c.args.command.now c.requires.viewed c.requires.ready.known)
    c.requires.viewed (of_no_token c.args.command.now c.in_default.not-Token c.in_default.not-DropToken)
    c.run.result c.run.new.self c.run.ensures.text c.run.ensures.ok c.run.ensures.err
