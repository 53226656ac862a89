use Rattle.jcr_held.proofs.Holding.{holds_asked}
use Rattle.jcr_held.proofs.held.Held.ask_references.Goals as goal

pub returns-clause-holds : goal.returns-clause-holds
returns-clause-holds c = λ d h.
    holds_asked d c.args.self.now c.whole.result.now c.in_ok-self.field-0 c.requires.settled c.whole.ensures.whole c.in_ok-self.ensures h
