use Rattle.std.proofs.Common.{rules}
use Rattle.jcr_held.proofs.Answering.{holds_observed}
use Rattle.jcr_held.proofs.held.Held.observe.Goals as goal

pub returns : goal.returns
returns c = λ d h. holds_observed d c.args.self.now _ c.args.command.now c.args.filter c.requires (search rules) h
