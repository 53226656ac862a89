use Rattle.std.proofs.Common.{ap, sym, ◌∙◌}
use Rattle.oak_recover.specs.Recovering.{fed_status}
use Rattle.oak_recover.proofs.Feeding.{found_status}
use Rattle.oak_recover.proofs.recovery.Recovery.feed_found.Goals as goal

pub returns-in-Status-clause-ok : goal.returns-in-Status-clause-ok
returns-in-Status-clause-ok c =
    c.feed_status.ensures
    ∙ (ap (fed_status c.args.self.now) c.as_ref-in-Status.ensures.value
    ∙ sym (found_status c.args.self.now c.args.found c.in-Status.is))
