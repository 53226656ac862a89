use Rattle.oak_gc.proofs.Going.{gone_on}
use Rattle.oak_gc.proofs.collector.Collector.go_on.Goals as goal

pub returns-in-None : goal.returns-in-None
returns-in-None c =
    let n = c.next_listed.ensures.none c.in-None.is in
    gone_on c.args.self.now c.next_listed.new.self c.decided-self.result n.0 n.1 c.decided-self.ensures
