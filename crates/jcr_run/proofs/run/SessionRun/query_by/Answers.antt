use Rattle.std.proofs.Common.{subst}
use Rattle.jcr_trans.specs.declared.command.Command.{Command}
use Rattle.jcr_held.specs.Holds.{IsReady}
use Rattle.jcr_run.proofs.Calling.{queried_as}
use Rattle.jcr_run.proofs.Nexts.{only_query}
use Rattle.jcr_run.proofs.run.SessionRun.query_by.Goals as goal

pub query-requires : goal.query-requires
query-requires c = subst (λ (m : Command). IsReady c.args.self.now.held m) c.in-Query.is c.requires.ready

pub returns : goal.returns
returns c = queried_as c.args.self.now.held c.args.command.now c.in-Query.text c.in-Query.vars c.query.result c.in-Query.is c.query.ensures

pub unreachable-requires : goal.unreachable-requires
unreachable-requires c = let q = only_query c.args.command.now c.requires.next in c.in_default.not-Query q.0 q.1 q.2
