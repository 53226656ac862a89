use Rattle.std.proofs.Common.{ap, sym}
use Rattle.jcr_run.specs.Standing.{is_errand}
use Rattle.jcr_run.proofs.Readying.{ready_lacks}
use Rattle.jcr_run.proofs.Nexts.{reads_between}
use Rattle.jcr_session.proofs.Nearer.{reply_steps}
use Rattle.jcr_session.proofs.turns.go_on.Goals as goal

pub refresh-requires-clause-next : goal.refresh-requires-clause-next
refresh-requires-clause-next g c = sym c.in-Refresh.ensures

pub refresh-requires-clause-between : goal.refresh-requires-clause-between
refresh-requires-clause-between g c = reads_between c.args.run.now c.requires.reads

pub attach-requires-clause-next : goal.attach-requires-clause-next
attach-requires-clause-next g c = sym c.in-Attach.ensures

pub attach-requires-clause-between : goal.attach-requires-clause-between
attach-requires-clause-between g c = reads_between c.args.run.now c.requires.reads

pub detach-requires-clause-next : goal.detach-requires-clause-next
detach-requires-clause-next g c = sym c.in-Detach.ensures

pub detach-requires-clause-between : goal.detach-requires-clause-between
detach-requires-clause-between g c = reads_between c.args.run.now c.requires.reads

pub query-requires-clause-next : goal.query-requires-clause-next
query-requires-clause-next g c = sym c.in-Query.ensures

pub query-requires-clause-between : goal.query-requires-clause-between
query-requires-clause-between g c = reads_between c.args.run.now c.requires.reads

pub commit-requires-clause-next : goal.commit-requires-clause-next
commit-requires-clause-next g c = sym c.in-Commit.ensures

pub commit-requires-clause-between : goal.commit-requires-clause-between
commit-requires-clause-between g c = reads_between c.args.run.now c.requires.reads

pub see-requires-clause-next : goal.see-requires-clause-next
see-requires-clause-next g c = sym c.in-See.ensures

pub see-requires-clause-between : goal.see-requires-clause-between
see-requires-clause-between g c = reads_between c.args.run.now c.requires.reads

pub returns-in-Query-clause-steps : goal.returns-in-Query-clause-steps
returns-in-Query-clause-steps g c = reply_steps _ _ _ c.query.result c.query.ensures.said

pub returns-in-See-clause-steps : goal.returns-in-See-clause-steps
returns-in-See-clause-steps g c = reply_steps _ _ _ c.see.result c.see.ensures.said

pub set_out-requires-clause-next : goal.set_out-requires-clause-next
set_out-requires-clause-next g c = ap is_errand (sym c.in-Events.ensures)

pub set_out-requires-clause-between : goal.set_out-requires-clause-between
set_out-requires-clause-between g c = reads_between c.args.run.now c.requires.reads

pub set_out-requires-clause-read : goal.set_out-requires-clause-read
set_out-requires-clause-read g c = ready_lacks c.args.run.now (sym c.in-Events.ensures) c.requires.ready.ready
